-- `place_text::number_records` meets its contract: on the way the arrays picture the records met so far, and the others are those from the place reached on; each record ends behind the place where it stands, so the way ends.
use Rattle.place_text.specs.Walk.{Walked, way_left}
use Rattle.place_text.proofs.number_records.Given as goal

abbrev pub invariant-loop-t : goal.invariant-loop-t
invariant-loop-t l = Walked l.s l.limit l.labels l.y l.t

abbrev pub decreases-loop-t : goal.decreases-loop-t
decreases-loop-t l = way_left l.s l.t
