-- `place_text::number_records` meets its contract: on the way the arrays picture the records met so far, and the others are those from the place reached on; each record ends behind the place where it stands, so the way ends.
use Rattle.std.proofs.Common.{arith}
use Rattle.place_text.specs.Walk.{walk_ends}
use Rattle.place_text.proofs.number_records.Goals as goal

pub returns-else-t-limit : goal.returns-else-t-limit
returns-else-t-limit c = walk_ends c.loop-t.invariant (λ m a. omega (arith, c.if-t-limit.false))

pub returns-after-loop-t : goal.returns-after-loop-t
returns-after-loop-t c = walk_ends c.loop-t.invariant (λ m a. omega (arith, c.loop-t-test.false))
