-- `place_text::first_told` meets its contract: only a point and a reading have a place, and its label is what the array has.
use Rattle.std.proofs.Common.{sym, inl, inr}
use Rattle.place_text.specs.Walk.{told_entry}
use Rattle.place_text.proofs.first_told.Goals as goal

pub returns-in-Point : goal.returns-in-Point
returns-in-Point c =
    elim c.in-Point.is [
      | inl e ↦ told_entry (sym (rw e.2 at c.in-Ok.ensures)) (rw e.2 at c.label_of.ensures)
      | inr e ↦ told_entry (sym (rw e.4 at c.in-Ok.ensures)) (rw e.4 at c.label_of.ensures)
    ]
