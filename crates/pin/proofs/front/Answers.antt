-- `pin::front` meets its contract: the test tells whether the line may be drawn.
use mathlib.Core.Path.{sym, ◌∙◌}
use Rattle.band.specs.Line.{Points}
use Rattle.band.specs.Band.{lent}
use Rattle.band.specs.AdmitLaws.{drawn_yes, drawn_no}
use Rattle.pin.proofs.front.Goals.{Start}
use Rattle.pin.proofs.front.Goals as goal

abbrev P : Start → Points
P s = let a = s.args in lent a.m a.d a.x.now a.low.now a.high.now

pub returns-then-not-is_drawn : goal.returns-then-not-is_drawn
returns-then-not-is_drawn c = drawn_no (P (goal.at.returns-then-not-is_drawn c).Start) (sym c.is_drawn.ensures ∙ c.if-not-is_drawn.true)

pub front_of-requires : goal.front_of-requires
front_of-requires c = drawn_yes (P (goal.at.front_of-requires c).Start) (sym c.is_drawn.ensures ∙ c.if-not-is_drawn.false)
