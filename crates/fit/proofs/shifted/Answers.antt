-- `fit::shifted` meets its contract: of points that are admitted, with one value at each input, `shifted_of` has the line, and of others none is due.
use mathlib.Core.Path.{sym, ◌∙◌}
use Rattle.band.specs.Line.{Points, OneValue}
use Rattle.band.specs.Band.{lent, Admitted}
use Rattle.band.specs.AdmitLaws.{drawn_yes, drawn_no}
use Rattle.fit.proofs.shifted.Goals.{Else-not-is_drawn, Start}
use Rattle.fit.proofs.shifted.Goals as goal

abbrev points : Start → Points
points s = let a = s.args in lent a.m a.d a.x.now a.low.now a.high.now

drawn : (c : Else-not-is_drawn) → let P = points c.before.before in Admitted P × OneValue P
drawn c = drawn_yes (points c.before.before) (sym c.is_drawn.ensures ∙ c.if-not-is_drawn.false)

pub returns-then-not-is_drawn : goal.returns-then-not-is_drawn
returns-then-not-is_drawn c = drawn_no (points (goal.at.returns-then-not-is_drawn c).Start) (sym c.is_drawn.ensures ∙ c.if-not-is_drawn.true)

pub shifted_of-requires : goal.shifted_of-requires
shifted_of-requires c = drawn (goal.at.shifted_of-requires c).Else-not-is_drawn

pub returns : goal.returns
returns c = let d = drawn (goal.at.returns c).Else-not-is_drawn in (d.0, d.1, c.shifted_of.ensures.due c.from.result c.from.ensures)
