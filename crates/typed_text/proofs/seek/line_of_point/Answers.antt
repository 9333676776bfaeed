-- `seek::line_of_point` meets its contract: the search of the lines still to come is that of the whole text.
use mathlib.Core.Path.{sym, ◌∙◌}
use native.Mathlib.Omega.{arith}
use Rattle.typed_text.specs.HeardLaws.{Next, heard_next, heard_end}
use Rattle.typed_text.specs.SeekLaws.{point_none, point_found, point_passed}
use Rattle.typed_text.proofs.seek.line_of_point.Goals.{After-hear}
use Rattle.typed_text.proofs.seek.line_of_point.Goals as goal

-- the next line, and those behind it
next : (c : After-hear) → Next c.args.text.now c.loop-at.at c.line_end-end.result c.hear.result
next c = heard_next _ _ c.line_end-end.result c.line_end-end.ensures.is c.hear.ensures

pub returns-then-is_point : goal.returns-then-is_point
returns-then-is_point c =
    sym (point_found _ _ (next (goal.at.returns-then-is_point c).After-hear) (sym c.is_point.ensures ∙ c.if-is_point.true)) ∙ c.loop-at.invariant.1

pub loop-at-preserved : goal.loop-at-preserved
loop-at-preserved c =
    (omega arith, sym (point_passed _ _ (next (goal.at.loop-at-preserved c).After-hear) (sym c.is_point.ensures ∙ c.if-is_point.false)) ∙ c.loop-at.invariant.1)

pub returns : goal.returns
returns c = sym (point_none _ _ (heard_end _ _ c.loop-at-test.false)) ∙ c.loop-at.invariant.1
