-- `text_detail::mark_lines` meets its contract: the records of the lines so far are in the arrays, and with those still to come they are the records of all lines.
use Prim.Native.Nat.{◌+◌}
use native.Mathlib.Omega.{arith}
use Rattle.typed_text.specs.HeardLaws.{heard_next, heard_end}
use Rattle.text_detail.specs.LineLaws.{marked_next, marked_all}
use Rattle.text_detail.proofs.mark_lines.Goals as goal

pub loop-at-preserved : goal.loop-at-preserved
loop-at-preserved c =
    let i = c.loop-at.invariant in
    (omega (arith, i.0, c.line_end-end.ensures.within), _, c.mark_said.ensures.is i.1 i.2, marked_next i.1 (c.loop-at.k + 1) (heard_next _ _ c.line_end-end.result c.line_end-end.ensures.is c.hear.ensures) i.3)

pub returns : goal.returns
returns c =
    let i = c.loop-at.invariant in
    marked_all (c.loop-at.k + 1) (heard_end _ _ c.loop-at-test.false) i.3 i.2
