-- `indices::index_over` meets its contract: the checks of the run come first; then the answer is told of what the index stands on.
use mathlib.Core.Path.{◌≡◌, sym, ap, ◌∙◌, subst}
use Rattle.run.specs.Run.{lent}
use Rattle.run.specs.Checks.{Verdict, verdict}
use Rattle.run.specs.Checked.{checked, refused_verdict, refused_number}
use Rattle.run.specs.declared.Run.{Run}
use Prim.Native.Nat.{ℕ}
use Rattle.due.specs.Due.{refused}
use Rattle.due.specs.Cases.{no_run, case_due}
use Rattle.due.specs.Ground.{AnswerBy}
use Rattle.due.specs.GroundLaws.{ground_answer, ground_told, refused_told}
use Rattle.grounds.specs.Basis.{spanned, span_is}
use Rattle.indices.proofs.index_over.Goals.{In_default, Start}
use Rattle.indices.proofs.index_over.Goals as goal

abbrev run : Start → Run
run s = lent s.args.z s.args.x.now s.args.y.now

-- no check refuses the run
fine : (c : In_default) → (verdict (lent c.args.z c.args.x.now c.args.y.now)).number ≡ 0
fine c = ap (λ (v : Verdict). v.number) (sym c.in_default.ensures)

pub returns-in-Err : goal.returns-in-Err
returns-in-Err c =
    let v = refused_verdict c.in-Err.e c.in-Err.ensures c.number.ensures in
    record { due = case_due (no_run (refused_number c.in-Err.e c.in-Err.ensures) (c.refuse.ensures ∙ ap (λ (v : Verdict). refused v.number v.place) v)); told = refused_told _ _ c.refuse.result c.refuse.ensures }

pub span_of-requires : goal.span_of-requires
span_of-requires c =
    let e = c in
    let s = c in
    let a = s.args in
    spanned a.z a.x.now a.y.now (checked (run (goal.at.span_of-requires c).Start) (fine (goal.at.span_of-requires c).In_default))

pub returns : goal.returns
returns c =
    let p = c in
    let g = c in
    let s = c in
    let a = s.args in
    let e = p.span_of.ensures.value ∙ span_is a.z a.x.now a.y.now in record { due = ground_answer a.which (run (goal.at.returns c).Start) g.ground_of-g.result g.ground_of-g.ensures (subst (λ (n : ℕ). AnswerBy g.ground_of-g.result n c.answer_of.result) e c.answer_of.ensures); told = ground_told g.ground_of-g.result _ c.answer_of.result c.answer_of.ensures }
