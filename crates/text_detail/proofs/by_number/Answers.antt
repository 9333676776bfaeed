-- `text_detail::by_number` meets its contract: each number tells what its function asks, and its line is the one that is looked at.
use mathlib.Core.Path.{◌≡◌, sym, ◌∙◌, ap, subst}
use Prim.Native.Nat.{ℕ}
use native.Mathlib.Omega.{arith}
use Rattle.table.specs.Table.{given_at}
use Rattle.text.specs.Text.{heard, text}
use Rattle.text_detail.specs.TextDetail.{told_before, lies_apart}
use Rattle.text_detail.specs.Lines.{ScatteredBy}
use Rattle.text_detail.specs.Told.{not_long}
use Rattle.text_detail.specs.NumberLaws.{seven_fair, ten_apart}
use Rattle.text_detail.specs.TellLaws.{nth_heard, detail_by}
use Rattle.text_detail.proofs.by_number.Goals as goal

pub told_before-requires : goal.told_before-requires
told_before-requires c =
    not_long c.args.text.now c.args.number c.args.line (λ q. omega arith) c.requires

pub lacks-requires : goal.lacks-requires
lacks-requires c =
    let e : c.args.number ≡ 47 = omega arith in
    (not_long c.args.text.now c.args.number c.args.line (λ q. omega arith) c.requires, seven_fair c.args.text.now c.args.line (c.requires ∙ ap (λ (k : ℕ). given_at k c.args.line) e))

pub lies_apart-requires : goal.lies_apart-requires
lies_apart-requires c =
    let e : c.args.number ≡ 50 = omega arith in
    let h = nth_heard c.args.text.now c.args.line c.saturating_sub-in-50.ensures c.line-in-50.ensures c.hear-in-50.ensures in
    (not_long c.args.text.now c.args.number c.args.line (λ q. omega arith) c.requires, subst (ScatteredBy (heard c.args.text.now)) (sym h) (ten_apart c.args.text.now c.args.line (c.requires ∙ ap (λ (k : ℕ). given_at k c.args.line) e)))

pub returns-in-46 : goal.returns-in-46
returns-in-46 c =
    let e : c.args.number ≡ 46 = omega arith in
    detail_by _ _ e (c.told_before.ensures ∙ ap (told_before (heard c.args.text.now)) (nth_heard c.args.text.now c.args.line c.saturating_sub-in-46.ensures c.line-in-46.ensures c.hear.ensures))

pub returns-in-50 : goal.returns-in-50
returns-in-50 c =
    let e : c.args.number ≡ 50 = omega arith in
    detail_by _ _ e (c.lies_apart.ensures ∙ ap (lies_apart (text (heard c.args.text.now))) (nth_heard c.args.text.now c.args.line c.saturating_sub-in-50.ensures c.line-in-50.ensures c.hear-in-50.ensures))
