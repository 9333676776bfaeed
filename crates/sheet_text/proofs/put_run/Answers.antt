-- `sheet_text::put_run` meets its contract: the head, nine indices that are due and the line are put one behind the other.
use mathlib.Core.Path.{◌≡◌, ap, ap₂}
use mathlib.Core.List.{List, ◌++◌}
use Prim.Native.Nat.{ℕ}
use Rattle.plain.specs.Plain.{kept}
use Rattle.plain.specs.KeptLaws.{kept_is}
use Rattle.run.specs.Run.{lent}
use Rattle.due.specs.Due.{Due}
use Rattle.due.specs.Ground.{shown}
use Rattle.due.specs.declared.Answer.{Answer}
use Rattle.due.specs.declared.Index.{Index}
use Rattle.due.specs.declared.Index.TheVariants as index
use Rattle.due.specs.declared.Shown.{Shown}
use Rattle.sheet_text.specs.Sheet.{index_line}
use Rattle.sheet_text.specs.Grown.{shown_line, ruled_line}
use Rattle.sheet_text.specs.SheetLaws.{answers, each, lines_put}
use Rattle.sheet_text.proofs.put_run.Goals as goal

-- a line of what is shown is the line of the answer
line : (i : Index) {s : Shown} (a : Answer) (t : List ℕ) {p : List ℕ} → s ≡ shown a → p ≡ kept (t ++ shown_line i s) → p ≡ kept (t ++ index_line i a)
line i a t e = kept_is t (ap (shown_line i) e)

pub returns : goal.returns
returns c =
    let d = c.nine_over-q.ensures in
    let r = lent c.args.z c.args.x.now c.args.y.now in
    let last = d.lhr.told in
    let A = answers d.terminal.answer d.shifted.answer d.independent.answer d.zero.answer d.front.answer d.hysteresis.answer d.repeatability.answer d.lh.answer last.answer in
    let terminal = line index.Terminal d.terminal.answer _ d.terminal.is c.put_index.ensures in
    let shifted = line index.Shifted d.shifted.answer _ d.shifted.is c.put_index-2.ensures in
    let independent = line index.Independent d.independent.answer _ d.independent.is c.put_index-3.ensures in
    let zero = line index.Zero d.zero.answer _ d.zero.is c.put_index-4.ensures in
    let front = line index.Front d.front.answer _ d.front.is c.put_index-5.ensures in
    let hysteresis = line index.Hysteresis d.hysteresis.answer _ d.hysteresis.is c.put_index-6.ensures in
    let repeatability = line index.Repeatability d.repeatability.answer _ d.repeatability.is c.put_index-7.ensures in
    let lh = line index.Lh d.lh.answer _ d.lh.is c.put_index-8.ensures in
    let lhr = line index.Lhr last.answer _ last.is c.put_index-9.ensures in
    let end = kept_is _ (ap₂ ruled_line (ap (λ (s : Shown). s.number) last.is) d.lhr.line) c.put_last.ensures in
    record {
      answers = A;
      due = each d.terminal.answer d.shifted.answer d.independent.answer d.zero.answer d.front.answer d.hysteresis.answer d.repeatability.answer d.lh.answer last.answer (λ w x. Due w r x) d.terminal.due d.shifted.due d.independent.due d.zero.due d.front.due d.hysteresis.due d.repeatability.due d.lh.due last.due;
      is = lines_put r.m r.n A _ c.put_head.ensures terminal shifted independent zero front hysteresis repeatability lh lhr end;
    }
