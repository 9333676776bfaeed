-- `sheet_text::print_unopened` meets its contract: the array holds the refusal line, whose number and place have one digit each.
use mathlib.Core.Path.{ap, ◌∙◌}
use mathlib.Core.List.{List}
use Prim.Native.Nat.{ℕ}
use Rattle.plain.specs.Plain.{printed, buffer_after}
use Rattle.sheet_text.specs.SheetLaws.{unopened_line}
use Rattle.sheet_text.proofs.print_unopened.Goals as goal

pub returns : goal.returns
returns c =
    let p = c in
    let s = c in
    let line = unopened_line s.args.number s.requires in
    record { answer = p.print.ensures.answer ∙ ap (λ (l : List ℕ). printed l s.args.out.now) line; after = p.print.ensures.after ∙ ap (λ (l : List ℕ). buffer_after l s.args.out.now) line }
