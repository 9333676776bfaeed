-- `sheet_text::sheet` meets its contract: a file that is refused at its opening has one line, and every other sheet is printed from the page that it has room on.
use mathlib.Core.Path.{ap, ◌∙◌}
use mathlib.Core.List.{List}
use Prim.Native.Nat.{ℕ}
use Rattle.plain.specs.Plain.{printed, buffer_after}
use Rattle.sheet_text.specs.SheetLaws.{sheet_unopened, print_due}
use Rattle.sheet_text.proofs.sheet.Goals as goal

pub returns-then-t-ne0 : goal.returns-then-t-ne0
returns-then-t-ne0 c =
    print_due (sheet_unopened c.opening-t.ensures.means c.if-t-ne0.true) c.print_unopened.ensures.answer c.print_unopened.ensures.after

pub returns : goal.returns
returns c =
    let o = c.args.out.now in
    print_due c.put_file.ensures (c.print.ensures.answer ∙ ap (λ (l : List ℕ). printed l o) c.bytes.ensures) (c.print.ensures.after ∙ ap (λ (l : List ℕ). buffer_after l o) c.bytes.ensures)
