-- `place_text::place` meets its contract: the lines have room on a page, and go to the front of the buffer.
use mathlib.Core.Path.{ap, ◌∙◌}
use mathlib.Core.List.{List}
use Prim.Native.Nat.{ℕ}
use Rattle.plain.specs.KeptLaws.{kept_whole}
use Rattle.plain.specs.Plain.{printed, buffer_after}
use Rattle.place_text.specs.Words.{place_fits}
use Rattle.place_text.proofs.place.Goals as goal

pub returns : goal.returns
returns c =
    let a = c.args in
    let all = c.bytes.ensures ∙ kept_whole c.new-page.ensures c.put_place.ensures (place_fits a.file.now) in
    record { answer = c.print.ensures.answer ∙ ap (λ (l : List ℕ). printed l a.out.now) all; after = c.print.ensures.after ∙ ap (λ (l : List ℕ). buffer_after l a.out.now) all }
