-- `sentences::refusal` meets its contract: the lines have room on a page, and go to the front of the buffer.
use mathlib.Core.Path.{ap, ◌∙◌}
use mathlib.Core.List.{List}
use Prim.Native.Nat.{ℕ}
use Rattle.plain.specs.KeptLaws.{kept_whole}
use Rattle.plain.specs.Plain.{printed, buffer_after}
use Rattle.sentences.specs.SentenceLaws.{refusal_fits}
use Rattle.sentences.proofs.refusal.Goals as goal

pub returns : goal.returns
returns c =
    let a = c.args in
    let all = c.bytes.ensures ∙ kept_whole c.new-page.ensures c.put_refusal.ensures (refusal_fits a.number a.line a.d) in
    record { answer = c.print.ensures.answer ∙ ap (λ (l : List ℕ). printed l a.out.now) all; after = c.print.ensures.after ∙ ap (λ (l : List ℕ). buffer_after l a.out.now) all }
