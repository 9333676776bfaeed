-- The lines that tell a refused file, put together of what the functions put.
use Rattle.std.specs.Prelude.{◌≡◌, Bool, cond, List, [], ◌∷◌, ◌++◌, ℕ, ◌<◌, ◌≤◌, ℤ, length, get_or}
use Rattle.std.proofs.Common.{sym, ap, ap₂, subst, ◌∙◌, ne_eqb}
use Rattle.plain.specs.Plain.{refused_line, line_feed}
use Rattle.run.specs.Places.{input_at}
use Rattle.records.specs.Record.{Labelled}
use Rattle.reader.specs.Into.{ReadInto}
use Rattle.reader.specs.Meaning.{meaning}
use Rattle.reader.specs.declared.Taken.{Taken}
use Rattle.sentences.specs.Sentences.{record_name, detail_line}
use Rattle.detail.specs.Marks.{Marked}
use Rattle.detail.specs.Arrays.{input_label}
use Rattle.detail.specs.declared.Detail.{Detail}
use Rattle.place_text.specs.Place.{place_words, told_of, detail_of, accepted_line, place_lines, place_of}
use Rattle.place_text.specs.Words.{head, led, what_words, told_at, told_of_point}
use Rattle.place_text.specs.Walk.{Numbered}
use Rattle.place_text.specs.Along.{all_before}
use Rattle.place_text.specs.Told.{Means, OfRecord, OfPoint, point_within}

-- ---- all of it
pub lines_refused : (s : List ℕ) (k p : ℕ) → (k ≡ 0 → ⊥) → Means s k p
    → refused_line k p ++ (told_of s k p ++ detail_line record_name (detail_of s k p)) ≡ place_of s
lines_refused s k p n m =
    ap (λ (b : Bool). cond b accepted_line (refused_line k p ++ (told_of s k p ++ detail_line record_name (detail_of s k p)))) (sym (ne_eqb k 0 n))
    ∙ ap₂ (place_lines s) m.number_is m.place_is

pub lines_accepted : (s : List ℕ) (k p : ℕ) → k ≡ 0 → Means s k p → accepted_line ≡ place_of s
lines_accepted s k p z m = ap (λ (j : ℕ). place_lines s j (meaning s).place) (sym z ∙ m.number_is)

-- ---- from what was read
pub means_read : {s : List ℕ} {x y : List ℤ} {t : Taken} → ReadInto s x y t → Means s t.number t.place
means_read r = record { number_is = r.number; place_is = r.place }

-- ---- from the picture of the records
module _ {s : List ℕ} {k p : ℕ} (m : Means s k p) {labels : List ℕ} {y : List ℤ} {j : ℕ} where
  -- of those before the place
  pub of_record : k < 9 → Numbered s p labels y j → OfRecord s k p labels
  of_record h n = record { means = m; low = h; y = y; marked = n.marked }

  pub record_parts : k < 9 → Numbered s p labels y j → {d : Detail} → d ≡ detail_of s k p
      → head j ++ ((led (what_words s k p) ++ (line_feed ∷ [])) ++ detail_line record_name d) ≡ told_of s k p ++ detail_line record_name (detail_of s k p)
  record_parts h n e =
      ap₂ (λ (i : ℕ) (d : Detail). head i ++ ((led (what_words s k p) ++ (line_feed ∷ [])) ++ detail_line record_name d)) n.counted e
      ∙ told_at s k p (detail_line record_name (detail_of s k p)) h

  -- of all
  pub of_point : 9 ≤ k → Numbered s (length s) labels y j → OfPoint s k p labels y
  of_point h n = record { means = m; high = h; marked = subst (λ (l : List Labelled). Marked l labels y) (all_before s) n.marked }

  pub point_parts : 9 ≤ k → Numbered s (length s) labels y j → {d : Detail} → d ≡ detail_of s k p
      → head (get_or labels p 0) ++ ((led (place_words (input_at p)) ++ (line_feed ∷ [])) ++ detail_line record_name d) ≡ told_of s k p ++ detail_line record_name (detail_of s k p)
  point_parts h n e =
      ap₂ (λ (i : ℕ) (d : Detail). head i ++ ((led (place_words (input_at p)) ++ (line_feed ∷ [])) ++ detail_line record_name d)) (input_label (of_point h n).marked p (point_within m h)) e
      ∙ told_of_point s k p (detail_line record_name (detail_of s k p)) h
