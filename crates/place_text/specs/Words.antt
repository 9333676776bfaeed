-- The line of a record in the parts in which it is printed: its head, each word with a space before it, and the line feed. And that all that is told of a place has room in an array of 831 bytes.
use Rattle.std.specs.Prelude.{◌≡◌, refl, Bool, true, false, cond, List, [], ◌∷◌, ◌++◌, ℕ, suc, ◌<◌, ◌≤◌, ltb, leb, eqb, length, get_or}
use Rattle.std.proofs.Common.{sym, ap, ◌∙◌, subst, append_assoc, append-nil, arith, lt-ltb, le-ltb, le-leb, eq-eqb, ne_eqb}
use Rattle.std.proofs.lemmas.Bool.{lt-leb}
use Rattle.whole.specs.Flags.{cond_ind, cond_yes, cond_no}
use Rattle.run.specs.Places.{Place, input_at, reading_at}
use Rattle.records.specs.Record.{Record, opening, entry, close, unknown, cut, surplus}
use Rattle.format.specs.Found.{Standing, stands, ends, strange, standing_at}
use Rattle.record.specs.Kinds.{run_file}
use Rattle.reader.specs.Meaning.{meaning}
use Rattle.plain.specs.Plain.{longest, line_feed, refused_word, at_word}
use Rattle.plain.specs.Digits.{decimal}
use Rattle.plain.specs.Most.{Most, word, after, joined, decimal_most}
use Rattle.spoken.specs.Said.{points_word, point_word, cycle_word, stroke_word, reading_place, spaced}
use Rattle.spoken.specs.Long.{strokes_long}
use Rattle.detail.specs.Detail.{label_at}
use Rattle.sentences.specs.Sentences.{record_name, not_name}
use Rattle.sentences.specs.SentenceLaws.{either, stroke_most, detail_most}
use Rattle.place_text.specs.Place.{passed_over, all_numbered, there_name, cut_name, short_name, kind_name, stroke_name, behind_name, the_name, close_name, place_words, record_words, standing_words, words_at, record_line, told_of, detail_of, accepted_line, place_lines, place_of}

-- `record` k, and a colon
abbrev pub head : (k : ℕ) → List ℕ
head k = record_name ++ (32 ∷ (decimal k ++ (58 ∷ [])))

-- each word with a space before it
unfoldable pub led : List (List ℕ) → List ℕ
led [] = []
led (w ∷ ws) = 32 ∷ (w ++ led ws)

-- what a refusal with one of the numbers 1 to 8 tells of the record at its place
abbrev pub what_words : List ℕ → (number place : ℕ) → List (List ℕ)
what_words s k p = cond (eqb k 8) (behind_name ∷ the_name ∷ close_name ∷ []) (words_at s p)

-- ---- the parts of a line
spaced_led : (w : List ℕ) (ws : List (List ℕ)) → w ++ (led ws ++ (line_feed ∷ [])) ≡ spaced (w ∷ ws)
unfolding led spaced
spaced_led w [] = refl
spaced_led w (v ∷ ws) = ap (λ (l : List ℕ). w ++ (32 ∷ l)) (append_assoc v (led ws) (line_feed ∷ []) ∙ spaced_led v ws)

pub line_parts : (k : ℕ) (ws : List (List ℕ)) → head k ++ (led ws ++ (line_feed ∷ [])) ≡ record_line k ws
unfolding spaced
line_parts k ws =
    ap (λ (l : List ℕ). record_name ++ (32 ∷ l)) (spaced_led (decimal k ++ (58 ∷ [])) ws)

-- a place as a line of a text begins
pub reading_led : (s c i : ℕ) → s < 2 → 32 ∷ reading_place s c i ≡ led (place_words (reading_at s c i))
unfolding led
reading_led s c i h = simp (lt-ltb s 2 h, append-nil)

-- of a stroke that no run has only that is told
pub stroke_led : (s c i : ℕ) → 2 ≤ s → 32 ∷ (stroke_name ++ (32 ∷ decimal s)) ≡ led (place_words (reading_at s c i))
unfolding led
stroke_led s c i h = simp (le-ltb s 2 h, append-nil)

-- ---- what stands at a place, by what is found there
module _ (s : List ℕ) (at : ℕ) where
  -- its words are told of what stands there
  found_led : {q : Standing} → q ≡ standing_at run_file (eqb at 0) s at → led (standing_words s at q) ≡ led (words_at s at)
  found_led e = ap (λ (q : Standing). led (standing_words s at q)) e

  pub stands_led : {r : Record} {end : ℕ} → stands r end ≡ standing_at run_file (eqb at 0) s at → led (record_words r) ≡ led (words_at s at)
  stands_led e = found_led e

  pub nothing_led : ends ≡ standing_at run_file (eqb at 0) s at → length s ≤ at → led (not_name ∷ there_name ∷ []) ≡ led (words_at s at)
  nothing_led e h = ap led (cond_yes (cut_name ∷ short_name ∷ []) (le-leb (length s) at h) refl) ∙ found_led e

  pub cut_led : ends ≡ standing_at run_file (eqb at 0) s at → at < length s → led (cut_name ∷ short_name ∷ []) ≡ led (words_at s at)
  cut_led e h = ap led (cond_no (not_name ∷ there_name ∷ []) (lt-leb (length s) at h) refl) ∙ found_led e

  pub strange_led : strange ≡ standing_at run_file (eqb at 0) s at → led (kind_name ∷ decimal (get_or s at 0) ∷ []) ≡ led (words_at s at)
  strange_led e = found_led e

  -- nothing strange stands behind the end
  pub not_strange : strange ≡ standing_at run_file (eqb at 0) s at → length s ≤ at → ⊥
  not_strange e h =
      let q : strange ≡ ends = rw (le-leb (length s) at h) at e in
      let z : ◌≡◌ {A = ℕ} 0 1 = cc in
      omega arith

-- ---- what is told of the record at a place, and its line feed
module _ (s : List ℕ) (k p : ℕ) where
  pub behind_led : k ≡ 8 → led (behind_name ∷ the_name ∷ close_name ∷ []) ++ (line_feed ∷ []) ≡ led (what_words s k p) ++ (line_feed ∷ [])
  behind_led e = ap (λ (ws : List (List ℕ)). led ws ++ (line_feed ∷ [])) (cond_yes (words_at s p) (eq-eqb k 8 e) refl)

  pub at_led : (k ≡ 8 → ⊥) → led (words_at s p) ++ (line_feed ∷ []) ≡ led (what_words s k p) ++ (line_feed ∷ [])
  at_led d = ap (λ (ws : List (List ℕ)). led ws ++ (line_feed ∷ [])) (cond_no (behind_name ∷ the_name ∷ close_name ∷ []) (ne_eqb k 8 d) refl)

-- ---- the line with more behind it, in the parts in which it is printed
pub line_more : (k : ℕ) (ws : List (List ℕ)) (more : List ℕ) → head k ++ ((led ws ++ (line_feed ∷ [])) ++ more) ≡ record_line k ws ++ more
line_more k ws more = sym (append_assoc (head k) (led ws ++ (line_feed ∷ [])) more) ∙ ap (λ (l : List ℕ). l ++ more) (line_parts k ws)

-- a choice of words is a choice of lines
line_either : (b : Bool) (k : ℕ) (v w : List (List ℕ)) → record_line k (cond b v w) ≡ cond b (record_line k v) (record_line k w)
line_either true k v w = refl
line_either false k v w = refl

module _ (s : List ℕ) (k p : ℕ) (more : List ℕ) where
  -- of the record at the place
  pub told_at : k < 9 → head (suc (length (passed_over s p))) ++ ((led (what_words s k p) ++ (line_feed ∷ [])) ++ more) ≡ told_of s k p ++ more
  told_at h =
      let n = suc (length (passed_over s p)) in
      line_more n (what_words s k p) more
      ∙ ap (λ (l : List ℕ). l ++ more) (cond_no (record_line (label_at (input_at p) (all_numbered s)) (place_words (input_at p))) (lt-leb 9 k h) (line_either (eqb k 8) n (behind_name ∷ the_name ∷ close_name ∷ []) (words_at s p)))

  -- of the record that gives the point's input
  pub told_of_point : 9 ≤ k → head (label_at (input_at p) (all_numbered s)) ++ ((led (place_words (input_at p)) ++ (line_feed ∷ [])) ++ more) ≡ told_of s k p ++ more
  told_of_point h =
      line_more (label_at (input_at p) (all_numbered s)) (place_words (input_at p)) more
      ∙ ap (λ (l : List ℕ). l ++ more) (cond_yes _ (le-leb 9 k h) refl)

-- ---- lengths
wide : {l : List ℕ} {m : ℕ} (n : ℕ) → Most l m → m ≤ n → Most l n
wide n h i = record { most = omega (arith, h.most) }

head_most : (k : ℕ) → Most (head k) 28
head_most k = joined (word record_name) (after 32 (joined (decimal_most k) (word (58 ∷ []))))

place_most : (p : Place) → Most (led (place_words p)) 59
unfolding led
place_most (input_at i) = wide 59 (after 32 (joined (word point_word) (after 32 (joined (decimal_most i) (word []))))) (omega arith)
place_most (reading_at s c i) =
    cond_ind (ltb s 2) (stroke_word s ∷ point_word ∷ decimal i ∷ cycle_word ∷ decimal c ∷ []) (stroke_name ∷ decimal s ∷ []) (λ (ws : List (List ℕ)). Most (led ws) 59)
    (λ _. after 32 (joined (stroke_most s) (after 32 (joined (word point_word) (after 32 (joined (decimal_most i) (after 32 (joined (word cycle_word) (after 32 (joined (decimal_most c) (word [])))))))))))
    (λ _. wide 59 (after 32 (joined (word stroke_name) (after 32 (joined (decimal_most s) (word []))))) (omega arith))

record_most : (r : Record) → Most (led (record_words r)) 59
unfolding led
record_most (opening z) =
    after 32 (joined (word points_word) (after 32 (joined (decimal_most z.m) (after 32 (joined (strokes_long z.strokes) (after 32 (joined (decimal_most z.n) (word []))))))))
record_most (entry e) = place_most e.place
record_most close = record { most = omega arith }
record_most unknown = record { most = omega arith }
record_most cut = record { most = omega arith }
record_most surplus = record { most = omega arith }

standing_most : (s : List ℕ) (at : ℕ) (q : Standing) → Most (led (standing_words s at q)) 59
unfolding led
standing_most s at (stands r end) = record_most r
standing_most s at ends =
    cond_ind (leb (length s) at) (not_name ∷ there_name ∷ []) (cut_name ∷ short_name ∷ []) (λ (ws : List (List ℕ)). Most (led ws) 59)
    (λ _. record { most = omega arith })
    (λ _. record { most = omega arith })
standing_most s at strange = wide 59 (after 32 (joined (word kind_name) (after 32 (joined (decimal_most (get_or s at 0)) (word []))))) (omega arith)

behind_most : Most (led (behind_name ∷ the_name ∷ close_name ∷ [])) 59
unfolding led
behind_most = record { most = omega arith }

line_most : (k : ℕ) (ws : List (List ℕ)) → Most (led ws) 59 → Most (record_line k ws) 88
line_most k ws h = subst (λ (l : List ℕ). Most l 88) (line_parts k ws) (joined (head_most k) (joined h (word (line_feed ∷ []))))

told_most : (s : List ℕ) (k p : ℕ) → Most (told_of s k p) 88
told_most s k p =
    let n = suc (length (passed_over s p)) in
    either (leb 9 k) (line_most (label_at (input_at p) (all_numbered s)) (place_words (input_at p)) (place_most (input_at p)))
    (either (eqb k 8) (line_most n (behind_name ∷ the_name ∷ close_name ∷ []) behind_most)
    (line_most n (words_at s p) (standing_most s p (standing_at run_file (eqb p 0) s p))))

lines_most : (s : List ℕ) (k p : ℕ) → Most (place_lines s k p) 217
lines_most s k p =
    either (eqb k 0) (wide 217 (word accepted_line) (omega arith))
    (joined (joined (word refused_word) (joined (decimal_most k) (joined (word at_word) (joined (decimal_most p) (word (line_feed ∷ []))))))
    (joined (told_most s k p) (record { most = detail_most record_name (detail_of s k p) })))

-- an array of 831 bytes has room for all that is told
pub place_fits : (s : List ℕ) → length (place_of s) ≤ longest
place_fits s = omega (arith, (lines_most s (meaning s).number (meaning s).place).most)
