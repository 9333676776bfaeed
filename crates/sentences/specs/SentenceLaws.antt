-- Laws of how a refusal is told: which numbers have a sentence, the parts of the lines that tell more, and that all has room in an array of 831 bytes.
use Rattle.std.specs.Prelude.{◌≡◌, Bool, true, false, cond, List, [], ◌∷◌, ◌++◌, ℕ, ◌+◌, ◌≤◌, eqb, length}
use Rattle.std.proofs.Common.{append_assoc, arith, ne_eqb, length-append}
use Rattle.plain.specs.Plain.{longest, line_feed, refused_word}
use Rattle.plain.specs.Digits.{decimal}
use Rattle.plain.specs.Most.{Most, word, after, joined, decimal_most}
use Rattle.spoken.specs.Said.{point_word, cycle_word, down_word, stroke_word, reading_place, spaced}
use Rattle.detail.specs.declared.Detail.{Detail}
use Rattle.detail.specs.declared.Detail.TheVariants.{Nothing, Word, NoWord, Earlier, Input, Reading, Apart}
use Rattle.sentences.specs.Sentences.{line_between, sentence, line_name, word_name, is_name, missing_name, and_name, lie_name, apart_name, detail_line, refusal}

-- other numbers have none
pub sentence_none : (number : ℕ) → ((number ≡ 41 → ⊥) × (number ≡ 42 → ⊥) × (number ≡ 43 → ⊥) × (number ≡ 44 → ⊥) × (number ≡ 45 → ⊥))
    → ((number ≡ 46 → ⊥) × (number ≡ 47 → ⊥) × (number ≡ 48 → ⊥) × (number ≡ 49 → ⊥) × (number ≡ 50 → ⊥)) → sentence number ≡ []
sentence_none number a b =
    simp (
      ne_eqb number 41 a.0,
      ne_eqb number 42 a.1,
      ne_eqb number 43 a.2,
      ne_eqb number 44 a.3,
      ne_eqb number 45 a.4,
      ne_eqb number 46 b.0,
      ne_eqb number 47 b.1,
      ne_eqb number 48 b.2,
      ne_eqb number 49 b.3,
      ne_eqb number 50 b.4,
    )

-- ---- what more is told, in parts
pub reading_missing : (s c i : ℕ) → reading_place s c i ++ (32 ∷ (is_name ++ (32 ∷ (missing_name ++ (line_feed ∷ []))))) ≡ detail_line line_name (Reading s c i)
unfolding spaced
reading_missing s c i = simp append_assoc

pub lie_apart : (noun : List ℕ) (high low : ℕ) → noun ++ (115 ∷ (32 ∷ (decimal high ++ (32 ∷ (and_name ++ (32 ∷ (decimal low ++ (32 ∷ (lie_name ++ (32 ∷ (apart_name ++ (line_feed ∷ []))))))))))))
    ≡ detail_line noun (Apart high low)
unfolding spaced
lie_apart noun high low = simp append_assoc

-- ---- lengths
pub either : (b : Bool) {x y : List ℕ} {n : ℕ} → Most x n → Most y n → Most (cond b x y) n
either true h k = h
either false h k = k

sentence_most : (number : ℕ) → Most (sentence number) 39
sentence_most number =
    either (eqb number 41) (record { most = omega arith })
    (either (eqb number 42) (record { most = omega arith })
    (either (eqb number 43) (record { most = omega arith })
    (either (eqb number 44) (record { most = omega arith })
    (either (eqb number 45) (record { most = omega arith })
    (either (eqb number 46) (record { most = omega arith })
    (either (eqb number 47) (record { most = omega arith })
    (either (eqb number 48) (record { most = omega arith })
    (either (eqb number 49) (record { most = omega arith })
    (either (eqb number 50) (record { most = omega arith })
    (record { most = omega arith }))))))))))

pub stroke_most : (s : ℕ) → Most (stroke_word s) 4
stroke_most s = either (eqb s 0) (record { most = omega arith }) (word down_word)

module _ (noun : List ℕ) where
  word_long : (k : ℕ) → Most (detail_line noun (Word k)) 44
  unfolding spaced
  word_long k = joined (word word_name) (after 32 (joined (decimal_most k) (word _)))

  no_word_long : (k : ℕ) → Most (detail_line noun (NoWord k)) 37
  unfolding spaced
  no_word_long k = joined (word word_name) (after 32 (joined (decimal_most k) (word _)))

  earlier_long : (l : ℕ) → Most (detail_line noun (Earlier l)) (length noun + 36)
  unfolding spaced
  earlier_long l = joined (word noun) (after 32 (joined (decimal_most _) (word _)))

  input_long : (i : ℕ) → Most (detail_line noun (Input i)) 38
  unfolding spaced
  input_long i = joined (word point_word) (after 32 (joined (decimal_most i) (word _)))

  reading_long : (s c i : ℕ) → Most (detail_line noun (Reading s c i)) 70
  unfolding spaced
  reading_long s c i =
      joined (stroke_most s) (after 32 (joined (word point_word) (after 32 (joined (decimal_most i) (after 32 (joined (word cycle_word) (after 32 (joined (decimal_most c) (word _)))))))))

  apart_long : (h l : ℕ) → Most (detail_line noun (Apart h l)) (length (noun ++ (115 ∷ [])) + 57)
  unfolding spaced
  apart_long h l = joined (word (noun ++ (115 ∷ []))) (after 32 (joined (decimal_most h) (after 32 (joined (word and_name) (after 32 (joined (decimal_most l) (word _)))))))

  -- what more is told is short beside its noun
  pub detail_most : (d : Detail) → length (detail_line noun d) ≤ length noun + 70
  detail_most Nothing = omega arith
  detail_most (Word k) = omega (arith, (word_long k).most)
  detail_most (NoWord k) = omega (arith, (no_word_long k).most)
  detail_most (Earlier l) = omega (arith, (earlier_long l).most)
  detail_most (Input i) = omega (arith, (input_long i).most)
  detail_most (Reading s c i) = omega (arith, (reading_long s c i).most)
  detail_most (Apart h l) = omega (arith, (apart_long h l).most, length-append noun (115 ∷ []))

refusal_most : (number line : ℕ) (d : Detail) → Most (refusal number line d) 168
refusal_most number line d =
    joined (word refused_word) (joined (decimal_most number) (joined (word line_between) (joined (decimal_most line) (after line_feed (joined (sentence_most number) (record { most = detail_most line_name d }))))))

-- an array of 831 bytes has room for it
pub refusal_fits : (number line : ℕ) (d : Detail) → length (refusal number line d) ≤ longest
refusal_fits number line d = omega (arith, (refusal_most number line d).most)
