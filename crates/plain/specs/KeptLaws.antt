-- Laws of what a page keeps of bytes that are put on it.
use Rattle.std.specs.Prelude.{◌≡◌, refl, List, [], ◌∷◌, ◌++◌, ℕ, zero, suc, ◌+◌, ◌-◌, ◌<◌, ◌≤◌, min, length, take, set}
use Rattle.std.proofs.Common.{sym, ap, ◌∙◌, append_assoc, append-nil, add-one, arith, length-append, length-take, length-take-le, take_all, take-suc-set}
use Rattle.std.proofs.Math.Seq.{take-append-add}
use Rattle.std.proofs.lemmas.List.{take_min}
use Rattle.plain.specs.Plain.{longest, kept}

-- what was cut off before stays cut off
take_front : (n : ℕ) (x b : List ℕ) → take n (take n x ++ b) ≡ take n (x ++ b)
take_front zero x b = refl
take_front (suc n) [] b = refl
take_front (suc n) (a ∷ x) b = ap {B = List ℕ} (λ r. a ∷ r) (take_front n x b)

-- what goes on a page in two steps goes there in one
pub kept_twice : (t a b : List ℕ) → kept (kept (t ++ a) ++ b) ≡ kept (t ++ (a ++ b))
unfolding kept
kept_twice t a b = take_front longest (t ++ a) b ∙ ap (take longest) (append_assoc t a b)

-- parts, one after the other
pub kept_two : (t a b : List ℕ) {q r : List ℕ} → q ≡ kept (t ++ a) → r ≡ kept (q ++ b) → r ≡ kept (t ++ (a ++ b))
kept_two t a b e f = f ∙ ap (λ (l : List ℕ). kept (l ++ b)) e ∙ kept_twice t a b

pub kept_is : (t : List ℕ) {r a b : List ℕ} → a ≡ b → r ≡ kept (t ++ a) → r ≡ kept (t ++ b)
kept_is t e f = f ∙ ap (λ (l : List ℕ). kept (t ++ l)) e

-- no more is kept than has room, and what has room is kept whole
pub kept_most : (l : List ℕ) → length (kept l) ≤ longest
unfolding kept
kept_most l = rw length-take (omega arith)

pub kept_all : (l : List ℕ) → length l ≤ longest → kept l ≡ l
unfolding kept
kept_all l h = take_all longest l h

-- what goes on an empty page, and has room, is what stands on it
pub kept_whole : {t s p : List ℕ} → t ≡ [] → p ≡ kept (t ++ s) → length s ≤ longest → p ≡ s
kept_whole {s = s} e f h = f ∙ ap (λ (t : List ℕ). kept (t ++ s)) e ∙ kept_all s h

-- ---- the first `at` of a page's bytes, and others behind them
module _ (o : List ℕ) (at : ℕ) (whole : length o ≡ longest) where
  -- as many as there is room for are the first that are kept
  pub kept_room : (s : List ℕ) → at ≤ longest → take at o ++ take (min (longest - at) (length s)) s ≡ kept (take at o ++ s)
  unfolding kept
  kept_room s h =
      let n : length (take at o) + (longest - at) ≡ longest = omega (arith, length-take-le at o (omega arith)) in
      ap (λ (l : List ℕ). take at o ++ l) (take_min (longest - at) s) ∙ sym (take-append-add (take at o) s (longest - at)) ∙ ap (λ (k : ℕ). take k (take at o ++ s)) n

  -- one, where there is room
  pub kept_one : (b : ℕ) → at < longest → take (at + 1) (set o at b) ≡ kept (take at o ++ (b ∷ []))
  kept_one b h =
      let n : length (take at o ++ (b ∷ [])) ≤ longest = omega (arith, length-append (take at o) (b ∷ []), length-take-le at o (omega arith)) in
      rw (add-one, take-suc-set o at b (omega arith)) (sym (kept_all (take at o ++ (b ∷ [])) n))

  -- a full page stays as it is
  pub kept_full : (s : List ℕ) → at ≡ longest → take at o ≡ kept (take at o ++ s)
  kept_full s h =
      let e : take (min (longest - at) (length s)) s ≡ [] = let z : min (longest - at) (length s) ≡ 0 = omega arith in ap (λ (k : ℕ). take k s) z in
      sym (append-nil (take at o)) ∙ ap (λ (l : List ℕ). take at o ++ l) (sym e) ∙ kept_room s (omega arith)
