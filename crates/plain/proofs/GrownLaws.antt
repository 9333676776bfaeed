-- Laws of bytes that are put into an array beside its length (`Grown`). Nothing cites them any more; they stand because what stood stays (docs/DESIGN-PASS.md).
use Rattle.std.specs.Prelude.{◌≡◌, refl, List, [], ◌∷◌, ◌++◌, ℕ, zero, suc, ◌+◌, ◌<◌, ◌≤◌, length, take, set}
use Rattle.std.proofs.Common.{sym, ap, ◌∙◌, subst, append_assoc, append-nil, add-one, arith, length-append, length-take, length-set, length-take-le, take_all, take-suc-set}
use Rattle.std.proofs.lemmas.List.{take-append-le}
use Rattle.plain.specs.Plain.{longest}
use Rattle.plain.proofs.Grown.{grown, Put}

-- what was cut off before stays cut off
take_front : (n : ℕ) (x b : List ℕ) → take n (take n x ++ b) ≡ take n (x ++ b)
take_front zero x b = refl
take_front (suc n) [] b = refl
take_front (suc n) (a ∷ x) b = ap {B = List ℕ} (λ r. a ∷ r) (take_front n x b)

-- what goes behind a text in two steps goes there in one
grown_twice : (t a b : List ℕ) → grown (grown t a) b ≡ grown t (a ++ b)
grown_twice t a b = take_front longest (t ++ a) b ∙ ap (take longest) (append_assoc t a b)

front_most : (o : List ℕ) (at : ℕ) → length o ≡ longest → length (take at o) ≤ longest
front_most o at whole = rw length-take (omega arith)

-- ---- nothing, or one byte, goes behind the first `at` bytes of an array
module _ {o : List ℕ} {at : ℕ} (whole : length o ≡ longest) where
  pub put_none : Put o at [] o at
  put_none = record { is = sym (ap (take longest) (append-nil (take at o)) ∙ take_all longest (take at o) (front_most o at whole)); long = whole; most = λ l. l }

  -- a full array stays as it is
  pub put_full : (s : List ℕ) → longest ≤ at → Put o at s o at
  put_full s l =
      let full : length (take at o) ≡ longest = rw length-take (omega arith) in
      record { is = sym (take-append-le longest (take at o) s (omega arith) ∙ take_all longest (take at o) (front_most o at whole)); long = whole; most = λ l. l }

  pub put_one : (b : ℕ) → at < longest → Put o at (b ∷ []) (set o at b) (at + 1)
  put_one b l =
      let n : length (take at o ++ (b ∷ [])) ≤ longest = omega (arith, length-append (take at o) (b ∷ []), length-take-le at o (omega arith)) in
      record { is = rw (add-one, take-suc-set o at b (omega arith)) (sym (take_all longest (take at o ++ (b ∷ [])) n)); long = length-set o at b ∙ whole; most = λ _. omega arith }

-- ---- parts, one after the other
pub put_two : {o p q a b : List ℕ} {i j k : ℕ} → Put o i a p j → Put p j b q k → Put o i (a ++ b) q k
put_two {o} {a = a} {b = b} {i = i} e f = record {
  is = f.is ∙ ap (λ (l : List ℕ). grown l b) e.is ∙ grown_twice (take i o) a b;
  long = f.long;
  most = λ h. f.most (e.most h);
}

pub put_is : {o p a b : List ℕ} {i j : ℕ} → a ≡ b → Put o i a p j → Put o i b p j
put_is {o} {p} {i = i} {j = j} e f = subst (λ (s : List ℕ). Put o i s p j) e f

-- ---- what is put at the front, and fits, stands there
pub put_all : {o p s : List ℕ} {r : ℕ} → Put o 0 s p r → length s ≤ longest → take r p ≡ s
put_all {s = s} e h = e.is ∙ take_all longest s h

-- and there are so many bytes
pub put_length : {o p s : List ℕ} {r : ℕ} → Put o 0 s p r → length (take r p) ≡ r
put_length {p = p} {r = r} e = length-take-le r p (omega (arith, e.long, e.most (omega arith)))
