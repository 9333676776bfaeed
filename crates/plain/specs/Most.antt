-- How long a text is at most: a decimal has at most 20 bytes, a fraction 42, a percent 24, and a refusal line fits a text.
use Rattle.std.specs.Prelude.{List, [], ◌∷◌, ◌++◌, ℕ, zero, suc, ◌+◌, ◌/◌, ◌≤◌, ltb, ℤ, pos, negsuc, length}
use Rattle.std.proofs.Common.{le_refl, arith, length-append}
use Rattle.whole.specs.Flags.{cond_ind}
use Rattle.exact.specs.declared.Fraction.{Fraction}
use Rattle.plain.specs.Digits.{digit, digits, decimal, signed, fraction, percent}
use Rattle.plain.specs.Plain.{line_feed, refused_word, at_word, refused_line, longest}

-- l has at most n bytes
pub record Most (l : List ℕ) (n : ℕ) : Type 0 where
  pub most : length l ≤ n

-- ---- parts
pub word : (w : List ℕ) → Most w (length w)
word w = record { most = le_refl (length w) }

pub after : (x : ℕ) {l : List ℕ} {n : ℕ} → Most l n → Most (x ∷ l) (suc n)
after x h = record { most = omega (arith, h.most) }

pub joined : {a b : List ℕ} {m n : ℕ} → Most a m → Most b n → Most (a ++ b) (m + n)
joined {a} {b} h i = record { most = omega (arith, length-append a b, h.most, i.most) }

-- ---- numbers
digits_most : (k v : ℕ) → Most (digits k v) k
unfolding digits
digits_most zero v = word []
digits_most (suc k) v =
    cond_ind (ltb v 10) (digit v ∷ []) (digits k (v / 10) ++ (digit v ∷ [])) (λ (l : List ℕ). Most l (suc k))
    (λ _. record { most = omega arith })
    (λ _. record { most = omega (arith, (joined (digits_most k (v / 10)) (word (digit v ∷ []))).most) })

pub decimal_most : (v : ℕ) → Most (decimal v) 20
decimal_most v = digits_most 20 v

signed_most : (z : ℤ) → Most (signed z) 21
signed_most (pos n) = record { most = omega (arith, (decimal_most n).most) }
signed_most (negsuc n) = after 45 (decimal_most (suc n))

pub fraction_most : (f : Fraction) → Most (fraction f) 42
fraction_most f = joined (signed_most f.num) (after 47 (decimal_most f.den))

pub percent_most : (t : ℕ) → Most (percent t) 24
percent_most t = joined (decimal_most (t / 1000)) (word (46 ∷ digit (t / 100) ∷ digit (t / 10) ∷ digit t ∷ []))

-- nothing of a refusal line is dropped
pub fits_refused : (number place : ℕ) → length (refused_line number place) ≤ longest
fits_refused number place =
    omega (arith, (joined (word refused_word) (joined (decimal_most number) (joined (word at_word) (joined (decimal_most place) (word (line_feed ∷ [])))))).most)
