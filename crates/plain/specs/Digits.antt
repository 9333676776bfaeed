-- Whole numbers and fractions as text, in ASCII (the paper, "In what any program prints"). Definitions only.
use Rattle.std.specs.Prelude.{cond, List, [], ◌∷◌, ◌++◌, ℕ, zero, suc, ◌+◌, ◌/◌, ◌%◌, ltb, ℤ, pos, negsuc}
use Rattle.exact.specs.declared.Fraction.{Fraction}

-- the last digit of v
abbrev pub digit : ℕ → ℕ
digit v = 48 + v % 10

-- v in decimal, without leading zeros, where k digits are enough
unfoldable pub digits : (k v : ℕ) → List ℕ
digits zero v = []
digits (suc k) v = cond (ltb v 10) (digit v ∷ []) (digits k (v / 10) ++ (digit v ∷ []))

-- 20 digits are enough for every u64 (`DigitLaws`)
abbrev pub decimal : ℕ → List ℕ
decimal v = digits 20 v

-- a minus sign stands before a number below zero
abbrev pub signed : ℤ → List ℕ
signed (pos n) = decimal n
signed (negsuc n) = 45 ∷ decimal (suc n)

-- num/den
abbrev pub fraction : Fraction → List ℕ
fraction f = signed f.num ++ (47 ∷ decimal f.den)

-- thousandths of one percent as a percent to three decimals
abbrev pub percent : ℕ → List ℕ
percent t = decimal (t / 1000) ++ (46 ∷ digit (t / 100) ∷ digit (t / 10) ∷ digit t ∷ [])
