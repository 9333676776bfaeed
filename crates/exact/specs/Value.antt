-- What a fraction is worth, and when it is in lowest terms (the paper, "All fractions have a positive denominator and are in lowest terms; zero is 0/1"). Definitions only.
use Rattle.std.specs.Prelude.{◌≡◌, ℕ, ◌<◌, ◌≤◌, ℤ, pos, nat_abs, ◌*ℤ◌}
use Rattle.exact.specs.Divisor.{Gcd}
use Rattle.exact.specs.declared.Fraction.{Fraction}

-- f is worth n/d
abbrev pub Worth : Fraction → ℤ → ℕ → Type 0
Worth f n d = f.num *ℤ pos d ≡ n *ℤ pos f.den

-- f and g are worth the same
abbrev pub SameWorth : Fraction → Fraction → Type 0
SameWorth f g = Worth f g.num g.den

-- a positive denominator that has no divisor but 1 in common with the numerator
pub record Lowest (f : Fraction) : Type 0 where
  pub positive : 0 < f.den
  pub coprime : Gcd (nat_abs f.num) f.den 1

-- 0/1
abbrev pub nought : Fraction
nought = record { num = pos 0; den = 1 }

-- the fraction that is made of the numerator n and the denominator d: n/d in lowest terms, and 0/1 where d is zero, as under every refusal of the paper
pub record Made (n : ℤ) (d : ℕ) (f : Fraction) : Type 0 where
  pub lowest : Lowest f
  pub worth : 0 < d → Worth f n d
  pub none : d ≡ 0 → f ≡ nought

-- f has no larger parts than n/d, so that what fits for n and d fits for f
pub record NoLarger (n : ℤ) (d : ℕ) (f : Fraction) : Type 0 where
  pub num : nat_abs f.num ≤ nat_abs n
  pub den : 0 < d → f.den ≤ d
