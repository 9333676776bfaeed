-- Thousandths of one percent (the paper, "Thousandths are the index in thousandths of one percent, rounded to the nearest whole"; request C-12, after GB/T 8170: a half goes to the even neighbour). Definitions only.
use Rattle.std.specs.Prelude.{◌≡◌, Option, Some, None, ℕ, ◌*◌, ◌<◌, ◌≤◌, pos, nat_abs, ◌-ℤ◌, ◌≤ℤ◌}
use Rattle.std.specs.Int.{◌∣◌}
use Rattle.exact.specs.declared.Fraction.{Fraction}

-- how far the whole number t lies from v/d, times d
abbrev pub distance : (v d t : ℕ) → ℕ
distance v d t = nat_abs (pos v -ℤ pos (t * d))

-- t is a whole number nearest to v/d, and t is even where another is equally near
pub record Nearest (v d t : ℕ) : Type 0 where
  pub some : 0 < d
  pub near : (u : ℕ) → distance v d t ≤ distance v d u
  pub even : (u : ℕ) → (u ≡ t → ⊥) → distance v d u ≡ distance v d t → 2 ∣ t

-- the numerators n for which 100,000·n fits a u64; an index of the bench has one of at most 12,400,000,000,000
abbrev pub largest : ℕ
largest = 184467440737095

-- the fractions whose thousandths are told: from 0 up, over a positive denominator
pub record Told (f : Fraction) : Type 0 where
  pub sign : pos 0 ≤ℤ f.num
  pub size : nat_abs f.num ≤ largest
  pub den : 0 < f.den

-- the answer that is due for f. One percent has 1,000 thousandths, so n/d is 100,000·n/d of them
abbrev pub PercentDue : Fraction → Option ℕ → Type 0
PercentDue f (Some t) = Told f × Nearest (100000 * nat_abs f.num) f.den t
PercentDue f None = Told f → ⊥
