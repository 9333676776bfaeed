-- Candidates for the least largest deviation: how it is found, not what it means. The deviation of every line, doubled, is at least each of them, and the greatest is reached (`Bound`, `Least`).
use Rattle.std.specs.Prelude.{◌≡◌, ◌∷◌, [], ℕ, ◌*◌, ◌<◌, ℤ, pos, nat_abs, ◌+ℤ◌, ◌-ℤ◌, ◌*ℤ◌, ◌≤ℤ◌, ◌<ℤ◌}
use Rattle.std.proofs.Common.{sym, ap, subst, arith}
use Rattle.whole.specs.Poly.{E, var, lit, ◌⊕◌, ◌⊖◌, ◌⊗◌}
use Rattle.whole.specs.Ring.{ring}
use Rattle.whole.specs.Sign.{NonNeg, Positive, le_sign, lt_sign, weaken, le_trans, nonneg_mul, positive_mul, positive_nat, nat_positive, nat_nonneg}
use Rattle.band.specs.Line.{Points, Proper}

-- `one i`: the highest value above the lowest at one input.
-- `up i j k`: the chord over the highest values at i and k, above the lowest value at j between them.
-- `down i j k`: the highest value at j, above the chord over the lowest values at i and k.
pub data Candidate : Type 0 where
  one : ℕ → Candidate
  up : ℕ → ℕ → ℕ → Candidate
  down : ℕ → ℕ → ℕ → Candidate

-- a candidate is the fraction num/den, in units of the values
abbrev pub num : Points → Candidate → ℤ
num P (one i) = P.high i -ℤ P.low i
num P (up i j k) = (P.x k -ℤ P.x j) *ℤ P.high i +ℤ (P.x j -ℤ P.x i) *ℤ P.high k -ℤ (P.x k -ℤ P.x i) *ℤ P.low j
num P (down i j k) = (P.x k -ℤ P.x i) *ℤ P.high j -ℤ (P.x k -ℤ P.x j) *ℤ P.low i -ℤ (P.x j -ℤ P.x i) *ℤ P.low k

-- the two longer ones as expressions, for `ring`: three inputs, and the values at each in turn
abbrev pub upE : (xi xj xk hi lj hk : E) → E
upE xi xj xk hi lj hk = (xk ⊖ xj) ⊗ hi ⊕ (xj ⊖ xi) ⊗ hk ⊖ (xk ⊖ xi) ⊗ lj

abbrev pub downE : (xi xj xk li hj lk : E) → E
downE xi xj xk li hj lk = (xk ⊖ xi) ⊗ hj ⊖ (xk ⊖ xj) ⊗ li ⊖ (xj ⊖ xi) ⊗ lk

-- a denominator is made of the inputs alone, and to fit is a matter of their number: neither changes with the values
abbrev pub span : (ℕ → ℤ) → Candidate → ℤ
span x (one i) = pos 1
span x (up i j k) = x k -ℤ x i
span x (down i j k) = x k -ℤ x i

abbrev pub den : Points → Candidate → ℤ
den P c = span P.x c

-- in their order, below m
abbrev pub Among : ℕ → Candidate → Type 0
Among m (one i) = i < m
Among m (up i j k) = (i < j) × (j < k) × (k < m)
Among m (down i j k) = (i < j) × (j < k) × (k < m)

abbrev pub Fits : Points → Candidate → Type 0
Fits P c = Among P.m c

-- e's fraction is at most c's
abbrev pub AtMost : Points → Candidate → Candidate → Type 0
AtMost P e c = (num P e *ℤ den P c) ≤ℤ (num P c *ℤ den P e)

pub record Greatest (P : Points) (c : Candidate) : Type 0 where
  pub fits : Fits P c
  pub all : (e : Candidate) → Fits P e → AtMost P e c

-- half a candidate in units of the readings: the deviation wide/part
abbrev pub wide : Points → Candidate → ℕ
wide P c = nat_abs (num P c)

abbrev pub part : Points → Candidate → ℕ
part P c = 2 * nat_abs (den P c) * P.d

-- ---- signs
-- the inputs rise: all that most arguments need of `Proper`
pub record Rising (P : Points) : Type 0 where
  pub rise : (i j : ℕ) → i < j → j < P.m → P.x i <ℤ P.x j

module _ {P : Points} (rising : Rising P) where
  pub apart : {i k : ℕ} → i < k → k < P.m → Positive (P.x k -ℤ P.x i)
  apart {i} {k} h l = lt_sign (rising.rise i k h l)

  pub den_positive : (c : Candidate) → Fits P c → Positive (den P c)
  den_positive (one i) h = record { lt = tt }
  den_positive (up i j k) h = apart (omega (arith, h.0, h.1)) h.2
  den_positive (down i j k) h = apart (omega (arith, h.0, h.1)) h.2

pub proper_rising : {P : Points} → Proper P → Rising P
proper_rising proper = record { rise = proper.rise }

-- a denominator in units of the readings
pub doubled_is : (z : ℤ) (d : ℕ) → Positive z → pos (2 * nat_abs z * d) ≡ pos 2 *ℤ z *ℤ pos d
doubled_is z d h = ap (λ (t : ℤ). pos 2 *ℤ t *ℤ pos d) (nat_nonneg (weaken h))

pub doubled_some : (z : ℤ) (d : ℕ) → Positive z → 0 < d → 0 < 2 * nat_abs z * d
doubled_some z d h k = nat_positive (subst Positive (sym (doubled_is z d h)) (positive_mul (positive_mul {a = pos 2} (record { lt = tt }) h) (positive_nat k)))

module _ {P : Points} (proper : Proper P) (c : Candidate) where
  positive : Fits P c → Positive (den P c)
  positive h = den_positive (proper_rising proper) c h

  pub part_is : Fits P c → pos (part P c) ≡ pos 2 *ℤ den P c *ℤ pos P.d
  part_is h = doubled_is (den P c) P.d (positive h)

  pub part_some : Fits P c → 0 < part P c
  part_some h = doubled_some (den P c) P.d (positive h) proper.unit

  -- the greatest candidate is not negative, since no `one` is
  pub num_nonneg : Greatest P c → NonNeg (num P c)
  num_nonneg g =
      let h : 0 < P.m = omega (arith, proper.two) in
      subst NonNeg (ring (num P c ∷ []) (var 0 ⊗ lit 1) (var 0) tt) (le_trans (nonneg_mul (le_sign (proper.order 0 h)) (weaken (positive g.fits))) (g.all (one 0) h))

  pub wide_is : Greatest P c → pos (wide P c) ≡ num P c
  wide_is g = nat_nonneg (num_nonneg g)
