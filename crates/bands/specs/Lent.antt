-- What is made of lent sums and limits, point by point. Method.
use Rattle.std.specs.Prelude.{◌≡◌, List, ◌∷◌, [], ℕ, ◌<◌, ◌≤◌, ℤ, pos, nat_abs, ◌+ℤ◌, ◌-ℤ◌, get_or, ◌≤ℤ◌}
use Rattle.std.proofs.Common.{sym, subst}
use Rattle.whole.specs.Greater.{smaller, greater}
use Rattle.whole.specs.Machine.{Bounds}
use Rattle.units.specs.Units.{most_s, sum_in}
use Rattle.units.specs.declared.Sum.{Sum}
use Rattle.bands.specs.declared.Width.{Width}
use Rattle.bands.specs.declared.Width.TheVariants as widths

abbrev at : List ℤ → ℕ → ℤ
at l i = get_or l i (pos 0)

-- T, and the lower and the higher of U less its limit and D more its limit
abbrev pub mean_in : (up down : List ℤ) → ℕ → ℤ
mean_in up down i = at up i +ℤ at down i

abbrev pub low_in : (up down up_limits down_limits : List ℤ) → ℕ → ℤ
low_in u d k l i = smaller (at u i -ℤ at k i) (at d i +ℤ at l i)

abbrev pub high_in : (up down up_limits down_limits : List ℤ) → ℕ → ℤ
high_in u d k l i = greater (at u i -ℤ at k i) (at d i +ℤ at l i)

-- a width of two sums
abbrev pub apart : Width → ℤ → ℤ → ℕ
apart widths.Swing u d = nat_abs (d -ℤ u)
apart widths.Scatter k l = nat_abs (greater k l)

abbrev pub width_in : Width → (up down : List ℤ) → ℕ → ℕ
width_in w u d i = apart w (at u i) (at d i)

-- ---- what may be worked with
-- sums that may be added
pub record Addable (m : ℕ) (l : List ℤ) : Type 0 where
  pub eleven : m ≤ 11
  pub small : (i : ℕ) → i < m → nat_abs (at l i) ≤ most_s

-- one that is taken out is as small
pub small_of : {m i : ℕ} {l : List ℤ} {v : Sum} → Addable m l → i < m → v ≡ sum_in l i → nat_abs v.count ≤ most_s
small_of a h e = subst (λ (v : Sum). nat_abs v.count ≤ most_s) (sym e) (a.small _ h)

-- limits are not negative
abbrev pub Measurable : Width → ℤ → ℤ → Type 0
Measurable widths.Swing u d = Bounds (d ∷ u ∷ []) (most_s ∷ most_s ∷ [])
Measurable widths.Scatter k l = (pos 0 ≤ℤ k) × (pos 0 ≤ℤ l)

pub record Wide (w : Width) (m : ℕ) (up down : List ℤ) : Type 0 where
  pub some : 1 ≤ m
  pub eleven : m ≤ 11
  pub each : (i : ℕ) → i < m → Measurable w (at up i) (at down i)
