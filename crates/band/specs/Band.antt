-- The points that lent counts stand for, and the points that are admitted. Definitions only.
use Rattle.std.specs.Prelude.{List, ℕ, ◌<◌, ◌≤◌, ℤ, pos, nat_abs, get_or}
pub use Rattle.units.specs.Units.{most_x, most_v}
use Rattle.band.specs.Line.{Points, Proper}

-- the points that lent counts stand for: m inputs, and at each a lowest and a highest value in units of 1/d
abbrev pub lent : (m d : ℕ) → (x low high : List ℤ) → Points
lent m d x low high = record { m = m; d = d; x = λ i. get_or x i (pos 0); low = λ i. get_or low i (pos 0); high = λ i. get_or high i (pos 0) }

-- the largest unit
abbrev pub most_d : ℕ
most_d = 200

-- 3 to 11 inputs that rise, no lowest value above a highest, nothing beyond the largest sizes
pub record Admitted (P : Points) : Type 0 where
  pub proper : Proper P
  pub three : 3 ≤ P.m
  pub eleven : P.m ≤ 11
  pub unit : P.d ≤ most_d
  pub inputs : (i : ℕ) → i < P.m → nat_abs (P.x i) ≤ most_x
  pub lows : (i : ℕ) → i < P.m → nat_abs (P.low i) ≤ most_v
  pub highs : (i : ℕ) → i < P.m → nat_abs (P.high i) ≤ most_v
