-- The tests by which points are admitted. `AdmitLaws` shows that they are what `Admitted` and `OneValue` say.
use Rattle.std.specs.Prelude.{Bool, true, ◌&&◌, ℕ, zero, suc, leb, ℤ}
use Rattle.std.specs.Int.Signed.{le_z, lt_z}
use Rattle.whole.specs.Every.{every}
use Rattle.whole.specs.Between.{between}
use Rattle.band.specs.Line.{Points}
use Rattle.band.specs.Band.{most_x, most_v, most_d}

-- input i is above the one before it
abbrev pub rises_to : (ℕ → ℤ) → ℕ → Bool
rises_to x zero = true
rises_to x (suc i) = lt_z (x i) (x (suc i))

abbrev pub point_ok : Points → ℕ → Bool
point_ok P i = (between most_x (P.x i) && rises_to P.x i) && ((between most_v (P.low i) && between most_v (P.high i)) && le_z (P.low i) (P.high i))

-- 3 to 11 inputs, a unit of 1 to 200
abbrev pub sized : (m d : ℕ) → Bool
sized m d = (leb 3 m && leb m 11) && (leb 1 d && leb d most_d)

abbrev pub admits : Points → Bool
admits P = sized P.m P.d && every P.m (point_ok P)

-- one value at each input, where no lowest value is above the highest
abbrev pub level : Points → Bool
level P = every P.m (λ i. le_z (P.high i) (P.low i))
