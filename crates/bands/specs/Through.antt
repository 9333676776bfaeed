-- The points that the lines of a run are drawn through, and the widths that are no line's (the paper, "The formulas in whole numbers"). Definitions only.
use Rattle.std.specs.Prelude.{◌≡◌, ℕ, ◌*◌, ◌<◌, ◌≤◌, ℤ, pos, nat_abs, ◌+ℤ◌, ◌-ℤ◌}
use Rattle.run.specs.Run.{input, last_stroke}
use Rattle.run.specs.declared.Run.{Run}
use Rattle.groups.specs.Sums.{up_sum, down_sum, both_sum}
use Rattle.band.specs.Line.{Points}
use Rattle.whole.specs.Greater.{smaller, greater}

-- T/(2n) at each input
abbrev pub means : Run → Points
means r = record { m = r.m; d = 2 * r.n; x = input r; low = both_sum r; high = both_sum r }

-- two values at each input, in units of 1/n
abbrev pub two_valued : Run → (f g : ℕ → ℤ) → Points
two_valued r f g = record { m = r.m; d = r.n; x = input r; low = λ i. smaller (f i) (g i); high = λ i. greater (f i) (g i) }

-- LH: the 2m points U/n and D/n
abbrev pub stroke_points : Run → Points
stroke_points r = two_valued r (up_sum r) (down_sum r)

-- LHR: the 2m points (U - k)/n and (D + k)/n, each with the k of its own stroke and point (formulas 35 and 36)
abbrev pub limit_points : Run → (k : ℕ → ℕ → ℕ) → Points
limit_points r k = two_valued r (λ i. up_sum r i -ℤ pos (k 0 i)) (λ i. down_sum r i +ℤ pos (k (last_stroke r) i))

-- w is the largest of g 0, g 1, .. g (m - 1)
pub record LargestOf (m : ℕ) (g : ℕ → ℕ) (w : ℕ) : Type 0 where
  pub most : (i : ℕ) → i < m → g i ≤ w
  pub place : ℕ
  pub within : place < m
  pub reached : g place ≡ w

-- hysteresis (formula 9): the size of D - U at a point, in sum units
abbrev pub swing : Run → ℕ → ℕ
swing r i = nat_abs (down_sum r i -ℤ up_sum r i)

-- repeatability: the larger k of a point's two strokes, in sum units
abbrev pub scatter : Run → (k : ℕ → ℕ → ℕ) → ℕ → ℕ
scatter r k i = nat_abs (greater (pos (k 0 i)) (pos (k (last_stroke r) i)))
