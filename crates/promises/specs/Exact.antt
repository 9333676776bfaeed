-- Exact limit points, and what it means that a line keeps them (the paper: "The exact limit points of demand 3 have the root itself for k"). Definitions only.
use Rattle.std.specs.Prelude.{ℕ, ◌*◌, ◌<◌, ℤ, pos, neg_ℤ, ◌+ℤ◌, ◌-ℤ◌, ◌*ℤ◌}
use Rattle.run.specs.Run.{input, last_stroke}
use Rattle.run.specs.declared.Run.{Run}
use Rattle.groups.specs.Sums.{up_sum, down_sum}
use Rattle.groups.specs.Cut.{Cut}
use Rattle.band.specs.Line.{Line, off}
use Rattle.bands.specs.Through.{stroke_points}

-- the limit lies within w/z of g/q: it is at most g/q + w/z and at least g/q - w/z
pub record Near (A : Cut) (g : ℤ) (q : ℕ) (w : ℤ) (z : ℕ) : Type 0 where
  pub top : A.AtMost (pos z *ℤ g +ℤ w *ℤ pos q) (z * q)
  pub bottom : A.AtLeast (pos z *ℤ g -ℤ w *ℤ pos q) (z * q)

-- the limit lies closer than w/z to g/q: it is not as much as g/q + w/z and not as little as g/q - w/z
pub record Nearer (A : Cut) (g : ℤ) (q : ℕ) (w : ℤ) (z : ℕ) : Type 0 where
  pub top : A.AtLeast (pos z *ℤ g +ℤ w *ℤ pos q) (z * q) → ⊥
  pub bottom : A.AtMost (pos z *ℤ g -ℤ w *ℤ pos q) (z * q) → ⊥

-- how far U or D lies above the line, in sum units, times q
abbrev pub above : Run → Line → (v : ℤ) → (point : ℕ) → ℤ
above r L v i = off (stroke_points r) L (input r i) v

-- the line keeps every limit point within w/z sum units: U less its limit, which lies within w/z of how far U is above the line, and D more its limit, which lies within w/z of how far D is below it
pub record Keeps (r : Run) (limit : ℕ → ℕ → Cut) (L : Line) (w : ℤ) (z : ℕ) : Type 0 where
  pub up : (i : ℕ) → i < r.m → Near (limit 0 i) (above r L (up_sum r i) i) L.q w z
  pub down : (i : ℕ) → i < r.m → Near (limit (last_stroke r) i) (neg_ℤ (above r L (down_sum r i) i)) L.q w z

-- closer than w/z sum units
pub record KeepsCloser (r : Run) (limit : ℕ → ℕ → Cut) (L : Line) (w : ℤ) (z : ℕ) : Type 0 where
  pub up : (i : ℕ) → i < r.m → Nearer (limit 0 i) (above r L (up_sum r i) i) L.q w z
  pub down : (i : ℕ) → i < r.m → Nearer (limit (last_stroke r) i) (neg_ℤ (above r L (down_sum r i) i)) L.q w z
