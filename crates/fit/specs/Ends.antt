-- The whole numbers of a line through two points, and how far the values lie from the terminal line. Method.
use Rattle.std.specs.Prelude.{◌≡◌, ◌∷◌, [], ℕ, ◌-◌, ◌<◌, ◌≤◌, ℤ, pos, nat_abs, ◌+ℤ◌, ◌-ℤ◌, ◌*ℤ◌, ◌≤ℤ◌, ◌<ℤ◌}
use Rattle.whole.specs.Machine.{Bounds}
use Rattle.band.specs.Line.{Points}
use Rattle.whole.specs.Greater.{smaller, greater}
use Rattle.band.specs.Band.{most_d}
use Rattle.fit.specs.declared.Ends.{Ends}
use Rattle.fit.specs.declared.Spread.{Spread}

-- ---- largest sizes: of the three numbers, and of a height
abbrev pub most_a : ℕ
most_a = 206000000

abbrev pub most_b : ℕ
most_b = 6180000000000

abbrev pub most_gap : ℕ
most_gap = 60000

abbrev pub most_e : ℕ
most_e = 18540000000000

-- e is the line through the value u at x and v at z
pub record Through (x z u v : ℤ) (e : Ends) : Type 0 where
  pub a_is : e.a ≡ v -ℤ u
  pub b_is : e.b ≡ z *ℤ u -ℤ x *ℤ v
  pub s_is : e.s ≡ z -ℤ x
  pub a_most : nat_abs e.a ≤ most_a
  pub b_most : nat_abs e.b ≤ most_b
  pub s_most : nat_abs e.s ≤ most_gap

-- through the first and the last point
abbrev pub EndsOf : Points → Ends → Type 0
EndsOf P e = Through (P.x 0) (P.x (P.m - 1)) (P.low 0) (P.low (P.m - 1)) e

-- how far the value at input p is above it, times s
abbrev pub above : Points → Ends → ℕ → ℤ
above P e p = e.s *ℤ P.low p -ℤ (e.a *ℤ P.x p +ℤ e.b)

-- r with h taken in is t
pub record Wider (r : Spread) (h : ℤ) (t : Spread) : Type 0 where
  pub lo_is : t.lo ≡ smaller r.lo h
  pub hi_is : t.hi ≡ greater r.hi h

-- of the first k heights r holds the smallest and the largest
pub record Ranged (P : Points) (e : Ends) (k : ℕ) (r : Spread) : Type 0 where
  pub reach : k ≤ P.m
  pub from : (p : ℕ) → p < k → r.lo ≤ℤ above P e p
  pub to : (p : ℕ) → p < k → above P e p ≤ℤ r.hi
  pub i : ℕ
  pub i_fits : i < P.m
  pub lowest : above P e i ≡ r.lo
  pub j : ℕ
  pub j_fits : j < P.m
  pub highest : above P e j ≡ r.hi

-- what the line's whole numbers are made from
pub record Ready (e : Ends) (r : Spread) (d : ℕ) : Type 0 where
  pub bounds : Bounds (e.a ∷ e.b ∷ e.s ∷ r.lo ∷ r.hi ∷ pos d ∷ []) (most_a ∷ most_b ∷ most_gap ∷ most_e ∷ most_e ∷ most_d ∷ [])
  pub rise : pos 0 <ℤ e.s
  pub unit : 0 < d
  pub low : r.lo ≤ℤ pos 0
  pub high : pos 0 ≤ℤ r.hi
