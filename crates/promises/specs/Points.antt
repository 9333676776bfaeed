-- Demand 3 over any limits that are known as cuts and rounded up: the least width of the rounded limit points and that of the exact ones differ by less than one sum unit.
use Rattle.std.specs.Prelude.{◌≡◌, Bool, true, false, cond, List, ◌∷◌, [], ℕ, suc, ◌*◌, ◌-◌, ◌<◌, ◌≤◌, ℤ, pos, nat_abs, neg_ℤ, ◌+ℤ◌, ◌-ℤ◌, ◌*ℤ◌}
use Rattle.std.proofs.Common.{sym, ap, ◌∙◌, mul-le-mul_right, arith}
use Rattle.std.specs.Int.Signed.{lt_z}
use Rattle.whole.specs.Flags.{cond_ind}
use Rattle.whole.specs.Poly.{E, var, neg, ◌⊕◌, ◌⊖◌, ◌⊗◌}
use Rattle.whole.specs.Ring.{ring}
use Rattle.whole.specs.Sign.{positive_nat, positive_mul, nat_positive}
use Rattle.whole.specs.Size.{size_neg}
use Rattle.run.specs.Run.{input, last_stroke}
use Rattle.run.specs.declared.Run.{Run}
use Rattle.groups.specs.Sums.{up_sum, down_sum}
use Rattle.groups.specs.Cut.{Cut}
use Rattle.band.specs.Line.{Line, Within, All, Least}
use Rattle.band.specs.Seen.{offE}
use Rattle.bands.specs.Through.{two_valued, limit_points}
use Rattle.promises.specs.Exact.{above, Keeps, KeepsCloser}
use Rattle.promises.specs.Cuts.{Rounds, closer, strictly}

-- ---- two values at each input: what holds of the smaller and of the greater holds of both, and the other way round
of_both : (P : ℤ → Type 0) (b : Bool) (u v : ℤ) → P (cond b u v) → P (cond b v u) → P u × P v
of_both P true u v h i = (h, i)
of_both P false u v h i = (i, h)

-- the value v at point i lies within w/z of the line
abbrev Bound : Run → Line → (w z i : ℕ) → ℤ → Type 0
Bound r L w z i v = nat_abs (above r L v i) * z ≤ w * (L.q * r.n)

module _ (r : Run) (f g : ℕ → ℤ) (L : Line) (w z : ℕ) where
  both_bounds : Within (two_valued r f g) L w z → (i : ℕ) → i < r.m → Bound r L w z i (f i) × Bound r L w z i (g i)
  both_bounds W i h = of_both (Bound r L w z i) (lt_z (f i) (g i)) (f i) (g i) (W.low i h) (W.high i h)

  bounds_both : ((i : ℕ) → i < r.m → Bound r L w z i (f i) × Bound r L w z i (g i)) → Within (two_valued r f g) L w z
  bounds_both b = record {
    low = λ i h. cond_ind (lt_z (f i) (g i)) (f i) (g i) (Bound r L w z i) (λ t. (b i h).0) (λ t. (b i h).1);
    high = λ i h. cond_ind (lt_z (f i) (g i)) (g i) (f i) (Bound r L w z i) (λ t. (b i h).1) (λ t. (b i h).0);
  }

-- ---- the rounded limit points, and how far they are off the line
abbrev low : Run → (k : ℕ → ℕ → ℕ) → ℕ → ℤ
low r k i = up_sum r i -ℤ pos (k 0 i)

abbrev high : Run → (k : ℕ → ℕ → ℕ) → ℕ → ℤ
high r k i = down_sum r i +ℤ pos (k (last_stroke r) i)

abbrev aboveE : E → E
aboveE v = offE (var 0) (var 1) (var 2) (var 3) (var 4) v

module _ (r : Run) (L : Line) (i : ℕ) (v : ℤ) (k : ℕ) where
  abbrev ρ : List ℤ
  ρ = pos L.q ∷ pos r.n ∷ L.a ∷ L.b ∷ input r i ∷ v ∷ pos k ∷ []

  less_off : nat_abs (above r L (v -ℤ pos k) i) ≡ nat_abs (above r L v i -ℤ pos L.q *ℤ pos k)
  less_off = ap nat_abs (ring ρ (aboveE (var 5 ⊖ var 6)) (aboveE (var 5) ⊖ var 0 ⊗ var 6) tt)

  more_off : nat_abs (above r L (v +ℤ pos k) i) ≡ nat_abs (neg_ℤ (above r L v i) -ℤ pos L.q *ℤ pos k)
  more_off = sym (size_neg (above r L (v +ℤ pos k) i)) ∙ ap nat_abs (ring ρ (neg (aboveE (var 5 ⊕ var 6))) (neg (aboveE (var 5)) ⊖ var 0 ⊗ var 6) tt)

module _ (r : Run) {limit : ℕ → ℕ → Cut} {k : ℕ → ℕ → ℕ} (R : (s i : ℕ) → s ≤ last_stroke r → i < r.m → Rounds (limit s i) (k s i)) (L : Line) (w z : ℕ) (hz : 0 < z) where
  -- a line within w/z of the rounded points keeps every exact one closer than n·w/z + 1 sum units
  pub kept : Within (limit_points r k) L w z → KeepsCloser r limit L (pos r.n *ℤ pos w +ℤ pos z) z
  kept W = record {
    up = λ i h. closer (R 0 i (omega arith) h) (above r L (up_sum r i) i) L.q (r.n * w) z L.some hz (moved (less_off r L i (up_sum r i) (k 0 i)) (both i h).0);
    down = λ i h. closer (R (last_stroke r) i (omega arith) h) (neg_ℤ (above r L (down_sum r i) i)) L.q (r.n * w) z L.some hz (moved (more_off r L i (down_sum r i) (k (last_stroke r) i)) (both i h).1);
  }
    where
      both : (i : ℕ) → i < r.m → Bound r L w z i (low r k i) × Bound r L w z i (high r k i)
      both = both_bounds r (low r k) (high r k) L w z W

      moved : {u v : ℕ} → u ≡ v → u * z ≤ w * (L.q * r.n) → v * z ≤ r.n * w * L.q
      moved e h = omega (arith, ap (λ (t : ℕ). t * z) e)

  -- no line keeps every exact point within n·w/z - 1 sum units where w/z is the least width of the rounded ones: it would be closer than w/z to each of those
  pub lost : 0 < r.m → 0 < r.n → Least All (limit_points r k) w z → Keeps r limit L (pos r.n *ℤ pos w -ℤ pos z) z → ⊥
  lost hm hn M K =
      fall
      (M.least L (w * d - 1) (z * d) tt (nat_positive (positive_mul (positive_nat hz) (positive_mul (positive_nat L.some) (positive_nat hn))))
      (bounds_both r (low r k) (high r k) L (w * d - 1) (z * d) (λ i h. (tighter _ (up i h), tighter _ (down i h)))))
    where
      d : ℕ
      d = L.q * r.n

      moved : {u v : ℕ} → u ≡ v → v * z < r.n * w * L.q → u * z < w * d
      moved e h = omega (arith, ap (λ (t : ℕ). t * z) e)

      up : (i : ℕ) → i < r.m → nat_abs (above r L (low r k i) i) * z < w * d
      up i h = moved (less_off r L i (up_sum r i) (k 0 i)) (strictly (R 0 i (omega arith) h) (above r L (up_sum r i) i) L.q (r.n * w) z L.some hz (K.up i h))

      down : (i : ℕ) → i < r.m → nat_abs (above r L (high r k i) i) * z < w * d
      down i h = moved (more_off r L i (down_sum r i) (k (last_stroke r) i)) (strictly (R (last_stroke r) i (omega arith) h) (neg_ℤ (above r L (down_sum r i) i)) L.q (r.n * w) z L.some hz (K.down i h))

      tighter : (v : ℕ) → v * z < w * d → v * (z * d) ≤ (w * d - 1) * d
      tighter v h = let l : v * z ≤ w * d - 1 = omega arith in omega (arith, mul-le-mul_right d l)

      fall : w * (z * d) ≤ (w * d - 1) * z → ⊥
      fall h = let e : suc (w * d - 1) ≡ w * d = omega (arith, up 0 hm) in omega (arith, ap (λ (t : ℕ). t * z) e, hz)
