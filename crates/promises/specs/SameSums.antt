-- Runs that are the same within have the same sums, limits, points and widths that are no line's.
use Rattle.std.specs.Prelude.{◌≡◌, refl, ℕ, zero, suc, ◌*◌, ◌-◌, ◌<◌, ℤ, pos, nat_abs, ◌+ℤ◌, ◌-ℤ◌, ◌*ℤ◌}
use Rattle.std.proofs.Common.{sym, ap, ap₂, ◌∙◌, subst, arith}
use Rattle.whole.specs.Greater.{smaller, greater}
use Rattle.run.specs.Run.{reading, last_stroke}
use Rattle.run.specs.declared.Run.{Run}
use Rattle.groups.specs.Sums.{sum_to, total, up_sum, down_sum, both_sum, squares, bessel, factor}
use Rattle.groups.specs.Cut.{Cut, root, exact_limit, RoundedUp, LimitsOf}
use Rattle.bands.specs.Through.{means, two_valued, stroke_points, limit_points, swing, scatter}
use Rattle.bands.specs.Parts.{SamePoints}
use Rattle.promises.specs.Demand2.{SameWithin}

-- either way round
pub within_sym : {r q : Run} → SameWithin r q → SameWithin q r
within_sym e = record {
  m = sym e.m;
  n = sym e.n;
  strokes = sym e.strokes;
  inputs = λ i h. sym (e.inputs i (omega (arith, e.m)));
  readings = λ s c i hs hc hi. sym (e.readings s c i (omega (arith, e.strokes)) (omega (arith, e.n)) (omega (arith, e.m)));
}

-- sums of numbers that agree
sum_same : (k : ℕ) (f g : ℕ → ℤ) → ((c : ℕ) → c < k → f c ≡ g c) → sum_to k f ≡ sum_to k g
unfolding sum_to
sum_same zero f g h = refl
sum_same (suc k) f g h = ap₂ ◌+ℤ◌ (sum_same k f g (λ c l. h c (omega arith))) (h k (omega arith))

module _ {r q : Run} (e : SameWithin r q) (some : 0 < q.strokes) where
  -- a sum over the cycles
  over_cycles : (f g : ℕ → ℤ) → ((c : ℕ) → c < q.n → f c ≡ g c) → sum_to r.n f ≡ sum_to q.n g
  over_cycles f g h = ap (λ (k : ℕ). sum_to k f) e.n ∙ sum_same q.n f g h

  total_same : (s i : ℕ) → s < q.strokes → i < q.m → total r s i ≡ total q s i
  total_same s i hs hi = over_cycles (λ c. reading r s c i) (λ c. reading q s c i) (λ c hc. e.readings s c i hs hc hi)

  squares_same : (s i : ℕ) → s < q.strokes → i < q.m → squares r s i ≡ squares q s i
  squares_same s i hs hi =
      over_cycles (λ c. reading r s c i *ℤ reading r s c i) (λ c. reading q s c i *ℤ reading q s c i) (λ c hc. ap (λ (y : ℤ). y *ℤ y) (e.readings s c i hs hc hi))

  last_same : last_stroke r ≡ last_stroke q
  last_same = ap (λ (k : ℕ). k - 1) e.strokes

  -- the sums of formulas 1 to 3
  pub up_same : (i : ℕ) → i < q.m → up_sum r i ≡ up_sum q i
  up_same i h = total_same 0 i some h

  pub down_same : (i : ℕ) → i < q.m → down_sum r i ≡ down_sum q i
  down_same i h = ap (λ (s : ℕ). total r s i) last_same ∙ total_same (last_stroke q) i (omega arith) h

  pub both_same : (i : ℕ) → i < q.m → both_sum r i ≡ both_sum q i
  both_same i h = ap₂ ◌+ℤ◌ (up_same i h) (down_same i h)

  -- ---- limits
  bessel_same : (s i : ℕ) → s < q.strokes → i < q.m → bessel r s i ≡ bessel q s i
  bessel_same s i hs hi j = pos (e.n j) *ℤ squares_same s i hs hi j -ℤ total_same s i hs hi j *ℤ total_same s i hs hi j

  limit_same : (s i : ℕ) → s < q.strokes → i < q.m → exact_limit r s i ≡ exact_limit q s i
  limit_same s i hs hi j = root (pos (factor (e.n j) * factor (e.n j) * e.n j) *ℤ bessel_same s i hs hi j) (1000000 * (e.n j - 1))

  pub limits_over : {k : ℕ → ℕ → ℕ} → LimitsOf r k → LimitsOf q k
  limits_over {k} l s i hs hi = let h : i < r.m = omega (arith, e.m) in subst (λ (A : Cut). RoundedUp A (k s i)) (limit_same s i (omega arith) hi) (l s i (omega (arith, e.strokes)) h)

  -- ---- points
  pub means_same : SamePoints (means r) (means q)
  means_same = record { m = e.m; d = ap (λ (n : ℕ). 2 * n) e.n; x = e.inputs; low = both_same; high = both_same }

  two_same : (f g f' g' : ℕ → ℤ) → ((i : ℕ) → i < q.m → f i ≡ f' i) → ((i : ℕ) → i < q.m → g i ≡ g' i) → SamePoints (two_valued r f g) (two_valued q f' g')
  two_same f g f' g' a b = record { m = e.m; d = e.n; x = e.inputs; low = λ i h. ap₂ smaller (a i h) (b i h); high = λ i h. ap₂ greater (a i h) (b i h) }

  pub strokes_same : SamePoints (stroke_points r) (stroke_points q)
  strokes_same = two_same (up_sum r) (down_sum r) (up_sum q) (down_sum q) up_same down_same

  pub limit_points_same : (k : ℕ → ℕ → ℕ) → SamePoints (limit_points r k) (limit_points q k)
  limit_points_same k =
      two_same (λ i. up_sum r i -ℤ pos (k 0 i)) (λ i. down_sum r i +ℤ pos (k (last_stroke r) i)) (λ i. up_sum q i -ℤ pos (k 0 i)) (λ i. down_sum q i +ℤ pos (k (last_stroke q) i))
      (λ i h. ap (λ (z : ℤ). z -ℤ pos (k 0 i)) (up_same i h))
      (λ i h. ap₂ (λ (z : ℤ) (s : ℕ). z +ℤ pos (k s i)) (down_same i h) last_same)

  pub scatter_same : (k : ℕ → ℕ → ℕ) (i : ℕ) → scatter r k i ≡ scatter q k i
  scatter_same k i = ap (λ (s : ℕ). nat_abs (greater (pos (k 0 i)) (pos (k s i)))) last_same

  pub swing_same : (i : ℕ) → i < q.m → swing r i ≡ swing q i
  swing_same i h = ap₂ (λ (d u : ℤ). nat_abs (d -ℤ u)) (down_same i h) (up_same i h)
