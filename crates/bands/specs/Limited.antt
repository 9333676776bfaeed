-- Limits that agree at each group of a run: the same limit points, and the same largest.
use Rattle.std.specs.Prelude.{◌≡◌, refl, ℕ, ◌<◌, ◌≤◌, pos, nat_abs, ◌+ℤ◌, ◌-ℤ◌}
use Rattle.std.proofs.Common.{sym, ap₂, ◌∙◌, arith}
use Rattle.whole.specs.Greater.{smaller, greater}
use Rattle.run.specs.Run.{last_stroke}
use Rattle.run.specs.declared.Run.{Run}
use Rattle.groups.specs.Sums.{up_sum, down_sum}
use Rattle.bands.specs.Through.{limit_points, LargestOf, scatter}
use Rattle.bands.specs.Parts.{SamePoints}

-- at each group of the run
abbrev pub Agree : Run → (k l : ℕ → ℕ → ℕ) → Type 0
Agree r k l = (s i : ℕ) → s ≤ last_stroke r → i < r.m → k s i ≡ l s i

pub same_limit_points : (r : Run) {k l : ℕ → ℕ → ℕ} → Agree r k l → SamePoints (limit_points r k) (limit_points r l)
same_limit_points r e = record {
  m = refl;
  d = refl;
  x = λ i h. refl;
  low = λ i h. ap₂ (λ (a b : ℕ). smaller (up_sum r i -ℤ pos a) (down_sum r i +ℤ pos b)) (e 0 i (omega arith) h) (e (last_stroke r) i (omega arith) h);
  high = λ i h. ap₂ (λ (a b : ℕ). greater (up_sum r i -ℤ pos a) (down_sum r i +ℤ pos b)) (e 0 i (omega arith) h) (e (last_stroke r) i (omega arith) h);
}

pub same_scatter : (r : Run) {k l : ℕ → ℕ → ℕ} → Agree r k l → (i : ℕ) → i < r.m → scatter r k i ≡ scatter r l i
same_scatter r e i h = ap₂ (λ (a b : ℕ). nat_abs (greater (pos a) (pos b))) (e 0 i (omega arith) h) (e (last_stroke r) i (omega arith) h)

-- the largest of numbers that agree
pub largest_agree : {m : ℕ} {f g : ℕ → ℕ} {w : ℕ} → ((i : ℕ) → i < m → f i ≡ g i) → LargestOf m f w → LargestOf m g w
largest_agree e l = record { most = λ i h. rw (e i h) at (l.most i h); place = l.place; within = l.within; reached = sym (e l.place l.within) ∙ l.reached }
