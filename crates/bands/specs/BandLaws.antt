-- Laws of widths: the largest so far.
use Rattle.std.specs.Prelude.{◌≡◌, refl, ℕ, ◌+◌, ◌<◌, ◌≤◌, ℤ, pos, nat_abs, ◌≤ℤ◌}
use Rattle.std.proofs.Common.{sym, ap₂, ◌∙◌, subst, arith, below_more, ltb→lt, nltb→le}
use Rattle.std.specs.Int.Signed.{lt_z}
use Rattle.whole.specs.Flags.{cond_ind}
use Rattle.whole.specs.Sign.{nonneg_nat, nat_nonneg}
use Rattle.whole.specs.Greater.{greater}
use Rattle.bands.specs.Through.{LargestOf}

-- ---- v is the largest of the first k of m widths
pub record Widest (g : ℕ → ℕ) (m k : ℕ) (v : ℤ) : Type 0 where
  pub reach : k ≤ m
  pub sign : pos 0 ≤ℤ v
  pub largest : LargestOf k g (nat_abs v)

pub widest_first : {g : ℕ → ℕ} {m : ℕ} {v : ℤ} → 1 ≤ m → v ≡ pos (g 0) → Widest g m 1 v
widest_first {g} {m} h e =
    subst (Widest g m 1) (sym e)
    (record { reach = h; sign = nonneg_nat (g 0); largest = record { most = below_more (λ i. g i ≤ g 0) 0 (λ i l. absurd (omega arith)) (omega arith); place = 0; within = omega arith; reached = refl } })

-- a turn keeps the greater of v and one width more
pub widest_more : {g : ℕ → ℕ} {m k : ℕ} {v w u : ℤ} → Widest g m k v → k < m → w ≡ pos (g k) → u ≡ greater v w → Widest g m (k + 1) u
widest_more {g} {m} {k} {v} a h e i =
    subst (Widest g m (k + 1)) (sym (i ∙ ap₂ greater (sym (nat_nonneg a.sign)) e))
    (cond_ind (lt_z (pos (nat_abs v)) (pos (g k))) (pos (g k)) (pos (nat_abs v)) (Widest g m (k + 1)) (λ t. new (ltb→lt (nat_abs v) (g k) t)) (λ t. old (nltb→le (nat_abs v) (g k) t)))
  where
    b : LargestOf k g (nat_abs v)
    b = a.largest

    new : nat_abs v < g k → Widest g m (k + 1) (pos (g k))
    new l = record { reach = omega arith; sign = nonneg_nat (g k); largest = record { most = below_more (λ j. g j ≤ g k) k (λ j s. omega (arith, b.most j s)) (omega arith); place = k; within = omega arith; reached = refl } }

    old : g k ≤ nat_abs v → Widest g m (k + 1) (pos (nat_abs v))
    old l = record { reach = omega arith; sign = nonneg_nat (nat_abs v); largest = record { most = below_more (λ j. g j ≤ nat_abs v) k b.most l; place = b.place; within = omega (arith, b.within); reached = b.reached } }

pub widest_all : {g : ℕ → ℕ} {m k : ℕ} {v : ℤ} → Widest g m k v → m ≤ k → LargestOf m g (nat_abs v)
widest_all {g} {m} {k} {v} a h = let e : k ≡ m = omega (arith, a.reach) in subst (λ (j : ℕ). LargestOf j g (nat_abs v)) e a.largest
