-- Of finitely many fractions one is the greatest.
use Rattle.std.specs.Prelude.{◌≡◌, ◌⊎◌, ℕ, zero, suc, ◌≤◌, ℤ, ◌*ℤ◌, ◌≤ℤ◌, ◌<ℤ◌}
use Rattle.std.proofs.Common.{subst, inl, inr, arith}
use Rattle.std.specs.Int.Signed.{≤ℤ_refl}
use Rattle.whole.specs.Sign.{Positive, weaken, le_or_gt}
use Rattle.whole.specs.Uses.{across}
use Rattle.band.specs.Place.{Place, before, same, after, place}

-- the fraction at k is at most the one at t
abbrev UpTo : (n e : ℕ → ℤ) (t k : ℕ) → Type 0
UpTo n e t k = (n k *ℤ e t) ≤ℤ (n t *ℤ e k)

-- the greatest of n 0/e 0 to n m/e m
pub record Highest (n e : ℕ → ℤ) (m : ℕ) : Type 0 where
  pub at : ℕ
  pub fits : at ≤ m
  pub all : (k : ℕ) → k ≤ m → (n k *ℤ e at) ≤ℤ (n at *ℤ e k)

module _ (n e : ℕ → ℤ) where
  one_more : (m t : ℕ) → ((k : ℕ) → k ≤ m → UpTo n e t k) → UpTo n e t (suc m) → (k : ℕ) → k ≤ suc m → UpTo n e t k
  one_more m t f g k l = go (place k (suc m))
    where
      go : Place k (suc m) → UpTo n e t k
      go (before a) = f k (omega arith)
      go (same a) = subst (UpTo n e t) a g
      go (after a) = absurd (omega arith)

  pub highest : (m : ℕ) → ((k : ℕ) → k ≤ m → Positive (e k)) → Highest n e m
  highest zero h = record { at = 0; fits = omega arith; all = λ k l. let z : 0 ≡ k = omega arith in subst (UpTo n e 0) z (≤ℤ_refl _) }
  highest (suc m) h = go (highest m (λ k l. h k (omega arith)))
    where
      go : Highest n e m → Highest n e (suc m)
      go r = pick (le_or_gt (n t *ℤ e s) (n s *ℤ e t))
        where
          t : ℕ
          t = r.at

          s : ℕ
          s = suc m

          to_last : UpTo n e s t → (k : ℕ) → k ≤ m → UpTo n e s k
          to_last a k l = across (n k) (e k) (n t) (e t) (n s) (e s) (h k (omega arith)) (h t (omega (arith, r.fits))) (h s (omega arith)) (r.all k l) a

          pick : (UpTo n e s t) ⊎ ((n s *ℤ e t) <ℤ (n t *ℤ e s)) → Highest n e (suc m)
          pick (inl a) = record { at = s; fits = omega arith; all = one_more m s (to_last a) (≤ℤ_refl _) }
          pick (inr a) = record { at = t; fits = omega (arith, r.fits); all = one_more m t r.all (weaken a) }
