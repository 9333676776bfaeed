-- A root is a cut, and so are the exact limits of a run.
use Rattle.std.specs.Prelude.{◌≡◌, ◌⊎◌, ◌∷◌, [], ℕ, ◌*◌, ◌-◌, ◌<◌, ◌≤◌, ℤ, pos, ◌+ℤ◌, ◌-ℤ◌, ◌*ℤ◌, ◌≤ℤ◌, ◌<ℤ◌}
use Rattle.std.proofs.Common.{subst, inl, inr, arith}
use Rattle.std.proofs.Math.IntN.{*ℤ_comm}
use Rattle.whole.specs.Poly.{var, lit, ◌⊕◌, ◌⊖◌, ◌⊗◌}
use Rattle.whole.specs.Ring.{ring}
use Rattle.whole.specs.Order.{le_by, le_of, lt_of, mul_le}
use Rattle.whole.specs.Sign.{NonNeg, weaken, Positive, le_sign, sign_le, lt_sign, le_trans, le_or_gt, nonneg_add, positive_add, nonneg_mul, positive_mul, cancel_le, cert, nonneg_nat, positive_nat}
use Rattle.run.specs.Run.{last_stroke}
use Rattle.run.specs.declared.Run.{Run}
use Rattle.groups.specs.Sums.{bessel, factor}
use Rattle.groups.specs.Cut.{root, exact_limit, LimitsOf}
use Rattle.promises.specs.Cuts.{IsCut, Rounds}

module _ (e : ℤ) (f : ℕ) (some : 0 < f) where
  -- by certificate: what t'·t'·f is more than e·q'·q', times q·q, is a sum of products of numbers that are not negative
  rises : (t t' : ℤ) (q q' : ℕ) → 0 < q → 0 < q' → (t *ℤ pos q') ≤ℤ (t' *ℤ pos q) → (root e f).AtMost t q → (root e f).AtMost t' q'
  rises t t' q q' hq hq' h a = (
    cancel_le (positive_nat hq) (subst NonNeg (*ℤ_comm t' (pos q)) upper),
    sign_le (cert (positive_mul (positive_nat hq) (positive_nat hq)) (nonneg_mul (nonneg_nat f) (le_sign h)) (nonneg_add upper lower) (nonneg_nat (q' * q')) (le_sign a.1) (nonneg_nat 0) (nonneg_nat 0) identity),
  )
    where
      lower : NonNeg (t *ℤ pos q')
      lower = nonneg_mul a.0 (nonneg_nat q')

      upper : NonNeg (t' *ℤ pos q)
      upper = le_trans lower h

      identity :
          pos (q * q) *ℤ (t' *ℤ t' *ℤ pos f -ℤ e *ℤ pos (q' * q'))
          ≡ pos f *ℤ (t' *ℤ pos q -ℤ t *ℤ pos q') *ℤ (t' *ℤ pos q +ℤ t *ℤ pos q') +ℤ pos (q' * q') *ℤ (t *ℤ t *ℤ pos f -ℤ e *ℤ pos (q * q)) +ℤ pos 0
      identity =
          let ρ = e ∷ pos f ∷ t ∷ t' ∷ pos q ∷ pos q' ∷ [] in
          let e = var 0 in let f = var 1 in let t = var 2 in let t' = var 3 in let q = var 4 in let q' = var 5 in
          ring ρ (q ⊗ q ⊗ (t' ⊗ t' ⊗ f ⊖ e ⊗ (q' ⊗ q'))) (f ⊗ (t' ⊗ q ⊖ t ⊗ q') ⊗ (t' ⊗ q ⊕ t ⊗ q') ⊕ q' ⊗ q' ⊗ (t ⊗ t ⊗ f ⊖ e ⊗ (q ⊗ q)) ⊕ lit 0) tt

  between : (s t : ℤ) (p q : ℕ) → 0 < p → 0 < q → (root e f).AtLeast s p → (root e f).AtMost t q → (s *ℤ pos q) ≤ℤ (t *ℤ pos p)
  between s t p q hp hq (inl h) a =
      let ρ = s ∷ t ∷ pos p ∷ pos q ∷ [] in
      let s' = var 0 in let t' = var 1 in let p' = var 2 in let q' = var 3 in
      le_by ρ (s' ⊗ q') (t' ⊗ p') (omega (arith, le_of ρ (q' ⊗ s') (q' ⊗ lit 0) (mul_le (nonneg_nat q) h), le_of ρ (p' ⊗ lit 0) (p' ⊗ t') (mul_le (nonneg_nat p) a.0)))
  between s t p q hp hq (inr h) a = go (le_or_gt (s *ℤ pos q) (t *ℤ pos p))
    where
      -- were s/p the greater, so would its square be
      greater : (t *ℤ pos p) <ℤ (s *ℤ pos q) → ⊥
      greater l =
          let ρ = s ∷ t ∷ pos p ∷ pos q ∷ pos f ∷ e ∷ [] in
          let s' = var 0 in let t' = var 1 in let p' = var 2 in let q' = var 3 in let f' = var 4 in let e' = var 5 in
          let apart : Positive (s *ℤ pos q -ℤ t *ℤ pos p) = lt_sign l in
          let once : NonNeg (t *ℤ pos p) = nonneg_mul a.0 (nonneg_nat p) in
          let sum : Positive (t *ℤ pos p +ℤ t *ℤ pos p +ℤ (s *ℤ pos q -ℤ t *ℤ pos p)) = positive_add (nonneg_add once once) apart in
          omega (
            arith,
            lt_of ρ (lit 0) (f' ⊗ ((s' ⊗ q' ⊖ t' ⊗ p') ⊗ (t' ⊗ p' ⊕ t' ⊗ p' ⊕ (s' ⊗ q' ⊖ t' ⊗ p')))) (positive_mul (positive_nat some) (positive_mul apart sum)),
            le_of ρ (q' ⊗ q' ⊗ (s' ⊗ s' ⊗ f')) (q' ⊗ q' ⊗ (e' ⊗ (p' ⊗ p'))) (mul_le (nonneg_nat (q * q)) h),
            le_of ρ (p' ⊗ p' ⊗ (e' ⊗ (q' ⊗ q'))) (p' ⊗ p' ⊗ (t' ⊗ t' ⊗ f')) (mul_le (nonneg_nat (p * p)) a.1),
          )

      go : ((s *ℤ pos q) ≤ℤ (t *ℤ pos p)) ⊎ ((t *ℤ pos p) <ℤ (s *ℤ pos q)) → (s *ℤ pos q) ≤ℤ (t *ℤ pos p)
      go (inl l) = l
      go (inr l) = absurd (greater l)

  -- a fraction below zero is at most it, and of others the squares tell
  known : (t : ℤ) (q : ℕ) → 0 < q → (root e f).AtMost t q ⊎ (root e f).AtLeast t q
  known t q h = sides (le_or_gt (pos 0) t) (le_or_gt (e *ℤ pos (q * q)) (t *ℤ t *ℤ pos f))
    where
      sides : (pos 0 ≤ℤ t) ⊎ (t <ℤ pos 0) → ((e *ℤ pos (q * q)) ≤ℤ (t *ℤ t *ℤ pos f)) ⊎ ((t *ℤ t *ℤ pos f) <ℤ (e *ℤ pos (q * q))) → (root e f).AtMost t q ⊎ (root e f).AtLeast t q
      sides (inl l) (inl m) = inl (l, m)
      sides (inl l) (inr m) = inr (inr (weaken m))
      sides (inr l) m = inr (inl (weaken l))

  pub root_cut : IsCut (root e f)
  root_cut = record { known = known; rises = rises; between = between; from_zero = λ t q h a. a.0; under_zero = λ t q h l. inl l }

-- the limits of a run of two or more cycles are known as cuts, and rounded up
pub exact_cut : (r : Run) (s i : ℕ) → 2 ≤ r.n → IsCut (exact_limit r s i)
exact_cut r s i two = root_cut (pos (factor r.n * factor r.n * r.n) *ℤ bessel r s i) (1000000 * (r.n - 1)) (omega arith)

pub limits_round : (r : Run) {k : ℕ → ℕ → ℕ} → 2 ≤ r.n → LimitsOf r k → (s i : ℕ) → s ≤ last_stroke r → i < r.m → Rounds (exact_limit r s i) (k s i)
limits_round r two l s i hs hi = record { cut = exact_cut r s i two; up = l s i hs hi }
