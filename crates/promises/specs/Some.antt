-- Of finitely many numbers there is a largest. That the other parts of an answer are there is in `exact`: a fraction in lowest terms in `Exists`, a nearest whole number in `RoundingLaws`.
use Rattle.std.specs.Prelude.{refl, ℕ, ◌-◌, ◌<◌, ◌≤◌, ℤ, pos, neg_ℤ, ◌≤ℤ◌}
use Rattle.std.proofs.Common.{arith}
use Rattle.whole.specs.Balance as B
use Rattle.whole.specs.Balance.{int, nat, opp, ◌⊠◌}
use Rattle.band.specs.Highest.{highest}
use Rattle.bands.specs.Through.{LargestOf}

-- ---- the largest
pub record Top (m : ℕ) (f : ℕ → ℤ) : Type 0 where
  pub at : ℕ
  pub fits : at < m
  pub all : (k : ℕ) → k < m → f k ≤ℤ f at

pub some_top : (m : ℕ) → 1 ≤ m → (f : ℕ → ℤ) → Top m f
some_top m h f =
    let r = highest f (λ k. pos 1) (m - 1) (λ k l. record { lt = tt }) in
    record {
      at = r.at;
      fits = omega (arith, r.fits);
      all = λ k l. B.le_by (int (f k)) (int (f r.at)) (omega (arith, B.le_of (int (f k) ⊠ nat 1) (int (f r.at) ⊠ nat 1) (r.all k (omega arith))));
    }

-- of the numbers turned round, the smallest
pub turned : (a b : ℤ) → neg_ℤ b ≤ℤ neg_ℤ a → a ≤ℤ b
turned a b h = B.le_by (int a) (int b) (omega (arith, B.le_of (opp (int b)) (opp (int a)) h))

pub some_largest : (m : ℕ) → 1 ≤ m → (g : ℕ → ℕ) → (w : ℕ) × LargestOf m g w
some_largest m h g =
    let t = some_top m h (λ k. pos (g k)) in
    (g t.at, record { most = λ i l. omega (arith, B.le_of (nat (g i)) (nat (g t.at)) (t.all i l)); place = t.at; within = t.fits; reached = refl })
