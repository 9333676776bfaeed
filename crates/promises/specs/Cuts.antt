-- A limit that is known as a cut, and rounded up to k: the limit lies above k - 1 and is at most k. So what is within a distance of one is less than a unit more from the other.
use Rattle.std.specs.Prelude.{◌⊎◌, ◌∷◌, [], ℕ, zero, suc, ◌*◌, ◌<◌, ◌≤◌, ℤ, pos, nat_abs, ◌+ℤ◌, ◌-ℤ◌, ◌*ℤ◌, ◌≤ℤ◌, ◌<ℤ◌}
use Rattle.std.proofs.Common.{inl, inr, arith}
use Rattle.whole.specs.Balance as B
use Rattle.whole.specs.Balance.{int, nat, ◌⊞◌, ◌⊠◌}
use Rattle.whole.specs.Poly.{var, lit, neg, ◌⊕◌, ◌⊖◌, ◌⊗◌}
use Rattle.whole.specs.Order.{lt_by, le_of, lt_of}
use Rattle.whole.specs.Sign.{NonNeg, le_or_gt, positive_nat, positive_mul, nat_positive}
use Rattle.whole.specs.Size.{size_of, size_by<}
use Rattle.groups.specs.Cut.{Cut, RoundedUp}
use Rattle.promises.specs.Exact.{Near, Nearer}

-- one number from 0 up is told: it is known on both sides of every fraction; with a fraction that it is at most it is at most every greater one, and no fraction that it is at least is greater than one that it is at most
pub record IsCut (A : Cut) : Type 0 where
  pub known : (t : ℤ) (q : ℕ) → 0 < q → A.AtMost t q ⊎ A.AtLeast t q
  pub rises : (t t' : ℤ) (q q' : ℕ) → 0 < q → 0 < q' → (t *ℤ pos q') ≤ℤ (t' *ℤ pos q) → A.AtMost t q → A.AtMost t' q'
  pub between : (s t : ℤ) (p q : ℕ) → 0 < p → 0 < q → A.AtLeast s p → A.AtMost t q → (s *ℤ pos q) ≤ℤ (t *ℤ pos p)
  pub from_zero : (t : ℤ) (q : ℕ) → 0 < q → A.AtMost t q → NonNeg t
  pub under_zero : (t : ℤ) (q : ℕ) → 0 < q → t ≤ℤ pos 0 → A.AtLeast t q

pub record Rounds (A : Cut) (k : ℕ) : Type 0 where
  pub cut : IsCut A
  pub up : RoundedUp A k

module _ {A : Cut} {k : ℕ} (R : Rounds A k) where
  -- the limit is at most t/s, so k is less than t/s + 1: else k - 1 would do
  over : (t : ℤ) (s : ℕ) → 0 < s → A.AtMost t s → (pos s *ℤ pos k) <ℤ (t +ℤ pos s)
  over t s h a = go k R.up.first
    where
      go : (k : ℕ) → ((j : ℕ) → A.AtMost (pos j) 1 → k ≤ j) → (pos s *ℤ pos k) <ℤ (t +ℤ pos s)
      go zero first = B.lt_by (nat s ⊠ nat 0) (int t ⊞ nat s) (omega (arith, B.le_of (nat 0) (int t) (R.cut.from_zero t s h a)))
      go (suc j) first = less (le_or_gt (t *ℤ pos 1) (pos j *ℤ pos s))
        where
          less : ((t *ℤ pos 1) ≤ℤ (pos j *ℤ pos s)) ⊎ ((pos j *ℤ pos s) <ℤ (t *ℤ pos 1)) → (pos s *ℤ pos (suc j)) <ℤ (t +ℤ pos s)
          less (inl l) = absurd (omega (arith, first j (R.cut.rises t (pos j) s 1 h (omega arith) l a)))
          less (inr l) = B.lt_by (nat s ⊠ nat (suc j)) (int t ⊞ nat s) (omega (arith, B.lt_of (nat j ⊠ nat s) (int t ⊠ nat 1) l))

  -- the limit is at least t/s, so k is too
  under : (t : ℤ) (s : ℕ) → 0 < s → A.AtLeast t s → t ≤ℤ (pos s *ℤ pos k)
  under t s h a = B.le_by (int t) (nat s ⊠ nat k) (omega (arith, B.le_of (int t ⊠ nat 1) (nat k ⊠ nat s) (R.cut.between t (pos k) s 1 h (omega arith) a R.up.up)))

  -- the limit against g/q: its rounding lies (g - q·k)/q from there
  module _ (g : ℤ) (q w z : ℕ) (hq : 0 < q) (hz : 0 < z) where
    some : 0 < z * q
    some = nat_positive (positive_mul (positive_nat hz) (positive_nat hq))

    -- where k is within w/z, the limit is closer than w/z + 1
    pub closer : nat_abs (g -ℤ pos q *ℤ pos k) * z ≤ w * q → Nearer A g q (pos w +ℤ pos z) z
    closer h =
        let a = size_of (g -ℤ pos q *ℤ pos k) z (w * q) h in
        let ρ = pos z ∷ g ∷ pos q ∷ pos w ∷ pos k ∷ [] in
        let z' = var 0 in let g' = var 1 in let q' = var 2 in let w' = var 3 in let k' = var 4 in
        let s = lt_of ρ (lit 0) (z' ⊗ q') (positive_nat some) in
        record {
          top = λ n. omega (arith, s, le_of ρ (z' ⊗ neg (g' ⊖ q' ⊗ k')) (w' ⊗ q') a.1, le_of ρ (z' ⊗ g' ⊕ (w' ⊕ z') ⊗ q') (z' ⊗ q' ⊗ k') (under (pos z *ℤ g +ℤ (pos w +ℤ pos z) *ℤ pos q) (z * q) some n));
          bottom = λ n. omega (arith, le_of ρ (z' ⊗ (g' ⊖ q' ⊗ k')) (w' ⊗ q') a.0, lt_of ρ (z' ⊗ q' ⊗ k') (z' ⊗ g' ⊖ (w' ⊕ z') ⊗ q' ⊕ z' ⊗ q') (over (pos z *ℤ g -ℤ (pos w +ℤ pos z) *ℤ pos q) (z * q) some n));
        }

    -- where the limit is within w/z - 1, k is closer than w/z
    pub strictly : Near A g q (pos w -ℤ pos z) z → nat_abs (g -ℤ pos q *ℤ pos k) * z < w * q
    strictly n =
        let ρ = pos z ∷ g ∷ pos q ∷ pos w ∷ pos k ∷ [] in
        let z' = var 0 in let g' = var 1 in let q' = var 2 in let w' = var 3 in let k' = var 4 in
        let s = lt_of ρ (lit 0) (z' ⊗ q') (positive_nat some) in
        size_by< (g -ℤ pos q *ℤ pos k) z (w * q)
        (lt_by ρ (z' ⊗ (g' ⊖ q' ⊗ k')) (w' ⊗ q') (omega (arith, s, le_of ρ (z' ⊗ g' ⊖ (w' ⊖ z') ⊗ q') (z' ⊗ q' ⊗ k') (under (pos z *ℤ g -ℤ (pos w -ℤ pos z) *ℤ pos q) (z * q) some n.bottom))))
        (lt_by ρ (z' ⊗ neg (g' ⊖ q' ⊗ k')) (w' ⊗ q') (omega (arith, lt_of ρ (z' ⊗ q' ⊗ k') (z' ⊗ g' ⊕ (w' ⊖ z') ⊗ q' ⊕ z' ⊗ q') (over (pos z *ℤ g +ℤ (pos w -ℤ pos z) *ℤ pos q) (z * q) some n.top))))
