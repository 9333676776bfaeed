-- Points as a line sees them: their heights above it, in whole numbers. The line is then the axis, and being within w/z of it is being within one number of 0;
-- so what follows is proved once, for the axis, and neither the line's numbers nor the unit of the values come into it.
use Rattle.std.specs.Prelude.{◌≡◌, List, ◌∷◌, [], ℕ, ◌*◌, ◌<◌, ◌≤◌, ℤ, pos, nat_abs, ◌+ℤ◌, ◌-ℤ◌, ◌*ℤ◌, ◌≤ℤ◌}
use Rattle.std.proofs.Common.{subst, arith}
use Rattle.whole.specs.Poly.{E, var, lit, neg, ◌⊕◌, ◌⊖◌, ◌⊗◌}
use Rattle.whole.specs.Ring.{ring}
use Rattle.whole.specs.Order.{le_by, le_of}
use Rattle.whole.specs.Sign.{NonNeg, le_sign, sign_le, nonneg_mul, nonneg_nat}
use Rattle.whole.specs.Size.{size_of, size_by}
use Rattle.band.specs.Line.{Line, Points, Proper, off, Within}
use Rattle.band.specs.Candidate.{Candidate, one, up, down, num, upE, downE, Rising}

-- each height is `off`, which counts units of 1/(q·d), times z
abbrev pub seen : Points → Line → ℕ → Points
seen P L z =
    record { m = P.m; d = 1; x = P.x; low = λ i. pos z *ℤ off P L (P.x i) (P.low i); high = λ i. pos z *ℤ off P L (P.x i) (P.high i) }

-- the deviation w/z, as a height
abbrev pub level : Points → Line → ℕ → ℤ
level P L w = pos (w * (L.q * P.d))

-- no value is further than T from the axis
pub record Inside (Q : Points) (T : ℤ) : Type 0 where
  pub above : (p : ℕ) → p < Q.m → NonNeg (T -ℤ Q.high p)
  pub below : (p : ℕ) → p < Q.m → NonNeg (T +ℤ Q.low p)

pub seen_rising : {P : Points} → Proper P → (L : Line) (z : ℕ) → Rising (seen P L z)
seen_rising proper L z = record { rise = proper.rise }

-- ---- within the deviation, and inside the level
pub within_inside : {P : Points} {L : Line} {w z : ℕ} → Within P L w z → Inside (seen P L z) (level P L w)
within_inside {P} {L} {w} {z} W = record {
  above = λ p h. le_sign (size_of (off P L (P.x p) (P.high p)) z (w * (L.q * P.d)) (W.high p h)).0;
  below = λ p h.
      let v = off P L (P.x p) (P.low p) in
      subst NonNeg (ring (pos z ∷ v ∷ level P L w ∷ []) (var 2 ⊖ var 0 ⊗ neg (var 1)) (var 2 ⊕ var 0 ⊗ var 1) tt) (le_sign (size_of v z (w * (L.q * P.d)) (W.low p h)).1);
}

-- a lowest value is not above the level since the highest is not; and the other way round
both_sizes : (z t : ℕ) (low high : ℤ) → NonNeg (pos z *ℤ (high -ℤ low)) → NonNeg (pos t -ℤ pos z *ℤ high) → NonNeg (pos t +ℤ pos z *ℤ low) → (nat_abs low * z ≤ t) × (nat_abs high * z ≤ t)
both_sizes z t low high apart above below =
    let ρ = pos z ∷ pos t ∷ low ∷ high ∷ [] in
    let z' = var 0 in let t' = var 1 in let l = var 2 in let h = var 3 in
    let a = le_of ρ (lit 0) (z' ⊗ (h ⊖ l)) apart in
    let b = le_of ρ (lit 0) (t' ⊖ z' ⊗ h) above in
    let c = le_of ρ (lit 0) (t' ⊕ z' ⊗ l) below in (
      size_by low z t (le_by ρ (z' ⊗ l) t' (omega arith)) (le_by ρ (z' ⊗ neg l) t' (omega arith)),
      size_by high z t (le_by ρ (z' ⊗ h) t' (omega arith)) (le_by ρ (z' ⊗ neg h) t' (omega arith)),
    )

pub off_order : {P : Points} → Proper P → (L : Line) (p : ℕ) → p < P.m → off P L (P.x p) (P.low p) ≤ℤ off P L (P.x p) (P.high p)
off_order {P} proper L p h =
    let q = var 0 in let line = var 1 in let low = var 2 in let high = var 3 in
    sign_le
    (subst NonNeg (ring (pos L.q ∷ (pos P.d *ℤ (L.a *ℤ P.x p +ℤ L.b)) ∷ P.low p ∷ P.high p ∷ []) (q ⊗ (high ⊖ low)) (q ⊗ high ⊖ line ⊖ (q ⊗ low ⊖ line)) tt)
    (nonneg_mul (nonneg_nat L.q) (le_sign (proper.order p h))))

pub inside_within : {P : Points} {L : Line} {w z : ℕ} → Proper P → Inside (seen P L z) (level P L w) → Within P L w z
inside_within {P} {L} {w} {z} proper I = record { low = λ p h. (both p h).0; high = λ p h. (both p h).1 }
  where
    at : ℕ → ℤ → ℤ
    at p v = off P L (P.x p) v

    both : (p : ℕ) → p < P.m → (nat_abs (at p (P.low p)) * z ≤ w * (L.q * P.d)) × (nat_abs (at p (P.high p)) * z ≤ w * (L.q * P.d))
    both p h = both_sizes z (w * (L.q * P.d)) (at p (P.low p)) (at p (P.high p)) (nonneg_mul (nonneg_nat z) (le_sign (off_order proper L p h))) (I.above p h) (I.below p h)

-- ---- a line changes no candidate but for the unit: what it takes from one side of the difference, it takes from the other
abbrev pub offE : (q d a b x v : E) → E
offE q d a b x v = q ⊗ v ⊖ d ⊗ (a ⊗ x ⊕ b)

pub seen_num : (P : Points) (L : Line) (z : ℕ) (c : Candidate) → num (seen P L z) c ≡ pos z *ℤ pos L.q *ℤ num P c
seen_num P L z c = go c
  where
    z' : E
    z' = var 0

    -- the height of the value v at the input x
    at : E → E → E
    at x v = z' ⊗ offE (var 1) (var 2) (var 3) (var 4) x v

    ρ : List ℤ → List ℤ
    ρ r = pos z ∷ pos L.q ∷ pos P.d ∷ L.a ∷ L.b ∷ r

    go : (c : Candidate) → num (seen P L z) c ≡ pos z *ℤ pos L.q *ℤ num P c
    go (one i) = let x = var 5 in let low = var 6 in let high = var 7 in ring (ρ (P.x i ∷ P.low i ∷ P.high i ∷ [])) (at x high ⊖ at x low) (z' ⊗ var 1 ⊗ (high ⊖ low)) tt
    go (up i j k) =
        let xi = var 5 in let xj = var 6 in let xk = var 7 in let u = var 8 in let v = var 9 in let w = var 10 in
        ring (ρ (P.x i ∷ P.x j ∷ P.x k ∷ P.high i ∷ P.low j ∷ P.high k ∷ [])) (upE xi xj xk (at xi u) (at xj v) (at xk w)) (z' ⊗ var 1 ⊗ upE xi xj xk u v w) tt
    go (down i j k) =
        let xi = var 5 in let xj = var 6 in let xk = var 7 in let u = var 8 in let v = var 9 in let w = var 10 in
        ring (ρ (P.x i ∷ P.x j ∷ P.x k ∷ P.low i ∷ P.high j ∷ P.low k ∷ [])) (downE xi xj xk (at xi u) (at xj v) (at xk w)) (z' ⊗ var 1 ⊗ downE xi xj xk u v w) tt
