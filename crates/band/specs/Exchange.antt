-- Where no candidate is more than twice the level, a line that touches the level where a candidate says has every value inside it:
-- a value beyond the level would make a greater candidate, with two of the values that touch.
use Rattle.std.proofs.Common.{subst, arith}
use Rattle.std.specs.Prelude.{List, ◌∷◌, [], ℕ, ◌<◌, ℤ, pos, ◌+ℤ◌, ◌-ℤ◌}
use Rattle.whole.specs.Poly.{E, var, lit, neg, ◌⊕◌, ◌⊖◌, ◌⊗◌}
use Rattle.whole.specs.Ring.{ring}
use Rattle.whole.specs.Sign.{NonNeg, le_sign, weaken, nonneg_add, cert}
use Rattle.band.specs.Line.{Points}
use Rattle.band.specs.Place.{Place, before, same, after, place}
use Rattle.band.specs.Candidate.{one, up, down, Fits, upE, Rising, apart}
use Rattle.band.specs.Seen.{Inside}
use Rattle.band.specs.Mirror.{mirror, mirror_rising, mirror_inside}
use Rattle.band.specs.Bound.{Bounded, Top, Bottom, Touches, bounded_mirror, T', xi, xj, xk, hi, lj, hk}

-- room to the level, above the highest value at p and below the lowest
abbrev Above : Points → ℤ → ℕ → Type 0
Above Q T p = NonNeg (T -ℤ Q.high p)

abbrev Below : Points → ℤ → ℕ → Type 0
Below Q T p = NonNeg (T +ℤ Q.low p)

-- ---- one candidate: where all of its values but one touch, the last has room
-- what twice the level is more than `up`
abbrev rest : E
rest = lit 2 ⊗ T' ⊗ (xk ⊖ xi) ⊖ upE xi xj xk hi lj hk

module _ {Q : Points} {T : ℤ} (rising : Rising Q) (B : Bounded Q T) (i j k : ℕ) (h : Fits Q (up i j k)) where
  abbrev ρ : List ℤ
  ρ = T ∷ Q.x i ∷ Q.x j ∷ Q.x k ∷ Q.high i ∷ Q.low j ∷ Q.high k ∷ []

  jm : j < Q.m
  jm = omega (arith, h.1, h.2)

  ik : i < k
  ik = omega (arith, h.0, h.1)

  up_first : Bottom Q T j → Top Q T k → Above Q T i
  up_first b c =
      cert {a = pos 1} (apart rising h.1 h.2) (record { le = tt }) (le_sign (B.all (up i j k) h)) (weaken (apart rising h.0 jm)) c (weaken (apart rising ik h.2)) b
      (ring ρ ((xk ⊖ xj) ⊗ (T' ⊖ hi)) (lit 1 ⊗ rest ⊕ (xj ⊖ xi) ⊗ (hk ⊖ T') ⊕ (xk ⊖ xi) ⊗ (neg lj ⊖ T')) tt)

  up_middle : Top Q T i → Top Q T k → Below Q T j
  up_middle a c =
      cert {a = pos 1} (apart rising ik h.2) (record { le = tt }) (le_sign (B.all (up i j k) h)) (weaken (apart rising h.1 h.2)) a (weaken (apart rising h.0 jm)) c
      (ring ρ ((xk ⊖ xi) ⊗ (T' ⊕ lj)) (lit 1 ⊗ rest ⊕ (xk ⊖ xj) ⊗ (hi ⊖ T') ⊕ (xj ⊖ xi) ⊗ (hk ⊖ T')) tt)

  up_last : Top Q T i → Bottom Q T j → Above Q T k
  up_last a b =
      cert {a = pos 1} (apart rising h.0 jm) (record { le = tt }) (le_sign (B.all (up i j k) h)) (weaken (apart rising h.1 h.2)) a (weaken (apart rising ik h.2)) b
      (ring ρ ((xj ⊖ xi) ⊗ (T' ⊖ hk)) (lit 1 ⊗ rest ⊕ (xk ⊖ xj) ⊗ (hi ⊖ T') ⊕ (xk ⊖ xi) ⊗ (neg lj ⊖ T')) tt)

module _ {Q : Points} {T : ℤ} (B : Bounded Q T) (p : ℕ) (h : p < Q.m) where
  abbrev ends : List ℤ
  ends = T ∷ Q.low p ∷ Q.high p ∷ []

  one_above : Bottom Q T p → Above Q T p
  one_above b = subst NonNeg (ring ends (lit 2 ⊗ T' ⊗ lit 1 ⊖ (var 2 ⊖ var 1) ⊕ (neg (var 1) ⊖ T')) (T' ⊖ var 2) tt) (nonneg_add (le_sign (B.all (one p) h)) b)

  one_below : Top Q T p → Below Q T p
  one_below a = subst NonNeg (ring ends (lit 2 ⊗ T' ⊗ lit 1 ⊖ (var 2 ⊖ var 1) ⊕ (var 2 ⊖ T')) (T' ⊕ var 1) tt) (nonneg_add (le_sign (B.all (one p) h)) a)

-- ---- `down`, by the mirror
bottom_mirror : (Q : Points) (T : ℤ) (p : ℕ) → Top Q T p → Bottom (mirror Q) T p
bottom_mirror Q T p a = subst NonNeg (ring (T ∷ Q.high p ∷ []) (var 1 ⊖ T') (neg (neg (var 1)) ⊖ T') tt) a

below_mirror : (Q : Points) (T : ℤ) (p : ℕ) → Above (mirror Q) T p → Below Q T p
below_mirror Q T p a = subst NonNeg (ring (T ∷ Q.low p ∷ []) (T' ⊖ neg (var 1)) (T' ⊕ var 1) tt) a

module _ {Q : Points} {T : ℤ} (rising : Rising Q) (B : Bounded Q T) (i j k : ℕ) (h : Fits Q (down i j k)) where
  down_first : Top Q T j → Bottom Q T k → Below Q T i
  down_first b c = below_mirror Q T i (up_first (mirror_rising rising) (bounded_mirror B) i j k h (bottom_mirror Q T j b) c)

  down_middle : Bottom Q T i → Bottom Q T k → Above Q T j
  down_middle a c = up_middle (mirror_rising rising) (bounded_mirror B) i j k h a c

  down_last : Bottom Q T i → Top Q T j → Below Q T k
  down_last a b = below_mirror Q T k (up_last (mirror_rising rising) (bounded_mirror B) i j k h a (bottom_mirror Q T j b))

-- ---- all inputs
pub up_inside : {Q : Points} {T : ℤ} → Rising Q → Bounded Q T → (i j k : ℕ) → Fits Q (up i j k) → Touches Q T (up i j k) → Inside Q T
up_inside {Q} {T} rising B i j k h t = record { above = λ p l. top p l (place p j); below = λ p l. low p l (place p i) (place p k) }
  where
    ij : i < j
    ij = h.0

    jk : j < k
    jk = h.1

    km : k < Q.m
    km = h.2

    jm : j < Q.m
    jm = omega (arith, jk, km)

    top : (p : ℕ) → p < Q.m → Place p j → Above Q T p
    top p l (before a) = up_first rising B p j k (a, jk, km) t.1 t.2
    top p l (same e) = one_above B p l (subst (Bottom Q T) e t.1)
    top p l (after a) = up_last rising B i j p (ij, a, l) t.0 t.1

    low : (p : ℕ) → p < Q.m → Place p i → Place p k → Below Q T p
    low p l (before a) b = down_first rising B p i j (a, ij, jm) t.0 t.1
    low p l (same e) b = one_below B p l (subst (Top Q T) e t.0)
    low p l (after a) (before b) = up_middle rising B i p k (a, b, km) t.0 t.2
    low p l (after a) (same e) = one_below B p l (subst (Top Q T) e t.2)
    low p l (after a) (after b) = down_last rising B j k p (jk, b, l) t.1 t.2

pub down_inside : {Q : Points} {T : ℤ} → Rising Q → Bounded Q T → (i j k : ℕ) → Fits Q (down i j k) → Touches Q T (down i j k) → Inside Q T
down_inside {Q} {T} rising B i j k h t = mirror_inside (up_inside (mirror_rising rising) (bounded_mirror B) i j k h (t.0, bottom_mirror Q T j t.1, t.2))

pub pair_inside : {Q : Points} {T : ℤ} → Rising Q → Bounded Q T → (i j : ℕ) → i < j → j < Q.m → Touches Q T (one i) → Touches Q T (one j) → Inside Q T
pair_inside {Q} {T} rising B i j ij jm s t = record { above = λ p l. top p l (place p i) (place p j); below = λ p l. low p l (place p i) (place p j) }
  where
    top : (p : ℕ) → p < Q.m → Place p i → Place p j → Above Q T p
    top p l (before a) b = up_first rising B p i j (a, ij, jm) s.1 t.0
    top p l (same e) b = one_above B p l (subst (Bottom Q T) e s.1)
    top p l (after a) (before b) = down_middle rising B i p j (a, b, jm) s.1 t.1
    top p l (after a) (same e) = one_above B p l (subst (Bottom Q T) e t.1)
    top p l (after a) (after b) = up_last rising B i j p (ij, b, l) s.0 t.1

    low : (p : ℕ) → p < Q.m → Place p i → Place p j → Below Q T p
    low p l (before a) b = down_first rising B p i j (a, ij, jm) s.0 t.1
    low p l (same e) b = one_below B p l (subst (Top Q T) e s.0)
    low p l (after a) (before b) = up_middle rising B i p j (a, b, jm) s.0 t.0
    low p l (after a) (same e) = one_below B p l (subst (Top Q T) e t.0)
    low p l (after a) (after b) = down_last rising B i j p (ij, b, l) s.1 t.0
