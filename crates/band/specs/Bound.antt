-- Twice the level is at least every candidate where all values are inside it; and where a candidate is twice the level, each value that it is made of is as far from the axis as it may be.
use Rattle.std.specs.Prelude.{◌≡◌, List, ◌∷◌, [], ℕ, ◌<◌, ℤ, pos, neg_ℤ, ◌-ℤ◌, ◌*ℤ◌, ◌≤ℤ◌}
use Rattle.std.proofs.Common.{sym, ap, ◌∙◌, subst, arith}
use Rattle.std.specs.Int.Signed.{≤ℤ_refl}
use Rattle.whole.specs.Poly.{E, var, lit, neg, ◌⊕◌, ◌⊖◌, ◌⊗◌}
use Rattle.whole.specs.Ring.{ring}
use Rattle.whole.specs.Sign.{NonNeg, le_sign, sign_le, weaken, nonneg_add, cert}
use Rattle.band.specs.Line.{Points}
use Rattle.band.specs.Candidate.{Candidate, one, up, down, num, den, Fits, upE, Rising, apart}
use Rattle.band.specs.Seen.{Inside}
use Rattle.band.specs.Mirror.{mirror, flip, mirror_num, mirror_den, mirror_fits, mirror_rising, inside_mirror}

pub record Bounded (Q : Points) (T : ℤ) : Type 0 where
  pub all : (c : Candidate) → Fits Q c → num Q c ≤ℤ (pos 2 *ℤ T *ℤ den Q c)

abbrev pub Reaches : Points → ℤ → Candidate → Type 0
Reaches Q T c = (pos 2 *ℤ T *ℤ den Q c) ≤ℤ num Q c

-- the highest value at p is not below the level, and the lowest is not above it on the other side
abbrev pub Top : Points → ℤ → ℕ → Type 0
Top Q T p = NonNeg (Q.high p -ℤ T)

abbrev pub Bottom : Points → ℤ → ℕ → Type 0
Bottom Q T p = NonNeg (neg_ℤ (Q.low p) -ℤ T)

abbrev pub Touches : Points → ℤ → Candidate → Type 0
Touches Q T (one i) = Top Q T i × Bottom Q T i
Touches Q T (up i j k) = Top Q T i × Bottom Q T j × Top Q T k
Touches Q T (down i j k) = Bottom Q T i × Top Q T j × Bottom Q T k

pub touch_top : (T v : ℤ) → v ≡ T → NonNeg (v -ℤ T)
touch_top T v e = le_sign (subst (λ (t : ℤ). T ≤ℤ t) (sym e) (≤ℤ_refl T))

pub touch_bottom : (T v : ℤ) → v ≡ neg_ℤ T → NonNeg (neg_ℤ v -ℤ T)
touch_bottom T v e = touch_top T (neg_ℤ v) (ap neg_ℤ e ∙ ring (T ∷ []) (neg (neg (var 0))) (var 0) tt)

-- ---- the letters of the identities, here and in `Exchange`: the level, three inputs, and the three values of `up`
abbrev pub T' : E
T' = var 0

abbrev pub xi : E
xi = var 1

abbrev pub xj : E
xj = var 2

abbrev pub xk : E
xk = var 3

abbrev pub hi : E
hi = var 4

abbrev pub lj : E
lj = var 5

abbrev pub hk : E
hk = var 6

-- what is left to the level
abbrev above : E → E
above h = T' ⊖ h

abbrev below : E → E
below l = T' ⊕ l

-- what `up` is more than twice the level
abbrev more : E
more = upE xi xj xk hi lj hk ⊖ lit 2 ⊗ T' ⊗ (xk ⊖ xi)

module _ {Q : Points} (rising : Rising Q) {T : ℤ} (I : Inside Q T) (i j k : ℕ) (h : Fits Q (up i j k)) where
  abbrev ρ : List ℤ
  ρ = T ∷ Q.x i ∷ Q.x j ∷ Q.x k ∷ Q.high i ∷ Q.low j ∷ Q.high k ∷ []

  jm : j < Q.m
  jm = omega (arith, h.1, h.2)

  im : i < Q.m
  im = omega (arith, h.0, jm)

  ij : NonNeg (Q.x j -ℤ Q.x i)
  ij = weaken (apart rising h.0 jm)

  jk : NonNeg (Q.x k -ℤ Q.x j)
  jk = weaken (apart rising h.1 h.2)

  ik : NonNeg (Q.x k -ℤ Q.x i)
  ik = weaken (apart rising (omega (arith, h.0, h.1)) h.2)

  bounded_up : num Q (up i j k) ≤ℤ (pos 2 *ℤ T *ℤ den Q (up i j k))
  bounded_up =
      sign_le (cert {g = pos 1} (record { lt = tt }) jk (I.above i im) ik (I.below j jm) ij (I.above k h.2)
      (ring ρ (lit 1 ⊗ (lit 2 ⊗ T' ⊗ (xk ⊖ xi) ⊖ upE xi xj xk hi lj hk)) ((xk ⊖ xj) ⊗ above hi ⊕ (xk ⊖ xi) ⊗ below lj ⊕ (xj ⊖ xi) ⊗ above hk) tt))

  touches_up : Reaches Q T (up i j k) → Touches Q T (up i j k)
  touches_up r = (
    cert {a = pos 1} (apart rising h.1 h.2) (record { le = tt }) (le_sign r) ik (I.below j jm) ij (I.above k h.2)
        (ring ρ ((xk ⊖ xj) ⊗ (hi ⊖ T')) (lit 1 ⊗ more ⊕ (xk ⊖ xi) ⊗ below lj ⊕ (xj ⊖ xi) ⊗ above hk) tt),
    cert {a = pos 1} (apart rising (omega (arith, h.0, h.1)) h.2) (record { le = tt }) (le_sign r) jk (I.above i im) ij (I.above k h.2)
        (ring ρ ((xk ⊖ xi) ⊗ (neg lj ⊖ T')) (lit 1 ⊗ more ⊕ (xk ⊖ xj) ⊗ above hi ⊕ (xj ⊖ xi) ⊗ above hk) tt),
    cert {a = pos 1} (apart rising h.0 jm) (record { le = tt }) (le_sign r) ik (I.below j jm) jk (I.above i im)
        (ring ρ ((xj ⊖ xi) ⊗ (hk ⊖ T')) (lit 1 ⊗ more ⊕ (xk ⊖ xi) ⊗ below lj ⊕ (xk ⊖ xj) ⊗ above hi) tt),
  )

-- ---- all candidates
module _ {Q : Points} (rising : Rising Q) {T : ℤ} (I : Inside Q T) where
  abbrev ends : ℕ → List ℤ
  ends i = T ∷ Q.low i ∷ Q.high i ∷ []

  pub inside_bounded : Bounded Q T
  inside_bounded = record { all = go }
    where
      go : (c : Candidate) → Fits Q c → num Q c ≤ℤ (pos 2 *ℤ T *ℤ den Q c)
      go (one i) h = sign_le (subst NonNeg (ring (ends i) (above (var 2) ⊕ below (var 1)) (lit 2 ⊗ T' ⊗ lit 1 ⊖ (var 2 ⊖ var 1)) tt) (nonneg_add (I.above i h) (I.below i h)))
      go (up i j k) h = bounded_up rising I i j k h
      go (down i j k) h = subst (λ (t : ℤ). t ≤ℤ (pos 2 *ℤ T *ℤ den Q (down i j k))) (mirror_num Q (up i j k)) (bounded_up (mirror_rising rising) (inside_mirror I) i j k h)

  pub touches : (c : Candidate) → Fits Q c → Reaches Q T c → Touches Q T c
  touches (one i) h r =
      let over = var 2 ⊖ var 1 ⊖ lit 2 ⊗ T' ⊗ lit 1 in (
        subst NonNeg (ring (ends i) (over ⊕ below (var 1)) (var 2 ⊖ T') tt) (nonneg_add (le_sign r) (I.below i h)),
        subst NonNeg (ring (ends i) (over ⊕ above (var 2)) (neg (var 1) ⊖ T') tt) (nonneg_add (le_sign r) (I.above i h)),
      )
  touches (up i j k) h r = touches_up rising I i j k h r
  touches (down i j k) h r =
      let t = touches_up (mirror_rising rising) (inside_mirror I) i j k h (subst (λ (t : ℤ). (pos 2 *ℤ T *ℤ den Q (down i j k)) ≤ℤ t) (sym (mirror_num Q (up i j k))) r) in
      (t.0, subst NonNeg (ring (T ∷ Q.high j ∷ []) (neg (neg (var 1)) ⊖ T') (var 1 ⊖ T') tt) t.1, t.2)

pub bounded_mirror : {Q : Points} {T : ℤ} → Bounded Q T → Bounded (mirror Q) T
bounded_mirror {Q} {T} B = record { all = λ c h. rw (mirror_num Q c, mirror_den Q c) (B.all (flip c) (mirror_fits Q c h)) }
