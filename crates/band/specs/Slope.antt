-- Lines through the middle of one input: each other input bounds their slope from below and from above. No lower bound is above an upper one where the input is the greatest candidate,
-- since the two differ by what another candidate falls short of it.
use Rattle.std.specs.Prelude.{◌≡◌, refl, List, ◌∷◌, [], ℕ, suc, ◌-◌, ◌<◌, ◌≤◌, ℤ, pos, ◌-ℤ◌, ◌*ℤ◌, ◌≤ℤ◌, ◌<ℤ◌}
use Rattle.std.proofs.Common.{sym, ap, subst, arith}
use Rattle.std.proofs.Math.Decide.{dec_lt}
use Rattle.whole.specs.Poly.{E, var, lit, ◌⊖◌, ◌⊗◌}
use Rattle.whole.specs.Ring.{ring}
use Rattle.whole.specs.Sign.{NonNeg, Positive, le_sign, sign_le, lt_sign, sign_lt, weaken, nonneg_mul, positive_mul}
use Rattle.band.specs.Line.{Points, Proper}
use Rattle.band.specs.Place.{Place, before, same, after, place}
use Rattle.band.specs.Candidate.{Candidate, one, up, down, num, den, Fits, Greatest, upE, downE, proper_rising, apart}
use Rattle.band.specs.Highest.{Highest, highest}

-- another input, after i or before it
pub data Arm : Type 0 where
  right : ℕ → Arm
  left : ℕ → Arm

module _ (P : Points) (i : ℕ) where
  abbrev pub Has : Arm → Type 0
  Has (right p) = (i < p) × (p < P.m)
  Has (left p) = p < i

  abbrev pub run : Arm → ℤ
  run (right p) = P.x p -ℤ P.x i
  run (left p) = P.x i -ℤ P.x p

  -- the least slope and the greatest, over the run: at the level of i, the line may leave neither the highest value nor the lowest outside
  abbrev pub least : Arm → ℤ
  least (right p) = P.high p -ℤ P.high i
  least (left p) = P.low i -ℤ P.low p

  abbrev pub most : Arm → ℤ
  most (right p) = P.low p -ℤ P.low i
  most (left p) = P.high i -ℤ P.high p

  -- what the candidate c falls short of i
  abbrev short : Candidate → ℤ
  short c = num P (one i) *ℤ den P c -ℤ num P c *ℤ pos 1

  -- the greatest slope of t is above the least of s by what a candidate other than i falls short
  record Meet (s t : Arm) : Type 0 where
    c : Candidate
    fits : Fits P c
    other : c ≡ one i → ⊥
    by : ℤ
    positive : Positive by
    is : most t *ℤ run s -ℤ least s *ℤ run t ≡ by *ℤ short c

  abbrev ρ : List ℤ → List ℤ
  ρ r = P.x i ∷ P.low i ∷ P.high i ∷ r

-- the letters: the input i, then two values at other inputs
abbrev x : E
x = var 0

abbrev l : E
l = var 1

abbrev h : E
h = var 2

abbrev y : E
y = var 3

abbrev u : E
u = var 4

abbrev z : E
z = var 5

abbrev v : E
v = var 6

abbrev shortE : E → E → E
shortE n d = (h ⊖ l) ⊗ d ⊖ n ⊗ lit 1

not_up : (a b c i : ℕ) → up a b c ≡ one i → ⊥
not_up a b c i e = let z : ◌≡◌ {A = ℕ} 0 1 = cc in omega arith

not_down : (a b c i : ℕ) → down a b c ≡ one i → ⊥
not_down a b c i e = let z : ◌≡◌ {A = ℕ} 0 1 = cc in omega arith

not_one : (a i : ℕ) → (a ≡ i → ⊥) → one a ≡ one i → ⊥
not_one a i h e = let z : a ≡ i = cc in h z

module _ {P : Points} (proper : Proper P) (i : ℕ) (im : i < P.m) where
  by_up : (a b c : ℕ) {s t : Arm} → Fits P (up a b c) → most P i t *ℤ run P i s -ℤ least P i s *ℤ run P i t ≡ pos 1 *ℤ short P i (up a b c) → Meet P i s t
  by_up a b c f e = record { c = up a b c; fits = f; other = not_up a b c i; by = pos 1; positive = record { lt = tt }; is = e }

  by_down : (a b c : ℕ) {s t : Arm} → Fits P (down a b c) → most P i t *ℤ run P i s -ℤ least P i s *ℤ run P i t ≡ pos 1 *ℤ short P i (down a b c) → Meet P i s t
  by_down a b c f e = record { c = down a b c; fits = f; other = not_down a b c i; by = pos 1; positive = record { lt = tt }; is = e }

  -- the arms of one input, which lies by the run r from i
  by_one : (k : ℕ) {s t : Arm} → k < P.m → (k ≡ i → ⊥) → (r : ℤ) → Positive r → most P i t *ℤ run P i s -ℤ least P i s *ℤ run P i t ≡ r *ℤ short P i (one k) → Meet P i s t
  by_one k f o r h e = record { c = one k; fits = f; other = not_one k i o; by = r; positive = h; is = e }

  meet : (s t : Arm) → Has P i s → Has P i t → Meet P i s t
  meet (right k) (right p) f g = go (place k p)
    where
      two : List ℤ
      two = ρ P i (P.x k ∷ P.high k ∷ P.x p ∷ P.low p ∷ [])

      go : Place k p → Meet P i (right k) (right p)
      go (before a) = by_down i k p (f.0, a, g.1) (ring two ((v ⊖ l) ⊗ (y ⊖ x) ⊖ (u ⊖ h) ⊗ (z ⊖ x)) (lit 1 ⊗ shortE (downE x y z l u v) (z ⊖ x)) tt)
      go (same a) = subst (λ (k : ℕ). Meet P i (right k) (right p)) a
          (by_one p g.1 (λ e. omega (arith, g.0)) (P.x p -ℤ P.x i) (apart (proper_rising proper) g.0 g.1)
          (ring (ρ P i (P.x p ∷ P.high p ∷ P.low p ∷ [])) ((z ⊖ l) ⊗ (y ⊖ x) ⊖ (u ⊖ h) ⊗ (y ⊖ x)) ((y ⊖ x) ⊗ shortE (u ⊖ z) (lit 1)) tt))
      go (after a) = by_up i p k (g.0, a, f.1) (ring two ((v ⊖ l) ⊗ (y ⊖ x) ⊖ (u ⊖ h) ⊗ (z ⊖ x)) (lit 1 ⊗ shortE (upE x z y h v u) (y ⊖ x)) tt)
  meet (right k) (left p) f g =
      by_up p i k (g, f.0, f.1) (ring (ρ P i (P.x k ∷ P.high k ∷ P.x p ∷ P.high p ∷ [])) ((h ⊖ v) ⊗ (y ⊖ x) ⊖ (u ⊖ h) ⊗ (x ⊖ z)) (lit 1 ⊗ shortE (upE z x y v l u) (y ⊖ z)) tt)
  meet (left k) (right p) f g =
      by_down k i p (f, g.0, g.1) (ring (ρ P i (P.x k ∷ P.low k ∷ P.x p ∷ P.low p ∷ [])) ((v ⊖ l) ⊗ (x ⊖ y) ⊖ (l ⊖ u) ⊗ (z ⊖ x)) (lit 1 ⊗ shortE (downE y x z u h v) (z ⊖ y)) tt)
  meet (left k) (left p) f g = go (place k p)
    where
      two : List ℤ
      two = ρ P i (P.x k ∷ P.low k ∷ P.x p ∷ P.high p ∷ [])

      go : Place k p → Meet P i (left k) (left p)
      go (before a) = by_down k p i (a, g, im) (ring two ((h ⊖ v) ⊗ (x ⊖ y) ⊖ (l ⊖ u) ⊗ (x ⊖ z)) (lit 1 ⊗ shortE (downE y z x u v l) (x ⊖ y)) tt)
      go (same a) = subst (λ (k : ℕ). Meet P i (left k) (left p)) a
          (by_one p (omega arith) (λ e. omega (arith, g)) (P.x i -ℤ P.x p) (apart (proper_rising proper) g im)
          (ring (ρ P i (P.x p ∷ P.high p ∷ P.low p ∷ [])) ((h ⊖ u) ⊗ (x ⊖ y) ⊖ (l ⊖ z) ⊗ (x ⊖ y)) ((x ⊖ y) ⊗ shortE (u ⊖ z) (lit 1)) tt))
      go (after a) = by_up p k i (a, f, im) (ring two ((h ⊖ v) ⊗ (x ⊖ y) ⊖ (l ⊖ u) ⊗ (x ⊖ z)) (lit 1 ⊗ shortE (upE z y x v u h) (x ⊖ z)) tt)

  pub run_positive : (a : Arm) → Has P i a → Positive (run P i a)
  run_positive (right p) h = apart (proper_rising proper) h.0 h.1
  run_positive (left p) h = apart (proper_rising proper) h im

  pub least_most : Greatest P (one i) → (s t : Arm) → Has P i s → Has P i t → (least P i s *ℤ run P i t) ≤ℤ (most P i t *ℤ run P i s)
  least_most g s t f h = let r = meet s t f h in sign_le (subst NonNeg (sym r.is) (nonneg_mul (weaken r.positive) (le_sign (g.all r.c r.fits))))

  pub least_most< : ((c : Candidate) → Fits P c → (c ≡ one i → ⊥) → (num P c *ℤ pos 1) <ℤ (num P (one i) *ℤ den P c)) → (s t : Arm) → Has P i s → Has P i t → (least P i s *ℤ run P i t) <ℤ (most P i t *ℤ run P i s)
  least_most< alone s t f h = let r = meet s t f h in sign_lt (subst Positive (sym r.is) (positive_mul r.positive (lt_sign (alone r.c r.fits r.other))))

-- ---- of all arms one has the greatest slope
-- the k-th arm, of those before i and then those after it
abbrev arm_by : (i k : ℕ) → Dec (k < i) → Arm
arm_by i k (yes h) = left k
arm_by i k (no h) = right (suc k)

abbrev arm : ℕ → ℕ → Arm
arm i k = arm_by i k (dec_lt k i)

-- an arm a of which no slope f is greater
pub record Steepest (P : Points) (i : ℕ) (f : Arm → ℤ) : Type 0 where
  pub arm : Arm
  pub has : Has P i arm
  pub all : (a : Arm) → Has P i a → (f a *ℤ run P i arm) ≤ℤ (f arm *ℤ run P i a)

pub steepest : {P : Points} → Proper P → (i : ℕ) → i < P.m → (f : Arm → ℤ) → Steepest P i f
steepest {P} proper i im f = record {
  arm = arm i top.at;
  has = has top.at top.fits (dec_lt top.at i);
  all = λ a h. let c = index a h in subst (λ (a : Arm). (f a *ℤ run P i (arm i top.at)) ≤ℤ (f (arm i top.at) *ℤ run P i a)) c.2 (top.all c.0 c.1);
}
  where
    two : 2 ≤ P.m
    two = proper.two

    has : (k : ℕ) → k ≤ P.m - 2 → (d : Dec (k < i)) → Has P i (arm_by i k d)
    has k l (yes h) = h
    has k l (no h) = (omega arith, omega (arith, two))

    is_left : (p : ℕ) → p < i → (d : Dec (p < i)) → arm_by i p d ≡ left p
    is_left p l (yes h) = refl
    is_left p l (no h) = absurd (h l)

    is_right : (p : ℕ) → i < p → (d : Dec (p - 1 < i)) → arm_by i (p - 1) d ≡ right p
    is_right p l (yes h) = absurd (omega arith)
    is_right p l (no h) = ap right (omega arith)

    index : (a : Arm) → Has P i a → (k : ℕ) × (k ≤ P.m - 2) × (arm i k ≡ a)
    index (right p) h = (p - 1, omega (arith, h.0, h.1), is_right p h.0 (dec_lt (p - 1) i))
    index (left p) h = (p, omega (arith, h), is_left p h (dec_lt p i))

    top : Highest (λ k. f (arm i k)) (λ k. run P i (arm i k)) (P.m - 2)
    top = highest (λ k. f (arm i k)) (λ k. run P i (arm i k)) (P.m - 2) (λ k l. run_positive proper i im (arm i k) (has k l (dec_lt k i)))
