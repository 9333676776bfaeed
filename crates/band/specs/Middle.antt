-- Lines through the middle of one input that is the greatest candidate: one of a slope between the bounds of the other inputs is within the deviation, so such a line there is;
-- and where every other candidate is less, there are several.
use Rattle.std.specs.Prelude.{◌≡◌, List, ◌∷◌, [], ℕ, ◌*◌, ◌<◌, ℤ, pos, nat_abs, neg_ℤ, ◌+ℤ◌, ◌-ℤ◌, ◌*ℤ◌, ◌≤ℤ◌, ◌<ℤ◌}
use Rattle.std.proofs.Common.{sym, ap, ap₂, ◌∙◌, subst}
use Rattle.std.specs.Int.Signed.{≤ℤ_refl, clash_ℤ}
use Rattle.whole.specs.Poly.{E, var, lit, neg, ◌⊕◌, ◌⊖◌, ◌⊗◌}
use Rattle.whole.specs.Ring.{ring}
use Rattle.whole.specs.Sign.{NonNeg, Positive, le_sign, sign_le, nonneg_mul, nonneg_nat, positive_mul, positive_nat, cancel_eq}
use Rattle.band.specs.Line.{Line, Points, Proper, Within, Several, All, Same}
use Rattle.band.specs.Place.{Place, before, same, after, place}
use Rattle.band.specs.Candidate.{Candidate, one, num, den, Fits, Greatest, wide, part, wide_is, doubled_is, doubled_some}
use Rattle.band.specs.Seen.{inside_within, offE}
use Rattle.band.specs.Slope.{Arm, right, left, Has, run, least, most, run_positive, least_most, least_most<, Steepest, steepest}

-- the line of slope n/e, in units of the values, through the middle at i
abbrev middle_line : (P : Points) (i : ℕ) (n e : ℤ) → 0 < 2 * nat_abs e * P.d → Line
middle_line P i n e some = record { a = pos 2 *ℤ n; b = e *ℤ (P.low i +ℤ P.high i) -ℤ pos 2 *ℤ n *ℤ P.x i; q = 2 * nat_abs e * P.d; some = some }

-- the letters: the unit, the slope, the input i, and a value at another
abbrev d : E
d = var 0

abbrev n' : E
n' = var 1

abbrev e' : E
e' = var 2

abbrev x : E
x = var 3

abbrev l : E
l = var 4

abbrev h : E
h = var 5

abbrev y : E
y = var 6

abbrev v : E
v = var 7

abbrev T' : E
T' = (h ⊖ l) ⊗ (lit 2 ⊗ e' ⊗ d ⊗ d)

abbrev height : E → E → E
height x' v = lit 2 ⊗ d ⊗ offE (lit 2 ⊗ e' ⊗ d) d (lit 2 ⊗ n') (e' ⊗ (l ⊕ h) ⊖ lit 2 ⊗ n' ⊗ x) x' v

-- four times the square of the unit
abbrev four : E
four = lit 4 ⊗ d ⊗ d

abbrev some : {P : Points} → Proper P → (e : ℤ) → Positive e → 0 < 2 * nat_abs e * P.d
some {P} proper e positive = doubled_some e P.d positive proper.unit

module _ {P : Points} (proper : Proper P) (i : ℕ) (g : Greatest P (one i)) where
  module _ (n e : ℤ) (positive : Positive e) (from : (a : Arm) → Has P i a → (least P i a *ℤ e) ≤ℤ (n *ℤ run P i a)) (to : (a : Arm) → Has P i a → (n *ℤ run P i a) ≤ℤ (most P i a *ℤ e)) where
    abbrev L : Line
    L = middle_line P i n e (some proper e positive)

    abbrev ρ : ℕ → ℤ → List ℤ
    ρ p v = pos P.d ∷ n ∷ e ∷ P.x i ∷ P.low i ∷ P.high i ∷ P.x p ∷ v ∷ []

    -- what is left above v at the input p, and below it, with the level and the denominator r written out
    abbrev Up : (w r : ℤ) → ℕ → ℤ → ℤ
    Up w r p v = w *ℤ (r *ℤ pos P.d) -ℤ pos 2 *ℤ pos P.d *ℤ (r *ℤ v -ℤ pos P.d *ℤ (L.a *ℤ P.x p +ℤ L.b))

    abbrev Down : (w r : ℤ) → ℕ → ℤ → ℤ
    Down w r p v = w *ℤ (r *ℤ pos P.d) +ℤ pos 2 *ℤ pos P.d *ℤ (r *ℤ v -ℤ pos P.d *ℤ (L.a *ℤ P.x p +ℤ L.b))

    up_is : (p : ℕ) (v : ℤ) → Up (num P (one i)) (pos 2 *ℤ e *ℤ pos P.d) p v ≡ Up (pos (wide P (one i))) (pos (2 * nat_abs e * P.d)) p v
    up_is p v = sym (ap₂ (λ (w r : ℤ). Up w r p v) (wide_is proper (one i) g) (doubled_is e P.d positive))

    down_is : (p : ℕ) (v : ℤ) → Down (num P (one i)) (pos 2 *ℤ e *ℤ pos P.d) p v ≡ Down (pos (wide P (one i))) (pos (2 * nat_abs e * P.d)) p v
    down_is p v = sym (ap₂ (λ (w r : ℤ). Down w r p v) (wide_is proper (one i) g) (doubled_is e P.d positive))

    by_four : {a b : ℤ} → a ≤ℤ b → NonNeg (pos 4 *ℤ pos P.d *ℤ pos P.d *ℤ (b -ℤ a))
    by_four h = nonneg_mul (nonneg_nat (4 * P.d * P.d)) (le_sign h)

    abbrev Above : ℕ → Type 0
    Above p = NonNeg (Up (pos (wide P (one i))) (pos (2 * nat_abs e * P.d)) p (P.high p))

    top : (p : ℕ) → p < P.m → Place p i → Above p
    top p k (before a) = subst NonNeg (ring (ρ p (P.high p)) (four ⊗ ((h ⊖ v) ⊗ e' ⊖ n' ⊗ (x ⊖ y))) (T' ⊖ height y v) tt ∙ up_is p (P.high p)) (by_four (to (left p) a))
    top p k (same a) = subst Above a (subst NonNeg (ring (ρ i (P.high i)) (lit 0) (T' ⊖ height x h) tt ∙ up_is i (P.high i)) (≤ℤ_refl (pos 0)))
    top p k (after a) = subst NonNeg (ring (ρ p (P.high p)) (four ⊗ (n' ⊗ (y ⊖ x) ⊖ (v ⊖ h) ⊗ e')) (T' ⊖ height y v) tt ∙ up_is p (P.high p)) (by_four (from (right p) (a, k)))

    abbrev Below : ℕ → Type 0
    Below p = NonNeg (Down (pos (wide P (one i))) (pos (2 * nat_abs e * P.d)) p (P.low p))

    bottom : (p : ℕ) → p < P.m → Place p i → Below p
    bottom p k (before a) = subst NonNeg (ring (ρ p (P.low p)) (four ⊗ (n' ⊗ (x ⊖ y) ⊖ (l ⊖ v) ⊗ e')) (T' ⊕ height y v) tt ∙ down_is p (P.low p)) (by_four (from (left p) a))
    bottom p k (same a) = subst Below a (subst NonNeg (ring (ρ i (P.low i)) (lit 0) (T' ⊕ height x l) tt ∙ down_is i (P.low i)) (≤ℤ_refl (pos 0)))
    bottom p k (after a) = subst NonNeg (ring (ρ p (P.low p)) (four ⊗ ((v ⊖ l) ⊗ e' ⊖ n' ⊗ (y ⊖ x))) (T' ⊕ height y v) tt ∙ down_is p (P.low p)) (by_four (to (right p) (a, k)))

    middle_within : Within P (middle_line P i n e (some proper e positive)) (wide P (one i)) (part P (one i))
    middle_within = inside_within proper (record { above = λ p k. top p k (place p i); below = λ p k. bottom p k (place p i) })

  -- ---- the flattest of them, and the steepest
  im : i < P.m
  im = g.fits

  lower : Steepest P i (least P i)
  lower = steepest proper i im (least P i)

  upper : Steepest P i (λ a. neg_ℤ (most P i a))
  upper = steepest proper i im (λ a. neg_ℤ (most P i a))

  abbrev flat : Arm
  flat = lower.arm

  abbrev steep : Arm
  steep = upper.arm

  flat_positive : Positive (run P i flat)
  flat_positive = run_positive proper i im flat lower.has

  steep_positive : Positive (run P i steep)
  steep_positive = run_positive proper i im steep upper.has

  abbrev flat_line : Line
  flat_line = middle_line P i (least P i flat) (run P i flat) (some proper (run P i flat) flat_positive)

  abbrev steep_line : Line
  steep_line = middle_line P i (most P i steep) (run P i steep) (some proper (run P i steep) steep_positive)

  flat_within : Within P flat_line (wide P (one i)) (part P (one i))
  flat_within = middle_within (least P i flat) (run P i flat) flat_positive lower.all (λ a f. least_most proper i im g flat a lower.has f)

  steep_within : Within P steep_line (wide P (one i)) (part P (one i))
  steep_within =
      middle_within (most P i steep) (run P i steep) steep_positive (λ a f. least_most proper i im g a steep f upper.has)
      (λ a f. sign_le (subst NonNeg (ring (most P i steep ∷ run P i steep ∷ most P i a ∷ run P i a ∷ []) (neg (var 0) ⊗ var 3 ⊖ neg (var 2) ⊗ var 1) (var 2 ⊗ var 1 ⊖ var 0 ⊗ var 3) tt) (le_sign (upper.all a f))))

  pub middle_reached : (L : Line) × Within P L (wide P (one i)) (part P (one i))
  middle_reached = (flat_line, flat_within)

  -- they differ where every other candidate is less
  pub several : ((c : Candidate) → Fits P c → (c ≡ one i → ⊥) → (num P c *ℤ den P (one i)) <ℤ (num P (one i) *ℤ den P c)) → Several All P (wide P (one i)) (part P (one i))
  several alone = record { one = flat_line; two = steep_line; one_of = tt; two_of = tt; one_in = flat_within; two_in = steep_within; differ = λ e. clash_ℤ less (subst (λ (t : ℤ). t ≤ℤ (least P i flat *ℤ run P i steep)) (one_slope e) (≤ℤ_refl _)) }
    where
      less : (least P i flat *ℤ run P i steep) <ℤ (most P i steep *ℤ run P i flat)
      less = least_most< proper i im alone flat steep lower.has upper.has

      opened : (n e : ℤ) → Positive e → pos 2 *ℤ n *ℤ pos (2 * nat_abs e * P.d) ≡ pos 4 *ℤ pos P.d *ℤ (n *ℤ e)
      opened n e h = ap (λ (r : ℤ). pos 2 *ℤ n *ℤ r) (doubled_is e P.d h) ∙ ring (n ∷ e ∷ pos P.d ∷ []) (lit 2 ⊗ var 0 ⊗ (lit 2 ⊗ var 1 ⊗ var 2)) (lit 4 ⊗ var 2 ⊗ (var 0 ⊗ var 1)) tt

      one_slope : Same flat_line steep_line → least P i flat *ℤ run P i steep ≡ most P i steep *ℤ run P i flat
      one_slope e =
          cancel_eq (positive_mul {a = pos 4} (record { lt = tt }) (positive_nat proper.unit))
          (sym (opened (least P i flat) (run P i steep) steep_positive) ∙ e.slope ∙ opened (most P i steep) (run P i flat) flat_positive)
