-- The line that two inputs of the greatest candidate give, written out: it passes half way between the lowest and the highest value at each. It is within the deviation, and no other line is.
use Rattle.std.specs.Prelude.{◌≡◌, refl, List, ◌∷◌, [], ℕ, ◌*◌, ◌<◌, ℤ, pos, nat_abs, neg_ℤ, ◌+ℤ◌, ◌-ℤ◌, ◌*ℤ◌, ◌≤ℤ◌}
use Rattle.std.proofs.Common.{sym, ap, ap₂, ◌∙◌, subst}
use Rattle.std.specs.Int.Signed.{≤ℤ_refl}
use Rattle.whole.specs.Poly.{E, var, lit, neg, ◌⊕◌, ◌⊖◌, ◌⊗◌}
use Rattle.whole.specs.Ring.{ring}
use Rattle.whole.specs.Sign.{Positive}
use Rattle.band.specs.Line.{Line, Points, Proper, Within, Single, All}
use Rattle.band.specs.Candidate.{one, num, Greatest, wide, part, wide_is, proper_rising, apart, doubled_is, doubled_some}
use Rattle.band.specs.Seen.{seen, level, seen_rising, inside_within, offE}
use Rattle.band.specs.Bound.{Touches, touch_top, touch_bottom}
use Rattle.band.specs.Exchange.{pair_inside}
use Rattle.band.specs.Width.{greatest_bounded}
use Rattle.band.specs.Only.{single_pair}

-- the denominator of the line through the middles at i and j
abbrev pub pair_part : Points → ℕ → ℕ → ℕ
pair_part P i j = 2 * nat_abs (P.x j -ℤ P.x i) * P.d

abbrev pub pair_line : (P : Points) (i j : ℕ) → 0 < pair_part P i j → Line
pair_line P i j some = record {
  a = P.low j +ℤ P.high j -ℤ (P.low i +ℤ P.high i);
  b = P.x j *ℤ (P.low i +ℤ P.high i) -ℤ P.x i *ℤ (P.low j +ℤ P.high j);
  q = pair_part P i j;
  some = some;
}

-- the letters: the unit, two inputs, and the values at each; and the height above the line of the value v at x, times 2·d
abbrev d : E
d = var 0

abbrev xi : E
xi = var 1

abbrev xj : E
xj = var 2

abbrev li : E
li = var 3

abbrev hi : E
hi = var 4

abbrev lj : E
lj = var 5

abbrev hj : E
hj = var 6

abbrev q : E
q = lit 2 ⊗ (xj ⊖ xi) ⊗ d

abbrev height : E → E → E
height x v = lit 2 ⊗ d ⊗ offE q d (lj ⊕ hj ⊖ (li ⊕ hi)) (xj ⊗ (li ⊕ hi) ⊖ xi ⊗ (lj ⊕ hj)) x v

module _ {P : Points} (proper : Proper P) (i j : ℕ) (ij : i < j) (jm : j < P.m) where
  positive : Positive (P.x j -ℤ P.x i)
  positive = apart (proper_rising proper) ij jm

  pub pair_some : 0 < pair_part P i j
  pair_some = doubled_some (P.x j -ℤ P.x i) P.d positive proper.unit

  module _ (g : Greatest P (one i)) (same : num P (one j) ≡ num P (one i)) where
    pub pair_single : Single All P (wide P (one i)) (part P (one i))
    pair_single = single_pair proper g i j ij jm (≤ℤ_refl _) (subst (λ (n : ℤ). (num P (one i) *ℤ pos 1) ≤ℤ (n *ℤ pos 1)) (sym same) (≤ℤ_refl _))

    module _ (some : 0 < pair_part P i j) where
      abbrev L : Line
      L = pair_line P i j some

      abbrev ρ : List ℤ
      ρ = pos P.d ∷ P.x i ∷ P.x j ∷ P.low i ∷ P.high i ∷ P.low j ∷ P.high j ∷ []

      abbrev T : ℤ
      T = level P L (wide P (one i))

      -- both sides with the denominator r in place of the line's
      abbrev Height : (r x v : ℤ) → ℤ
      Height r x v = pos 2 *ℤ pos P.d *ℤ (r *ℤ v -ℤ pos P.d *ℤ (L.a *ℤ x +ℤ L.b))

      abbrev Level : (n r : ℤ) → ℤ
      Level n r = n *ℤ (r *ℤ pos P.d)

      abbrev r : ℤ
      r = pos 2 *ℤ (P.x j -ℤ P.x i) *ℤ pos P.d

      q_is : pos (pair_part P i j) ≡ r
      q_is = doubled_is (P.x j -ℤ P.x i) P.d positive

      opened : (x v : ℤ) → Height (pos (pair_part P i j)) x v ≡ Height r x v
      opened x v = ap (λ (t : ℤ). Height t x v) q_is

      closed : (n : ℤ) → n ≡ num P (one i) → Level n r ≡ T
      closed n e = sym (ap₂ Level (wide_is proper (one i) g ∙ sym e) q_is)

      touching : Touches (seen P L (part P (one i))) T (one i) × Touches (seen P L (part P (one i))) T (one j)
      touching = (
        (
          touch_top T _ (opened _ _ ∙ ring ρ (height xi hi) ((hi ⊖ li) ⊗ (q ⊗ d)) tt ∙ closed _ refl),
          touch_bottom T _ (opened _ _ ∙ ring ρ (height xi li) (neg ((hi ⊖ li) ⊗ (q ⊗ d))) tt ∙ ap neg_ℤ (closed _ refl)),
        ),
        (
          touch_top T _ (opened _ _ ∙ ring ρ (height xj hj) ((hj ⊖ lj) ⊗ (q ⊗ d)) tt ∙ closed _ same),
          touch_bottom T _ (opened _ _ ∙ ring ρ (height xj lj) (neg ((hj ⊖ lj) ⊗ (q ⊗ d))) tt ∙ ap neg_ℤ (closed _ same)),
        ),
      )

      pub pair_within : Within P (pair_line P i j some) (wide P (one i)) (part P (one i))
      pair_within = inside_within proper (pair_inside (seen_rising proper L (part P (one i))) (greatest_bounded proper g L) i j ij jm touching.0 touching.1)
