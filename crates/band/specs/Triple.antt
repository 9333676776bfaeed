-- The line that a triple of the greatest candidate gives, written out: the chord over its outer values, moved half way to the value between them. It is within the deviation, and no other line is.
use Rattle.std.specs.Prelude.{◌≡◌, ◌∷◌, [], ℕ, ◌*◌, ◌<◌, ℤ, pos, neg_ℤ, ◌+ℤ◌, ◌-ℤ◌, ◌*ℤ◌}
use Rattle.std.proofs.Common.{sym, ap, ◌∙◌}
use Rattle.std.specs.Int.Signed.{≤ℤ_refl}
use Rattle.whole.specs.Poly.{E, var, lit, neg, ◌⊕◌, ◌⊖◌, ◌⊗◌}
use Rattle.whole.specs.Ring.{ring}
use Rattle.whole.specs.Sign.{NonNeg}
use Rattle.band.specs.Line.{Line, Points, Proper, off, Within, Single, All}
use Rattle.band.specs.Candidate.{Candidate, up, down, num, den, Greatest, wide, part, upE, downE, wide_is, part_is}
use Rattle.band.specs.Seen.{seen, level, seen_rising, inside_within, offE}
use Rattle.band.specs.Bound.{Touches, touch_top, touch_bottom}
use Rattle.band.specs.Exchange.{up_inside, down_inside}
use Rattle.band.specs.Width.{greatest_bounded}
use Rattle.band.specs.Only.{single_up, single_down}

-- `Candidate.part_some` shows that the denominator is one
module _ (P : Points) (i j k : ℕ) where
  abbrev pub up_line : 0 < part P (up i j k) → Line
  up_line some = record {
    a = pos 2 *ℤ (P.high k -ℤ P.high i);
    b = pos 2 *ℤ (P.x k *ℤ P.high i -ℤ P.x i *ℤ P.high k) -ℤ num P (up i j k);
    q = part P (up i j k);
    some = some;
  }

  abbrev pub down_line : 0 < part P (down i j k) → Line
  down_line some = record {
    a = pos 2 *ℤ (P.low k -ℤ P.low i);
    b = pos 2 *ℤ (P.x k *ℤ P.low i -ℤ P.x i *ℤ P.low k) +ℤ num P (down i j k);
    q = part P (down i j k);
    some = some;
  }

-- ---- the heights of the three values above the line are d times the candidate, which is the level
module _ {P : Points} (proper : Proper P) {c : Candidate} (g : Greatest P c) where
  abbrev T : ℤ
  T = pos (wide P c * (part P c * P.d))

  scaled : pos (part P c) *ℤ (pos P.d *ℤ num P c) ≡ T
  scaled =
      ring (pos (part P c) ∷ pos P.d ∷ num P c ∷ []) (var 0 ⊗ (var 1 ⊗ var 2)) (var 2 ⊗ (var 0 ⊗ var 1)) tt
      ∙ ap (λ (n : ℤ). n *ℤ (pos (part P c) *ℤ pos P.d)) (sym (wide_is proper c g))

  raised : (v : ℤ) → v ≡ pos P.d *ℤ num P c → NonNeg (pos (part P c) *ℤ v -ℤ T)
  raised v e = touch_top T (pos (part P c) *ℤ v) (ap (λ (t : ℤ). pos (part P c) *ℤ t) e ∙ scaled)

  lowered : (v : ℤ) → v ≡ neg_ℤ (pos P.d *ℤ num P c) → NonNeg (neg_ℤ (pos (part P c) *ℤ v) -ℤ T)
  lowered v e =
      touch_bottom T (pos (part P c) *ℤ v)
      (ap (λ (t : ℤ). pos (part P c) *ℤ t) e ∙ ring (pos (part P c) ∷ (pos P.d *ℤ num P c) ∷ []) (var 0 ⊗ neg (var 1)) (neg (var 0 ⊗ var 1)) tt ∙ ap neg_ℤ scaled)

  opened : (a b x v : ℤ) → pos (part P c) *ℤ v -ℤ pos P.d *ℤ (a *ℤ x +ℤ b) ≡ pos 2 *ℤ den P c *ℤ pos P.d *ℤ v -ℤ pos P.d *ℤ (a *ℤ x +ℤ b)
  opened a b x v = ap (λ (q : ℤ). q *ℤ v -ℤ pos P.d *ℤ (a *ℤ x +ℤ b)) (part_is proper c g.fits)

-- the letters: the unit, three inputs, and a value at each; and the height of v at x above the chord moved by n
abbrev d : E
d = var 0

abbrev xi : E
xi = var 1

abbrev xj : E
xj = var 2

abbrev xk : E
xk = var 3

abbrev vi : E
vi = var 4

abbrev vj : E
vj = var 5

abbrev vk : E
vk = var 6

abbrev height : (n x v : E) → E
height n x v = offE (lit 2 ⊗ (xk ⊖ xi) ⊗ d) d (lit 2 ⊗ (vk ⊖ vi)) (lit 2 ⊗ (xk ⊗ vi ⊖ xi ⊗ vk) ⊕ n) x v

-- ---- `up`
module _ {P : Points} (proper : Proper P) (i j k : ℕ) (g : Greatest P (up i j k)) where
  up_touches : (some : 0 < part P (up i j k)) → let L = up_line P i j k some in Touches (seen P L (part P (up i j k))) (level P L (wide P (up i j k))) (up i j k)
  up_touches some =
      let L = up_line P i j k some in
      let ρ = pos P.d ∷ P.x i ∷ P.x j ∷ P.x k ∷ P.high i ∷ P.low j ∷ P.high k ∷ [] in
      let n = upE xi xj xk vi vj vk in (
        raised proper g (off P L (P.x i) (P.high i)) (opened proper g L.a L.b _ _ ∙ ring ρ (height (neg n) xi vi) (d ⊗ n) tt),
        lowered proper g (off P L (P.x j) (P.low j)) (opened proper g L.a L.b _ _ ∙ ring ρ (height (neg n) xj vj) (neg (d ⊗ n)) tt),
        raised proper g (off P L (P.x k) (P.high k)) (opened proper g L.a L.b _ _ ∙ ring ρ (height (neg n) xk vk) (d ⊗ n) tt),
      )

  pub up_within : (some : 0 < part P (up i j k)) → Within P (up_line P i j k some) (wide P (up i j k)) (part P (up i j k))
  up_within some = let L = up_line P i j k some in inside_within proper (up_inside (seen_rising proper L (part P (up i j k))) (greatest_bounded proper g L) i j k g.fits (up_touches some))

  pub up_single : Single All P (wide P (up i j k)) (part P (up i j k))
  up_single = single_up proper g i j k g.fits (≤ℤ_refl _)

-- ---- `down`
module _ {P : Points} (proper : Proper P) (i j k : ℕ) (g : Greatest P (down i j k)) where
  down_touches : (some : 0 < part P (down i j k)) → let L = down_line P i j k some in Touches (seen P L (part P (down i j k))) (level P L (wide P (down i j k))) (down i j k)
  down_touches some =
      let L = down_line P i j k some in
      let ρ = pos P.d ∷ P.x i ∷ P.x j ∷ P.x k ∷ P.low i ∷ P.high j ∷ P.low k ∷ [] in
      let n = downE xi xj xk vi vj vk in (
        lowered proper g (off P L (P.x i) (P.low i)) (opened proper g L.a L.b _ _ ∙ ring ρ (height n xi vi) (neg (d ⊗ n)) tt),
        raised proper g (off P L (P.x j) (P.high j)) (opened proper g L.a L.b _ _ ∙ ring ρ (height n xj vj) (d ⊗ n) tt),
        lowered proper g (off P L (P.x k) (P.low k)) (opened proper g L.a L.b _ _ ∙ ring ρ (height n xk vk) (neg (d ⊗ n)) tt),
      )

  pub down_within : (some : 0 < part P (down i j k)) → Within P (down_line P i j k some) (wide P (down i j k)) (part P (down i j k))
  down_within some = let L = down_line P i j k some in inside_within proper (down_inside (seen_rising proper L (part P (down i j k))) (greatest_bounded proper g L) i j k g.fits (down_touches some))

  pub down_single : Single All P (wide P (down i j k)) (part P (down i j k))
  down_single = single_down proper g i j k g.fits (≤ℤ_refl _)
