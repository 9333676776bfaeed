-- The greatest candidate as a deviation: seen from any line, no candidate is more than twice its level, those equal to it are just that, and no line is within less.
use Rattle.std.specs.Prelude.{◌≡◌, ◌∷◌, [], ℕ, ◌*◌, ◌≤◌, ℤ, pos, ◌-ℤ◌, ◌*ℤ◌, ◌≤ℤ◌}
use Rattle.std.proofs.Common.{sym, ap, ap₂, ◌∙◌, subst, arith}
use Rattle.whole.specs.Balance as B
use Rattle.whole.specs.Balance.{nat}
use Rattle.whole.specs.Poly.{var, lit, ◌⊖◌, ◌⊗◌}
use Rattle.whole.specs.Ring.{ring}
use Rattle.whole.specs.Order.{mul_le}
use Rattle.whole.specs.Sign.{NonNeg, le_sign, sign_le, nonneg_nat, positive_nat, cancel_le}
use Rattle.band.specs.Line.{Line, Points, Proper, Within}
use Rattle.band.specs.Candidate.{Candidate, num, den, AtMost, Greatest, wide, part, wide_is, part_is}
use Rattle.band.specs.Seen.{seen, level, seen_num, seen_rising, within_inside}
use Rattle.band.specs.Bound.{Bounded, Reaches, inside_bounded}

module _ {P : Points} (proper : Proper P) {c : Candidate} (g : Greatest P c) (L : Line) where
  -- both sides of a comparison with the level have this factor
  abbrev scale : ℤ
  scale = pos 2 *ℤ (pos L.q *ℤ pos P.d)

  level_is : (e : ℤ) → pos 2 *ℤ level P L (wide P c) *ℤ e ≡ scale *ℤ (num P c *ℤ e)
  level_is e =
      let n = var 0 in let q = var 1 in let d = var 2 in
      ap (λ (n : ℤ). pos 2 *ℤ (n *ℤ (pos L.q *ℤ pos P.d)) *ℤ e) (wide_is proper c g)
      ∙ ring (num P c ∷ pos L.q ∷ pos P.d ∷ e ∷ []) (lit 2 ⊗ (n ⊗ (q ⊗ d)) ⊗ var 3) (lit 2 ⊗ (q ⊗ d) ⊗ (n ⊗ var 3)) tt

  num_is : (e : Candidate) → num (seen P L (part P c)) e ≡ scale *ℤ (num P e *ℤ den P c)
  num_is e =
      let n = var 0 in let q = var 1 in let d = var 2 in
      seen_num P L (part P c) e
      ∙ ap (λ (z : ℤ). z *ℤ pos L.q *ℤ num P e) (part_is proper c g.fits)
      ∙ ring (num P e ∷ pos L.q ∷ pos P.d ∷ den P c ∷ []) (lit 2 ⊗ var 3 ⊗ d ⊗ q ⊗ n) (lit 2 ⊗ (q ⊗ d) ⊗ (n ⊗ var 3)) tt

  some_scale : NonNeg scale
  some_scale = nonneg_nat (2 * (L.q * P.d))

  pub greatest_bounded : Bounded (seen P L (part P c)) (level P L (wide P c))
  greatest_bounded = record { all = λ e h. rw (num_is e, level_is (den P e)) (mul_le some_scale (g.all e h)) }

  -- a candidate that is not less than the greatest
  pub greatest_reaches : (e : Candidate) → AtMost P c e → Reaches (seen P L (part P c)) (level P L (wide P c)) e
  greatest_reaches e h = rw (num_is e, level_is (den P e)) (mul_le some_scale h)

-- no line is within less than the greatest candidate says
pub no_less : {P : Points} → Proper P → {c : Candidate} → Greatest P c → (L : Line) (w z : ℕ) → Within P L w z → wide P c * z ≤ w * part P c
no_less {P} proper {c} g L w z W =
    omega (arith, B.le_of (nat (wide P c * z)) (nat (w * part P c)) (sign_le (cancel_le (positive_nat L.some) (subst NonNeg (sym shape) (le_sign bound)))))
  where
    bound : num (seen P L z) c ≤ℤ (pos 2 *ℤ level P L w *ℤ den P c)
    bound = (inside_bounded (seen_rising proper L z) (within_inside W)).all c g.fits

    shape : pos L.q *ℤ (pos w *ℤ pos (part P c) -ℤ pos (wide P c) *ℤ pos z) ≡ pos 2 *ℤ level P L w *ℤ den P c -ℤ num (seen P L z) c
    shape =
        let n = var 0 in let e = var 1 in let q = var 2 in let d = var 3 in let w' = var 4 in let z' = var 5 in
        ap₂ (λ (n p : ℤ). pos L.q *ℤ (pos w *ℤ p -ℤ n *ℤ pos z)) (wide_is proper c g) (part_is proper c g.fits)
        ∙ ring (num P c ∷ den P c ∷ pos L.q ∷ pos P.d ∷ pos w ∷ pos z ∷ []) (q ⊗ (w' ⊗ (lit 2 ⊗ e ⊗ d) ⊖ n ⊗ z')) (lit 2 ⊗ (w' ⊗ (q ⊗ d)) ⊗ e ⊖ z' ⊗ q ⊗ n) tt
        ∙ ap (λ (n : ℤ). pos 2 *ℤ level P L w *ℤ den P c -ℤ n) (sym (seen_num P L z c))
