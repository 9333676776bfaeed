-- The line that the terminal numbers stand for: it is the terminal line, and its deviations are the heights, each times the unit.
use Rattle.std.specs.Prelude.{◌≡◌, ◌∷◌, [], ℕ, ◌*◌, ◌-◌, ◌<◌, ◌≤◌, ℤ, pos, nat_abs, neg_ℤ, ◌+ℤ◌, ◌-ℤ◌, ◌*ℤ◌, ◌≤ℤ◌}
use Rattle.std.proofs.Common.{sym, ap, ◌∙◌, subst, inl, ⊎_elim, mul-le-mul_right, arith}
use Rattle.whole.specs.Poly.{var, lit, neg, ◌⊕◌, ◌⊖◌, ◌⊗◌}
use Rattle.whole.specs.Ring.{ring}
use Rattle.whole.specs.Order.{mul_le}
use Rattle.whole.specs.Sign.{NonNeg, le_sign, sign_le, le_trans, nonneg_nat, nat_nonneg}
use Rattle.whole.specs.Size.{size_product, size_neg, size_by}
use Rattle.band.specs.Line.{Line, Points, Proper, OneValue, off, Largest, Terminal}
use Rattle.band.specs.Largest.{Reached, largest_by}
use Rattle.band.specs.Shift.{Range}
use Rattle.band.specs.Seen.{offE}
use Rattle.whole.specs.Greater.{greater, greater_left, greater_right, greater_is}
use Rattle.fit.specs.Ends.{EndsOf, above, Ranged}
use Rattle.fit.specs.EndsLaws.{above_first, above_last}
use Rattle.fit.specs.declared.Ends.{Ends}
use Rattle.fit.specs.declared.Spread.{Spread}

-- L is written with the numbers e
pub record Has (P : Points) (e : Ends) (L : Line) : Type 0 where
  pub a_is : L.a ≡ e.a
  pub b_is : L.b ≡ e.b
  pub q_is : pos L.q ≡ e.s *ℤ pos P.d

opposite_size : (z : ℤ) → nat_abs (pos 0 -ℤ z) ≡ nat_abs z
opposite_size z = ap nat_abs (ring (z ∷ []) (lit 0 ⊖ var 0) (neg (var 0)) tt) ∙ size_neg z

-- a number between lo and hi is no larger than the larger of hi and -lo
between : (lo hi h : ℤ) → pos 0 ≤ℤ hi → lo ≤ℤ h → h ≤ℤ hi → nat_abs h ≤ nat_abs (greater hi (pos 0 -ℤ lo))
between lo hi h some from to =
    let w = greater hi (pos 0 -ℤ lo) in
    let is : pos (nat_abs w) ≡ w = nat_nonneg (le_trans some (greater_left hi (pos 0 -ℤ lo))) in
    let up : h ≤ℤ w = le_trans to (greater_left hi (pos 0 -ℤ lo)) in
    let down : neg_ℤ h ≤ℤ w = le_trans (sign_le (subst NonNeg (ring (h ∷ lo ∷ []) (var 0 ⊖ var 1) (lit 0 ⊖ var 1 ⊖ neg (var 0)) tt) (le_sign from))) (greater_right hi (pos 0 -ℤ lo)) in
    omega (
      arith,
      size_by h 1 (nat_abs w) (subst (λ (t : ℤ). (pos 1 *ℤ h) ≤ℤ t) (sym is) (subst (λ (t : ℤ). t ≤ℤ w) (ring (h ∷ []) (var 0) (lit 1 ⊗ var 0) tt) up))
          (subst (λ (t : ℤ). (pos 1 *ℤ neg_ℤ h) ≤ℤ t) (sym is) (subst (λ (t : ℤ). t ≤ℤ w) (ring (h ∷ []) (neg (var 0)) (lit 1 ⊗ neg (var 0)) tt) down)),
    )

module _ (P : Points) (e : Ends) (L : Line) (h : Has P e L) where
  abbrev d : ℤ
  d = pos P.d

  off_is : (p : ℕ) → off P L (P.x p) (P.low p) ≡ d *ℤ above P e p
  off_is p =
      ap (λ (q : ℤ). q *ℤ P.low p -ℤ d *ℤ (L.a *ℤ P.x p +ℤ L.b)) h.q_is
      ∙ ap (λ (a : ℤ). e.s *ℤ d *ℤ P.low p -ℤ d *ℤ (a *ℤ P.x p +ℤ L.b)) h.a_is
      ∙ ap (λ (b : ℤ). e.s *ℤ d *ℤ P.low p -ℤ d *ℤ (e.a *ℤ P.x p +ℤ b)) h.b_is
      ∙ ring (e.s ∷ d ∷ P.low p ∷ e.a ∷ P.x p ∷ e.b ∷ []) (offE (var 0 ⊗ var 1) (var 1) (var 3) (var 5) (var 4) (var 2)) (var 1 ⊗ (var 0 ⊗ var 2 ⊖ (var 3 ⊗ var 4 ⊕ var 5))) tt

  none : (p : ℕ) → above P e p ≡ pos 0 → off P L (P.x p) (P.low p) ≡ pos 0
  none p z = off_is p ∙ ap (λ (t : ℤ). d *ℤ t) z ∙ ring (d ∷ []) (var 0 ⊗ lit 0) (lit 0) tt

  pub has_terminal : EndsOf P e → Terminal P L
  has_terminal t = record { first = none 0 (above_first P e t); last = none (P.m - 1) (above_last P e t) }

  module _ (level : OneValue P) {r : Spread} (R : Ranged P e P.m r) where
    -- the highest value is the lowest
    high_is : (p : ℕ) → p < P.m → off P L (P.x p) (P.high p) ≡ d *ℤ above P e p
    high_is p f = ap (λ (v : ℤ). off P L (P.x p) v) (sym (level p f)) ∙ off_is p

    pub has_range : Range P L (d *ℤ r.lo) (d *ℤ r.hi)
    has_range = record {
      from = λ p f. subst (λ (t : ℤ). (d *ℤ r.lo) ≤ℤ t) (sym (off_is p)) (mul_le (nonneg_nat P.d) (R.from p f));
      to = λ p f. subst (λ (t : ℤ). t ≤ℤ (d *ℤ r.hi)) (sym (high_is p f)) (mul_le (nonneg_nat P.d) (R.to p f));
      i = R.i;
      i_fits = R.i_fits;
      lowest = off_is R.i ∙ ap (λ (t : ℤ). d *ℤ t) R.lowest;
      j = R.j;
      j_fits = R.j_fits;
      highest = high_is R.j R.j_fits ∙ ap (λ (t : ℤ). d *ℤ t) R.highest;
    }

    module _ (high : pos 0 ≤ℤ r.hi) where
      abbrev w : ℤ
      w = greater r.hi (pos 0 -ℤ r.lo)

      size : (o v : ℤ) → o ≡ d *ℤ v → nat_abs o ≡ P.d * nat_abs v
      size o v q = ap nat_abs q ∙ size_product d v

      near : (p : ℕ) → p < P.m → (o : ℤ) → o ≡ d *ℤ above P e p → nat_abs o * L.q ≤ nat_abs w * (L.q * P.d)
      near p f o q = omega (arith, ap (λ (t : ℕ). t * L.q) (size o (above P e p) q), mul-le-mul_right (L.q * P.d) (between r.lo r.hi (above P e p) high (R.from p f) (R.to p f)))

      far : (p : ℕ) → nat_abs (above P e p) ≡ nat_abs w → nat_abs (off P L (P.x p) (P.low p)) * L.q ≡ nat_abs w * (L.q * P.d)
      far p q = omega (arith, ap (λ (t : ℕ). t * L.q) (size (off P L (P.x p) (P.low p)) (above P e p) (off_is p)), ap (λ (t : ℕ). t * (L.q * P.d)) q)

      reached : Reached P L (nat_abs w) L.q
      reached = ⊎_elim
          (λ q. record { at = R.j; fits = R.j_fits; far = inl (far R.j (ap nat_abs (R.highest ∙ sym q))) })
          (λ q. record { at = R.i; fits = R.i_fits; far = inl (far R.i (ap nat_abs R.lowest ∙ sym (opposite_size r.lo) ∙ ap nat_abs (sym q))) })
          (greater_is r.hi (pos 0 -ℤ r.lo))

      pub has_largest : Proper P → Largest P L (nat_abs (greater r.hi (pos 0 -ℤ r.lo))) L.q
      has_largest proper = largest_by proper L.some (record { low = λ p f. near p f _ (off_is p); high = λ p f. near p f _ (high_is p f) }) reached
