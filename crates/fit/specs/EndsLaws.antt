-- Laws of the terminal line's numbers: the smallest and the largest height, found one by one, and their sizes.
use Rattle.std.specs.Prelude.{◌≡◌, ◌∷◌, [], ℕ, suc, ◌+◌, ◌-◌, ◌<◌, ◌≤◌, ℤ, pos, nat_abs, ◌+ℤ◌, ◌-ℤ◌, ◌*ℤ◌, ◌≤ℤ◌}
use Rattle.std.proofs.Common.{sym, ap, ◌∙◌, subst, ⊎_elim, eq-or-lt_of_le, le_antisymm, arith}
use Rattle.whole.specs.Poly.{var, lit, ◌⊕◌, ◌⊖◌, ◌⊗◌}
use Rattle.whole.specs.Ring.{ring}
use Rattle.whole.specs.Sign.{Positive, le_trans, lt_sign}
use Rattle.whole.specs.Machine.{sized}
use Rattle.band.specs.Line.{Points}
use Rattle.band.specs.Band.{most_x, most_v, Admitted}
use Rattle.whole.specs.Greater.{smaller, greater, smaller_left, smaller_right, smaller_is, greater_left, greater_right, greater_is}
use Rattle.fit.specs.Ends.{most_a, most_b, most_gap, most_e, EndsOf, above, Wider, Ranged, Ready}
use Rattle.fit.specs.declared.Ends.{Ends}
use Rattle.fit.specs.declared.Spread.{Spread}

-- ---- the heights' range, one more height at a time
module _ (P : Points) (e : Ends) where
  -- the line passes through the first value
  pub above_first : EndsOf P e → above P e 0 ≡ pos 0
  above_first t =
      let y = P.x (P.m - 1) in
      let v = P.low (P.m - 1) in
      ap (λ (s : ℤ). s *ℤ P.low 0 -ℤ (e.a *ℤ P.x 0 +ℤ e.b)) t.s_is
      ∙ ap (λ (a : ℤ). (y -ℤ P.x 0) *ℤ P.low 0 -ℤ (a *ℤ P.x 0 +ℤ e.b)) t.a_is
      ∙ ap (λ (b : ℤ). (y -ℤ P.x 0) *ℤ P.low 0 -ℤ ((v -ℤ P.low 0) *ℤ P.x 0 +ℤ b)) t.b_is
      ∙ ring (P.x 0 ∷ y ∷ P.low 0 ∷ v ∷ []) ((var 1 ⊖ var 0) ⊗ var 2 ⊖ ((var 3 ⊖ var 2) ⊗ var 0 ⊕ (var 1 ⊗ var 2 ⊖ var 0 ⊗ var 3))) (lit 0) tt

  -- and through the last
  pub above_last : EndsOf P e → above P e (P.m - 1) ≡ pos 0
  above_last t =
      let y = P.x (P.m - 1) in
      let v = P.low (P.m - 1) in
      ap (λ (s : ℤ). s *ℤ v -ℤ (e.a *ℤ y +ℤ e.b)) t.s_is
      ∙ ap (λ (a : ℤ). (y -ℤ P.x 0) *ℤ v -ℤ (a *ℤ y +ℤ e.b)) t.a_is
      ∙ ap (λ (b : ℤ). (y -ℤ P.x 0) *ℤ v -ℤ ((v -ℤ P.low 0) *ℤ y +ℤ b)) t.b_is
      ∙ ring (P.x 0 ∷ y ∷ P.low 0 ∷ v ∷ []) ((var 1 ⊖ var 0) ⊗ var 3 ⊖ ((var 3 ⊖ var 2) ⊗ var 1 ⊕ (var 1 ⊗ var 2 ⊖ var 0 ⊗ var 3))) (lit 0) tt

  -- a height, of what the code reads: how far the value is above the first one, and its input beyond the first
  pub above_from : EndsOf P e → (p : ℕ) → e.s *ℤ (P.low p -ℤ P.low 0) -ℤ e.a *ℤ (P.x p -ℤ P.x 0) ≡ above P e p
  above_from t p =
      ring (e.s ∷ P.low p ∷ P.low 0 ∷ e.a ∷ P.x p ∷ P.x 0 ∷ e.b ∷ []) (var 0 ⊗ (var 1 ⊖ var 2) ⊖ var 3 ⊗ (var 4 ⊖ var 5)) (var 0 ⊗ var 1 ⊖ (var 3 ⊗ var 4 ⊕ var 6) ⊖ (var 0 ⊗ var 2 ⊖ (var 3 ⊗ var 5 ⊕ var 6))) tt
      ∙ ap (λ (z : ℤ). above P e p -ℤ z) (above_first t)
      ∙ ring (above P e p ∷ []) (var 0 ⊖ lit 0) (var 0) tt

  pub ranged_none : EndsOf P e → 0 < P.m → Ranged P e 0 (record { lo = pos 0; hi = pos 0 })
  ranged_none t h = record {
    reach = omega arith;
    from = λ p l. let z : ⊥ = omega arith in absurd z;
    to = λ p l. let z : ⊥ = omega arith in absurd z;
    i = 0;
    i_fits = h;
    lowest = above_first t;
    j = 0;
    j_fits = h;
    highest = above_first t;
  }

module _ {P : Points} {e : Ends} where
  module _ {k : ℕ} {r t : Spread} {h : ℤ} (R : Ranged P e k r) (l : k < P.m) (is : h ≡ above P e k) (w : Wider r h t) where
    abbrev Least : Type 0
    Least = (i : ℕ) × ((i < P.m) × (above P e i ≡ t.lo))

    lowest : Least
    lowest = ⊎_elim (λ s. (R.i, (R.i_fits, R.lowest ∙ sym s ∙ sym w.lo_is))) (λ s. (k, (l, sym is ∙ sym s ∙ sym w.lo_is))) (smaller_is r.lo h)

    abbrev Most : Type 0
    Most = (j : ℕ) × ((j < P.m) × (above P e j ≡ t.hi))

    highest : Most
    highest = ⊎_elim (λ s. (R.j, (R.j_fits, R.highest ∙ sym s ∙ sym w.hi_is))) (λ s. (k, (l, sym is ∙ sym s ∙ sym w.hi_is))) (greater_is r.hi h)

    at_least : (p : ℕ) → p < k + 1 → t.lo ≤ℤ above P e p
    at_least p i = subst (λ (z : ℤ). z ≤ℤ above P e p) (sym w.lo_is) (⊎_elim now before (eq-or-lt_of_le i))
      where
        now : suc p ≡ k + 1 → smaller r.lo h ≤ℤ above P e p
        now s = let q : k ≡ p = omega arith in subst (λ (n : ℕ). smaller r.lo h ≤ℤ above P e n) q (subst (λ (z : ℤ). smaller r.lo h ≤ℤ z) is (smaller_right r.lo h))

        before : suc p < k + 1 → smaller r.lo h ≤ℤ above P e p
        before s = le_trans (smaller_left r.lo h) (R.from p (omega arith))

    at_most : (p : ℕ) → p < k + 1 → above P e p ≤ℤ t.hi
    at_most p i = subst (λ (z : ℤ). above P e p ≤ℤ z) (sym w.hi_is) (⊎_elim now before (eq-or-lt_of_le i))
      where
        now : suc p ≡ k + 1 → above P e p ≤ℤ greater r.hi h
        now s = let q : k ≡ p = omega arith in subst (λ (n : ℕ). above P e n ≤ℤ greater r.hi h) q (subst (λ (z : ℤ). z ≤ℤ greater r.hi h) is (greater_right r.hi h))

        before : suc p < k + 1 → above P e p ≤ℤ greater r.hi h
        before s = le_trans (R.to p (omega arith)) (greater_left r.hi h)

    pub ranged_more : Ranged P e (k + 1) t
    ranged_more = record {
      reach = omega arith;
      from = at_least;
      to = at_most;
      i = lowest.0;
      i_fits = lowest.1.0;
      lowest = lowest.1.1;
      j = highest.0;
      j_fits = highest.1.0;
      highest = highest.1.1;
    }

  pub ranged_all : {k : ℕ} {r : Spread} → Ranged P e k r → P.m ≤ k → Ranged P e P.m r
  ranged_all {k} {r} R h = subst (λ (n : ℕ). Ranged P e n r) (le_antisymm R.reach h) R

-- ---- sizes
module _ {P : Points} {e : Ends} (a : Admitted P) (t : EndsOf P e) where
  above_size : (p : ℕ) → p < P.m → nat_abs (above P e p) ≤ most_e
  above_size p h =
      sized (e.s ∷ P.low p ∷ e.a ∷ P.x p ∷ e.b ∷ []) (most_gap ∷ most_v ∷ most_a ∷ most_x ∷ most_b ∷ []) (t.s_most, (a.lows p h, (t.a_most, (a.inputs p h, (t.b_most, tt)))))
      (var 0 ⊗ var 1 ⊖ (var 2 ⊗ var 3 ⊕ var 4)) most_e tt

  pub ready : {r : Spread} → Ranged P e P.m r → Ready e r P.d
  ready {r} R =
      let some : 0 < P.m = omega (arith, a.three) in
      record {
        bounds = (
          t.a_most,
          (
            t.b_most,
            (
              t.s_most,
              (
                subst (λ (z : ℤ). nat_abs z ≤ most_e) R.lowest (above_size R.i R.i_fits),
                (subst (λ (z : ℤ). nat_abs z ≤ most_e) R.highest (above_size R.j R.j_fits), (a.unit, tt)),
              ),
            ),
          ),
        );
        rise = subst Positive (sym t.s_is) (lt_sign (a.proper.rise 0 (P.m - 1) (omega (arith, a.three)) (omega (arith, a.three))));
        unit = a.proper.unit;
        low = subst (λ (z : ℤ). r.lo ≤ℤ z) (above_first P e t) (R.from 0 some);
        high = subst (λ (z : ℤ). z ≤ℤ r.hi) (above_first P e t) (R.to 0 some);
      }
