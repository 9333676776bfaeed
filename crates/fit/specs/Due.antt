-- What the numbers of `terminal` and `shifted` tell is the answer that is due.
use Rattle.std.specs.Prelude.{◌≡◌, refl, ◌∷◌, [], ℕ, ◌*◌, ℤ, ◌+ℤ◌, ◌-ℤ◌, ◌*ℤ◌}
use Rattle.std.proofs.Math.Path.{sym, ap, ap₂}
use Rattle.std.proofs.Common.{◌∙◌, subst, mul-pos}
use native.Mathlib.Omega.{arith}
use Rattle.std.proofs.Math.IntN.{pos, nat_abs}
use Rattle.whole.specs.Poly.{var, lit, ◌⊕◌, ◌⊖◌, ◌⊗◌}
use Rattle.whole.specs.Ring.{ring}
use Rattle.whole.specs.Sign.{weaken, nat_nonneg, nat_positive}
use Rattle.whole.specs.Size.{size_product}
use Rattle.band.specs.Line.{Line, Points, OneValue, Parallel, Same, Largest}
use Rattle.band.specs.Shift.{Range, moved, moved_some, moved_within, moved_least, moved_single, shift_wide, shift_part}
use Rattle.band.specs.Band.{Admitted}
use Rattle.fit.specs.Answer.{line_of, TheTerminal, TheShifted}
use Rattle.fit.specs.Parts.{FitParts}
use Rattle.fit.specs.Scaled.{Alike, unit_most, the_line}
use Rattle.whole.specs.Greater.{greater}
use Rattle.fit.specs.Ends.{EndsOf, Ranged, Ready}
use Rattle.fit.specs.EndsLine.{Has, has_terminal, has_range, has_largest}
use Rattle.fit.specs.declared.Ends.{Ends}
use Rattle.fit.specs.declared.Spread.{Spread}
use Rattle.fit.specs.declared.Fit.{Fit}

module _ {P : Points} {e : Ends} {r : Spread} (a : Admitted P) (level : OneValue P) (t : EndsOf P e) (R : Ranged P e P.m r) (ready : Ready e r P.d) where
  pub terminal_due : {f : Fit} → FitParts f e.a e.b (e.s *ℤ pos P.d) (greater r.hi (pos 0 -ℤ r.lo)) → TheTerminal P f
  terminal_due {f} p =
      let L = line_of f p.told.some in
      let h : Has P e L = record { a_is = p.a_is; b_is = p.b_is; q_is = p.q_is } in
      record {
        told = p.told;
        ends = has_terminal P e L h t;
        largest = subst (λ (w : ℤ). Largest P L (nat_abs w) f.q) (sym p.w_is) (has_largest P e L h level R ready.high a.proper);
      }

  -- ---- the terminal line, from which the shifted one is moved
  abbrev q : ℕ
  q = nat_abs e.s * P.d

  base : Line
  base = record { a = e.a; b = e.b; q = q; some = mul-pos (nat_positive ready.rise) ready.unit }

  has : Has P e base
  unfolding base
  has = record { a_is = refl; b_is = refl; q_is = ap (λ (s : ℤ). s *ℤ pos P.d) (nat_nonneg (weaken ready.rise)) }

  range : Range P base (pos P.d *ℤ r.lo) (pos P.d *ℤ r.hi)
  range = has_range P e base has level R

  module _ {f : Fit} (p : FitParts f (pos 2 *ℤ e.a) (pos 2 *ℤ e.b +ℤ (r.lo +ℤ r.hi)) (pos 2 *ℤ e.s *ℤ pos P.d) (r.hi -ℤ r.lo)) where
    abbrev L : Line
    L = line_of f p.told.some

    abbrev M : Line
    M = moved P base (pos P.d *ℤ r.lo) (pos P.d *ℤ r.hi) (moved_some a.proper base)

    base_q : pos base.q ≡ e.s *ℤ pos P.d
    base_q = has.q_is

    parallel : Parallel base L
    unfolding base
    parallel =
        ap₂ (λ (s t : ℤ). s *ℤ t) p.a_is base_q
        ∙ ring (e.a ∷ e.s ∷ pos P.d ∷ []) (lit 2 ⊗ var 0 ⊗ (var 1 ⊗ var 2)) (var 0 ⊗ (lit 2 ⊗ var 1 ⊗ var 2)) tt
        ∙ ap (λ (s : ℤ). e.a *ℤ s) (sym p.q_is)

    same : Same M L
    unfolding base
    same = record {
      slope =
          ap (λ (s : ℤ). pos 2 *ℤ pos P.d *ℤ e.a *ℤ s) p.q_is
          ∙ ring (e.a ∷ e.s ∷ pos P.d ∷ []) (lit 2 ⊗ var 2 ⊗ var 0 ⊗ (lit 2 ⊗ var 1 ⊗ var 2)) (lit 2 ⊗ var 0 ⊗ (lit 2 ⊗ var 2 ⊗ (var 1 ⊗ var 2))) tt
          ∙ sym (ap₂ (λ (s t : ℤ). s *ℤ (pos 2 *ℤ pos P.d *ℤ t)) p.a_is base_q);
      offset =
          ap (λ (s : ℤ). (pos 2 *ℤ pos P.d *ℤ e.b +ℤ (pos P.d *ℤ r.lo +ℤ pos P.d *ℤ r.hi)) *ℤ s) p.q_is
          ∙ ring (e.b ∷ e.s ∷ pos P.d ∷ r.lo ∷ r.hi ∷ []) ((lit 2 ⊗ var 2 ⊗ var 0 ⊕ (var 2 ⊗ var 3 ⊕ var 2 ⊗ var 4)) ⊗ (lit 2 ⊗ var 1 ⊗ var 2)) ((lit 2 ⊗ var 0 ⊕ (var 3 ⊕ var 4)) ⊗ (lit 2 ⊗ var 2 ⊗ (var 1 ⊗ var 2))) tt
          ∙ sym (ap₂ (λ (s t : ℤ). s *ℤ (pos 2 *ℤ pos P.d *ℤ t)) p.b_is base_q);
    }

    part : f.q ≡ 2 * nat_abs e.s * P.d
    part = ap nat_abs p.q_is ∙ size_product (pos 2 *ℤ e.s) (pos P.d) ∙ ap (λ (n : ℕ). n * P.d) (size_product (pos 2) e.s)

    alike : Alike (shift_wide (pos P.d *ℤ r.lo) (pos P.d *ℤ r.hi)) (shift_part P base) (nat_abs f.w) f.q
    unfolding base
    alike =
        let wide : nat_abs (pos P.d *ℤ r.hi -ℤ pos P.d *ℤ r.lo) ≡ P.d * nat_abs f.w = ap nat_abs (ring (pos P.d ∷ r.hi ∷ r.lo ∷ []) (var 0 ⊗ var 1 ⊖ var 0 ⊗ var 2) (var 0 ⊗ (var 1 ⊖ var 2)) tt) ∙ size_product (pos P.d) (r.hi -ℤ r.lo) ∙ ap (λ (z : ℤ). P.d * nat_abs z) (sym p.w_is) in
        record {
          some = (moved_least a.proper range).some;
          some' = p.told.some;
          is = ap₂ (λ (m n : ℕ). m * n) wide part ∙ regroup P.d (nat_abs f.w) (nat_abs e.s);
        }
      where
        regroup : (d w s : ℕ) → d * w * (2 * s * d) ≡ w * (2 * (s * d) * d)
        regroup d w s = omega arith

    pub shifted_due : TheShifted P f
    shifted_due = record {
      base = base;
      terminal = has_terminal P _ base has t;
      line = the_line p.told M parallel same (moved_within a.proper range (moved_some a.proper base)) (moved_least a.proper range) (moved_single a.proper range) alike (unit_most f.q (nat_abs e.s) P.d part ready.bounds.1.1.0);
    }
