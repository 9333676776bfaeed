-- What the numbers of `pinned` tell is the answer that is due: the line that the greatest pair gives, or how far the fixed point's own value lies off. And what `zero` and `front` make of it.
use Rattle.std.specs.Prelude.{◌≡◌, true, false, ℕ, ◌*◌, ◌<◌, ◌≤◌, ltb, ℤ, pos, nat_abs, ◌+ℤ◌, ◌-ℤ◌, ◌*ℤ◌, ◌≤ℤ◌, ◌<ℤ◌}
use Rattle.std.proofs.Common.{sym, ap, ap₂, ◌∙◌, subst, ⊎_elim, mul-le-mul_right, arith, ltb-true, ltb-false}
use Rattle.std.specs.Int.Signed.{lt_z, clash_ℤ, ≤ℤ_refl}
use Rattle.whole.specs.Sign.{le_antisym, le_or_gt, nonneg_nat, nat_nonneg}
use Rattle.whole.specs.Size.{size_product}
use Rattle.band.specs.Line.{Points, Proper, OneValue, Passing, Same}
use Rattle.band.specs.Same.{same_written, same_passing, exclusive}
use Rattle.band.specs.Band.{Admitted}
use Rattle.fit.specs.Answer.{line_of, TheLine, OnlyWidth}
use Rattle.fit.specs.Parts.{FitParts, WideParts}
use Rattle.fit.specs.Scaled.{Alike, alike_written, least_alike, several_alike, the_line}
use Rattle.fit.specs.declared.Fit.{Fit}
use Rattle.fit.specs.declared.Wide.{Wide}
use Rattle.fit.specs.declared.Drawn.{Drawn}
use Rattle.fit.specs.declared.Drawn.TheVariants as drawn
use Rattle.pin.specs.Answer.{NoNegative, ZeroDue, FrontDue}
use Rattle.pin.specs.Pair.{rise, den, Greatest, Beyond, wide, part, pair_line, Nearer, Further}
use Rattle.pin.specs.PairLaws.{den_is, part_some, pair_passing, pair_single}
use Rattle.pin.specs.PairLine.{pair_within, pair_least}
use Rattle.pin.specs.OwnLaws.{own_least, own_several}
use Rattle.pin.specs.Exists.{front_single}
use Rattle.pin.specs.Search.{Ready, Found, LineParts, OwnDistance, PinDue}
use Rattle.pin.specs.declared.Pair.{Pair}
use Rattle.pin.specs.declared.Pin.{Pin}

module _ {P : Points} {p : Pin} {t : Pair} {w : ℤ} (ready : Ready P p) (level : OneValue P) (beyond : Beyond P p.x.count) (best : Found P p t) (own : OwnDistance P p w) where
  abbrev x : ℤ
  x = p.x.count

  abbrev v : ℤ
  v = p.v.count

  -- the pair's fraction, and how far the first value lies off
  abbrev n : ℕ
  n = wide P x v t.i t.j

  abbrev s : ℕ
  s = nat_abs (den P x t.i t.j)

  abbrev r : ℕ
  r = nat_abs (rise P v 0)

  proper : Proper P
  proper = ready.admitted.proper

  top : Greatest P x v t.i t.j
  top = best.top

  num_whole : t.num ≡ pos n
  num_whole = sym (nat_nonneg best.paired.sign) ∙ ap (λ (z : ℤ). pos (nat_abs z)) best.paired.num_is

  den_whole : t.den ≡ pos s
  den_whole = best.paired.den_is ∙ sym (den_is top.fits)

  -- the test, in natural numbers
  tested : {k : ℕ} → w ≡ pos k → lt_z (t.num *ℤ pos 1) (w *ℤ t.den) ≡ ltb (n * 1) (k * s)
  tested o = ap₂ lt_z (ap (λ (z : ℤ). z *ℤ pos 1) num_whole) (ap₂ ◌*ℤ◌ o den_whole)

  -- ---- the first value lies no further off than the pair
  nearer : lt_z (t.num *ℤ pos 1) (w *ℤ t.den) ≡ false → Nearer P x v t.i t.j
  nearer e o = omega (arith, ltb-false (n * 1) (r * s) (sym (tested (own.own o)) ∙ e))

  module _ (test : lt_z (t.num *ℤ pos 1) (w *ℤ t.den) ≡ false) {f : Fit} (h : LineParts P p t (FitParts f)) where
    some : 0 < part P x t.i t.j
    some = part_some proper top.fits

    b_is : f.b ≡ v *ℤ den P x t.i t.j -ℤ (rise P v t.i +ℤ rise P v t.j) *ℤ x
    b_is = h.b_is ∙ ap (λ (z : ℤ). v *ℤ z -ℤ (rise P v t.i +ℤ rise P v t.j) *ℤ x) best.paired.den_is

    q_told : f.q ≡ nat_abs t.den * P.d
    q_told = ap nat_abs h.q_is ∙ size_product t.den (pos P.d)

    q_is : f.q ≡ part P x t.i t.j
    q_is = q_told ∙ ap (λ (z : ℤ). nat_abs z * P.d) best.paired.den_is

    same : Same (pair_line P x v t.i t.j some) (line_of f h.told.some)
    same = same_written (sym h.a_is) (sym b_is) (sym q_is)

    pub line_due : TheLine (Passing P x v) P f
    line_due =
        the_line h.told (pair_line P x v t.i t.j some) (same_passing P x v same (pair_passing proper v top.fits some)) same (pair_within proper level beyond top (nearer test) some) (pair_least proper level beyond top (nearer test))
        (pair_single proper v top.fits some (omega arith)) (alike_written some (ap nat_abs (sym (h.w_is ∙ best.paired.num_is))) (sym q_is)) (omega (arith, q_told, mul-le-mul_right P.d best.paired.den_most))

  -- ---- it lies further off
  module _ (test : lt_z (t.num *ℤ pos 1) (w *ℤ t.den) ≡ true) where
    further : Further P x v t.i t.j
    further = ⊎_elim (λ h. at (le_antisym h (beyond 0 (omega (arith, ready.admitted.three))))) (λ h. absurd (past h)) (le_or_gt (P.x 0) x)
      where
        at : P.x 0 ≡ x → Further P x v t.i t.j
        at o = (o, omega (arith, ltb-true (n * 1) (r * s) (sym (tested (own.own o)) ∙ test)))

        past : x <ℤ P.x 0 → ⊥
        past h =
            let o : w ≡ pos 0 = own.none (λ e. clash_ℤ h (subst (λ (z : ℤ). z ≤ℤ x) (sym e) (≤ℤ_refl x))) in
            omega (arith, ltb-true (n * 1) (0 * s) (sym (tested o) ∙ test))

    pub several_due : {h : Wide} → WideParts (pos 2 *ℤ w) P.d h → OnlyWidth (Passing P x v) P h
    several_due {h} k =
        let w_is : w ≡ pos r = own.own further.0 in
        let is : h.w ≡ pos (2 * r) = k.w_is ∙ ap (λ (z : ℤ). pos 2 *ℤ z) w_is in
        let size : nat_abs h.w ≡ 2 * r = ap nat_abs is in
        let most : r ≤ 206000000 = subst (λ (z : ℤ). nat_abs z ≤ 206000000) w_is own.most in
        let e : Alike r P.d (nat_abs h.w) h.q = record { some = proper.unit; some' = omega (arith, k.q_is, proper.unit); is = ap (λ (m : ℕ). r * m) k.q_is ∙ regroup r P.d ∙ sym (ap (λ (m : ℕ). m * P.d) size) } in
        record {
          some = e.some';
          sign = subst (λ (z : ℤ). pos 0 ≤ℤ z) (sym is) (nonneg_nat (2 * r));
          width = k.width;
          w_most = omega arith;
          q_most = omega (arith, k.q_is, ready.admitted.unit);
          least = least_alike e (own_least proper level beyond top further);
          several = several_alike e (own_several proper level beyond top further);
        }
      where
        regroup : (r d : ℕ) → r * (2 * d) ≡ 2 * r * d
        regroup r d = omega arith

-- ---- the fixed points of `zero` and `front`
abbrev pub origin : Pin
origin = record { x = record { count = pos 0 }; v = record { count = pos 0 } }

abbrev pub first : Points → Pin
first P = record { x = record { count = P.x 0 }; v = record { count = P.low 0 } }

module _ {P : Points} (a : Admitted P) (level : OneValue P) where
  pub zero_due : NoNegative P → (r : Drawn) → PinDue P origin r → ZeroDue P r
  zero_due h (drawn.Line f) due = (a, level, h, due)
  zero_due h (drawn.Several k) due = (a, level, h, due)
  zero_due h drawn.Improper due = absurd due

  pub front_due : (r : Drawn) → PinDue P (first P) r → FrontDue P r
  front_due (drawn.Line f) due = (a, level, due)
  front_due (drawn.Several k) due = exclusive (front_single a.proper level due.least) due.several
  front_due drawn.Improper due = absurd due
