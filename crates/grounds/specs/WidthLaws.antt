-- A width that is no line's, with the independent line: what hysteresis and repeatability stand on; and when 16 and 13 are due.
use Rattle.std.specs.Prelude.{◌≡◌, refl, Bool, true, false, ℕ, ◌*◌, ◌<◌, ◌≤◌, T, eqb, ℤ, pos, nat_abs, ◌≤ℤ◌}
use Rattle.std.proofs.Common.{sym, ap, ◌∙◌, subst, inl, inr, mul-le-mul_right, arith, eq-eqb, eqb→eq}
use Rattle.std.proofs.Math.Facts.{T_not}
use Rattle.whole.specs.Flags.{yes-T, no-T}
use Rattle.whole.specs.Sign.{nonneg_mul, nonneg_nat}
use Rattle.whole.specs.Size.{size_sub, size_product}
use Rattle.whole.specs.Greater.{greater_size}
use Rattle.run.specs.Run.{last_stroke}
use Rattle.run.specs.Checks.{verdict}
use Rattle.run.specs.Checked.{Checked, checked, first_there, last_there}
use Rattle.run.specs.declared.Run.{Run}
use Rattle.groups.specs.Sums.{up_sum, down_sum}
use Rattle.groups.specs.Search.{limit}
use Rattle.groups.specs.Rounded.{with_found}
use Rattle.groups.specs.Limit.{total_size, limit_most}
use Rattle.band.specs.Line.{Line}
use Rattle.fit.specs.Answer.{BestDue}
use Rattle.fit.specs.Once.{level_single}
use Rattle.fit.specs.Plot.{PlotDue}
use Rattle.fit.specs.declared.Plotted.{Plotted}
use Rattle.fit.specs.declared.Plotted.TheVariants as plotted
use Rattle.fit.specs.declared.Drawn.TheVariants as drawn
use Rattle.bands.specs.Through.{means, LargestOf}
use Rattle.bands.specs.Parts.{width_at}
use Rattle.bands.specs.declared.Width.{Width}
use Rattle.bands.specs.declared.Width.TheVariants as widths
use Rattle.due.specs.Due.{Independent, Fits, BelowZero, from_zero, needs_down, scatters}
use Rattle.due.specs.DueLaws.{best_line}
use Rattle.due.specs.Ground.{Answered, GroundDue}
use Rattle.due.specs.GroundLaws.{cycles_two}
use Rattle.due.specs.declared.Ground.{Ground}
use Rattle.due.specs.declared.Ground.TheVariants as ground
use Rattle.due.specs.declared.Index.{Index}
use Rattle.due.specs.declared.Index.TheVariants as index
use Rattle.grounds.specs.Found.{wide_index, Narrow, Widened}
use Rattle.grounds.specs.FoundLaws.{whole, whole_tells, whole_width, whole_width_tells}

-- ---- one of a kind, or not
pub alone : {n : ℕ} {t : Bool} → t ≡ eqb n 1 → t ≡ true → n ≡ 1
alone {n} e h = eqb→eq n 1 (yes-T (sym e ∙ h))

pub not_alone : {n : ℕ} {t : Bool} → t ≡ eqb n 1 → t ≡ false → n ≡ 1 → ⊥
not_alone {n} e h o = T_not (eqb n 1) (yes-T (eq-eqb n 1 o)) (no-T (sym e ∙ h))

-- ---- 16, then 13
module _ (which : Index) (r : Run) (e : from_zero which ≡ false) (fine : (verdict r).number ≡ 0) where
  not_below : BelowZero which r → ⊥
  not_below b = absurd (subst T e b.asked)

  pub sixteen : T (needs_down which) → r.strokes ≡ 1 → GroundDue which r (ground.Refused 16)
  sixteen t o = (fine, inr (inl (refl, not_below, (t, o))))

  module _ (back : r.strokes ≡ 1 → ⊥) where
    pub answered_strokes : scatters which ≡ false → Answered which r
    answered_strokes f = record { fine = fine; from_zero = not_below; strokes = λ h. back h.1; cycles = λ h. absurd (subst T f h.0) }

    pub answered_cycles : (r.n ≡ 1 → ⊥) → Answered which r
    answered_cycles n = record { fine = fine; from_zero = not_below; strokes = λ h. back h.1; cycles = λ h. n h.1 }

    pub thirteen : T (scatters which) → r.n ≡ 1 → GroundDue which r (ground.Refused 13)
    thirteen t o = (fine, inr (inr (refl, not_below, (λ h. back h.1), (t, o))))

-- ---- the widths
-- no width is above twice the largest sum
width_most : (k : Width) {r : Run} → Checked r → (i : ℕ) → i < r.m → width_at k r i ≤ 20000000
width_most widths.Swing {r} c i h = size_sub (down_sum r i) (up_sum r i) 10000000 10000000 (total_size c (last_stroke r) i (last_there c) h) (total_size c 0 i (first_there c) h)
width_most widths.Scatter {r} c i h = greater_size (pos (limit r 0 i)) (pos (limit r (last_stroke r) i)) 20000000 (omega (arith, limit_most r 0 i)) (omega (arith, limit_most r (last_stroke r) i))

pub widest_most : (k : Width) {r : Run} {w : ℕ} → Checked r → LargestOf r.m (width_at k r) w → w ≤ 20000000
widest_most k {r} c l = subst (λ (w : ℕ). w ≤ 20000000) l.reached (width_most k c l.place l.within)

fits_wide : (k : Width) (r : Run) {L : Line} {w : ℕ} → Answered (wide_index k) r → Independent r L → LargestOf r.m (width_at k r) w → Fits (wide_index k) r L w r.n
fits_wide widths.Swing r o i l = (i, l, refl)
fits_wide widths.Scatter r o i l = (i, with_found (checked r o.fine) (cycles_two index.Repeatability tt o) l, refl)

-- the line's denominator is small: it is at most 120,000 units
pub narrow : {r : Run} → Checked r → (p : Plotted) → PlotDue (BestDue (means r)) p → Narrow p
narrow k (plotted.Line c) d = omega (arith, (d.due (drawn.Line (whole c)) (whole_tells c)).1.unit, k.n_most)
narrow k (plotted.Several h) d = tt

-- ---- the width over the line's denominator
module _ (k : Width) {r : Run} (known : Checked r) (o : Answered (wide_index k) r) {v : ℤ} (sign : pos 0 ≤ℤ v) (l : LargestOf r.m (width_at k r) (nat_abs v)) where
  pub width_stands : (p : Plotted) → PlotDue (BestDue (means r)) p → (g : Ground) → Widened p v r.n g → GroundDue (wide_index k) r g
  width_stands (plotted.Line c) d g is =
      let line = (d.due (drawn.Line (whole c)) (whole_tells c)).1 in
      let t = line.told in
      let size = size_product v (pos c.q) in
      let most = widest_most k known l in
      subst (GroundDue (wide_index k) r) (sym is) (
        o,
        record {
          tellable = record {
            some = t.some;
            unit = known.n_least;
            sign = nonneg_mul sign (nonneg_nat c.q);
            num_most = omega (arith, size, mul-le-mul_right c.q most, narrow known (plotted.Line c) d);
            a_most = t.a_most;
            unit_most = known.n_most;
            q_most = t.q_most;
          };
          w = nat_abs v;
          z = r.n;
          some = known.n_least;
          fits = fits_wide k r o (record { w = nat_abs c.w; z = c.q; best = best_line line }) l;
          is = regroup (nat_abs v) r.n c.q ∙ ap (λ (n : ℕ). n * r.n) (sym size);
        },
      )
    where
      regroup : (w n q : ℕ) → w * (n * q) ≡ w * q * n
      regroup w n q = omega arith
  width_stands (plotted.Several h) d g is = absurd (level_single (means r) (λ i h. refl) (whole_width h) (d.due (drawn.Several (whole_width h)) (whole_width_tells h)))
