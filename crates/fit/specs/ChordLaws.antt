-- Two admitted inputs: what `through` asks of the values there, and what a line through them tells.
use Rattle.std.specs.Prelude.{◌≡◌, ◌∷◌, [], ℕ, ◌<◌, ◌≤◌, ℤ, pos, nat_abs, ◌-ℤ◌, ◌*ℤ◌, ◌≤ℤ◌, ◌<ℤ◌}
use Rattle.std.proofs.Common.{sym, ap, ap₂, subst, arith}
use Rattle.whole.specs.Machine.{Bounds}
use Rattle.whole.specs.Sign.{Positive, lt_sign}
use Rattle.band.specs.Line.{Points}
use Rattle.band.specs.Band.{most_x, most_v, most_d, Admitted}
use Rattle.fit.specs.Ends.{most_a, most_b, most_gap, most_e, Through}
use Rattle.fit.specs.Parts.{CourseParts, Over, Chosen}
use Rattle.fit.specs.PartsLaws.{parts_is}
use Rattle.fit.specs.declared.Ends.{Ends}
use Rattle.fit.specs.declared.Course.{Course}

module _ {P : Points} (a : Admitted P) {i k : ℕ} (h : i < k) (l : k < P.m) where
  first : i < P.m
  first = omega (arith, h, l)

  -- what `through` asks of the values v at the two inputs
  pub asked : (v : ℕ → ℤ) → ((p : ℕ) → p < P.m → nat_abs (v p) ≤ most_v) → Bounds (P.x i ∷ P.x k ∷ v i ∷ v k ∷ []) (most_x ∷ most_x ∷ most_v ∷ most_v ∷ []) × ((i < 11) × (k < 11))
  asked v most = ((a.inputs i first, (a.inputs k l, (most i first, (most k l, tt)))), (omega (arith, first, a.eleven), omega (arith, l, a.eleven)))

  -- the gap is positive
  pub gap_some : {u v : ℤ} {e : Ends} → Through (P.x i) (P.x k) u v e → pos 0 <ℤ e.s
  gap_some t = subst Positive (sym t.s_is) (lt_sign (a.proper.rise i k h l))

-- a chord over the values u and v at two inputs: s and w are what the code stores, s' the shift that s stands for
module _ {P : Points} {i k : ℕ} {n : ℤ} (h : Chosen P i k n) {u v : ℤ} {e : Ends} (t : Through (P.x i) (P.x k) u v e) {s w s' : ℤ} (es : s ≡ s') (ew : w ≡ n) where
  pub chord_asks : nat_abs s' ≤ most_e → Bounds (e.a ∷ e.b ∷ e.s ∷ s ∷ w ∷ pos P.d ∷ []) (most_a ∷ most_b ∷ most_gap ∷ most_e ∷ most_e ∷ most_d ∷ []) × Over e.s w P.d
  chord_asks m =
      let b = h.admitted in
      ((t.a_most, (t.b_most, (t.s_most, (subst (λ (z : ℤ). nat_abs z ≤ most_e) (sym es) m, (subst (λ (z : ℤ). nat_abs z ≤ most_e) (sym ew) h.size, (b.unit, tt)))))), record { rise = gap_some b h.order h.fits t; sign = subst (λ (z : ℤ). pos 0 ≤ℤ z) (sym ew) h.sign; unit = b.proper.unit })

  pub chord_tells : {c : Course} → CourseParts c (pos 2 *ℤ e.a) (pos 2 *ℤ e.b -ℤ s) (pos 2 *ℤ e.s *ℤ pos P.d) w → CourseParts c (pos 2 *ℤ (v -ℤ u)) (pos 2 *ℤ (P.x k *ℤ u -ℤ P.x i *ℤ v) -ℤ s') (pos 2 *ℤ (P.x k -ℤ P.x i) *ℤ pos P.d) n
  chord_tells p = parts_is (ap (λ (z : ℤ). pos 2 *ℤ z) t.a_is) (ap₂ (λ (b z : ℤ). pos 2 *ℤ b -ℤ z) t.b_is es) (ap (λ (z : ℤ). pos 2 *ℤ z *ℤ pos P.d) t.s_is) ew p
