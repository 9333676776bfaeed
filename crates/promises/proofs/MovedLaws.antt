-- The shifted line that an answer reports is the terminal line moved.
use Rattle.std.specs.Prelude.{◌≡◌, ◌∷◌, [], ℕ, ◌*◌, ◌<◌, ℤ, pos, ◌*ℤ◌}
use Rattle.std.proofs.Common.{ap, ◌∙◌, arith}
use Rattle.whole.specs.Poly.{var, lit, ◌⊗◌}
use Rattle.whole.specs.Ring.{ring}
use Rattle.whole.specs.Sign.{positive_nat}
use Rattle.exact.specs.Value.{Made}
use Rattle.exact.specs.declared.Fraction.{Fraction}
use Rattle.run.specs.Checks.{verdict}
use Rattle.run.specs.Checked.{Checked, checked}
use Rattle.run.specs.declared.Run.{Run}
use Rattle.band.specs.Line.{Line}
use Rattle.band.specs.Same.{through}
use Rattle.band.specs.Shift.{wide_is, shift_wide}
use Rattle.bands.specs.Admitted.{proper_means}
use Rattle.due.specs.Due.{Fits, Stands, Due}
use Rattle.due.specs.OneFit.{fits_once}
use Rattle.due.specs.Cases.{several, one_line, Case, no_run, below_zero, one_stroke, one_cycle, given, due_case}
use Rattle.due.specs.declared.Answer.{Answer}
use Rattle.due.specs.declared.Index.TheVariants as index
use Rattle.promises.specs.Ends.{base, base_terminal, lo, hi, range, shifted, shifted_best}
use Rattle.promises.specs.Demand2.{Is, Moved}

pub made_is : {n : ℤ} {d : ℕ} {f : Fraction} → 0 < d → Made n d f → Is n d f
made_is some m = record { lowest = m.lowest; worth = m.worth some }

-- the same value, written otherwise
is_same : {n n' : ℤ} {d d' : ℕ} {f : Fraction} → 0 < d → n *ℤ pos d' ≡ n' *ℤ pos d → Is n d f → Is n' d' f
is_same {n} {n'} {d} {d'} {f} some e i = record { lowest = i.lowest; worth = through f.num n n' _ _ _ (positive_nat some) i.worth e }

module _ (r : Run) (e : (verdict r).number ≡ 0) where
  c : Checked r
  c = checked r e

  moved_by : {a : Answer} (L : Line) (w z : ℕ) → 0 < z → Fits index.Shifted r L w z → Stands r L w z a → Moved r a
  moved_by {a} L w z some f s =
      let T = base c in
      let one = fits_once index.Shifted c f (record { base = T; terminal = base_terminal c; best = shifted_best c }) in
      let d = 2 * r.n in
      let slope : Is (shifted c).a (shifted c).q a.slope = is_same L.some one.line.slope (made_is L.some s.slope) in
      record {
        base = T;
        terminal = base_terminal c;
        lo = lo c;
        hi = hi c;
        range = range c;
        slope = is_same (shifted c).some (ring (pos d ∷ T.a ∷ pos T.q ∷ []) (lit 2 ⊗ var 0 ⊗ var 1 ⊗ var 2) (var 1 ⊗ (lit 2 ⊗ var 0 ⊗ var 2)) tt) slope;
        offset = is_same L.some one.line.offset (made_is L.some s.offset);
        width = is_same some (ap (λ (n : ℕ). pos n) (regroup w z d T.q (shift_wide (lo c) (hi c)) one.width) ∙ ap (λ (n : ℤ). n *ℤ pos z) (wide_is (proper_means c) (range c))) (made_is some s.width);
      }
    where
      regroup : (w z d q v : ℕ) → w * (2 * q * d) ≡ v * z → w * (2 * d * q) ≡ v * z
      regroup w z d q v h = omega arith

  shifted_case : {a : Answer} → Case index.Shifted r a → Moved r a
  shifted_case (no_run n _) = absurd (n e)
  shifted_case (below_zero _ b _) = absurd b.asked
  shifted_case (one_stroke _ _ o _) = absurd o.0
  shifted_case (one_cycle _ _ _ o _) = absurd o.0
  shifted_case (given _ _ _ _ (several w z _ m _ _)) = absurd m
  shifted_case (given _ _ _ _ (one_line L w z some f _ s)) = moved_by L w z some f s

  pub the_shifted : (a : Answer) → Due index.Shifted r a → Moved r a
  the_shifted a d = shifted_case (due_case d)
