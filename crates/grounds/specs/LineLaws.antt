-- What `fit` and `pin` find past a run's points is what the index of that line stands on; and when 15 is due.
use Rattle.std.specs.Prelude.{◌≡◌, refl, pos, ◌<ℤ◌}
use Rattle.std.proofs.Common.{inl, arith}
use Rattle.run.specs.Run.{input}
use Rattle.run.specs.Checks.{verdict}
use Rattle.run.specs.Checked.{checked}
use Rattle.run.specs.declared.Run.{Run}
use Rattle.groups.specs.Search.{limit}
use Rattle.groups.specs.Rounded.{with_found}
use Rattle.band.specs.Line.{Points}
use Rattle.band.specs.Same.{same_written}
use Rattle.fit.specs.Answer.{BestDue, TheTerminal, TheShifted}
use Rattle.fit.specs.Once.{level_single}
use Rattle.fit.specs.Plot.{CourseDue, PlotDue}
use Rattle.fit.specs.declared.Course.{Course}
use Rattle.fit.specs.declared.Plotted.{Plotted}
use Rattle.pin.specs.Answer.{ZeroDue, FrontDue}
use Rattle.bands.specs.Through.{means, stroke_points, limit_points}
use Rattle.bands.specs.Parts.{SamePoints}
use Rattle.bands.specs.Transfer.{largest_points, terminal_points}
use Rattle.due.specs.Due.{BelowZero}
use Rattle.due.specs.DueLaws.{below_first, best_line, many_lines, best_same, best_points, best_zero, many_zero, best_front}
use Rattle.due.specs.Ground.{Answered, GroundDue}
use Rattle.due.specs.GroundLaws.{plainly, cycles_two}
use Rattle.due.specs.declared.Ground.TheVariants as ground
use Rattle.due.specs.declared.Index.TheVariants as index
use Rattle.grounds.specs.Found.{owned, stood}
use Rattle.grounds.specs.FoundLaws.{whole, whole_tells, whole_width, own_rests, plot_stands}

-- ---- the terminal line and the shifted one
module _ {P : Points} (r : Run) {c : Course} (fine : (verdict r).number ≡ 0) (e : SamePoints P (means r)) where
  pub terminal_stands : CourseDue (TheTerminal P) c → GroundDue index.Terminal r (ground.Line (owned c))
  terminal_stands d =
      let t = d.due (whole c) (whole_tells c) in
      (plainly index.Terminal refl refl refl fine, own_rests t.told (terminal_points e (omega (arith, (checked r fine).m_least)) t.ends, largest_points e t.largest))

  pub shifted_stands : CourseDue (TheShifted P) c → GroundDue index.Shifted r (ground.Line (owned c))
  shifted_stands d =
      let t = d.due (whole c) (whole_tells c) in (
        plainly index.Shifted refl refl refl fine,
        own_rests t.line.told (record {
          base = t.base;
          terminal = terminal_points e (omega (arith, (checked r fine).m_least)) t.terminal;
          best = best_same (same_written refl refl refl) t.line.member (best_points e (best_line t.line));
        }),
      )

-- ---- the best lines
-- T has one value at each input, so that its line is single
pub independent_stands : (r : Run) → (verdict r).number ≡ 0 → (p : Plotted) → PlotDue (BestDue (means r)) p → GroundDue index.Independent r (stood p)
independent_stands r fine = plot_stands (plainly index.Independent refl refl refl fine)
    (λ c d. own_rests d.1.told (best_line d.1))
    (λ h d. absurd (level_single (means r) (λ i g. refl) (whole_width h) d))

pub strokes_stand : (r : Run) → Answered index.Lh r → (p : Plotted) → PlotDue (BestDue (stroke_points r)) p → GroundDue index.Lh r (stood p)
strokes_stand r o = plot_stands o
    (λ c d. own_rests d.1.told (best_line d.1))
    (λ h d. (o, d.1.some, d.1.sign, many_lines d.1))

pub limits_stand : (r : Run) → Answered index.Lhr r → (p : Plotted) → PlotDue (BestDue (limit_points r (limit r))) p → GroundDue index.Lhr r (stood p)
limits_stand r o = let k = cycles_two index.Lhr tt o in plot_stands o
    (λ c d. own_rests d.1.told (with_found (checked r o.fine) k (best_line d.1)))
    (λ h d. (o, d.1.some, d.1.sign, with_found (checked r o.fine) k (many_lines d.1)))

-- ---- a negative input
pub fifteen : (r : Run) → (verdict r).number ≡ 0 → input r 0 <ℤ pos 0 → GroundDue index.Zero r (ground.Refused 15)
fifteen r fine l = (fine, inl (refl, below_first (checked r fine) tt l))

-- ---- the lines through a fixed point
module _ {P : Points} (r : Run) (fine : (verdict r).number ≡ 0) (e : SamePoints P (means r)) where
  pub zero_stands : (BelowZero index.Zero r → ⊥) → (p : Plotted) → PlotDue (ZeroDue P) p → GroundDue index.Zero r (stood p)
  zero_stands none =
      let o : Answered index.Zero r = record { fine = fine; from_zero = none; strokes = λ h. absurd h.0; cycles = λ h. absurd h.0 } in
      plot_stands o
      (λ c d. own_rests d.3.told (best_zero e (best_line d.3)))
      (λ h d. (o, d.3.some, d.3.sign, many_zero e (many_lines d.3)))

  pub front_stands : (p : Plotted) → PlotDue (FrontDue P) p → GroundDue index.Front r (stood p)
  front_stands =
      let m = (checked r fine).m_least in
      plot_stands (plainly index.Front refl refl refl fine)
      (λ c d. own_rests d.2.told (best_front e (omega (arith, m)) (best_line d.2)))
      (λ h d. absurd d)
