-- What was found, with the fractions that it is said of, is what an index stands on.
use Rattle.std.specs.Prelude.{◌≡◌, refl, ℕ, ◌*◌, ◌≤◌, nat_abs}
use Rattle.std.proofs.Common.{subst, arith}
use Rattle.exact.specs.Exists.{some_made}
use Rattle.run.specs.declared.Run.{Run}
use Rattle.band.specs.Line.{Points}
use Rattle.fit.specs.Answer.{Told, line_of, BestDue}
use Rattle.fit.specs.Plot.{Tells, TellsWidth, PlotDue, plot_due}
use Rattle.fit.specs.declared.Course.{Course}
use Rattle.fit.specs.declared.Reach.{Reach}
use Rattle.fit.specs.declared.Plotted.{Plotted}
use Rattle.fit.specs.declared.Plotted.TheVariants as plotted
use Rattle.fit.specs.declared.Fit.{Fit}
use Rattle.fit.specs.declared.Wide.{Wide}
use Rattle.fit.specs.declared.Drawn.{Drawn}
use Rattle.fit.specs.declared.Drawn.TheVariants as drawn
use Rattle.bands.specs.Parts.{SamePoints}
use Rattle.bands.specs.Transfer.{same_points_sym, within_points, least_points, single_points, several_points}
use Rattle.bands.specs.Admitted.{admitted}
use Rattle.due.specs.Due.{Fits}
use Rattle.due.specs.Ground.{Rests, Answered, GroundDue}
use Rattle.due.specs.declared.Ground.TheVariants as ground
use Rattle.due.specs.declared.Index.{Index}
use Rattle.grounds.specs.Found.{owned, stood}

-- ---- the fractions of what was found
abbrev pub whole : Course → Fit
whole c = record { a = c.a; b = c.b; q = c.q; w = c.w; width = (some_made c.w c.q).0; slope = (some_made c.a c.q).0; offset = (some_made c.b c.q).0 }

pub whole_tells : (c : Course) → Tells c (whole c)
whole_tells c = record { a_is = refl; b_is = refl; q_is = refl; w_is = refl; width = (some_made c.w c.q).1; slope = (some_made c.a c.q).1; offset = (some_made c.b c.q).1 }

abbrev pub whole_width : Reach → Wide
whole_width h = record { w = h.w; q = h.q; width = (some_made h.w h.q).0 }

pub whole_width_tells : (h : Reach) → TellsWidth h (whole_width h)
whole_width_tells h = record { w_is = refl; q_is = refl; width = (some_made h.w h.q).1 }

-- ---- with its own width
pub own_rests : {which : Index} {r : Run} {c : Course} (t : Told (whole c)) → Fits which r (line_of (whole c) t.some) (nat_abs c.w) c.q → Rests which r (owned c)
own_rests {c = c} t fits = record {
  tellable = record { some = t.some; unit = omega arith; sign = t.sign; num_most = omega (arith, t.w_most); a_most = t.a_most; unit_most = omega arith; q_most = t.q_most };
  w = nat_abs c.w;
  z = c.q;
  some = t.some;
  fits = fits;
  is = one_of (nat_abs c.w) c.q;
}
  where
    one_of : (w q : ℕ) → w * (1 * q) ≡ w * q
    one_of w q = omega arith

-- a line or a width alone, as it was found
pub plot_stands : {which : Index} {r : Run} {D : Drawn → Type 0} → Answered which r → ((c : Course) → D (drawn.Line (whole c)) → Rests which r (owned c)) → ((h : Reach) → D (drawn.Several (whole_width h)) → GroundDue which r (ground.Several h)) → (p : Plotted) → PlotDue D p → GroundDue which r (stood p)
plot_stands o line several (plotted.Line c) d = (o, line c (d.due (drawn.Line (whole c)) (whole_tells c)))
plot_stands o line several (plotted.Several h) d = several h (d.due (drawn.Several (whole_width h)) (whole_width_tells h))

-- ---- the best line of points that are the same
module _ {P R : Points} (e : SamePoints P R) where
  best_same_points : (d : Drawn) → BestDue P d → BestDue R d
  best_same_points (drawn.Line f) b = (admitted b.0 (same_points_sym e), record { told = b.1.told; member = tt; reached = within_points e b.1.reached; least = least_points e b.1.least; single = single_points e b.1.single; unit = subst (λ (n : ℕ). f.q ≤ 120000 * n) e.d b.1.unit })
  best_same_points (drawn.Several h) b = (admitted b.0 (same_points_sym e), record { some = b.1.some; sign = b.1.sign; width = b.1.width; w_most = b.1.w_most; q_most = b.1.q_most; least = least_points e b.1.least; several = several_points e b.1.several })
  best_same_points drawn.Improper b = λ a. b (admitted a e)

  pub plot_points : {p : Plotted} → PlotDue (BestDue P) p → PlotDue (BestDue R) p
  plot_points = plot_due best_same_points
