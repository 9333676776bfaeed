-- What is found in whole numbers, and what is due said of it: of every answer that has these numbers and their fractions. Method.
use Rattle.std.specs.Prelude.{◌≡◌}
use Rattle.exact.specs.Value.{Made}
use Rattle.fit.specs.declared.Course.{Course}
use Rattle.fit.specs.declared.Reach.{Reach}
use Rattle.fit.specs.declared.Plotted.{Plotted}
use Rattle.fit.specs.declared.Plotted.TheVariants as plotted
use Rattle.fit.specs.declared.Fit.{Fit}
use Rattle.fit.specs.declared.Wide.{Wide}
use Rattle.fit.specs.declared.Drawn.{Drawn}
use Rattle.fit.specs.declared.Drawn.TheVariants as drawn

-- f has the numbers of c, and their fractions in lowest terms
pub record Tells (c : Course) (f : Fit) : Type 0 where
  pub a_is : f.a ≡ c.a
  pub b_is : f.b ≡ c.b
  pub q_is : f.q ≡ c.q
  pub w_is : f.w ≡ c.w
  pub width : Made f.w f.q f.width
  pub slope : Made f.a f.q f.slope
  pub offset : Made f.b f.q f.offset

-- the same of a width alone
pub record TellsWidth (h : Reach) (k : Wide) : Type 0 where
  pub w_is : k.w ≡ h.w
  pub q_is : k.q ≡ h.q
  pub width : Made k.w k.q k.width

abbrev pub Completes : Plotted → Drawn → Type 0
Completes (plotted.Line c) (drawn.Line f) = Tells c f
Completes (plotted.Line c) (drawn.Several k) = ⊥
Completes (plotted.Line c) drawn.Improper = ⊥
Completes (plotted.Several h) (drawn.Line f) = ⊥
Completes (plotted.Several h) (drawn.Several k) = TellsWidth h k
Completes (plotted.Several h) drawn.Improper = ⊥

-- D is due of the line c, with its fractions
pub record CourseDue (D : Fit → Type 0) (c : Course) : Type 0 where
  pub due : (f : Fit) → Tells c f → D f

-- D is due of what was found, with its fractions
pub record PlotDue (D : Drawn → Type 0) (p : Plotted) : Type 0 where
  pub due : (d : Drawn) → Completes p d → D d

-- what follows of what is drawn follows of what is found
pub plot_due : {D E : Drawn → Type 0} → ((d : Drawn) → D d → E d) → {p : Plotted} → PlotDue D p → PlotDue E p
plot_due to h = record { due = λ d t. to d (h.due d t) }

-- ---- what was found is a line, or a width alone
pub line_plotted : {D : Drawn → Type 0} {c : Course} → ((f : Fit) → Tells c f → D (drawn.Line f)) → PlotDue D (plotted.Line c)
line_plotted {D} {c} g = record { due = go }
  where
    go : (d : Drawn) → Completes (plotted.Line c) d → D d
    go (drawn.Line f) t = g f t
    go (drawn.Several k) t = absurd t
    go drawn.Improper t = absurd t

pub several_plotted : {D : Drawn → Type 0} {h : Reach} → ((k : Wide) → TellsWidth h k → D (drawn.Several k)) → PlotDue D (plotted.Several h)
several_plotted {D} {h} g = record { due = go }
  where
    go : (d : Drawn) → Completes (plotted.Several h) d → D d
    go (drawn.Line f) t = absurd t
    go (drawn.Several k) t = g k t
    go drawn.Improper t = absurd t
