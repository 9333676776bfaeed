-- What a function of this crate answers: which line, or which width, is due for points. Definitions only.
use Rattle.std.specs.Prelude.{◌*◌, ◌<◌, ◌≤◌, pos, nat_abs, ◌≤ℤ◌}
use Rattle.exact.specs.Value.{Made}
use Rattle.band.specs.Line.{Line, Points, OneValue, Within, Largest, All, Parallel, Least, Single, Several, Terminal}
use Rattle.band.specs.Band.{Admitted}
use Rattle.fit.specs.declared.Fit.{Fit}
use Rattle.fit.specs.declared.Wide.{Wide}
use Rattle.fit.specs.declared.Drawn.{Drawn}
use Rattle.fit.specs.declared.Drawn.TheVariants as drawn

abbrev pub line_of : (f : Fit) → 0 < f.q → Line
line_of f some = record { a = f.a; b = f.b; q = f.q; some = some }

-- the fractions are the whole numbers in lowest terms, and these are no larger than what a caller may count on
pub record Told (f : Fit) : Type 0 where
  pub some : 0 < f.q
  pub sign : pos 0 ≤ℤ f.w
  pub width : Made f.w f.q f.width
  pub slope : Made f.a f.q f.slope
  pub offset : Made f.b f.q f.offset
  pub a_most : nat_abs f.a ≤ 412000000
  pub b_most : nat_abs f.b ≤ 50000000000000
  pub w_most : nat_abs f.w ≤ 40000000000000
  pub q_most : f.q ≤ 24000000

-- f is the one line of the family F whose largest deviation is least, with that deviation. Its denominator is no larger than twice the widest gap of inputs, in units of 1/d
pub record TheLine (F : Line → Type 0) (P : Points) (f : Fit) : Type 0 where
  pub told : Told f
  pub member : F (line_of f told.some)
  pub reached : Within P (line_of f told.some) (nat_abs f.w) f.q
  pub least : Least F P (nat_abs f.w) f.q
  pub single : Single F P (nat_abs f.w) f.q
  pub unit : f.q ≤ 120000 * P.d

-- h is the least largest deviation in the family F, which several of its lines reach
pub record OnlyWidth (F : Line → Type 0) (P : Points) (h : Wide) : Type 0 where
  pub some : 0 < h.q
  pub sign : pos 0 ≤ℤ h.w
  pub width : Made h.w h.q h.width
  pub w_most : nat_abs h.w ≤ 40000000000000
  pub q_most : h.q ≤ 24000000
  pub least : Least F P (nat_abs h.w) h.q
  pub several : Several F P (nat_abs h.w) h.q

-- the line of least largest deviation (2.3.5.6)
abbrev pub BestDue : Points → Drawn → Type 0
BestDue P (drawn.Line f) = Admitted P × TheLine All P f
BestDue P (drawn.Several h) = Admitted P × OnlyWidth All P h
BestDue P drawn.Improper = Admitted P → ⊥

-- the terminal line (2.3.5.2) with its largest deviation
pub record TheTerminal (P : Points) (f : Fit) : Type 0 where
  pub told : Told f
  pub ends : Terminal P (line_of f told.some)
  pub largest : Largest P (line_of f told.some) (nat_abs f.w) f.q

abbrev pub TerminalDue : Points → Drawn → Type 0
TerminalDue P (drawn.Line f) = Admitted P × OneValue P × TheTerminal P f
TerminalDue P (drawn.Several h) = ⊥
TerminalDue P drawn.Improper = Admitted P → OneValue P → ⊥

-- the shifted terminal line (A2.2.1.1): of the lines of the terminal line's slope the one whose largest deviation is least
pub record TheShifted (P : Points) (f : Fit) : Type 0 where
  pub base : Line
  pub terminal : Terminal P base
  pub line : TheLine (Parallel base) P f

abbrev pub ShiftedDue : Points → Drawn → Type 0
ShiftedDue P (drawn.Line f) = Admitted P × OneValue P × TheShifted P f
ShiftedDue P (drawn.Several h) = ⊥
ShiftedDue P drawn.Improper = Admitted P → OneValue P → ⊥
