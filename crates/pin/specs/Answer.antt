-- Which line through a fixed point, or which width, is due for points (the Standard, 2.3.5.4 and 2.3.5.5). Definitions only: nothing here says how the line is found.
use Rattle.std.specs.Prelude.{ℕ, ◌<◌, pos, ◌≤ℤ◌}
use Rattle.band.specs.Line.{Points, OneValue, Zero, Front}
use Rattle.band.specs.Band.{Admitted}
use Rattle.fit.specs.Answer.{TheLine, OnlyWidth}
use Rattle.fit.specs.declared.Drawn.{Drawn}
use Rattle.fit.specs.declared.Drawn.TheVariants as drawn

-- no input is negative
abbrev pub NoNegative : Points → Type 0
NoNegative P = (i : ℕ) → i < P.m → pos 0 ≤ℤ P.x i

-- zero-based (2.3.5.4): of the lines through the origin the one whose largest deviation is least; its width alone, where several reach it
abbrev pub ZeroDue : Points → Drawn → Type 0
ZeroDue P (drawn.Line f) = Admitted P × OneValue P × NoNegative P × TheLine (Zero P) P f
ZeroDue P (drawn.Several h) = Admitted P × OneValue P × NoNegative P × OnlyWidth (Zero P) P h
ZeroDue P drawn.Improper = Admitted P → OneValue P → NoNegative P → ⊥

-- front terminal-based (2.3.5.5): of the lines through the first point the one whose largest deviation is least. Several never reach it
abbrev pub FrontDue : Points → Drawn → Type 0
FrontDue P (drawn.Line f) = Admitted P × OneValue P × TheLine (Front P) P f
FrontDue P (drawn.Several h) = ⊥
FrontDue P drawn.Improper = Admitted P → OneValue P → ⊥
