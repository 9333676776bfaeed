-- Only one answer fits each public statement of this crate.
use Rattle.band.specs.Line.{Points}
use Rattle.band.specs.Same.{width_same}
use Rattle.fit.specs.Once.{Agree, line_once, wide_once, not_both}
use Rattle.fit.specs.declared.Drawn.{Drawn}
use Rattle.fit.specs.declared.Drawn.TheVariants as drawn
use Rattle.pin.specs.Answer.{ZeroDue, FrontDue}

-- `zero`
pub one_zero : (P : Points) (r s : Drawn) → ZeroDue P r → ZeroDue P s → Agree r s
one_zero P (drawn.Line f) (drawn.Line h) a b = line_once a.3 b.3
one_zero P (drawn.Line f) (drawn.Several h) a b = not_both a.3 b.3
one_zero P (drawn.Line f) drawn.Improper a b = b a.0 a.1 a.2
one_zero P (drawn.Several f) (drawn.Line h) a b = not_both b.3 a.3
one_zero P (drawn.Several f) (drawn.Several h) a b = wide_once a.3.width b.3.width a.3.some b.3.some a.3.sign b.3.sign (width_same a.3.least b.3.least)
one_zero P (drawn.Several f) drawn.Improper a b = b a.0 a.1 a.2
one_zero P drawn.Improper (drawn.Line h) a b = a b.0 b.1 b.2
one_zero P drawn.Improper (drawn.Several h) a b = a b.0 b.1 b.2
one_zero P drawn.Improper drawn.Improper a b = tt

-- `front`
pub one_front : (P : Points) (r s : Drawn) → FrontDue P r → FrontDue P s → Agree r s
one_front P (drawn.Line f) (drawn.Line h) a b = line_once a.2 b.2
one_front P (drawn.Line f) drawn.Improper a b = b a.0 a.1
one_front P drawn.Improper (drawn.Line h) a b = a b.0 b.1
one_front P drawn.Improper drawn.Improper a b = tt
one_front P (drawn.Several f) s a b = absurd a
one_front P (drawn.Line f) (drawn.Several h) a b = absurd b
one_front P drawn.Improper (drawn.Several h) a b = absurd b
