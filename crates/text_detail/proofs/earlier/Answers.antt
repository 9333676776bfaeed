-- `text_detail::earlier` meets its contract: the survey has the line of the first opening, and the arrays that of the first record at a place.
use Rattle.std.proofs.Common.{ap, ⊎_elim}
use Rattle.record.specs.Kinds.{as_record}
use Rattle.detail.specs.declared.Detail.TheVariants.{Earlier}
use Rattle.text_detail.proofs.earlier.Goals as goal

pub returns-in-Point : goal.returns-in-Point
returns-in-Point c =
    ⊎_elim
    (λ p. let e = p.2 in rw e (ap Earlier (c.line_of.ensures.is _ (ap as_record e))))
    (λ p. let e = p.4 in rw e (ap Earlier (c.line_of.ensures.is _ (ap as_record e))))
    c.in-Point.is
