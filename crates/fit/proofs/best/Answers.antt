-- `fit::best` meets its contract: of points that are admitted `best_of` has the line, and of others none is due.
use mathlib.Core.Path.{sym, ◌∙◌}
use mir.Facts.{T_not}
use Rattle.whole.specs.Flags.{yes-T, no-T}
use Rattle.band.specs.Line.{Points}
use Rattle.band.specs.Band.{lent}
use Rattle.band.specs.Admit.{admits}
use Rattle.band.specs.AdmitLaws.{admits_admitted, admitted_admits}
use Rattle.fit.proofs.best.Goals.{Start}
use Rattle.fit.proofs.best.Goals as goal

abbrev points : Start → Points
points s = let a = s.args in lent a.m a.d a.x.now a.low.now a.high.now

pub returns-then-not-is_admitted : goal.returns-then-not-is_admitted
returns-then-not-is_admitted c = λ a. let P = points (goal.at.returns-then-not-is_admitted c).Start in T_not (admits P) (admitted_admits P a) (no-T (sym c.is_admitted.ensures ∙ c.if-not-is_admitted.true))

pub best_of-requires : goal.best_of-requires
best_of-requires c = admits_admitted (points (goal.at.best_of-requires c).Start) (yes-T (sym c.is_admitted.ensures ∙ c.if-not-is_admitted.false))
