-- `line_for_c::wheattunic_line` meets its contract: with one value at each input a line is due, and its fractions are put down; of other points none is due, and nothing is.
use mathlib.Core.Path.{◌≡◌, refl, subst}
use Rattle.band.specs.Line.{Points}
use Rattle.band.specs.Band.{lent}
use Rattle.fit.specs.Answer.{BestDue}
use Rattle.fit.specs.Once.{level_single}
use Rattle.fit.specs.declared.Drawn.{Drawn}
use Rattle.line_for_c.specs.Line.{line}
use Rattle.line_for_c.proofs.wheattunic_line.Goals.{After-best, Start}
use Rattle.line_for_c.proofs.wheattunic_line.Goals as goal

abbrev points : Start → Points
points s = let a = s.args in lent a.m a.d a.x.now a.v.now a.v.now

-- what `best` ensures holds of what an arm is told
arm : (c : After-best) {told : Drawn} → c.best.result ≡ told → BestDue (points c.before) told
arm c e = subst (BestDue (points c.before)) e c.best.ensures

pub returns-in-Line : goal.returns-in-Line
returns-in-Line c =
    let e = c in
    let due = arm (goal.at.returns-in-Line c).After-best c.in-Line.is in
    line due.0 c.in-Line.f due.1 c.put_line.ensures.above c.put_line.ensures.below

pub returns-in-Several : goal.returns-in-Several
returns-in-Several c = let b = c in absurd (level_single (points (goal.at.returns-in-Several c).Start) (λ i h. refl) _ (arm (goal.at.returns-in-Several c).After-best c.in-Several.is))
