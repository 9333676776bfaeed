-- `grounds::independent` meets its contract: the line that was found is the best one past T.
use mathlib.Core.Path.{sym, subst}
use Rattle.run.specs.Run.{lent}
use Rattle.run.specs.declared.Run.{Run}
use Rattle.due.specs.Ground.{GroundDue}
use Rattle.due.specs.declared.Index.TheVariants as index
use Rattle.grounds.specs.LineLaws.{independent_stands}
use Rattle.grounds.proofs.independent.Goals.{Start}
use Rattle.grounds.proofs.independent.Goals as goal

abbrev run : Start → Run
run s = lent s.args.z s.args.x.now s.args.y.now

pub returns : goal.returns
returns c = let s = c in subst (GroundDue index.Independent (run (goal.at.returns c).Start)) (sym c.on_plot.ensures) (independent_stands (run (goal.at.returns c).Start) s.requires.0 s.args.line s.requires.1)
