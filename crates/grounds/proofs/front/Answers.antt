-- `grounds::front` meets its contract: `pin` gives the line through the first point of the means.
use mathlib.Core.Path.{refl, sym, subst}
use Rattle.run.specs.Run.{lent}
use Rattle.run.specs.declared.Run.{Run}
use Rattle.due.specs.Ground.{GroundDue}
use Rattle.due.specs.declared.Index.TheVariants as index
use Rattle.grounds.specs.Basis.{meant_checked, meant_same, meant_admitted}
use Rattle.grounds.specs.LineLaws.{front_stands}
use Rattle.grounds.proofs.front.Goals.{Start}
use Rattle.grounds.proofs.front.Goals as goal

abbrev run : Start → Run
run s = lent s.args.z s.args.x.now s.args.y.now

pub mean_unit-requires : goal.mean_unit-requires
mean_unit-requires c = (meant_checked c.requires).n_most

pub front_of-requires : goal.front_of-requires
front_of-requires c = (meant_admitted c.requires c.mean_unit.ensures, (λ i h. refl))

pub returns : goal.returns
returns c =
    let t = c in
    let u = c in
    let s = c in
    subst (GroundDue index.Front (run (goal.at.returns c).Start)) (sym c.on_plot.ensures) (front_stands (run (goal.at.returns c).Start) s.requires.fine (meant_same s.requires u.mean_unit.ensures) t.front_of.result t.front_of.ensures)
