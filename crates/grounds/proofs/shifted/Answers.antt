-- `grounds::shifted` meets its contract: the line that is drawn past the means is the shifted one of the run.
use mathlib.Core.Path.{refl, sym, subst}
use Rattle.run.specs.Run.{lent}
use Rattle.run.specs.declared.Run.{Run}
use Rattle.due.specs.Ground.{GroundDue}
use Rattle.due.specs.declared.Based.{Based}
use Rattle.due.specs.declared.Ground.TheVariants as ground
use Rattle.due.specs.declared.Index.TheVariants as index
use Rattle.grounds.specs.Basis.{meant_checked, meant_same, meant_admitted}
use Rattle.grounds.specs.LineLaws.{shifted_stands}
use Rattle.grounds.proofs.shifted.Goals.{Start}
use Rattle.grounds.proofs.shifted.Goals as goal

abbrev run : Start → Run
run s = lent s.args.z s.args.x.now s.args.y.now

pub mean_unit-requires : goal.mean_unit-requires
mean_unit-requires c = (meant_checked c.requires).n_most

pub shifted_of-requires : goal.shifted_of-requires
shifted_of-requires c = (meant_admitted c.requires c.mean_unit.ensures, (λ i h. refl))

pub returns : goal.returns
returns c =
    let t = c in
    let u = c in
    let s = c in
    let e = meant_same s.requires u.mean_unit.ensures in
    subst (λ (b : Based). GroundDue index.Shifted (run (goal.at.returns c).Start) (ground.Line b)) (sym c.own.ensures) (shifted_stands (run (goal.at.returns c).Start) s.requires.fine e t.shifted_of.ensures)
