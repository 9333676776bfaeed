-- `grounds::independent_line` meets its contract: the points that the line is drawn past are the means of the run.
use Rattle.grounds.specs.Basis.{meant_checked, meant_same, meant_admitted}
use Rattle.grounds.specs.FoundLaws.{plot_points}
use Rattle.grounds.proofs.independent_line.Goals as goal

pub mean_unit-requires : goal.mean_unit-requires
mean_unit-requires c = (meant_checked c.requires).n_most

pub best_of-requires : goal.best_of-requires
best_of-requires c = meant_admitted c.requires c.mean_unit.ensures

pub returns : goal.returns
returns c = let u = c in plot_points (meant_same u.requires u.mean_unit.ensures) c.best_of.ensures
