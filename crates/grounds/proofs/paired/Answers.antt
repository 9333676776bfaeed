-- `grounds::paired` meets its contract: the values that were filled in are those of the points.
use mathlib.Core.Path.{refl}
use Rattle.grounds.specs.Basis.{pairs_lent}
use Rattle.grounds.specs.FoundLaws.{plot_points}
use Rattle.grounds.proofs.paired.Goals as goal

pub returns : goal.returns
returns c =
    let f = c in
    let s = c in
    let a = s.args in
    plot_points (pairs_lent a.m a.n a.n a.x.now a.up.now a.down.now a.up_limits.now a.down_limits.now refl f.pairs_of.ensures.lows f.pairs_of.ensures.highs) c.best_of.ensures
