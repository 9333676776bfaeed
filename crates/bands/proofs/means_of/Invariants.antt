-- `bands::means_of` meets its contract: each turn stores U + D of one point more.
use Rattle.whole.specs.Filled.{Filled}
use Rattle.bands.specs.Lent.{mean_in}
use Rattle.bands.proofs.means_of.Given as goal

abbrev pub invariant-loop-i : goal.invariant-loop-i
invariant-loop-i l = Filled (mean_in l.up l.down) l.i l.means
