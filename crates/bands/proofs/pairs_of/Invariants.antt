-- `bands::pairs_of` meets its contract: each turn stores the lower and the higher value of one point more.
use Rattle.whole.specs.Filled.{Filled}
use Rattle.bands.specs.Lent.{low_in, high_in}
use Rattle.bands.proofs.pairs_of.Given as goal

abbrev pub invariant-loop-i : goal.invariant-loop-i
invariant-loop-i l = Filled (low_in l.up l.down l.up_limits l.down_limits) l.i l.low × Filled (high_in l.up l.down l.up_limits l.down_limits) l.i l.high
