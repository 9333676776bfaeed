-- `bands::pairs_of` meets its contract: each turn stores the lower and the higher value of one point more.
use native.Mathlib.Omega.{arith}
use borrow.Author.Rules.{rules}
use Rattle.whole.specs.Filled.{filled_more}
use Rattle.bands.proofs.pairs_of.Goals as goal

pub loop-i-preserved : goal.loop-i-preserved
loop-i-preserved c = (
  filled_more c.loop-i.invariant.0 (omega arith) (search rules),
  filled_more c.loop-i.invariant.1 (omega arith) (search rules),
)
