-- `search::over_inputs` meets its contract: every input that was passed is below the one that is held.
use native.Mathlib.Omega.{arith}
use Rattle.search.specs.OverLaws.{both_sizes, singles_more}
use Rattle.search.proofs.over_inputs.Goals as goal

pub with-t-requires : goal.with-t-requires
with-t-requires c = both_sizes c.requires c.loop-i.invariant.holds c.alone.ensures.holds

pub loop-i-preserved : goal.loop-i-preserved
loop-i-preserved c = singles_more c.requires (omega arith) c.loop-i.invariant c.alone.ensures c.with-t.ensures
