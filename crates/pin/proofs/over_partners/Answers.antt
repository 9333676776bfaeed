-- `pin::over_partners` meets its contract: before each turn the pairs of i with the inputs up to j are tried.
use native.Mathlib.Omega.{arith}
use Rattle.pin.specs.SearchLaws.{later_fits, partners_more}
use Rattle.pin.proofs.over_partners.Goals as goal

pub pair_of-requires : goal.pair_of-requires
pair_of-requires c = (c.requires.ready.0, later_fits c.requires.ready.0.admitted.proper c.requires.i_lt_m.1 (omega arith) (omega arith))

pub loop-j-preserved : goal.loop-j-preserved
loop-j-preserved c = partners_more c.requires.ready.0.admitted.proper c.requires.i_lt_m.1 (omega arith) c.loop-j.invariant c.pair_of.ensures c.consider-best.ensures
