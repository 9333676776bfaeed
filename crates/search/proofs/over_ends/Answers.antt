-- `search::over_ends` meets its contract: the chords to every input that was passed are below the candidate that is held, and nothing that was below the old one is lost.
use native.Mathlib.Omega.{arith}
use Rattle.search.specs.OverLaws.{ends_more}
use Rattle.search.proofs.over_ends.Goals as goal

pub loop-k-preserved : goal.loop-k-preserved
loop-k-preserved c = ends_more c.requires.0 (omega arith) c.loop-k.invariant c.over_middles-t.ensures
