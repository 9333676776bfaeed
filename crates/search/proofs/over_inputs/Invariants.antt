-- `search::over_inputs` meets its contract: every input that was passed is below the one that is held.
use Rattle.band.specs.Band.{lent}
use Rattle.search.specs.Over.{Singles}
use Rattle.search.proofs.over_inputs.Given as goal

abbrev pub invariant-loop-i : goal.invariant-loop-i
invariant-loop-i l = Singles (lent l.m l.d l.x l.low l.high) l.i l.t
