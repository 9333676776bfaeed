-- `search::over_ends` meets its contract: the chords to every input that was passed are below the candidate that is held, and nothing that was below the old one is lost.
use Rattle.band.specs.Band.{lent}
use Rattle.search.specs.Over.{Ends}
use Rattle.search.proofs.over_ends.Given as goal

abbrev pub invariant-loop-k : goal.invariant-loop-k
invariant-loop-k l = Ends (lent l.m l.d l.x l.low l.high) l.initial.t l.i l.k l.t
