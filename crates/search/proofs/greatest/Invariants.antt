-- `search::greatest` meets its contract: first every input, then the chords from every input that was passed, are below the candidate that is held.
use Rattle.band.specs.Band.{lent}
use Rattle.search.specs.Over.{Starts}
use Rattle.search.proofs.greatest.Given as goal

abbrev pub invariant-loop-i : goal.invariant-loop-i
invariant-loop-i l = Starts (lent l.m l.d l.x l.low l.high) l.initial.t l.i l.t
