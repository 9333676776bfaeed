-- `pin::over_partners` meets its contract: before each turn the pairs of i with the inputs up to j are tried.
use Rattle.band.specs.Band.{lent}
use Rattle.pin.specs.Search.{Partners}
use Rattle.pin.proofs.over_partners.Given as goal

abbrev pub invariant-loop-j : goal.invariant-loop-j
invariant-loop-j l = Partners (lent l.m l.d l.x l.low l.high) l.p l.initial.best l.i l.j l.best
