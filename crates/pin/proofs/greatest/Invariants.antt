-- `pin::greatest` meets its contract: before each turn the pairs of the inputs up to i with later ones are tried, and at the end every pair is, in one order.
use Rattle.band.specs.Band.{lent}
use Rattle.pin.specs.Search.{Firsts}
use Rattle.pin.proofs.greatest.Given as goal

abbrev pub invariant-loop-i : goal.invariant-loop-i
invariant-loop-i l = Firsts (lent l.m l.d l.x l.low l.high) l.p l.i l.best
