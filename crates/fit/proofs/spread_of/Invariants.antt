-- `fit::spread_of` meets its contract: the spread so far holds the smallest and the largest of the heights so far, and the first of them is zero.
use Rattle.band.specs.Band.{lent}
use Rattle.fit.specs.Ends.{Ranged}
use Rattle.fit.proofs.spread_of.Given as goal

abbrev pub invariant-loop-i : goal.invariant-loop-i
invariant-loop-i l = Ranged (lent l.m l.d l.x l.low l.high) l.e l.i l.r
