-- `search::twin` meets its contract: each input passed is i itself or has another gap, so the first that is neither, or m, is the first that fails the test.
use Prim.Native.Nat.{ℕ, ◌<◌}
use lib.Dec.{T}
use Rattle.band.specs.Band.{lent}
use Rattle.search.specs.Twin.{apart}
use Rattle.search.proofs.twin.Given as goal

abbrev pub invariant-loop-j : goal.invariant-loop-j
invariant-loop-j l = (k : ℕ) → k < l.j → T (apart (lent l.m l.d l.x l.low l.high) l.i k)
