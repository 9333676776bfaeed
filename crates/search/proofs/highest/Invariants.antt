-- `search::highest` meets its contract: over the inputs that were passed no chord has a larger numerator than the one that is held, and all have the same gap.
use Rattle.search.specs.Sided.{chord_on, sided}
use Rattle.search.specs.Over.{Peak}
use Rattle.search.proofs.highest.Given as goal

abbrev pub invariant-loop-j : goal.invariant-loop-j
invariant-loop-j l = Peak (sided l.side l.m l.d l.x l.outer l.inner) (λ j. chord_on l.side l.i j l.k) l.i l.k l.j l.t
