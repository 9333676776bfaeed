-- `words::count` meets its contract: the words counted and those from the place reached on are all of them.
use mathlib.Core.Path.{◌≡◌}
use Prim.Native.Nat.{◌+◌, ◌-◌, ◌≤◌}
use lib.ListN.{length, drop}
use Rattle.words.specs.Words.{words}
use Rattle.words.specs.WordLaws.{Here}
use Rattle.words.proofs.count.Given as goal

abbrev pub invariant-loop-from : goal.invariant-loop-from
invariant-loop-from l = Here l.line l.from × (l.n ≤ l.from) × (l.n + length (words (drop l.from l.line)) ≡ length (words l.line))

abbrev pub decreases-loop-from : goal.decreases-loop-from
decreases-loop-from l = length l.line - l.from
