-- `words::count_lines` meets its contract: the lines counted and those from the place reached on are all of them.
use mathlib.Core.Path.{◌≡◌}
use Prim.Native.Nat.{◌+◌, ◌-◌, ◌≤◌}
use lib.ListN.{length, drop}
use Rattle.words.specs.Words.{lines}
use Rattle.words.proofs.count_lines.Given as goal

abbrev pub invariant-loop-at : goal.invariant-loop-at
invariant-loop-at l = (l.n ≤ l.at) × (l.n + length (lines (drop l.at l.s)) ≡ length (lines l.s))

abbrev pub decreases-loop-at : goal.decreases-loop-at
decreases-loop-at l = length l.s - l.at
