-- `words::line` meets its contract: what is left to pass over counts the line asked for from the place reached.
use Rattle.std.proofs.Common.{◌≡◌, ◌-◌, [], get_or, drop}
use Rattle.words.specs.Words.{lines}
use Rattle.words.proofs.line.Given as goal

abbrev pub invariant-loop-passed : goal.invariant-loop-passed
invariant-loop-passed l = get_or (lines l.s) l.k [] ≡ get_or (lines (drop l.at l.s)) (l.k - l._passed) []
