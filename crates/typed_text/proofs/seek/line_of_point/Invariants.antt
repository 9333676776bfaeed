-- `seek::line_of_point` meets its contract: the search of the lines still to come is that of the whole text.
use mathlib.Core.Path.{◌≡◌}
use Prim.Native.Nat.{◌+◌, ◌-◌, ◌≤◌}
use lib.ListN.{length, drop}
use Rattle.text.specs.Text.{heard, point_line}
use Rattle.typed_text.proofs.seek.line_of_point.Given as goal

abbrev pub invariant-loop-at : goal.invariant-loop-at
invariant-loop-at l = (l.k ≤ l.at) × (point_line (l.k + 1) (heard (drop l.at l.text)) l.i ≡ point_line 1 (heard l.text) l.i)

abbrev pub decreases-loop-at : goal.decreases-loop-at
decreases-loop-at l = length l.text - l.at
