-- `text_detail::mark_lines` meets its contract: the records of the lines so far are in the arrays, and with those still to come they are the records of all lines.
use mathlib.Core.Path.{◌≡◌}
use mathlib.Core.List.{List, ◌++◌}
use Prim.Native.Nat.{◌+◌, ◌-◌, ◌≤◌}
use lib.ListN.{length, drop}
use Rattle.records.specs.Record.{Labelled}
use Rattle.detail.specs.Marks.{Marked}
use Rattle.text.specs.Text.{heard}
use Rattle.text_detail.specs.Lines.{items}
use Rattle.text_detail.proofs.mark_lines.Given as goal

abbrev pub invariant-loop-at : goal.invariant-loop-at
invariant-loop-at l = (l.k ≤ l.at) × (xs : List Labelled) × Marked xs l.labels l.y × (items 1 (heard l.text) ≡ xs ++ items (l.k + 1) (heard (drop l.at l.text)))

abbrev pub decreases-loop-at : goal.decreases-loop-at
decreases-loop-at l = length l.text - l.at
