-- `words::value_of` meets its contract. The rest behind the number so far writes the whole; i digits count less than 10 to the i, and there are at most seven.
use Rattle.std.proofs.Common.{◌≡◌, ◌<◌, ◌^◌, drop}
use Rattle.words.specs.Words.{value_from, value}
use Rattle.words.proofs.value_of.Given as goal

abbrev pub invariant-loop-b : goal.invariant-loop-b
invariant-loop-b l = (value_from l.v (drop l.b-index l.w) ≡ value l.w) × (l.v < 10 ^ l.b-index)
