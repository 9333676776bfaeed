-- The rule of rounding, computed: the three halves that request C-12 names, and fractions next to them.
use Rattle.std.specs.Prelude.{Some, ℕ, ◌*◌, ◌<◌, ◌≤◌, pos}
use Rattle.std.proofs.Common.{arith}
use Rattle.whole.specs.Balance as B
use Rattle.whole.specs.Balance.{nat}
use Rattle.exact.specs.Rounding.{largest, PercentDue}
use Rattle.exact.proofs.RoundingLaws.{some_nearest}
use Rattle.exact.specs.declared.Fraction.{Fraction}

abbrev over : (n d : ℕ) → Fraction
over n d = record { num = pos n; den = d }

due : (n d : ℕ) → n ≤ largest → (p : 0 < d) → PercentDue (over n d) (Some (some_nearest (100000 * n) d p).0)
due n d l p = (record { sign = B.le_by (nat 0) (nat n) (omega arith); size = l; den = p }, (some_nearest (100000 * n) d p).1)

record Halves : Type 0 where
  half : PercentDue (over 1 200000) (Some 0)
  one_and_a_half : PercentDue (over 3 200000) (Some 2)
  two_and_a_half : PercentDue (over 5 200000) (Some 2)
  less : PercentDue (over 3 200001) (Some 1)
  more : PercentDue (over 5 199999) (Some 3)

halves : Halves
halves = record { half = due 1 200000 (omega arith) (omega arith); one_and_a_half = due 3 200000 (omega arith) (omega arith); two_and_a_half = due 5 200000 (omega arith) (omega arith); less = due 3 200001 (omega arith) (omega arith); more = due 5 199999 (omega arith) (omega arith) }
