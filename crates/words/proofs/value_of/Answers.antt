-- `words::value_of` meets its contract. The rest behind the number so far writes the whole; i digits count less than 10 to the i, and there are at most seven.
use mathlib.Core.Path.{sym, ◌∙◌}
use Prim.Native.Nat.{◌<◌, ◌^◌}
use native.Mathlib.Omega.{arith}
use lib.ListN.{get_or}
use Rattle.words.specs.NumberLaws.{DigitByte, digits_at, value_more, value_end, tens_more, tens_most, numeral_most, numeral_digits}
use Rattle.words.proofs.value_of.Goals.{At-loop-b, In-loop-b}
use Rattle.words.proofs.value_of.Goals as goal

-- so far the number is small, and the byte is a digit
small : (c : At-loop-b) → c.loop-b.v < 10 ^ 7
small c = tens_most c.loop-b.v c.loop-b.b-index 7 c.loop-b.invariant.1 (omega (arith, numeral_most 7 c.args.w.now c.requires))

byte : (c : In-loop-b) → DigitByte (get_or c.args.w.now c.loop-b.b-index 0)
byte c = digits_at c.args.w.now (numeral_digits 7 c.args.w.now c.requires) c.loop-b.b-index c.loop-b-test.true

pub overflow_sub-v : goal.overflow_sub-v
overflow_sub-v c = omega (arith, (byte (goal.at.overflow_sub-v c).In-loop-b).least)

pub loop-b-preserved : goal.loop-b-preserved
loop-b-preserved c =
    let l = c.loop-b in
    (sym (value_more _ l.v l.b-index c.loop-b-test.true) ∙ l.invariant.0, tens_more l.v _ l.b-index l.invariant.1 (omega (arith, (byte (goal.at.loop-b-preserved c).In-loop-b).most)))

pub returns : goal.returns
returns c =
    let l = c.loop-b in
    record { is = sym (value_end _ l.v l.b-index c.loop-b-test.false) ∙ l.invariant.0; small = small (goal.at.returns c).At-loop-b }
