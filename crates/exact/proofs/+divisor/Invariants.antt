-- The second number falls with each call: the remainder is below it.
use Rattle.exact.proofs.+divisor.Given as goal

abbrev pub decreases-divisor : goal.decreases-divisor
decreases-divisor l = l.b
