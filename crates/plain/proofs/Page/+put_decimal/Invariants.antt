-- The number falls with each call: the tenth part is below it.
use Rattle.plain.proofs.Page.+put_decimal.Given as goal

abbrev pub decreases-put_decimal : goal.decreases-put_decimal
decreases-put_decimal l = l.v
