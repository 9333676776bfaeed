-- `exact::nearest` meets its contract: v is whole·d + rest, and rest is compared with what it lacks to d. Which number is then due is said by the laws of the rule.
use Rattle.std.proofs.Common.{arith}
use Rattle.exact.proofs.RoundingLaws.{nearest_below, nearest_above, nearest_even}
use Rattle.exact.proofs.nearest.Goals as goal

pub returns-in-Less : goal.returns-in-Less
returns-in-Less c = nearest_below c.args.v c.args.d c.requires (grind arith)

pub returns-in-Greater : goal.returns-in-Greater
returns-in-Greater c = nearest_above c.args.v c.args.d c.requires (grind arith)

pub returns-in-Equal : goal.returns-in-Equal
returns-in-Equal c = nearest_even c.args.v c.args.d c.requires (grind arith)
