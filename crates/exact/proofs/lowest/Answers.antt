-- `exact::lowest` meets its contract: num and den, divided through by their greatest common divisor.
use Rattle.std.proofs.Common.{◌∙◌, rules, ap, nat_abs, w64}
use Rattle.std.proofs.Math.Nat.{pos_of_ne-zero}
use Rattle.std.proofs.lemmas.Int.{to_z-of_z}
use Rattle.exact.specs.Terms.{made_through}
use Rattle.exact.proofs.lowest.Goals as goal

pub returns-clause-made : goal.returns-clause-made
returns-clause-made c =
    let same = to_z-of_z w64 c.args.num c.ranges.num in
    let size = c.unsigned_abs-n.ensures.value ∙ ap nat_abs same in
    rw (to_z-of_z w64 c.with_sign.result (search rules), c.with_sign.ensures, same, size) (made_through (pos_of_ne-zero c.if-den-eq0.false) c.args.num (rw size at c.divisor-g.ensures))
