-- `bands::widest` meets its contract. The sum kept is the largest of the widths so far.
use borrow.Author.Rules.{rules}
use Rattle.bands.specs.BandLaws.{widest_more}
use Rattle.bands.proofs.widest.Goals as goal

pub loop-i-preserved : goal.loop-i-preserved
loop-i-preserved c = widest_more {w = c.of.result.count} c.loop-i.invariant c.loop-i-test.true (search rules) (search rules)
