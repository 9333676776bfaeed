-- `fit::shifted_of` meets its contract: the heights above the terminal line are known to range from `lo` to `hi`, and so `Due` has it that the numbers tell the shifted terminal line.
use Rattle.fit.specs.Ends.{Ready}
use Rattle.fit.specs.EndsLaws.{ready}
use Rattle.fit.specs.PartsLaws.{tells_parts}
use Rattle.fit.specs.Due.{shifted_due}
use Rattle.fit.proofs.shifted_of.Goals.{After-spread_of-r}
use Rattle.fit.proofs.shifted_of.Goals as goal

numbers : (c : After-spread_of-r) → Ready c.through-e.result c.spread_of-r.result c.args.d
numbers c = ready c.requires.0 c.through-e.ensures c.spread_of-r.ensures

pub centred-requires : goal.centred-requires
centred-requires c = numbers (goal.at.centred-requires c).After-spread_of-r

pub returns : goal.returns
returns c =
    let h = c.requires in
    record { due = λ f t. shifted_due h.0 h.1 c.through-e.ensures c.spread_of-r.ensures (numbers (goal.at.returns c).After-spread_of-r) (tells_parts c.centred.ensures t) }
