-- `search::greatest` meets its contract: first every input, then the chords from every input that was passed, are below the candidate that is held.
use Rattle.search.specs.OverLaws.{starts_more}
use Rattle.search.proofs.greatest.Goals as goal

pub loop-i-preserved : goal.loop-i-preserved
loop-i-preserved c = starts_more c.requires c.loop-i.invariant c.over_ends-t.ensures
