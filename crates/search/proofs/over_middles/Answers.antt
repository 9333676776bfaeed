-- `search::over_middles` meets its contract: inputs side by side have no chord between them, and else all chords are below the highest of their kind, which are held against the old candidate.
use Rattle.band.specs.Candidate.{proper_rising}
use Rattle.search.specs.OverLaws.{both_sizes, stepped, middles_all}
use Rattle.search.proofs.over_middles.Goals as goal

pub with-t-requires : goal.with-t-requires
with-t-requires c = both_sizes c.requires.0 c.requires.1 c.highest.ensures.told.holds

pub with-requires : goal.with-requires
with-requires c = both_sizes c.requires.0 (stepped (proper_rising c.requires.0.proper) c.requires.1 c.highest.ensures.told c.with-t.ensures).holds c.highest-2.ensures.told.holds

pub returns : goal.returns
returns c = middles_all c.requires.0 c.requires.3 c.requires.1 c.highest.ensures c.with-t.ensures c.highest-2.ensures c.with.ensures
