-- `place_text::more_at` meets its contract: 6 is told of the record at the place, 7 of the records before the close, which are all that tell an entry.
use Rattle.place_text.specs.Told.{record_six, record_seven}
use Rattle.place_text.proofs.more_at.Goals as goal

pub returns-then-number-eq6 : goal.returns-then-number-eq6
returns-then-number-eq6 c =
    record_six c.requires c.if-number-eq6.true c.first_told.ensures

pub returns-then-number-eq7 : goal.returns-then-number-eq7
returns-then-number-eq7 c =
    record_seven c.requires c.if-number-eq7.true c.opening.ensures.is c.missing.ensures
