-- `sheet_for_c::wheattunic_sheet` meets its contract: the length that `sheet` answers is handed on, and 0 where it answers none.
use Rattle.sheet_for_c.proofs.Once.{handed_len}
use Rattle.sheet_for_c.proofs.wheattunic_sheet.Goals as goal

pub returns : goal.returns
returns c = handed_len c.sheet-q.result c.sheet-q.ensures c.unwrap_or.ensures
