-- `sheet_text::put_file` meets its contract: a refused file has one line, and what was read and accepted passes every check of a run.
use Rattle.reader.specs.ReadFine.{read_fine}
use Rattle.sheet_text.specs.SheetLaws.{sheet_refused, sheet_accepted}
use Rattle.sheet_text.proofs.put_file.Goals as goal

pub returns-then-t-ne0 : goal.returns-then-t-ne0
returns-then-t-ne0 c = sheet_refused c.read_into-t.ensures c.requires c.if-t-ne0.true c.put_refused.ensures

pub put_run-requires : goal.put_run-requires
put_run-requires c = read_fine c.args.file.now c.read_into-t.ensures c.if-t-ne0.false

pub returns-else-t-ne0 : goal.returns-else-t-ne0
returns-else-t-ne0 c = sheet_accepted c.read_into-t.ensures c.requires c.if-t-ne0.false c.put_run.ensures
