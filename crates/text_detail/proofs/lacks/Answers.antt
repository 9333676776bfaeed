-- `text_detail::lacks` meets its contract: the first place without a label, of a run with the sizes that the survey found.
use Rattle.detail.specs.Arrays.{blank_marked}
use Rattle.text_detail.specs.TellLaws.{sizes_room, lacks_told}
use Rattle.text_detail.proofs.lacks.Goals as goal

pub mark_lines-requires : goal.mark_lines-requires
mark_lines-requires c = blank_marked

pub missing-requires : goal.missing-requires
missing-requires c = sizes_room c.look_over-t.ensures c.requires.1

pub returns : goal.returns
returns c = lacks_told c.look_over-t.ensures c.mark_lines.ensures c.missing.ensures
