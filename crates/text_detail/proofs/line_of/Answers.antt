-- `text_detail::line_of` meets its contract: the label that the arrays have at the place is that of the text.
use Rattle.detail.specs.Arrays.{blank_marked}
use Rattle.text_detail.specs.TellLaws.{line_told}
use Rattle.text_detail.proofs.line_of.Goals as goal

pub mark_lines-requires : goal.mark_lines-requires
mark_lines-requires c = blank_marked

pub returns : goal.returns
returns c = line_told c.mark_lines.ensures c.label_of.ensures
