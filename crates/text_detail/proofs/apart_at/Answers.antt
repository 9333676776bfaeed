-- `text_detail::apart_at` meets its contract: the readings that the arrays have are those of the text, which are within their limits.
use Rattle.detail.specs.Arrays.{blank_marked}
use Rattle.text_detail.specs.TellLaws.{strokes_fit, apart_told}
use Rattle.text_detail.proofs.apart_at.Goals as goal

pub mark_lines-requires : goal.mark_lines-requires
mark_lines-requires c = blank_marked

pub apart-requires : goal.apart-requires
apart-requires c =
    strokes_fit c.look_over-t.ensures c.requires.1 c.mark_lines.ensures

pub returns : goal.returns
returns c =
    apart_told c.look_over-t.ensures c.requires.1 c.mark_lines.ensures c.apart.ensures
