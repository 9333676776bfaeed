-- `text_detail::of_text` meets its contract: a byte-order mark counts for nothing.
use mathlib.Core.Path.{◌∙◌, ap}
use Rattle.text_detail.specs.TextDetail.{body_detail}
use Rattle.text_detail.proofs.of_text.Goals as goal

pub returns : goal.returns
returns c = c.of_body.ensures ∙ ap body_detail c.without_mark.ensures
