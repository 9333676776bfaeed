-- `place_text::put_standing` meets its contract: one arm for each of what may stand at the place, and nothing strange stands behind the end.
use Rattle.plain.specs.KeptLaws.{kept_is}
use Rattle.place_text.specs.Words.{led, nothing_led, cut_led, not_strange}
use Rattle.place_text.proofs.put_standing.Goals as goal

pub returns-then-s-place : goal.returns-then-s-place
unfolding led
returns-then-s-place c =
    let a = c.args in
    kept_is _ (nothing_led a.s.now a.place (rw c.in-Err-Cut.field-0-is at c.in-Err-Cut.ensures) c.if-s-place.true) c.put_bytes.ensures

pub returns-else-s-place : goal.returns-else-s-place
unfolding led
returns-else-s-place c =
    let a = c.args in
    kept_is _ (cut_led a.s.now a.place (rw c.in-Err-Cut.field-0-is at c.in-Err-Cut.ensures) c.if-s-place.false) c.put_bytes-else-s-place.ensures

pub returns-else-place-s : goal.returns-else-place-s
returns-else-place-s c =
    let a = c.args in
    absurd (not_strange a.s.now a.place (rw c.in-Err-Unknown.field-0-is at c.in-Err-Unknown.ensures) c.if-place-s.false)
