-- `place_text::put_what` meets its contract: what stands behind the close, or at the place, and a line feed.
use Rattle.plain.specs.KeptLaws.{kept_twice, kept_is}
use Rattle.place_text.specs.Words.{led, behind_led, at_led}
use Rattle.place_text.proofs.put_what.Goals as goal

pub returns-then-number-eq8 : goal.returns-then-number-eq8
unfolding led
returns-then-number-eq8 c =
    let a = c.args in
    kept_is _ (behind_led a.s.now a.number a.place c.if-number-eq8.true) c.put_bytes.ensures

pub returns-else-number-eq8 : goal.returns-else-number-eq8
returns-else-number-eq8 c =
    let a = c.args in
    kept_is _ (at_led a.s.now a.number a.place c.if-number-eq8.false) (simp (c.put_byte.ensures, c.put_standing.ensures, kept_twice))
