-- `place_text::put_place` meets its contract: the number and the place that were read are those of the file, and the lines that tell them are put one behind the other.
use Rattle.plain.specs.KeptLaws.{kept_twice, kept_is}
use Rattle.place_text.specs.Lines.{lines_refused, means_read}
use Rattle.place_text.proofs.put_place.Goals as goal

pub returns-then-t-lt9 : goal.returns-then-t-lt9
returns-then-t-lt9 c =
    kept_is _ (lines_refused c.args.s.now _ _ c.if-t-eq0.false (means_read c.read_into-t.ensures)) (simp (c.put_at.ensures, c.put_refused.ensures, kept_twice))

pub returns-else-t-lt9 : goal.returns-else-t-lt9
returns-else-t-lt9 c =
    kept_is _ (lines_refused c.args.s.now _ _ c.if-t-eq0.false (means_read c.read_into-t.ensures)) (simp (c.put_of_point.ensures, c.put_refused.ensures, kept_twice))
