-- `place_text::put_at` meets its contract: the head, what the record is, and what more is told, one behind the other.
use Rattle.std.proofs.Common.{append_assoc}
use Rattle.plain.specs.KeptLaws.{kept_twice, kept_is}
use Rattle.detail.specs.Arrays.{blank_marked}
use Rattle.place_text.specs.Lines.{record_parts}
use Rattle.place_text.proofs.put_at.Goals as goal

pub number_records-requires : goal.number_records-requires
number_records-requires c = blank_marked

pub returns : goal.returns
returns c =
    kept_is _ (record_parts c.requires.0 c.requires.1 c.number_records.ensures c.more_at.ensures) (simp (c.put_detail.ensures, c.put_what.ensures, c.put_head.ensures, kept_twice, append_assoc))
