-- `sentences::put_apart` meets its contract: six parts, one behind the other.
use Rattle.std.proofs.Common.{append_assoc}
use Rattle.plain.specs.KeptLaws.{kept_twice}
use Rattle.spoken.specs.Said.{spaced}
use Rattle.sentences.proofs.put_apart.Goals as goal

pub returns : goal.returns
unfolding spaced
returns c =
    simp (c.put_bytes-4.ensures, c.put_decimal-2.ensures, c.put_bytes-3.ensures, c.put_decimal.ensures, c.put_bytes-2.ensures, c.put_bytes.ensures, kept_twice, append_assoc)
