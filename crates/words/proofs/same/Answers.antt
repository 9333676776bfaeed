-- `words::same` meets its contract: the library's `==` goes over the bytes as the definition does.
use Rattle.std.proofs.Common.{◌∙◌}
use Rattle.words.specs.NumberLaws.{same_bytes}
use Rattle.words.proofs.same.Goals as goal

pub returns : goal.returns
returns c = c.eq.ensures ∙ same_bytes _ _
