-- `words::are_digits` meets its contract: the library's `all` goes over the bytes as the definition does.
use Rattle.std.proofs.Common.{rules, tests, ◌∙◌}
use Rattle.std.proofs.lemmas.Iterator.{YieldsList-from_slice}
use Rattle.std.proofs.lemmas.Iterator.Search.{all_from_yields_List}
use Rattle.words.specs.Words.{digit}
use Rattle.words.specs.NumberLaws.{digits_all}
use Rattle.words.proofs.are_digits.Goals as goal

pub returns : goal.returns
returns c = all_from_yields_List digit _ _ _ c.all.ensures.ran (YieldsList-from_slice c.args.w.now cc) (λ x b q k. search (rules, tests)) ∙ digits_all _
