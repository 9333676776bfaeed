-- `words::word` meets its contract: what is left to pass over counts the word asked for from the place reached.
use Rattle.std.proofs.Common.{◌≡◌, ◌-◌, [], get_or, drop}
use Rattle.words.specs.Words.{words, word}
use Rattle.words.specs.WordLaws.{Here}
use Rattle.words.proofs.word.Given as goal

abbrev pub invariant-loop : goal.invariant-loop
invariant-loop l = Here l.line l.from × (word l.line l.k ≡ get_or (words (drop l.from l.line)) (l.k - l.counter) [])
