-- `text_detail::odd` meets its contract: whether the line has the word that does not fit decides how it is told; there are at most eight such words.
use borrow.Author.Rules.{rules}
use Rattle.words.specs.Words.{words}
use Rattle.text_detail.specs.OddLaws.{odd_most}
use Rattle.text_detail.proofs.odd.Goals as goal

pub overflow_add-result-else-k-count : goal.overflow_add-result-else-k-count
overflow_add-result-else-k-count c =
    let few = odd_most (words c.args.line.now) c.odd_word-k.ensures in
    search rules
