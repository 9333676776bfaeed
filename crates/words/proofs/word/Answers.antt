-- `words::word` meets its contract: what is left to pass over counts the word asked for from the place reached.
use Rattle.std.proofs.Common.{◌≡◌, List, ℕ, ◌+◌, ◌-◌, [], get_or, drop, sym, ap, ◌∙◌, arith}
use Rattle.words.specs.Words.{words}
use Rattle.words.specs.WordLaws.{words_end, word_first, word_next}
use Rattle.words.proofs.word.Goals as goal

pub returns-then-from-line : goal.returns-then-from-line
returns-then-from-line c =
    let l = c.loop in
    let e : words (drop l.from c.args.line.now) ≡ [] = words_end c.args.line.now l.from (omega arith) in
    sym (l.invariant.1 ∙ ap (λ (ws : List (List ℕ)). get_or ws (c.args.k - l.counter) []) e)

pub loop-preserved : goal.loop-preserved
loop-preserved c =
    let l = c.loop in
    let e : (c.args.k - l.counter) - 1 ≡ c.args.k - (l.counter + 1) = omega arith in
    (c.skip-from-in-loop.ensures.here, l.invariant.1 ∙ word_next l.invariant.0 c.end.ensures c.skip-from-in-loop.ensures (omega arith) ∙ ap (λ (n : ℕ). get_or (words (drop c.skip-from-in-loop.result c.args.line.now)) n []) e)

pub returns : goal.returns
returns c = let l = c.loop in sym (l.invariant.1 ∙ word_first l.invariant.0 c.end-2.ensures (omega arith))
