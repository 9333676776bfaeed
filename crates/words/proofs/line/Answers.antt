-- `words::line` meets its contract: what is left to pass over counts the line asked for from the place reached.
use Rattle.std.proofs.Common.{◌≡◌, ℕ, ◌+◌, ◌-◌, [], List, get_or, drop, sym, ap, ◌∙◌, arith}
use Rattle.words.specs.Words.{lines}
use Rattle.words.specs.LineLaws.{lines_end, row_first, row_next}
use Rattle.words.proofs.line.Goals as goal

pub returns-then-at-s : goal.returns-then-at-s
returns-then-at-s c =
    let l = c.loop-passed in
    sym (l.invariant ∙ ap (λ (ls : List (List ℕ)). get_or ls (c.args.k - l._passed) []) (lines_end c.args.s.now l.at (omega arith)))

pub returns-then-at-s-2 : goal.returns-then-at-s-2
returns-then-at-s-2 c =
    let l = c.loop-passed in
    sym (l.invariant ∙ ap (λ (ls : List (List ℕ)). get_or ls (c.args.k - l._passed) []) (lines_end c.args.s.now l.at (omega arith)))

pub loop-passed-preserved : goal.loop-passed-preserved
loop-passed-preserved c =
    let l = c.loop-passed in
    let e : (c.args.k - l._passed) - 1 ≡ c.args.k - (l._passed + 1) = omega arith in
    l.invariant ∙ row_next c.line_end-at.ensures.is (omega arith) ∙ ap (λ (n : ℕ). get_or (lines (drop (c.line_end-at.result + 1) c.args.s.now)) n []) e

pub returns : goal.returns
returns c =
    let l = c.loop-passed in
    sym (l.invariant ∙ row_first c.line_end.ensures.is (omega arith))
