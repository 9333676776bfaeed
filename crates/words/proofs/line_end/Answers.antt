-- `words::line_end` meets its contract: the library's `position` finds the line feed that ends the first line.
use Rattle.std.proofs.Common.{◌≡◌, true, false, rules, tests, drop}
use Rattle.std.proofs.lemmas.Slice.{between_to_end}
use Rattle.std.proofs.lemmas.Iterator.{YieldsList-from_slice, IsFirst-from_position}
use Rattle.words.specs.LineLaws.{feed, First, line_found, line_rest}
use Rattle.words.proofs.line_end.Goals.{After-position}
use Rattle.words.proofs.line_end.Goals as goal

first : (c : After-position) → First (drop c.args.at c.args.s.now) c.position.result
first c = IsFirst-from_position _ _ c.position.result (λ b. feed b ≡ true) (λ b. feed b ≡ false) c.position.ensures.ran (YieldsList-from_slice (drop c.args.at c.args.s.now) (search (rules, between_to_end))) (λ x q k. search (rules, tests)) (λ x q k. search (rules, tests))

pub returns-in-Some-clause-is : goal.returns-in-Some-clause-is
returns-in-Some-clause-is c = line_found _ c.args.at c.in-Some.k c.requires (rw c.in-Some.is at (first (goal.at.returns-in-Some-clause-is c).After-position))

pub returns-in-None-clause-is : goal.returns-in-None-clause-is
returns-in-None-clause-is c = line_rest _ c.args.at c.requires (rw c.in-None.is at (first (goal.at.returns-in-None-clause-is c).After-position))
