-- `words::end` meets its contract: nothing that the library's `position` passes is blank.
use Rattle.std.proofs.Common.{◌≡◌, ℕ, ◌+◌, ◌-◌, ◌<◌, ◌≤◌, true, false, List, length, drop, Option, None, Some, sym, ap, ◌∙◌, subst, rules, tests, arith, length-drop, get_or-drop}
use Rattle.std.specs.List.{AllWithin, HoldsAt}
use Rattle.std.specs.Option.{MatchOption}
use Rattle.std.proofs.lemmas.Slice.{between_to_end}
use Rattle.std.proofs.lemmas.Iterator.{YieldsList-from_slice, IsFirst-from_position}
use Rattle.words.specs.Words.{blank}
use Rattle.words.specs.Passed.{Passed, passed_over}
use Rattle.words.specs.WordLaws.{Ended, ended}
use Rattle.words.proofs.end.Goals.{After-position}
use Rattle.words.proofs.end.Goals as goal

-- what `position` tells of the first blank
abbrev First : List ℕ → Option ℕ → Type 0
First s r = MatchOption r (AllWithin (λ b. blank b ≡ false) s 0 (length s)) (λ i. (i < length s) × HoldsAt (λ b. blank b ≡ true) s i × AllWithin (λ b. blank b ≡ false) s 0 i)

first : (c : After-position) → First (drop c.args.at c.args.line.now) c.position.result
first c = IsFirst-from_position _ _ c.position.result (λ b. blank b ≡ true) (λ b. blank b ≡ false) c.position.ensures.ran (YieldsList-from_slice (drop c.args.at c.args.line.now) (search (rules, between_to_end))) (λ x q k. search (rules, tests)) (λ x q k. search (rules, tests))

found : (l : List ℕ) (at k : ℕ) → at ≤ length l → First (drop at l) (Some k) → Ended l at (at + k)
found l at k h f =
    let n : length (drop at l) ≡ length l - at = length-drop at l in
    let i : k < length (drop at l) = f.0 in
    ended (passed_over blank l at k (omega arith) (λ j z. f.2 j 0 (omega arith) z)) (λ z. ap blank (sym (get_or-drop at l k 0)) ∙ f.1 0)

rest : (l : List ℕ) (at : ℕ) → at ≤ length l → First (drop at l) None → Ended l at (length l)
rest l at h f =
    let n : length (drop at l) ≡ length l - at = length-drop at l in
    let e : at + (length l - at) ≡ length l = omega arith in
    ended
    (subst (Passed blank l at) e (passed_over blank l at (length l - at) (omega arith) (λ j z. f j 0 (omega arith) (omega arith))))
    (λ z. let w : ⊥ = omega arith in absurd w)

pub returns-in-Some : goal.returns-in-Some
returns-in-Some c = found _ c.args.at c.in-Some.k c.requires (rw c.in-Some.is at (first (goal.at.returns-in-Some c).After-position))

pub returns-in-None : goal.returns-in-None
returns-in-None c = rest _ c.args.at c.requires (rw c.in-None.is at (first (goal.at.returns-in-None c).After-position))
