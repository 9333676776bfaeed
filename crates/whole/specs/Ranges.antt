-- What `all` and `find` over the numbers below n come to, in the words of `Every`.
use Rattle.std.specs.Prelude.{◌≡◌, refl, Bool, true, false, not, ℕ, ◌<◌, ◌≤◌, List, Option, MatchOption, length}
use Rattle.std.proofs.Common.{sym, ap, subst, ◌∙◌, arith, Some, None, get_or, Bor}
use Rattle.std.specs.List.{FoldsTo, range_with_len, AllWithin, HoldsAt}
use Rattle.std.specs.Bool.{MatchBool, ⊤}
use Rattle.std.specs.Fn.{Called, CalledAt}
use Rattle.std.specs.Iterator.{YieldsThen}
use Rattle.std.specs.declared.ops.Range.{Range}
use Rattle.std.proofs.iter.Yields.{nat_range_steps}
use Rattle.std.proofs.lemmas.Iterator.{YieldsList-from_range, cases_from_all, first_from_Range}
use Rattle.std.proofs.lemmas.List.FromFn.{length-range_with_len, get_or-range_with_len}
use denote.Param.Members.{Mut}
use Rattle.whole.specs.Flags.{yes-T, T-yes, apart}
use Rattle.whole.specs.Every.{every, every_by, every_holds, first_not, first_not_by}

false_by : (b : Bool) → (b ≡ true → ⊥) → false ≡ b
false_by true h = absurd (h refl)
false_by false h = refl

not_true : (b : Bool) → true ≡ not b → b ≡ false
not_true true e = absurd (apart e)
not_true false e = refl

not_false : (b : Bool) → false ≡ not b → b ≡ true
not_false true e = refl
not_false false e = absurd (apart (sym e))

at : {n : ℕ} (i : ℕ) → i < n → get_or (range_with_len 0 n) i 0 ≡ i
at {n} i l = get_or-range_with_len 0 n i 0 l ∙ omega arith

-- whichever way `all` went, it told whether the test holds of each number below n
decided : (test : ℕ → Bool) (n : ℕ) (r : Bool) → MatchBool r (AllWithin (λ x. test x ≡ true) (range_with_len 0 n) 0 (length (range_with_len 0 n))) ((k : ℕ) × (k < length (range_with_len 0 n)) × HoldsAt (λ x. test x ≡ false) (range_with_len 0 n) k) → r ≡ every n test
decided test n true h = sym (T-yes (every_by n test (λ i l. yes-T (ap test (sym (at i l)) ∙ h i 0 (omega arith) (omega (arith, l, length-range_with_len 0 n))))))
decided test n false h =
    let l : h.0 < n = omega (arith, h.1, length-range_with_len 0 n) in
    let fails : test h.0 ≡ false = ap test (sym (at h.0 l)) ∙ h.2 0 in
    false_by (every n test) (λ e. apart (sym (T-yes (every_holds n test (yes-T e) h.0 l)) ∙ fails))

-- `(0..n).all(|x| ..)`, where the closure keeps what it captures and tests x
pub every_from_all : {F : Type 0} {g : Mut F (ℕ × Unit {0}) Bool} {s : Range ℕ} (test : ℕ → Bool) (n : ℕ) (u : Range ℕ) (f : F) (r : Bool) → (xs : List ℕ) × (o : Option ℕ) × (j : F) × YieldsThen nat_range_steps s xs o u × FoldsTo (λ p x q. Called g p (x, tt) true q) f xs j × MatchOption o (r ≡ true) (λ x. (r ≡ false) × ((h : F) × Called g j (x, tt) false h)) → s ≡ record { start = 0; end = n } → ((x : ℕ) (b : Bool) (q : F) → Called g f (x, tt) b q → (q ≡ f) × (b ≡ test x)) → r ≡ every n test
every_from_all test n u f r ran e tests =
    decided test n r (cases_from_all u f r (λ x. test x ≡ true) (λ x. test x ≡ false) ran (YieldsList-from_range 0 n n e (omega arith)) (λ x q k. let a = tests x true q k in (a.0, sym a.1)) (λ x q k. sym (tests x false q k).1))

-- `(0..n).find(|x| ..)`, where the closure keeps what it captures and tells that x fails the test: the first that fails, or none
pub first_not_from_find : {F : Type 0} {g : Mut F (Bor ℕ × Unit {0}) Bool} {s : Range ℕ} (test : ℕ → Bool) (n : ℕ) (u : Range ℕ) (f : F) (r : Option ℕ) → (xs : List ℕ) × (j : F) × YieldsThen nat_range_steps s xs r u × FoldsTo (λ p x q. CalledAt g p x false q) f xs j × MatchOption r ⊤ (λ x. (h : F) × CalledAt g j x true h) → s ≡ record { start = 0; end = n } → ((x : ℕ) (b : Bool) (q : F) → CalledAt g f x b q → (q ≡ f) × (b ≡ not (test x))) → MatchOption r (n ≡ first_not n test) (λ i. (i < n) × (i ≡ first_not n test))
first_not_from_find test n u f r ran e tests =
    told r (subst (λ (t : Range ℕ). MatchOption r ((k : ℕ) → t.start ≤ k → k < t.end → test k ≡ true) (λ i. (t.start ≤ i) × (i < t.end) × (test i ≡ false) × ((k : ℕ) → t.start ≤ k → k < i → test k ≡ true))) e
    (first_from_Range _ u f r (λ x. test x ≡ false) (λ x. test x ≡ true) ran (λ x q k. fails x (tests x true q k).1) (λ x q k. let a = tests x false q k in (a.0, holds x a.1))))
  where
    fails : (x : ℕ) → true ≡ not (test x) → test x ≡ false
    fails x e = not_true (test x) e

    holds : (x : ℕ) → false ≡ not (test x) → test x ≡ true
    holds x e = not_false (test x) e

    told : (r : Option ℕ) → MatchOption r ((k : ℕ) → 0 ≤ k → k < n → test k ≡ true) (λ i. (0 ≤ i) × (i < n) × (test i ≡ false) × ((k : ℕ) → 0 ≤ k → k < i → test k ≡ true)) → MatchOption r (n ≡ first_not n test) (λ i. (i < n) × (i ≡ first_not n test))
    told None h = first_not_by (record { reach = omega arith; before = λ k l. yes-T (h k (omega arith) l); fails = λ l t. let z : ⊥ = omega (arith, l) in z })
    told (Some i) h = (h.1, first_not_by (record { reach = omega (arith, h.1); before = λ k l. yes-T (h.3 k (omega arith) l); fails = λ l t. apart (sym (T-yes t) ∙ h.2) }))
