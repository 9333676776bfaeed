-- Of any table of rows with their tests: there is an answer, which the tests compute, and there is one only.
use Rattle.std.specs.Prelude.{◌≡◌, refl, ◌↔◌, List, [], ◌∷◌, ◌++◌, ℕ}
use Rattle.std.proofs.Common.{sym, ◌∙◌, ap, subst, inl, inr, arith}
use Rattle.std.proofs.Math.Option.{Option, none, some}
use Rattle.table.specs.Table.{Given, accepted, Quiet, Row, condition, conditions, Silent, First, told_or, given, All, Other, Unlike}
use Rattle.table.specs.Conditions.{OnePlace, one_first, none_exactly, zero_first}

-- ---- one row
-- its condition holds at one place at most
one_place : (row : Row) → OnePlace (condition row)
one_place row p q h k = let a = (row.exact p).0 h in let b = (row.exact q).0 k in cc

silent_none : (row : Row) → row.found ≡ none → Silent row
silent_none row e p h = let a = (row.exact p).0 h in let z : ◌≡◌ {A = ℕ} 0 1 = cc in omega arith

pub none_silent : (row : Row) → Silent row → row.found ≡ none
none_silent row s = go row.found refl
  where
    go : (f : Option ℕ) → row.found ≡ f → f ≡ none
    go none e = refl
    go (some p) e = absurd (s p ((row.exact p).1 e))

-- ---- of rows, and of their conditions
pub one_places : (rows : List Row) → All OnePlace (conditions rows)
one_places [] = tt
one_places (row ∷ rows) = (one_place row, one_places rows)

pub others : (k : ℕ) (rows : List Row) → All (Unlike k) rows → All (Other k) (conditions rows)
others k [] u = tt
others k (row ∷ rows) u = (u.0, others k rows u.1)

pub silent_quiet : (rows : List Row) → All Silent rows ↔ All Quiet (conditions rows)
silent_quiet [] = (λ h. h, λ h. h)
silent_quiet (row ∷ rows) = let rest = silent_quiet rows in (λ h. (h.0, rest.0 h.1), λ h. (h.0, rest.1 h.1))

-- ---- there is an answer
pub exists : (rows : List Row) → First rows (given rows)
unfolding given
exists [] = refl
exists (row ∷ rows) = go (exists rows) row.found refl
  where
    go : First rows (given rows) → (f : Option ℕ) → row.found ≡ f → First (row ∷ rows) (told_or row.number f (given rows))
    go later none e = inr (silent_none row e, later)
    go later (some p) e = inl (refl, (row.exact p).1 e)

-- ---- and one only
pub one : (rows : List Row) {a b : Given} → First rows a → First rows b → a ≡ b
one rows = one_first (conditions rows) (one_places rows)

-- what is the first is what is computed
pub first_given : (rows : List Row) {a : Given} → First rows a → a ≡ given rows
first_given rows h = one rows h (exists rows)

pub first_exactly : (rows : List Row) (a : Given) → First rows a ↔ (a ≡ given rows)
first_exactly rows a = (first_given rows, λ e. subst (First rows) (sym e) (exists rows))

-- accepted exactly when no condition holds, in a table without the number 0
pub accepted_exactly : (rows : List Row) → All (Unlike 0) rows → First rows accepted ↔ All Silent rows
accepted_exactly rows u =
    let e = none_exactly (conditions rows) (others 0 rows u) in
    let s = silent_quiet rows in
    (λ h. s.1 (e.0 h), λ h. e.1 (s.0 h))

-- there the number 0 is the answer accepted
pub zero_accepted : (rows : List Row) (a : Given) → All (Unlike 0) rows → First rows a → a.number ≡ 0 → a ≡ accepted
zero_accepted rows a u = zero_first (conditions rows) a (others 0 rows u)

-- the number 0 is given exactly when no condition holds
pub zero_exactly : (rows : List Row) → All (Unlike 0) rows → ((given rows).number ≡ 0) ↔ All Silent rows
zero_exactly rows u =
    let a = accepted_exactly rows u in (
      λ e. a.0 (subst (First rows) (zero_accepted rows (given rows) u (exists rows) e) (exists rows)),
      λ s. ap (λ (g : Given). g.number) (sym (first_given rows (a.1 s))),
    )

-- ---- tables one behind the other
pub all_append : {A : Type 1} (P : A → Type 0) (a b : List A) → All P (a ++ b) ↔ (All P a × All P b)
all_append P [] b = (λ h. (tt, h), λ h. h.1)
all_append P (x ∷ a) b = let ih = all_append P a b in (λ h. let k = ih.0 h.1 in ((h.0, k.0), k.1), λ h. (h.0.0, ih.1 (h.0.1, h.1)))

-- where no condition of the first holds, the answer is that of the second
pub given_silent : (a b : List Row) → All Silent a → given (a ++ b) ≡ given b
unfolding given
given_silent [] b s = refl
given_silent (row ∷ a) b s = ap (λ (f : Option ℕ). told_or row.number f (given (a ++ b))) (none_silent row s.0) ∙ given_silent a b s.1

-- else it is that of the first, whatever stands behind
pub given_held : (a b : List Row) → ¬ ((given a).number ≡ 0) → given (a ++ b) ≡ given a
unfolding given
given_held [] b n = absurd (n refl)
given_held (row ∷ a) b n = go row.found (given_held a b) n
  where
    go : (f : Option ℕ) → (¬ ((given a).number ≡ 0) → given (a ++ b) ≡ given a) → ¬ ((told_or row.number f (given a)).number ≡ 0)
        → told_or row.number f (given (a ++ b)) ≡ told_or row.number f (given a)
    go none rest n = rest n
    go (some p) rest n = refl
