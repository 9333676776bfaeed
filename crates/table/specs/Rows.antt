-- The forms of a row: one whose place is known, and one whose place is the lowest index at which something holds; and a row told otherwise.
use Rattle.std.specs.Prelude.{◌≡◌, refl, Bool, true, false, not, ◌↔◌, ℕ, ◌<◌, ◌≤◌, T, ltb}
use Rattle.std.proofs.Common.{sym, ap, subst, arith, lt→ltb, ltb→lt}
use Rattle.std.proofs.Math.Option.{Option, none, some}
use Rattle.std.proofs.Math.Facts.{T_not, not_T, T_not-not}
use Rattle.whole.specs.Every.{first_not, FirstNot, first_not_is, first_not_one}
use Rattle.table.specs.Table.{Row, Silent}

never : {p : ℕ} → none ≡ some p → ⊥
never e = let z : ◌≡◌ {A = ℕ} 0 1 = cc in omega arith

-- ---- at a known place
abbrev pub found_if : (place : ℕ) → Bool → Option ℕ
found_if place true = some place
found_if place false = none

-- the test tells whether P holds
abbrev pub Tells : Type 0 → Bool → Type 0
Tells P b = P ↔ T b

-- of a test itself
abbrev pub itself : (b : Bool) → Tells (T b) b
itself b = (λ t. t, λ t. t)

pub at_exact : (place : ℕ) {P : Type 0} (b : Bool) → Tells P b → (p : ℕ) → ((p ≡ place) × P) ↔ (found_if place b ≡ some p)
at_exact place true tells p = (λ h. ap some (sym h.0), λ e. (let d : p ≡ place = cc in d, tells.1 tt))
at_exact place false tells p = (λ h. absurd (tells.0 h.1), λ e. absurd (never e))

-- the number, told of the place, where P holds
abbrev pub at_place : (number place : ℕ) (P : Type 0) (b : Bool) → Tells P b → Row
at_place number place P b tells = record { number = number; Told = λ p. (p ≡ place) × P; found = found_if place b; exact = at_exact place b tells }

-- it is silent exactly where the test fails
pub silent_at : (number place : ℕ) {P : Type 0} (b : Bool) (tells : Tells P b) → Silent (at_place number place P b tells) ↔ T (not b)
silent_at number place b tells = (λ s. not_T b (λ t. s place (refl, tells.1 t)), λ t q h. T_not b (tells.0 h.1) t)

-- ---- at the lowest index
-- i is the lowest index below m at which P holds
pub record Lowest (m : ℕ) (P : ℕ → Type 0) (i : ℕ) : Type 0 where
  pub within : i < m
  pub holds : P i
  pub first : (j : ℕ) → j < i → ¬ (P j)

abbrev pub lowest_found : (m : ℕ) → (ℕ → Bool) → Option ℕ
lowest_found m ok = found_if (first_not m ok) (ltb (first_not m ok) m)

-- the test tells at each index that P does not hold there
abbrev pub Tests : (ℕ → Type 0) → (ℕ → Bool) → Type 0
Tests P ok = (i : ℕ) → Tells (P i) (not (ok i))

module _ (m : ℕ) (P : ℕ → Type 0) (ok : ℕ → Bool) (tests : Tests P ok) where
  as_first : {i : ℕ} → Lowest m P i → FirstNot m ok i
  as_first {i} l =
      record {
        reach = omega (arith, l.within);
        before = λ j h. T_not-not (ok j) (not_T (not (ok j)) (λ t. l.first j h ((tests j).1 t)));
        fails = λ h t. T_not (ok i) t ((tests i).0 l.holds);
      }

  at_first : first_not m ok < m → Lowest m P (first_not m ok)
  at_first l =
      let f = first_not_is m ok in
      record {
        within = l;
        holds = (tests (first_not m ok)).1 (not_T (ok (first_not m ok)) (f.fails l));
        first = λ j b p. T_not (ok j) (f.before j b) ((tests j).0 p);
      }

  pub lowest_exact : (i : ℕ) → Lowest m P i ↔ (lowest_found m ok ≡ some i)
  lowest_exact i =
      let k = first_not m ok in
      let e = at_exact k (ltb k m) (itself (ltb k m)) i in (
        λ l. let same : i ≡ k = first_not_one (as_first l) (first_not_is m ok) in e.0 (same, lt→ltb k m (omega (arith, l.within))),
        λ q. let h = e.1 q in subst (Lowest m P) (sym h.0) (at_first (ltb→lt k m h.1)),
      )

-- the number, told of the lowest index below m at which P holds; `ok` tests that it does not
abbrev pub lowest : (number m : ℕ) (P : ℕ → Type 0) (ok : ℕ → Bool) → Tests P ok → Row
lowest number m P ok tests = record { number = number; Told = Lowest m P; found = lowest_found m ok; exact = lowest_exact m P ok tests }

-- it is silent exactly where the test holds at each index
pub silent_lowest : (number m : ℕ) (P : ℕ → Type 0) (ok : ℕ → Bool) (tests : Tests P ok) → Silent (lowest number m P ok tests) ↔ ((i : ℕ) → i < m → T (ok i))
silent_lowest number m P ok tests = (there, λ h i l. T_not (ok i) (h i l.within) ((tests i).0 l.holds))
  where
    there : Silent (lowest number m P ok tests) → (i : ℕ) → i < m → T (ok i)
    there s i h = let f = first_not_is m ok in f.before i (reaches (ltb (first_not m ok) m) (λ t. s (first_not m ok) (at_first m P ok tests (ltb→lt (first_not m ok) m t))) f.reach)
      where
        reaches : (b : Bool) → ¬ (T (ltb (first_not m ok) m)) → first_not m ok ≤ m → i < first_not m ok
        reaches b n r = let e : ¬ (first_not m ok < m) = λ l. n (lt→ltb (first_not m ok) m l) in omega arith

-- ---- the same condition under another number, told of another place
abbrev pub place_by : (ℕ → ℕ) → Option ℕ → Option ℕ
place_by f none = none
place_by f (some q) = some (f q)

abbrev pub MovedTo : (ℕ → ℕ) → Row → ℕ → Type 0
MovedTo f row p = (q : ℕ) × row.Told q × (f q ≡ p)

pub moved_exact : (f : ℕ → ℕ) (row : Row) (p : ℕ) → MovedTo f row p ↔ (place_by f row.found ≡ some p)
moved_exact f row p = (λ h. rw ((row.exact h.0).0 h.1) (ap some h.2), go row.found refl)
  where
    go : (o : Option ℕ) → row.found ≡ o → place_by f o ≡ some p → MovedTo f row p
    go none e h = absurd (never h)
    go (some q) e h = (q, (row.exact q).1 e, (cc))

abbrev pub moved : (number : ℕ) → (ℕ → ℕ) → Row → Row
moved number f row = record { number = number; Told = MovedTo f row; found = place_by f row.found; exact = moved_exact f row }
