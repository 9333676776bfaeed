-- An array of eleven counts that a loop fills: the first k of them are f 0, f 1, .. f (k - 1).
use Rattle.std.specs.Prelude.{◌≡◌, List, ℕ, ◌+◌, ◌<◌, ◌≤◌, ℤ, pos, length, get_or, set}
use Rattle.std.proofs.Common.{◌∙◌, arith, below_none, below_more, length-set, get_or-set_same, get_or-set_other}

pub record Filled (f : ℕ → ℤ) (k : ℕ) (l : List ℤ) : Type 0 where
  pub long : length l ≡ 11
  pub so_far : (j : ℕ) → j < k → get_or l j (pos 0) ≡ f j

pub filled_none : (f : ℕ → ℤ) (l : List ℤ) → length l ≡ 11 → Filled f 0 l
filled_none f l e = record { long = e; so_far = below_none (λ j. get_or l j (pos 0) ≡ f j) }

-- a turn stores one count more
pub filled_more : {f : ℕ → ℤ} {k : ℕ} {l : List ℤ} {z : ℤ} → Filled f k l → k < 11 → z ≡ f k → Filled f (k + 1) (set l k z)
filled_more {f} {k} {l} {z} a h e = record { long = length-set l k z ∙ a.long; so_far = below_more (λ j. get_or (set l k z) j (pos 0) ≡ f j) k before now }
  where
    before : (j : ℕ) → j < k → get_or (set l k z) j (pos 0) ≡ f j
    before j b = get_or-set_other l k j z (pos 0) (λ d. omega arith) ∙ a.so_far j b

    now : get_or (set l k z) k (pos 0) ≡ f k
    now = get_or-set_same l k z (pos 0) (omega (arith, a.long)) ∙ e

-- a loop that reached m has stored m of them
pub filled_all : {f : ℕ → ℤ} {k : ℕ} {l : List ℤ} (m : ℕ) → Filled f k l → m ≤ k → Filled f m l
filled_all m a h = record { long = a.long; so_far = λ j b. a.so_far j (omega arith) }
