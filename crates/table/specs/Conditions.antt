-- Of conditions in their order: a number is given exactly when its condition is the first to hold, 0 exactly when none holds, and one answer fits where each condition holds of one place at most.
use Rattle.std.specs.Prelude.{◌≡◌, refl, ◌⊎◌, ◌↔◌, List, [], ◌∷◌, ◌++◌, ℕ}
use Rattle.std.proofs.Common.{sym, ◌∙◌, ap, inl, inr}
use Rattle.table.specs.Table.{Given, given_at, accepted, Condition, Quiet, FirstOf, All, Other}

-- ---- exactly when
pub absent : (k : ℕ) (cs : List Condition) (p : ℕ) → ¬ (k ≡ 0) → All (Other k) cs → ¬ (FirstOf cs (given_at k p))
absent k [] p n u h = n (ap (λ (a : Given). a.number) h)
absent k (c ∷ cs) p n u (inl h) = u.0 h.0
absent k (c ∷ cs) p n u (inr h) = absent k cs p n u.1 h.1

-- a number other than 0 that no other condition has is given at a place exactly when its condition is the first to hold, told of that place
pub exactly : (before : List Condition) (c : Condition) (after : List Condition) (p : ℕ)
    → ¬ (c.number ≡ 0) → All (Other c.number) before → All (Other c.number) after
    → FirstOf (before ++ (c ∷ after)) (given_at c.number p) ↔ (All Quiet before × c.Told p)
exactly [] c after p n ub ua = (there, λ h. inl (refl, h.1))
  where
    there : FirstOf (c ∷ after) (given_at c.number p) → All Quiet [] × c.Told p
    there (inl h) = (tt, h.1)
    there (inr h) = absurd (absent c.number after p n ua h.1)
exactly (b ∷ before) c after p n ub ua =
    let rest = exactly before c after p n ub.1 ua in
    (there rest.0, λ h. inr (h.0.0, rest.1 (h.0.1, h.1)))
  where
    there : (FirstOf (before ++ (c ∷ after)) (given_at c.number p) → All Quiet before × c.Told p)
        → FirstOf (b ∷ (before ++ (c ∷ after))) (given_at c.number p) → All Quiet (b ∷ before) × c.Told p
    there rest (inl h) = absurd (ub.0 h.0)
    there rest (inr h) = let k = rest h.1 in ((h.0, k.0), k.1)

-- accepted exactly when no condition holds, where none has the number 0
pub none_exactly : (cs : List Condition) → All (Other 0) cs → FirstOf cs accepted ↔ All Quiet cs
none_exactly [] u = (λ h. tt, λ h. refl)
none_exactly (c ∷ cs) u = let rest = none_exactly cs u.1 in (there rest.0, λ h. inr (h.0, rest.1 h.1))
  where
    there : (FirstOf cs accepted → All Quiet cs) → FirstOf (c ∷ cs) accepted → All Quiet (c ∷ cs)
    there rest (inl h) = absurd (u.0 h.0)
    there rest (inr h) = (h.0, rest h.1)

-- there the number 0 is the answer accepted
pub zero_first : (cs : List Condition) (a : Given) → All (Other 0) cs → FirstOf cs a → a.number ≡ 0 → a ≡ accepted
zero_first [] a u h e = h
zero_first (c ∷ cs) a u (inl h) e = absurd (u.0 (sym e ∙ h.0))
zero_first (c ∷ cs) a u (inr h) e = zero_first cs a u.1 h.1 e

-- ---- one answer
-- a condition holds of one place at most
abbrev pub OnePlace : Condition → Type 0
OnePlace c = (p q : ℕ) → c.Told p → c.Told q → p ≡ q

pub one_first : (cs : List Condition) → All OnePlace cs → {a b : Given} → FirstOf cs a → FirstOf cs b → a ≡ b
one_first [] o h k = h ∙ sym k
one_first (c ∷ cs) o {a} {b} (inl h) (inl k) =
    let e : a.number ≡ b.number = h.0 ∙ sym k.0 in
    let f : a.place ≡ b.place = o.0 a.place b.place h.1 k.1 in
    λ i. record { number = e i; place = f i }
one_first (c ∷ cs) o {a} {b} (inl h) (inr k) = absurd (k.0 a.place h.1)
one_first (c ∷ cs) o {a} {b} (inr h) (inl k) = absurd (h.0 b.place k.1)
one_first (c ∷ cs) o (inr h) (inr k) = one_first cs o.1 h.1 k.1

-- ---- conditions behind others
-- they tell the answer where none of the others holds
pub behind : (a b : List Condition) (g : Given) → All Quiet a → FirstOf b g → FirstOf (a ++ b) g
behind [] b g s h = h
behind (c ∷ a) b g s h = inr (s.0, behind a b g s.1 h)

-- else the others do
pub in_front : (a b : List Condition) (g : Given) → ¬ (g.number ≡ 0) → FirstOf a g → FirstOf (a ++ b) g
in_front [] b g n h = absurd (n (ap (λ (g : Given). g.number) h))
in_front (c ∷ a) b g n (inl h) = inl h
in_front (c ∷ a) b g n (inr h) = inr (h.0, in_front a b g n h.1)

-- and one of the two is so
pub parted : (a b : List Condition) (g : Given) → All (Other 0) a → FirstOf (a ++ b) g → (FirstOf a g × ¬ (g.number ≡ 0)) ⊎ (All Quiet a × FirstOf b g)
parted [] b g u h = inr (tt, h)
parted (c ∷ a) b g u (inl h) = inl (inl h, λ z. u.0 (sym z ∙ h.0))
parted (c ∷ a) b g u (inr h) = go (parted a b g u.1 h.1)
  where
    go : (FirstOf a g × ¬ (g.number ≡ 0)) ⊎ (All Quiet a × FirstOf b g) → (FirstOf (c ∷ a) g × ¬ (g.number ≡ 0)) ⊎ (All Quiet (c ∷ a) × FirstOf b g)
    go (inl k) = inl (inr (h.0, k.0), k.1)
    go (inr k) = inr ((h.0, k.0), k.1)
