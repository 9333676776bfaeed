-- Lines by their numbers: a line that has a number, the first line that passes a test, and the line that a text is refused with line by line.
use Rattle.std.specs.Prelude.{◌≡◌, refl, Bool, true, false, cond, ◌&&◌, ◌||◌, ◌⊎◌, List, [], ◌∷◌, ℕ, zero, suc, ◌+◌, ◌-◌, ◌<◌, ◌≤◌, get_or}
use Rattle.std.proofs.Common.{sym, ◌∙◌, ap, subst, inl, inr, arith}
use Rattle.whole.specs.Flags.{apart}
use Rattle.table.specs.Table.{Given, given_at, told_or, given}
use Rattle.table.specs.Rows.{found_if}
use Rattle.record.specs.declared.Record.TheVariants.{Opening, Point, Value, Close}
use Rattle.spoken.specs.declared.Said.{Said}
use Rattle.spoken.specs.declared.Said.TheVariants.{Nothing, Item, Unclear}
use Rattle.text.specs.Text.{unclear, opens, opening_at, gathered, first_label, line_rows}

-- line l of those numbered from k on
pub record Line (k : ℕ) (hs : List Said) (l : ℕ) (P : Said → Type 0) : Type 0 where
  pub index : ℕ
  pub is : l ≡ k + index
  pub holds : P (get_or hs index Nothing)

-- one line more in front
pub line_later : {k : ℕ} {h : Said} {hs : List Said} {l : ℕ} {P : Said → Type 0} → Line (suc k) hs l P → Line k (h ∷ hs) l P
line_later f = record { index = suc f.index; is = omega (arith, f.is); holds = f.holds }

-- or it is the first of them
pub line_here : {k : ℕ} {h : Said} {hs : List Said} {l : ℕ} {P : Said → Type 0} → l ≡ k → P h → Line k (h ∷ hs) l P
line_here e p = record { index = 0; is = omega arith; holds = p }

-- counted from 1
module _ {hs : List Said} {l : ℕ} {P : Said → Type 0} (f : Line 1 hs l P) where
  pub line_counted : 1 ≤ l
  line_counted = omega (arith, f.is)

  pub line_said : P (get_or hs (l - 1) Nothing)
  line_said = let q : f.index ≡ l - 1 = omega (arith, f.is) in subst (λ (k : ℕ). P (get_or hs k Nothing)) q f.holds

-- ---- the first line of a kind
-- where a line passes the test, so does line l, which is not behind it
abbrev pub FirstOf : (t : Said → Bool) → (k : ℕ) → List Said → (l : ℕ) → Type 0
FirstOf t k hs l = (j : ℕ) → t (get_or hs j Nothing) ≡ true → Line k hs l (λ h. t h ≡ true) × (l ≤ k + j)

-- the line told is the first that passes a test where it is told line by line so
pub first_of : (f : ℕ → List Said → ℕ) (t : Said → Bool) → ((k : ℕ) (h : Said) (hs : List Said) → f k (h ∷ hs) ≡ cond (t h) k (f (suc k) hs)) → t Nothing ≡ false
    → (k : ℕ) (hs : List Said) → FirstOf t k hs (f k hs)
first_of f t step void k [] j e = absurd (apart (sym e ∙ void))
first_of f t step void k (h ∷ hs) j e = rw (step k h hs) (go (t h) refl j e (first_of f t step void (suc k) hs))
  where
    go : (b : Bool) → t h ≡ b → (j : ℕ) → t (get_or (h ∷ hs) j Nothing) ≡ true → FirstOf t (suc k) hs (f (suc k) hs)
        → Line k (h ∷ hs) (cond b k (f (suc k) hs)) (λ g. t g ≡ true) × (cond b k (f (suc k) hs) ≤ k + j)
    go true w j q later = (line_here refl w, omega arith)
    go false w zero q later = absurd (apart (sym q ∙ w))
    go false w (suc i) q later = let r = later i q in (line_later r.0, omega (arith, r.1))

-- the first that opens
opening_step : (k : ℕ) (h : Said) (hs : List Said) → first_label (gathered opening_at k (h ∷ hs)) ≡ cond (opens h) k (first_label (gathered opening_at (suc k) hs))
unfolding gathered
opening_step k Nothing hs = refl
opening_step k (Item (Opening z)) hs = refl
opening_step k (Item (Point i x)) hs = refl
opening_step k (Item (Value s c i y)) hs = refl
opening_step k (Item Close) hs = refl
opening_step k Unclear hs = refl

pub first_opening : (hs : List Said) → FirstOf opens 1 hs (first_label (gathered opening_at 1 hs))
first_opening hs = first_of (λ k gs. first_label (gathered opening_at k gs)) opens opening_step refl 1 hs

-- ---- line by line
-- 42: the line is not understood. 46: it opens, and one opened before it
pub data LineFault (opened : Bool) (k : ℕ) (hs : List Said) (number l : ℕ) : Type 0 where
  not_understood : number ≡ 42 → Line k hs l (λ h. unclear h ≡ true) → LineFault opened k hs number l
  opens_again : number ≡ 46 → Line k hs l (λ h. opens h ≡ true) → (opened ≡ true) ⊎ ((j : ℕ) × (k + j < l) × (opens (get_or hs j Nothing) ≡ true)) → LineFault opened k hs number l

-- one line more in front, which opens or does not
fault_later : (opened : Bool) (k : ℕ) (h : Said) (hs : List Said) (number l : ℕ) → LineFault (opens h || opened) (suc k) hs number l → LineFault opened k (h ∷ hs) number l
fault_later opened k h hs number l (not_understood n f) = not_understood n (line_later f)
fault_later opened k h hs number l (opens_again n f (inr b)) = opens_again n (line_later f) (inr (suc b.0, omega (arith, b.1), b.2))
fault_later opened k h hs number l (opens_again n f (inl e)) = opens_again n (line_later f) (go (opens h) refl e)
  where
    go : (b : Bool) → opens h ≡ b → (b || opened) ≡ true → (opened ≡ true) ⊎ ((j : ℕ) × (k + j < l) × (opens (get_or (h ∷ hs) j Nothing) ≡ true))
    go true o e = inr (0, omega (arith, f.is), o)
    go false o e = inl e

-- no other number is told line by line
pub line_fault : (opened : Bool) (k : ℕ) (hs : List Said) (number l : ℕ) → ¬ (number ≡ 0) → given (line_rows opened k hs) ≡ given_at number l → LineFault opened k hs number l
unfolding given line_rows
line_fault opened k [] number l n e = absurd (n (sym (ap (λ (g : Given). g.number) e)))
line_fault opened k (h ∷ hs) number l n e = go (unclear h) (opens h) opened refl refl refl e (λ q. fault_later opened k h hs number l (line_fault (opens h || opened) (suc k) hs number l n q))
  where
    next : Given
    next = given (line_rows (opens h || opened) (suc k) hs)

    go : (u o b : Bool) → unclear h ≡ u → opens h ≡ o → opened ≡ b → told_or 42 (found_if k u) (told_or 46 (found_if k (o && b)) next) ≡ given_at number l
        → (next ≡ given_at number l → LineFault opened k (h ∷ hs) number l) → LineFault opened k (h ∷ hs) number l
    go true o b w p q e later = not_understood (sym (ap (λ (g : Given). g.number) e)) (line_here (sym (ap (λ (g : Given). g.place) e)) w)
    go false true true w p q e later = opens_again (sym (ap (λ (g : Given). g.number) e)) (line_here (sym (ap (λ (g : Given). g.place) e)) p) (inl q)
    go false true false w p q e later = later e
    go false false b w p q e later = later e
