-- The order of a text's records: entries stand in the order of their lines, and nothing stands behind the close.
use Rattle.std.specs.Prelude.{◌≡◌, refl, ℕ, suc, ◌<◌}
use Rattle.std.proofs.Common.{sym, ◌∙◌, subst, inl, inr, ⊎_elim, arith}
use mathlib.Core.List.Memᴰ
use mathlib.Core.List.{List, [], ◌∷◌, ◌++◌, Memᴰ}
use Rattle.records.specs.Record.{Sizes, Entry, Record, opening, entry, close, Labelled, at_label}
use Rattle.spoken.specs.declared.Said.{Said}
use Rattle.text.specs.Text.{opening_at, entry_at, gathered, text}
use Rattle.text.specs.RecordLines.{OneAt, Brings, Opens, Enters, opening_brings, entry_brings, gathered_line, not_opening, opening_open, entry_open, openings, entries, last, opened_by, entered_by, last_close}

-- of two records the one in front does not close, and if both are entries it has the lower number
abbrev InOrder : Labelled → Labelled → Type 0
InOrder x y = ¬ (x.it ≡ close) × ((d e : Entry) → x.it ≡ entry d → y.it ≡ entry e → x.label < y.label)

abbrev Ordered : List Labelled → Type 0
Ordered [] = Unit {0}
Ordered (x ∷ xs) = ((y : Labelled) → Memᴰ y xs → InOrder x y) × Ordered xs

ordered_append : (xs ys : List Labelled) → Ordered xs → Ordered ys → ((x y : Labelled) → Memᴰ x xs → Memᴰ y ys → InOrder x y) → Ordered (xs ++ ys)
ordered_append [] ys a b r = b
ordered_append (x ∷ xs) ys a b r =
    ((λ y m. ⊎_elim (a.0 y) (r x y (Memᴰ.head refl)) (Memᴰ.append_cases xs m)), ordered_append xs ys a.1 b (λ u v m n. r u v (Memᴰ.tail m) n))

-- one record in front of another, and one behind it
ordered_front : (before : List Labelled) (it : Labelled) (after : List Labelled) → Ordered (before ++ (it ∷ after)) → (x : Labelled) → Memᴰ x before → InOrder x it
ordered_front [] it after o x m = absurd (Memᴰ.not-nil m)
ordered_front (z ∷ before) it after o x m =
    ⊎_elim (λ (e : x ≡ z). subst (λ (y : Labelled). InOrder y it) (sym e) (o.0 it (Memᴰ.append_right before (Memᴰ.head refl))))
    (ordered_front before it after o.1 x)
    (Memᴰ.cases_cons m)

ordered_behind : (before : List Labelled) (it : Labelled) (after : List Labelled) → Ordered (before ++ (it ∷ after)) → (y : Labelled) → Memᴰ y after → InOrder it y
ordered_behind [] it after o y m = o.0 y m
ordered_behind (z ∷ before) it after o y m = ordered_behind before it after o.1 y m

-- ---- what is gathered
gathered_ordered : (f : ℕ → Said → List Labelled) (P : Said → Record → Type 0) → Brings f P → ((h : Said) (x y : Labelled) → P h x.it → x.label < y.label → InOrder x y)
    → (k : ℕ) (hs : List Said) → Ordered (gathered f k hs)
unfolding gathered
gathered_ordered f P brings r k [] = tt
gathered_ordered f P brings r k (h ∷ hs) = go (brings k h) (gathered_ordered f P brings r (suc k) hs)
  where
    go : OneAt k (P h) (f k h) → Ordered (gathered f (suc k) hs) → Ordered (f k h ++ gathered f (suc k) hs)
    go (inl e) later = rw e later
    go (inr b) later = rw b.1 ((λ y m. r h (at_label k b.0) y b.2 (omega (arith, (gathered_line f P brings (suc k) hs y m).is))), later)

-- ---- the records of a text
opening_first : (x y : Labelled) {z : Sizes} → x.it ≡ opening z → InOrder x y
opening_first x y a = ((λ c. opening_open (sym a ∙ c)), λ d e p q. absurd (not_opening (sym a ∙ p)))

entry_first : (x y : Labelled) {d : Entry} → x.it ≡ entry d → ((e : Entry) → y.it ≡ entry e → x.label < y.label) → InOrder x y
entry_first x y a l = ((λ c. entry_open (sym a ∙ c)), λ d e p q. l e q)

module _ (hs : List Said) where
  text_ordered : Ordered (text hs).records
  text_ordered =
      ordered_append (openings hs) (entries hs ++ last hs) (gathered_ordered opening_at Opens opening_brings (λ h x y a l. opening_first x y a.1) 1 hs)
      (ordered_append (entries hs) (last hs) (gathered_ordered entry_at Enters entry_brings (λ h x y a l. entry_first x y a.1 (λ e q. l)) 1 hs) ((λ y m. absurd (Memᴰ.not-nil m)), tt)
      (λ x y m n. entry_first x y (entered_by hs x m).holds.1 (λ e q. absurd (entry_open (sym q ∙ last_close hs y n)))))
      (λ x y m n. opening_first x y (opened_by hs x m).holds.1)

  module _ (before : List Labelled) (it : Labelled) (after : List Labelled) (stands : (text hs).records ≡ before ++ (it ∷ after)) where
    ordered : Ordered (before ++ (it ∷ after))
    ordered = subst Ordered stands text_ordered

    -- of two entries the one in front has the lower number
    pub lower_front : (x : Labelled) (d e : Entry) → Memᴰ x before → x.it ≡ entry d → it.it ≡ entry e → x.label < it.label
    lower_front x d e m p q = (ordered_front before it after ordered x m).1 d e p q

    -- nothing stands behind the close
    pub none_behind : it.it ≡ close → after ≡ []
    none_behind c = go after (ordered_behind before it after ordered)
      where
        go : (ys : List Labelled) → ((y : Labelled) → Memᴰ y ys → InOrder it y) → ys ≡ []
        go [] o = refl
        go (y ∷ ys) o = absurd ((o y (Memᴰ.head refl)).0 c)
