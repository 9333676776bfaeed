-- The records from a place on, one by one: the first is what stands there, and the others are those from its end on.
use Rattle.std.specs.Prelude.{◌≡◌, refl, Bool, true, false, cond, ◌⊎◌, ℕ, leb, length}
use Rattle.std.proofs.Common.{sym, ◌∙◌, ap, subst, inl, inr}
use mathlib.Core.List.{List, [], ◌∷◌, nil≢cons}
use Rattle.whole.specs.Flags.{apart}
use Rattle.records.specs.Record.{Record, unknown, cut, Labelled, at_label, Recorded, closes}
use Rattle.format.specs.Format.{Format, alone, in_front}
use Rattle.format.specs.Found.{Standing, stands, ends, strange, standing_at, from, met, met_at}
use Rattle.format.specs.Taken.{real}

-- what is met where something stands
abbrev pub met_as : Standing → Record
met_as (stands r end) = r
met_as ends = cut
met_as strange = unknown

module _ (F : Format) (s : List ℕ) where
  -- the first record from a place on
  pub record FirstMet (first : Bool) (at : ℕ) (x : Labelled) : Type 0 where
    pub label_is : x.label ≡ at
    pub it_is : x.it ≡ met_as (standing_at F first s at)

  -- it does not close, and others follow it
  pub record NextMet (first : Bool) (at : ℕ) (x : Labelled) (xs : List Labelled) : Type 0 where
    pub label_is : x.label ≡ at
    pub end : ℕ
    pub there : standing_at F first s at ≡ stands x.it end
    pub goes_on : closes x.it ≡ false
    pub others : (from F false s end).records ≡ xs

  module _ (first : Bool) (at : ℕ) (x : Labelled) (xs : List Labelled) (e : (from F first s at).records ≡ x ∷ xs) where
    met_are : (met F s at (standing_at F first s at)).records ≡ x ∷ xs
    met_are = sym (ap (λ (t : Recorded). t.records) (met_at F first s at)) ∙ e

    pub first_met : FirstMet first at x
    first_met = go (standing_at F first s at) refl met_are
      where
        is : (st : Standing) → standing_at F first s at ≡ st → at_label at (met_as st) ≡ x → FirstMet first at x
        is st q w = record { label_is = sym (ap (λ (y : Labelled). y.label) w); it_is = sym (ap (λ (y : Labelled). y.it) w) ∙ ap met_as (sym q) }

        go : (st : Standing) → standing_at F first s at ≡ st → (met F s at st).records ≡ x ∷ xs → FirstMet first at x
        go (stands r end) q w = shut (closes r) w
          where
            shut : (b : Bool) → (cond b (alone (at_label at r) end) (in_front (at_label at r) (from F false s end))).records ≡ x ∷ xs → FirstMet first at x
            shut true w = is (stands r end) q (cc)
            shut false w = is (stands r end) q (cc)
        go ends q w = short (leb (length s) at) w
          where
            short : (b : Bool) → (cond b (record { records = []; end = at }) (alone (at_label at cut) at)).records ≡ x ∷ xs → FirstMet first at x
            short true w = absurd (nil≢cons w)
            short false w = is ends q (cc)
        go strange q w = is strange q (cc)

    -- reading ends with a close, and with what is no whole record
    next_by : (xs ≡ [] → (closes x.it ≡ true) ⊎ (real x.it ≡ false) → ⊥) → NextMet first at x xs
    next_by more = go (standing_at F first s at) refl met_are
      where
        alone_not : (r : Record) → (closes r ≡ true) ⊎ (real r ≡ false) → at_label at r ∷ [] ≡ x ∷ xs → NextMet first at x xs
        alone_not r h w =
            let none : xs ≡ [] = cc in
            let is : at_label at r ≡ x = cc in
            absurd (more none (subst (λ (y : Labelled). (closes y.it ≡ true) ⊎ (real y.it ≡ false)) is h))

        go : (st : Standing) → standing_at F first s at ≡ st → (met F s at st).records ≡ x ∷ xs → NextMet first at x xs
        go (stands r end) q w = shut (closes r) refl w
          where
            shut : (b : Bool) → closes r ≡ b → (cond b (alone (at_label at r) end) (in_front (at_label at r) (from F false s end))).records ≡ x ∷ xs → NextMet first at x xs
            shut true c w = alone_not r (inl c) w
            shut false c w =
                let is : at_label at r ≡ x = cc in
                let it_is : r ≡ x.it = ap (λ (y : Labelled). y.it) is in
                record {
                  label_is = sym (ap (λ (y : Labelled). y.label) is);
                  end = end;
                  there = q ∙ ap (λ (t : Record). stands t end) it_is;
                  goes_on = ap closes (sym it_is) ∙ c;
                  others = cc;
                }
        go ends q w = short (leb (length s) at) w
          where
            short : (b : Bool) → (cond b (record { records = []; end = at }) (alone (at_label at cut) at)).records ≡ x ∷ xs → NextMet first at x xs
            short true w = absurd (nil≢cons w)
            short false w = alone_not cut (inr refl) w
        go strange q w = alone_not unknown (inr refl) w

    -- so it does not end with a record that others follow, nor with a whole one that does not close
    pub next_met : (xs ≡ [] → ⊥) → NextMet first at x xs
    next_met more = next_by (λ n h. more n)

    pub whole_met : real x.it ≡ true → closes x.it ≡ false → NextMet first at x xs
    whole_met w o = next_by (λ n h. go h)
      where
        go : (closes x.it ≡ true) ⊎ (real x.it ≡ false) → ⊥
        go (inl c) = apart (sym c ∙ o)
        go (inr u) = apart (sym w ∙ u)

  -- reading ends where it ends for the others
  pub next_end : {first : Bool} {at : ℕ} {x : Labelled} {xs : List Labelled} (n : NextMet first at x xs) → (from F first s at).end ≡ (from F false s n.end).end
  next_end {first} {at} n = ap (λ (t : Recorded). t.end) (met_at F first s at ∙ ap (met F s at) n.there) ∙ rw n.goes_on
