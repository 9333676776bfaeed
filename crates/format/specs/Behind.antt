-- A record of a file behind others: it is what stands at its label, it begins no earlier than they do, and reading ends behind it where it closes.
use Rattle.std.specs.Prelude.{◌≡◌, Bool, not, ℕ, ◌<◌, ◌≤◌}
use Rattle.std.proofs.Math.Path.{refl, ap}
use Rattle.std.proofs.Common.{sym, ◌∙◌, subst, arith}
use Rattle.std.proofs.Math.Bool.{true, false, cond}
use mathlib.Core.List.{List, [], ◌∷◌, ◌++◌, nil≢cons, cons-ne-nil, append-ne-nil_of_right_ne-nil}
use borrow.Author.Tests.{leb-true}
use Rattle.std.proofs.Math.Dec.{T, leb}
use Rattle.std.proofs.Math.ListN.{length}
use Rattle.std.proofs.Math.Facts.{and_yes, or_no}
use Rattle.whole.specs.Flags.{T-no, apart}
use Rattle.records.specs.Record.{Record, opening, entry, close, unknown, cut, surplus, Labelled, at_label, Recorded, unlabelled, closes, closed}
use Rattle.records.specs.Meaning.{faults}
use Rattle.records.specs.Sound.{clear, clean}
use Rattle.format.specs.Format.{Format, alone, in_front}
use Rattle.format.specs.Found.{Standing, stands, ends, strange, standing_at, stands_within, from, met, met_at}
use Rattle.format.specs.Taken.{real}
use Rattle.format.specs.Met.{met_as, NextMet, first_met, next_met, whole_met, next_end}

-- whether a record behind others is the first of all
abbrev pub first_behind : Bool → List Labelled → Bool
first_behind first [] = first
first_behind first (x ∷ xs) = false

module _ (F : Format) (s : List ℕ) where
  abbrev pub Behind : (first : Bool) (at : ℕ) (front : List Labelled) (x : Labelled) (back : List Labelled) → Type 0
  Behind first at front x back = (from F first s at).records ≡ front ++ (x ∷ back)

  -- the first of those others
  pub next_behind : (first : Bool) (at : ℕ) (w : Labelled) (front : List Labelled) (x : Labelled) (back : List Labelled) → Behind first at (w ∷ front) x back
      → NextMet F s first at w (front ++ (x ∷ back))
  next_behind first at w front x back e = next_met F s first at w (front ++ (x ∷ back)) e (append-ne-nil_of_right_ne-nil front (cons-ne-nil x back))

  -- it begins no earlier than they do
  pub no_earlier : (first : Bool) (at : ℕ) (front : List Labelled) (x : Labelled) (back : List Labelled) → Behind first at front x back → at ≤ x.label
  no_earlier first at [] x back e = omega (arith, (first_met F s first at x back e).label_is)
  no_earlier first at (w ∷ front) x back e =
      let n = next_behind first at w front x back e in
      omega (arith, (stands_within F first s at n.there).0, no_earlier false n.end front x back n.others)

  -- it is what stands at its label
  pub stands_there : (first : Bool) (at : ℕ) (front : List Labelled) (x : Labelled) (back : List Labelled) → Behind first at front x back
      → x.it ≡ met_as (standing_at F (first_behind first front) s x.label)
  stands_there first at [] x back e =
      let m = first_met F s first at x back e in
      m.it_is ∙ ap (λ (k : ℕ). met_as (standing_at F first s k)) (sym m.label_is)
  stands_there first at (w ∷ front) x back e =
      let n = next_behind first at w front x back e in
      stands_there false n.end front x back n.others ∙ ap (λ (b : Bool). met_as (standing_at F b s x.label)) (later front)
    where
      later : (ys : List Labelled) → first_behind false ys ≡ false
      later [] = refl
      later (y ∷ ys) = refl

  -- where it closes, reading ends behind its label
  pub close_ends : (first : Bool) (at : ℕ) (front : List Labelled) (x : Labelled) (back : List Labelled) → Behind first at front x back → closes x.it ≡ true
      → x.label < (from F first s at).end
  close_ends first at [] x back e c =
      let m = first_met F s first at x back e in
      subst (λ (t : Recorded). x.label < t.end) (sym (met_at F first s at)) (go (standing_at F first s at) refl m.label_is (ap closes (sym m.it_is) ∙ c))
    where
      go : (st : Standing) → standing_at F first s at ≡ st → x.label ≡ at → closes (met_as st) ≡ true → x.label < (met F s at st).end
      go (stands r end) q l c = rw c (omega (arith, l, (stands_within F first s at q).0))
      go ends q l c = absurd (apart (sym c))
      go strange q l c = absurd (apart (sym c))
  close_ends first at (w ∷ front) x back e c =
      let n = next_behind first at w front x back e in
      omega (arith, next_end F s n, close_ends false n.end front x back n.others c)

  -- ---- where no record has a fault and none closes, reading ends with the bytes
  pub ends_with_bytes : (first : Bool) (at : ℕ) (before : List Record) (xs : List Labelled) → at ≤ length s → (from F first s at).records ≡ xs → T (clean before (unlabelled xs))
      → T (not (closed (unlabelled xs))) → (from F first s at).end ≡ length s
  unfolding clean clear closed
  ends_with_bytes first at before [] h e c o = ap (λ (t : Recorded). t.end) (met_at F first s at) ∙ go (standing_at F first s at) (sym (ap (λ (t : Recorded). t.records) (met_at F first s at)) ∙ e)
    where
      go : (st : Standing) → (met F s at st).records ≡ [] → (met F s at st).end ≡ length s
      go (stands r end) w = shut (closes r) w
        where
          shut : (b : Bool) → let t = cond b (alone (at_label at r) end) (in_front (at_label at r) (from F false s end)) in t.records ≡ [] → t.end ≡ length s
          shut true w = absurd (nil≢cons (sym w))
          shut false w = absurd (nil≢cons (sym w))
      go ends w = short (leb (length s) at) refl w
        where
          short : (b : Bool) → leb (length s) at ≡ b → let t = cond b (record { records = []; end = at }) (alone (at_label at cut) at) in t.records ≡ [] → t.end ≡ length s
          short true q w = omega (arith, leb-true (length s) at q)
          short false q w = absurd (nil≢cons (sym w))
      go strange w = absurd (nil≢cons (sym w))
  ends_with_bytes first at before (x ∷ xs) h e c o =
      let t = and_yes (clear (faults before x.it)) (clean (x.it ∷ before) (unlabelled xs)) c in
      let p = or_no (closes x.it) (closed (unlabelled xs)) o in
      let n = whole_met F s first at x xs e (faultless before x.it t.0) (T-no p.0) in
      next_end F s n ∙ ends_with_bytes false n.end (x.it ∷ before) xs (stands_within F first s at n.there).1 n.others t.1 p.1
    where
      faultless : (before : List Record) (r : Record) → T (clear (faults before r)) → real r ≡ true
      faultless before (opening z) t = refl
      faultless before (entry y) t = refl
      faultless before close t = refl
      faultless before unknown t = absurd (and_yes (not (closed before)) false t).1
      faultless before cut t = absurd (and_yes (not (closed before)) false t).1
      faultless before surplus t = refl
