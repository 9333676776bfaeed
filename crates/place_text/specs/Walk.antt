-- The walk over the records of a file that numbers them: what it keeps, and what each step adds. The method; what is promised is said over the records.
use Rattle.std.specs.Prelude.{◌≡◌, Bool, cond, ltb, leb, eqb, ℤ, length, get_or, take, drop}
use Rattle.std.proofs.Math.Path.{refl, ap, subst}
use Rattle.std.proofs.Common.{sym, ◌∙◌, add-one, arith, eqb-true, ne_eqb, lt-ltb, le-ltb, ltb-true, ltb-false, le-leb, leb-false, length-append}
use Rattle.std.proofs.Math.Bool.{true, false}
use mathlib.Core.List.{List, [], ◌∷◌, ◌++◌, append_assoc, append-nil}
use Rattle.std.proofs.Math.Option.{none, some}
use Prim.Native.Nat.{ℕ, suc, ◌+◌, ◌-◌, ◌<◌, ◌≤◌}
use Rattle.std.proofs.lemmas.Bool.{eqb-false, lt-leb}
use Rattle.records.specs.Record.{Sizes, Entry, Record, opening, entry, unknown, cut, Labelled, at_label, Recorded, closes}
use Rattle.format.specs.Format.{kind_of, alone, in_front}
use Rattle.format.specs.Found.{Standing, stands, ends, strange, standing_of, standing_at, stands_within, from, met, met_at}
use Rattle.record.specs.Kinds.{opening_kind, single_kind, run_file}
use Rattle.detail.specs.Marks.{Marked, Marking, LabelOf}
use Rattle.detail.specs.Marking.{marking_none}
use Rattle.detail.specs.declared.Detail.{Detail}
use Rattle.detail.specs.declared.Detail.TheVariants.{Nothing, Earlier}
use Rattle.place_text.specs.Place.{those_before, numbered, passed_over, first_told}
use Rattle.place_text.specs.declared.Step.{Step}

-- ---- what is kept
-- the records that a step leaves to be looked at
abbrev pub left_of : List ℕ → Step → List Labelled
left_of s t = cond (eqb t.more 0) [] (from run_file (eqb t.at 0) s t.at).records

-- the number at a place is 1, or no higher than the place: so it fits as the place does
abbrev pub most : (at : ℕ) → ℕ
most at = cond (eqb at 0) 1 at

-- one step from a place: the records met there, with their numbers, and where it goes on
pub record Passed (s : List ℕ) (k at : ℕ) (labels : List ℕ) (y : List ℤ) (labels' : List ℕ) (y' : List ℤ) (t : Step) : Type 0 where
  pub new : List Labelled
  pub marked : (xs : List Labelled) → Marked xs labels y → Marked (xs ++ new) labels' y'
  pub counted : t.k ≡ k + length new
  pub goes_on : (limit : ℕ) → at < limit → numbered k (those_before limit (from run_file (eqb at 0) s at).records) ≡ new ++ numbered t.k (those_before limit (left_of s t))
  pub further : 0 < t.more → (at < t.at) × (t.at ≤ length s) × (t.k ≤ t.at)

-- the records met so far, and that the others are those left
pub record Walked (s : List ℕ) (limit : ℕ) (labels : List ℕ) (y : List ℤ) (t : Step) : Type 0 where
  pub done : List Labelled
  pub marked : Marked done labels y
  pub counted : t.k ≡ suc (length done)
  pub all : passed_over s limit ≡ done ++ numbered t.k (those_before limit (left_of s t))
  pub room : 0 < t.more → (t.at ≤ length s) × (t.k ≤ most t.at)

-- what the walk comes to
pub record Numbered (s : List ℕ) (limit : ℕ) (labels : List ℕ) (y : List ℤ) (k : ℕ) : Type 0 where
  pub marked : Marked (passed_over s limit) labels y
  pub counted : k ≡ suc (length (passed_over s limit))

-- the record at a place was told before: where, whatever the arrays picture
pub record FirstTold (s : List ℕ) (place : ℕ) (labels : List ℕ) (d : Detail) : Type 0 where
  pub is : (xs : List Labelled) (y : List ℤ) → Marked xs labels y → d ≡ first_told xs (standing_at run_file false s place)

-- ---- what stands first in a run file opens it, and is longer than one byte
first_sizes : (strokes : ℕ) → List ℕ → Sizes
first_sizes strokes s = let b = take 2 (drop 1 s) in record { m = get_or b 0 0; n = get_or b 1 0; strokes = strokes }

pub first_opens : (s : List ℕ) {r : Record} {end : ℕ} → standing_at run_file true s 0 ≡ stands r end → ((z : Sizes) × (r ≡ opening z)) × (1 < end)
unfolding kind_of first_sizes
first_opens s {r} {end} = go (leb (length s) 0) (eqb (get_or s 0 0) 1) (eqb (get_or s 0 0) 5)
  where
    sized : (strokes : ℕ) (d : Bool) → cond d ends (stands (opening (first_sizes strokes s)) 3) ≡ stands r end → ((z : Sizes) × (r ≡ opening z)) × (1 < end)
    sized strokes true q = let z : ◌≡◌ {A = ℕ} 0 1 = cc in absurd (omega arith)
    sized strokes false q = let e : 3 ≡ end = cc in let f : r ≡ opening (first_sizes strokes s) = cc in ((first_sizes strokes s, f), omega (arith, e))

    go : (b c d : Bool) → cond b ends (standing_of (cond c (some opening_kind) (cond d (some single_kind) none)) s 0) ≡ stands r end → ((z : Sizes) × (r ≡ opening z)) × (1 < end)
    go true c d q = let z : ◌≡◌ {A = ℕ} 0 1 = cc in absurd (omega arith)
    go false true d q = sized 2 (ltb (length s - 0) 3) q
    go false false true q = sized 1 (ltb (length s - 0) 3) q
    go false false false q = let z : ◌≡◌ {A = ℕ} 0 1 = cc in absurd (omega arith)

-- ---- one step
-- the number one higher fits where a byte stands at the place
module _ (k at len highest : ℕ) (low : k ≤ most at) (fits : len ≤ highest) (two : 2 ≤ highest) where
  pub room_more : at < len → k + 1 ≤ highest
  room_more l = go (eqb at 0) low
    where
      go : (b : Bool) → k ≤ cond b 1 at → k + 1 ≤ highest
      go true h = omega arith
      go false h = omega arith

  pub room_behind : k ≤ highest → k + cond (ltb at len) 1 0 ≤ highest
  room_behind own = go (ltb at len) refl
    where
      go : (b : Bool) → ltb at len ≡ b → k + cond b 1 0 ≤ highest
      go true e = room_more (ltb-true at len e)
      go false e = omega arith

-- a kind that may not stand there is a byte
pub strange_within : (first : Bool) (s : List ℕ) (at : ℕ) → standing_at run_file first s at ≡ strange → at < length s
strange_within first s at = go (leb (length s) at) refl
  where
    go : (b : Bool) → leb (length s) at ≡ b → cond b ends (standing_of (kind_of first run_file (get_or s at 0)) s at) ≡ strange → at < length s
    go true e q = let z : ◌≡◌ {A = ℕ} 0 1 = cc in absurd (omega arith)
    go false e q = leb-false (length s) at e

module _ (s : List ℕ) (k at : ℕ) where
  from_is : (st : Standing) → standing_at run_file (eqb at 0) s at ≡ st → from run_file (eqb at 0) s at ≡ met run_file s at st
  from_is st e = met_at run_file (eqb at 0) s at ∙ ap (met run_file s at) e

  -- the record met at the place, in front of others
  first_numbered : (limit : ℕ) → at < limit → (r : Record) (xs : List Labelled) → numbered k (those_before limit (at_label at r ∷ xs)) ≡ at_label k r ∷ numbered (k + 1) (those_before limit xs)
  unfolding those_before numbered
  first_numbered limit h r xs = rw (lt-ltb at limit h, add-one)

  none_left : (limit j : ℕ) → numbered j (those_before limit []) ≡ []
  unfolding those_before numbered
  none_left limit j = refl

  -- one record is met, and nothing is left
  stopped : {labels : List ℕ} {y : List ℤ} {labels' : List ℕ} {y' : List ℤ} (r : Record) (t : Step) → (from run_file (eqb at 0) s at).records ≡ at_label at r ∷ [] → Marking r k labels y labels' y' → t.more ≡ 0 → t.k ≡ k + 1
      → Passed s k at labels y labels' y' t
  stopped r t q m over one = record {
    new = at_label k r ∷ [];
    marked = λ xs pic. m.is xs pic;
    counted = one;
    goes_on = λ limit h.
        ap (λ (l : List Labelled). numbered k (those_before limit l)) q
        ∙ first_numbered limit h r []
        ∙ ap (λ (l : List Labelled). at_label k r ∷ l) (none_left limit (k + 1) ∙ sym (rw over (none_left limit t.k)));
    further = λ w. absurd (omega (arith, over));
  }

  module _ {labels : List ℕ} {y : List ℤ} {labels' : List ℕ} {y' : List ℤ} (r : Record) (end : ℕ) (st : standing_at run_file (eqb at 0) s at ≡ stands r end) (m : Marking r k labels y labels' y') where
    -- the close
    pub passed_close : closes r ≡ true → Passed s k at labels y labels' y' (record { more = 0; k = k + 1; at = end })
    passed_close c = stopped r _ (ap (λ (t : Recorded). t.records) (from_is (stands r end) st) ∙ rw c) m refl refl

    -- another record
    pub passed_record : k ≤ most at → closes r ≡ false → Passed s k at labels y labels' y' (record { more = 1; k = k + 1; at = end })
    passed_record room c = record {
      new = at_label k r ∷ [];
      marked = λ xs pic. m.is xs pic;
      counted = refl;
      goes_on = λ limit h.
          ap (λ (l : List Labelled). numbered k (those_before limit l)) (ap (λ (t : Recorded). t.records) (from_is (stands r end) st) ∙ rw c)
          ∙ first_numbered limit h r (from run_file false s end).records
          ∙ ap (λ (b : Bool). at_label k r ∷ numbered (k + 1) (those_before limit (from run_file b s end).records)) (sym later);
      further = λ w. (within.0, within.1, higher (eqb at 0) refl room st);
    }
      where
        within : (at < end) × (end ≤ length s)
        within = stands_within run_file (eqb at 0) s at st

        later : eqb end 0 ≡ false
        later = ne_eqb end 0 (λ e. omega (arith, within.0))

        higher : (b : Bool) → eqb at 0 ≡ b → k ≤ cond b 1 at → standing_at run_file b s at ≡ stands r end → k + 1 ≤ end
        higher true e h q =
            let z = eqb-true at 0 e in
            omega (arith, h, (first_opens s (subst (λ (i : ℕ). standing_at run_file true s i ≡ stands r end) z q)).1)
        higher false e h q = omega (arith, h, within.0)

  module _ {labels : List ℕ} {y : List ℤ} (Some-number : 0 < k) where
    -- a kind that may not stand there
    pub passed_strange : standing_at run_file (eqb at 0) s at ≡ strange → Passed s k at labels y labels y (record { more = 0; k = k + 1; at = at })
    passed_strange q = stopped unknown _ (ap (λ (t : Recorded). t.records) (from_is strange q)) (marking_none Some-number unknown (λ p. refl)) refl refl

    -- nothing, or the beginning of a record
    pub passed_ends : standing_at run_file (eqb at 0) s at ≡ ends → Passed s k at labels y labels y (record { more = 0; k = k + cond (ltb at (length s)) 1 0; at = at })
    passed_ends q = go (ltb at (length s)) refl
      where
        go : (b : Bool) → ltb at (length s) ≡ b → Passed s k at labels y labels y (record { more = 0; k = k + cond b 1 0; at = at })
        go true e =
            let short = lt-leb (length s) at (ltb-true at (length s) e) in
            stopped cut _ (ap (λ (t : Recorded). t.records) (from_is ends q) ∙ rw short) (marking_none Some-number cut (λ p. refl)) refl refl
        go false e =
            let short = le-leb (length s) at (ltb-false at (length s) e) in
            record {
              new = [];
              marked = λ xs pic. subst (λ (l : List Labelled). Marked l labels y) (sym (append-nil xs)) pic;
              counted = refl;
              goes_on = λ limit h.
                  ap (λ (l : List Labelled). numbered k (those_before limit l)) (ap (λ (t : Recorded). t.records) (from_is ends q) ∙ rw short)
                  ∙ none_left limit k
                  ∙ sym (none_left limit (k + 0));
              further = λ w. absurd (omega arith);
            }

-- ---- what is met at a place stands there: before no limit that is not above it
module _ (s : List ℕ) (limit at : ℕ) (h : limit ≤ at) where
  none_met : (st : Standing) → those_before limit (met run_file s at st).records ≡ []
  unfolding those_before
  none_met (stands r end) = go (closes r)
    where
      go : (b : Bool) → those_before limit (cond b (alone (at_label at r) end) (in_front (at_label at r) (from run_file false s end))).records ≡ []
      go true = rw (le-ltb at limit h)
      go false = rw (le-ltb at limit h)
  none_met ends = go (leb (length s) at)
    where
      go : (b : Bool) → those_before limit (cond b (record { records = []; end = at }) (alone (at_label at cut) at)).records ≡ []
      go true = refl
      go false = rw (le-ltb at limit h)
  none_met strange = rw (le-ltb at limit h)

  none_from : (first : Bool) → those_before limit (from run_file first s at).records ≡ []
  none_from first = ap (λ (c : Recorded). those_before limit c.records) (met_at run_file first s at) ∙ none_met (standing_at run_file first s at)

nothing_before : (s : List ℕ) (limit : ℕ) (t : Step) → (0 < t.more → t.at < limit → ⊥) → those_before limit (left_of s t) ≡ []
unfolding those_before
nothing_before s limit t over = go (eqb t.more 0) refl
  where
    beyond : 0 < t.more → (b : Bool) → ltb t.at limit ≡ b → limit ≤ t.at
    beyond m true e = absurd (over m (ltb-true t.at limit e))
    beyond m false e = ltb-false t.at limit e

    go : (b : Bool) → eqb t.more 0 ≡ b → those_before limit (cond b [] (from run_file (eqb t.at 0) s t.at).records) ≡ []
    go true e = refl
    go false e = let n = eqb-false t.more 0 e in none_from s limit t.at (beyond (omega (arith, n)) (ltb t.at limit) refl) (eqb t.at 0)

-- ---- the walk
-- at its start
pub walk_begins : (s : List ℕ) (limit : ℕ) {labels : List ℕ} {y : List ℤ} → Marked [] labels y → Walked s limit labels y (record { more = 1; k = 1; at = 0 })
walk_begins s limit pic = record {
  done = [];
  marked = pic;
  counted = refl;
  all = refl;
  room = λ w. (omega arith, omega arith);
}

-- the way comes to an end
abbrev pub way_left : List ℕ → Step → ℕ
way_left s t = cond (eqb t.more 0) 0 (suc (length s) - t.at)

module _ {s : List ℕ} {limit : ℕ} {labels : List ℕ} {y : List ℤ} {t : Step} (w : Walked s limit labels y t) where
  -- the number of the next record
  pub number_some : 0 < t.k
  number_some = omega (arith, w.counted)

  module _ {labels' : List ℕ} {y' : List ℤ} {u : Step} (more : 0 < t.more) (near : t.at < limit) (p : Passed s t.k t.at labels y labels' y' u) where
    left_is : (v : Step) → 0 < v.more → left_of s v ≡ (from run_file (eqb v.at 0) s v.at).records
    left_is v h = rw (ne_eqb v.more 0 (λ e. omega arith))

    pub walk_on : Walked s limit labels' y' u
    walk_on = record {
      done = w.done ++ p.new;
      marked = p.marked w.done w.marked;
      counted = p.counted ∙ omega (arith, w.counted, length-append w.done p.new);
      all = w.all
          ∙ ap (λ (l : List Labelled). w.done ++ numbered t.k (those_before limit l)) (left_is t more)
          ∙ ap (λ (l : List Labelled). w.done ++ l) (p.goes_on limit near)
          ∙ sym (append_assoc w.done p.new (numbered u.k (those_before limit (left_of s u))));
      room = λ h. let f = p.further h in (f.1, rw (ne_eqb u.at 0 (λ e. omega (arith, f.0))) f.2);
    }

    pub walk_less : way_left s u < way_left s t
    walk_less = rw (ne_eqb t.more 0 (λ e. omega arith)) (go (eqb u.more 0) refl)
      where
        go : (b : Bool) → eqb u.more 0 ≡ b → cond b 0 (suc (length s) - u.at) < suc (length s) - t.at
        go true e = omega (arith, (w.room more).0)
        go false e =
            let n = eqb-false u.more 0 e in
            let f = p.further (omega (arith, n)) in
            omega (arith, f.0, f.1)

  -- at its end: no record is left that stands before the limit
  pub walk_ends : (0 < t.more → t.at < limit → ⊥) → Numbered s limit labels y t.k
  unfolding numbered
  walk_ends over = record {
    marked = subst (λ (l : List Labelled). Marked l labels y) (sym whole) w.marked;
    counted = w.counted ∙ ap (λ (l : List Labelled). suc (length l)) (sym whole);
  }
    where
      whole : passed_over s limit ≡ w.done
      whole = w.all ∙ ap (λ (l : List Labelled). w.done ++ numbered t.k l) (nothing_before s limit t over) ∙ append-nil w.done

-- ---- the record that told it first, by what stands at the place
module _ {s : List ℕ} {place : ℕ} {labels : List ℕ} (st : Standing) (q : standing_at run_file false s place ≡ st) where
  pub told_none : ((xs : List Labelled) → Nothing ≡ first_told xs st) → FirstTold s place labels Nothing
  told_none h = record { is = λ xs y pic. h xs ∙ ap (first_told xs) (sym q) }

pub told_entry : {s : List ℕ} {place : ℕ} {labels : List ℕ} {e : Entry} {end l : ℕ} → standing_at run_file false s place ≡ stands (entry e) end → LabelOf (entry e) labels l
    → FirstTold s place labels (Earlier l)
told_entry {e = e} q m = record { is = λ xs y pic. ap Earlier (m.is xs y e pic refl) ∙ ap (first_told xs) (sym q) }
