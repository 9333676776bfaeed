-- What is printed of a file depends on no more than its first 1,837 bytes: the record that is told of begins 8 bytes before their end at the latest, and all that is told stands before it or in it.
use Rattle.std.specs.Prelude.{◌≡◌, refl, Bool, true, false, cond, ◌⊎◌, List, [], ◌∷◌, ◌++◌, ℕ, suc, ◌+◌, ◌<◌, ◌≤◌, T, eqb, leb, length, get_or, take, drop}
use Rattle.std.proofs.Common.{sym, ap, ap₂, ◌∙◌, subst, inl, inr, arith, ne_eqb, eqb-true, leb-false, take-append-drop, take_all, length-take-le}
use Rattle.std.proofs.Math.Decide.{ℕ_discrete, dec_lt}
use Rattle.std.proofs.lemmas.Bool.{eqb-false, lt-leb}
use Rattle.std.proofs.Math.ListN.{get_or-append}
use Rattle.std.proofs.Math.Facts.{and_yes, yes_and}
use Rattle.whole.specs.Flags.{T-yes}
use Rattle.table.specs.Table.{given_at, First}
use Rattle.run.specs.Places.{input_at}
use Rattle.records.specs.Record.{Record, Labelled, Recorded, unlabelled, its, closes, closed}
use Rattle.records.specs.Meaning.{faults, run_of, last_rows}
use Rattle.records.specs.Sound.{clear, clean}
use Rattle.records.specs.FirstFault.{FaultAt, in_words}
use Rattle.format.specs.Format.{up_to_close}
use Rattle.format.specs.Found.{standing_at}
use Rattle.record.specs.Kinds.{run_file}
use Rattle.runfile.specs.FirstPart.{first_part, begins_early, standing_kept, kept}
use Rattle.reader.specs.Meaning.{as_answer, meaning}
use Rattle.reader.specs.declared.Answer.{Answer}
use Rattle.plain.specs.Plain.{refused_line}
use Rattle.sentences.specs.Sentences.{record_name, detail_line}
use Rattle.detail.specs.Detail.{label_at, apart_at}
use Rattle.detail.specs.Unfilled.{seven_lacks}
use Rattle.detail.specs.declared.Detail.{Detail}
use Rattle.place_text.specs.Place.{those_before, numbered, passed_over, behind_name, the_name, close_name, place_words, words_at, record_line, told_of, first_told, lacks, detail_of, place_lines, place_of}
use Rattle.place_text.specs.Along.{its_within, before_it, last_closes, close_last}
use Rattle.place_text.specs.Told.{Means, told_there, eight_behind, point_there}
use Rattle.place_text.specs.Meant.{met_words, Begins, Beyond}
use Rattle.place_text.specs.Offset.{its_words}
use Rattle.place_text.specs.MeantLaws.{told_last, of_1_to_7_holds}

-- the first of records without fault have none
clean_front : (before : List Record) (xs ys : List Labelled) → T (clean before (unlabelled (xs ++ ys))) → T (clean before (unlabelled xs))
unfolding clean
clean_front before [] ys t = tt
clean_front before (x ∷ xs) ys t =
    let k = and_yes (clear (faults before x.it)) (clean (x.it ∷ before) (unlabelled (xs ++ ys))) t in
    yes_and (clear (faults before x.it)) (clean (x.it ∷ before) (unlabelled xs)) k.0 (clean_front (x.it ∷ before) xs ys k.1)

-- a choice between alike things
either_way : {A : Type 0} (b : Bool) {w x y z : A} → (b ≡ true → w ≡ y) → (b ≡ false → x ≡ z) → cond b w x ≡ cond b y z
either_way true f g = f refl
either_way false f g = g refl

-- a file of more bytes than that, and its first part
module _ (s q rest : List ℕ) (whole : q ++ rest ≡ s) (long : length q ≡ 1837) (more : 1837 < length s) where
  -- the same is told of both
  abbrev Same : (number place : ℕ) → Type 0
  Same n p = (told_of q n p ≡ told_of s n p) × (detail_of q n p ≡ detail_of s n p)

  -- a record behind records without fault begins early: it stands in the first part too, behind the same records
  record Early (front : List Labelled) (x : Labelled) (back : List Labelled) : Type 0 where
    label_low : x.label + 8 ≤ 1837
    others : List Labelled
    there : (up_to_close run_file q).records ≡ front ++ (x ∷ others)

  early : (front : List Labelled) (x : Labelled) (back : List Labelled) → (up_to_close run_file s).records ≡ front ++ (x ∷ back) → T (clean [] (unlabelled front)) → Early front x back
  early front x back e c =
      let low = begins_early s front x back e c in
      let k = kept q rest front x back (ap (λ (l : List ℕ). (up_to_close run_file l).records) whole ∙ e) (omega (arith, low, long)) in
      record { label_low = low; others = k.0; there = k.1 }

  -- where it closes, all records are the same
  all_same : (front : List Labelled) (x : Labelled) (back : List Labelled) → (up_to_close run_file s).records ≡ front ++ (x ∷ back) → T (clean [] (unlabelled front)) → closes x.it ≡ true
      → (up_to_close run_file q).records ≡ (up_to_close run_file s).records
  all_same front x back e c o =
      let k = early front x back e c in
      let none = last_closes q front x k.others k.there o ∙ sym (last_closes s front x back e o) in
      k.there ∙ ap (λ (l : List Labelled). front ++ (x ∷ l)) none ∙ sym e

  -- ---- 1 to 7
  module _ (front : List Labelled) (x : Labelled) (back : List Labelled) (e : (up_to_close run_file s).records ≡ front ++ (x ∷ back)) (c : T (clean [] (unlabelled front))) where
    k : Early front x back
    k = early front x back e c

    passed_same : passed_over q x.label ≡ passed_over s x.label
    passed_same = ap (numbered 1) (before_it q front x k.others k.there ∙ sym (before_it s front x back e))

    standing_same : (b : Bool) → standing_at run_file b q x.label ≡ standing_at run_file b s x.label
    standing_same b = sym (standing_kept q rest b x.label (omega (arith, long, k.label_low))) ∙ ap (λ (l : List ℕ). standing_at run_file b l x.label) whole

    words_same : words_at q x.label ≡ words_at s x.label
    words_same =
        its_words q front x k.others k.there
        ∙ ap (λ (b : ℕ). met_words b x.it) (sym (get_or-append q rest 0 x.label (omega (arith, long, k.label_low))) ∙ ap (λ (l : List ℕ). get_or l x.label 0) whole)
        ∙ sym (its_words s front x back e)

    told_same : (n : ℕ) → n ≤ 7 → told_of q n x.label ≡ told_of s n x.label
    told_same n h = rw (lt-leb 9 n (omega arith), ne_eqb n 8 (λ z. omega arith)) (ap₂ (λ (xs : List Labelled) (ws : List (List ℕ)). record_line (suc (length xs)) ws) passed_same words_same)

    detail_same : (n : ℕ) → n ≤ 7 → (n ≡ 7 → closes x.it ≡ true) → detail_of q n x.label ≡ detail_of s n x.label
    detail_same n h shut =
        either_way (eqb n 6) (λ a. ap₂ first_told passed_same (standing_same false))
        (λ a.
        either_way (eqb n 7) (λ b. ap (λ (xs : List Labelled). lacks (record { records = xs; end = 0 })) (all_same front x back e c (shut (eqb-true n 7 b))))
        (λ b. either_way (eqb n 10) (λ d. absurd (omega (arith, eqb-true n 10 d))) (λ d. refl)))

    at_offset : (n : ℕ) → n ≤ 7 → (n ≡ 7 → closes x.it ≡ true) → (p : ℕ) → p ≡ x.label → Same n p
    at_offset n h shut p l = subst (Same n) (sym l) (told_same n h, detail_same n h shut)

  -- ---- 8 to 10
  -- what is told goes by the records alone
  by_records : (n p : ℕ) → 8 ≤ n → (up_to_close run_file q).records ≡ (up_to_close run_file s).records → Same n p
  by_records n p h e = (
    either_way (leb 9 n) (λ a. ap (λ (xs : List Labelled). record_line (label_at (input_at p) (numbered 1 xs)) (place_words (input_at p))) e)
        (λ a.
        either_way (eqb n 8) (λ b. ap (λ (xs : List Labelled). record_line (suc (length (numbered 1 (those_before p xs)))) (behind_name ∷ the_name ∷ close_name ∷ [])) e)
        (λ b. let d = eqb-false n 8 b in absurd (omega (arith, d, leb-false 9 n a)))),
    either_way (eqb n 6) (λ a. absurd (omega (arith, eqb-true n 6 a)))
        (λ a.
        either_way (eqb n 7) (λ b. absurd (omega (arith, eqb-true n 7 b)))
        (λ b. either_way (eqb n 10) (λ d. ap (λ (xs : List Labelled). apart_at (run_of (unlabelled xs)) (numbered 1 xs) p) e) (λ d. refl))),
  )

  -- ---- by the number
  module _ (n p : ℕ) (m : Means s n p) (m' : Means q n p) where
    -- 1 at the end of the file is not told: it would be told of another place
    not_at_end : 1 ≤ n → n ≤ 7 → p ≡ length s → ⊥
    not_at_end l h e = go (of_1_to_7_holds q n p l h m').meant
      where
        go : Begins q p ⊎ Beyond q n p → ⊥
        go (inl b) = let t = b.stands in omega (arith, e, long, more, b.begins, its_within q t.front b.it t.back t.all)
        go (inr b) = omega (arith, e, long, more, b.ends)

    low : 1 ≤ n → n ≤ 7 → Same n p
    low l h = go (ℕ_discrete n 7)
      where
        t : Recorded
        t = up_to_close run_file s

        by_fault : (n ≡ 7 → ⊥) → FaultAt [] t.records n p ⊎ (T (clean [] (its t)) × First (last_rows t) (given_at n p)) → Same n p
        by_fault d (inl f) = at_offset f.before f.it f.after f.stands f.clean_before n h (λ z. absurd (d z)) p f.label_is
        by_fault d (inr g) = absurd (not_at_end l h (told_last s n p l h g.0 g.1).ends)

        go : Dec (n ≡ 7) → Same n p
        go (yes e) =
            let u = seven_lacks t p (told_there s 7 p (record { number_is = sym e ∙ m.number_is; place_is = m.place_is }) (λ z. omega arith)) in
            at_offset u.before u.it u.after u.stands u.clean_before n h (λ z. ap closes u.closes_is) p u.label_is
        go (no d) = by_fault d ((in_words t n p).0 (told_there s n p m (λ z. omega arith)))

    high : 8 ≤ n → Same n p
    high h =
        let u = closing (dec_lt n 9) in
        let l = close_last s (T-yes u.1) in
        by_records n p h (all_same l.front l.it [] l.all (clean_front [] l.front (l.it ∷ []) (subst (λ (xs : List Labelled). T (clean [] (unlabelled xs))) l.all u.0)) (ap closes l.closes_is))
      where
        closing : Dec (n < 9) → let rs = its (up_to_close run_file s) in T (clean [] rs) × T (closed rs)
        closing (yes z) = let u = eight_behind s p (record { number_is = omega (arith, m.number_is); place_is = m.place_is }) in (u.0, u.1)
        closing (no z) = let u = point_there m (omega arith) in (u.0, u.1)

    same_lines : place_lines q n p ≡ place_lines s n p
    same_lines = either_way (eqb n 0) (λ z. refl) (λ z. let k = go (eqb-false n 0 z) (dec_lt n 8) in ap₂ (λ (a : List ℕ) (d : Detail). refused_line n p ++ (a ++ detail_line record_name d)) k.0 k.1)
      where
        go : (n ≡ 0 → ⊥) → Dec (n < 8) → Same n p
        go d (yes z) = low (omega (arith, d)) (omega arith)
        go d (no z) = high (omega arith)

pub place_first_part : (s : List ℕ) → place_of (take 1837 s) ≡ place_of s
place_first_part s = go (dec_lt 1837 (length s))
  where
    go : Dec (1837 < length s) → place_of (take 1837 s) ≡ place_of s
    go (yes h) =
        let same : meaning s ≡ meaning (take 1837 s) = ap as_answer (first_part s (omega arith)) in
        let number : (meaning s).number ≡ (meaning (take 1837 s)).number = ap (λ (a : Answer). a.number) same in
        let place : (meaning s).place ≡ (meaning (take 1837 s)).place = ap (λ (a : Answer). a.place) same in
        ap₂ (place_lines (take 1837 s)) (sym number) (sym place)
        ∙ same_lines s (take 1837 s) (drop 1837 s) (take-append-drop 1837 s) (length-take-le 1837 s (omega arith)) h (meaning s).number (meaning s).place
        (record { number_is = refl; place_is = refl }) (record { number_is = number; place_is = place })
    go (no h) = ap place_of (take_all 1837 s (omega arith))
