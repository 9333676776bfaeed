-- What more is told of a refused run file names the records meant: what `Meant` states of 6, 7 and 10 holds.
use Rattle.std.specs.Prelude.{◌≡◌, refl, Bool, true, false, not, ◌&&◌, List, [], ◌∷◌, ◌++◌, ℕ, suc, ◌<◌, T, ltb, ℤ, pos, ◌-ℤ◌, length}
use Rattle.std.proofs.Common.{sym, ap, ap₂, ◌∙◌, subst, append_assoc, arith, lt-ltb, lt→ltb, ltb→lt, length-append}
use Rattle.std.proofs.Math.IntN.{+ℤ_invr}
use Rattle.std.specs.Int.Signed.{le_z}
use Rattle.std.proofs.Math.Facts.{and_yes, yes_and}
use Rattle.limits.specs.Laws.{sizes_within}
use Rattle.run.specs.Run.{reading}
use Rattle.run.specs.Places.{Place, input_at, reading_at, within, places}
use Rattle.run.specs.declared.Run.{Run}
use Rattle.records.specs.Record.{Sizes, Entry, Record, entry, Labelled, its, sizes_of, entries_of, closed, number_at}
use Rattle.records.specs.Meaning.{fair, complete, run_of}
use Rattle.records.specs.Sound.{clean}
use Rattle.records.specs.Framed.{run_at}
use Rattle.format.specs.Format.{up_to_close}
use Rattle.format.specs.Found.{Standing, stands, ends, strange, standing_at}
use Rattle.format.specs.Met.{met_as}
use Rattle.format.specs.Behind.{first_behind, stands_there}
use Rattle.record.specs.Kinds.{run_file}
use Rattle.detail.specs.Detail.{label_at, largest, told_where, lacking, above, below, stroke_apart}
use Rattle.detail.specs.Again.{Again, six_again}
use Rattle.detail.specs.Apart.{LieApart, far_apart}
use Rattle.detail.specs.Unfilled.{seven_lacks, lacking_gap}
use Rattle.records.specs.ByNumber.{ten_scattered}
use Rattle.records.specs.Closed.{closed_there}
use Rattle.detail.specs.declared.Detail.TheVariants.{Earlier}
use Rattle.place_text.specs.Place.{numbered, passed_over, all_numbered, first_told, detail_of}
use Rattle.place_text.specs.Along.{before_it, length_numbered}
use Rattle.place_text.specs.FirstAt.{FirstAt, first_at, not_before}
use Rattle.place_text.specs.Told.{Means, told_there, entries_before}
use Rattle.place_text.specs.Meant.{Stands, number_told, ToldFirst, FirstMissing, TwoApart}
use Rattle.place_text.specs.Offset.{stands_at_offset}

-- ---- 6
-- a place of a run is one of the largest
among_largest : (z : Sizes) → T (fair z) → (p : Place) → T (within z p) → within largest p ≡ true
among_largest z f (input_at i) w = lt-ltb i 11 (omega (arith, ltb→lt i z.m w, (sizes_within z f).m_most))
among_largest z f (reading_at s c i) w =
    let most = sizes_within z f in
    let u = and_yes (ltb s z.strokes) (ltb c z.n && ltb i z.m) w in
    let v = and_yes (ltb c z.n) (ltb i z.m) u.1 in
    rw (
      lt-ltb s 2 (omega (arith, ltb→lt s z.strokes u.0, most.strokes_most)),
      lt-ltb c 10 (omega (arith, ltb→lt c z.n v.0, most.n_most)),
      lt-ltb i 11 (omega (arith, ltb→lt i z.m v.1, most.m_most)),
    )

-- what is met as an entry stands there
entry_stands : (st : Standing) (e : Entry) → entry e ≡ met_as st → (end : ℕ) × (st ≡ stands (entry e) end)
entry_stands (stands r end) e q = (end, ap (λ (t : Record). stands t end) (sym q))
entry_stands ends e q = let z : ◌≡◌ {A = ℕ} 0 1 = cc in absurd (omega arith)
entry_stands strange e q = let z : ◌≡◌ {A = ℕ} 0 1 = cc in absurd (omega arith)

module _ (s : List ℕ) (p : ℕ) (a : Again (up_to_close run_file s).records p) where
  abbrev at_place : Place
  at_place = a.what.place

  f : FirstAt at_place 1 a.before
  f = first_at at_place 1 a.before a.earlier

  -- the record refused is a later one
  later : (front : List Labelled) (x : Labelled) (back : List Labelled) → first_behind true (front ++ (x ∷ back)) ≡ false
  later [] x back = refl
  later (w ∷ front) x back = refl

  standing : (end : ℕ) × (standing_at run_file false s p ≡ stands (entry a.what) end)
  standing = entry_stands (standing_at run_file false s p) a.what
      (sym a.entry_is
      ∙ stands_there run_file s true 0 a.before a.it a.after a.stands
      ∙ ap₂ (λ (b : Bool) (k : ℕ). met_as (standing_at run_file b s k)) (ap (first_behind true) f.all ∙ later f.front f.it f.back) (sym a.label_is))

  passed_are : passed_over s p ≡ numbered 1 a.before
  passed_are = ap (λ (k : ℕ). passed_over s k) a.label_is ∙ ap (numbered 1) (before_it s a.before a.it a.after a.stands)

  told_6 : detail_of s 6 p ≡ Earlier (suc (length f.front))
  told_6 =
      ap (first_told (passed_over s p)) standing.1
      ∙ ap (λ (xs : List Labelled). Earlier (told_where at_place xs)) passed_are
      ∙ ap Earlier (rw (among_largest (sizes_of (its (up_to_close run_file s))) a.fair_sizes at_place a.inside_whole) (f.told ∙ omega arith))

  stood : (up_to_close run_file s).records ≡ f.front ++ (f.it ∷ (f.back ++ (a.it ∷ a.after)))
  stood = a.stands ∙ ap (λ (l : List Labelled). l ++ (a.it ∷ a.after)) f.all ∙ append_assoc f.front (f.it ∷ f.back) (a.it ∷ a.after)

  first_there : ToldFirst s p
  first_there = record {
    first = suc (length f.front);
    told = told_6;
    it = a.it;
    what = a.what;
    begins = sym a.label_is;
    stands = subst (λ (k : ℕ). Stands s (number_told s k) a.it) (sym a.label_is) (stands_at_offset s a.before a.it a.after a.stands);
    entry_is = a.entry_is;
    earlier = f.it;
    earlier_what = f.what;
    earlier_stands = record { front = f.front; back = f.back ++ (a.it ∷ a.after); all = stood; counted = refl };
    earlier_entry = f.entry_is;
    same_place = f.place_is;
    lower = omega (arith, ap (λ (l : List Labelled). length l) passed_are, length_numbered 1 a.before, ap (λ (l : List Labelled). length l) f.all, length-append f.front (f.it ∷ f.back));
    none_before = λ j x e h t q. not_before f (a.it ∷ a.after) t.front x t.back e (sym a.stands ∙ t.all) (omega (arith, t.counted, h)) q;
  }

pub more_of_6_holds : (s : List ℕ) (p : ℕ) → Means s 6 p → ToldFirst s p
more_of_6_holds s p m = first_there s p (six_again (up_to_close run_file s) p (told_there s 6 p m (λ e. omega arith)))

-- ---- 7
pub more_of_7_holds : (s : List ℕ) (p : ℕ) → Means s 7 p → FirstMissing s p
more_of_7_holds s p m =
    let rs = its (up_to_close run_file s) in
    let z = sizes_of rs in
    let told = told_there s 7 p m (λ e. omega arith) in
    let u = seven_lacks (up_to_close run_file s) p told in
    let g = lacking_gap (places z) (entries_of rs) (subst (λ (es : List Entry). T (not (complete z es))) (entries_before s p told) u.lacks) in
    record { place = g.0; told = ap lacking g.1; gap = g.2 }

-- ---- 10
module _ (s : List ℕ) (p : ℕ) where
  abbrev rs : List Record
  rs = its (up_to_close run_file s)

  abbrev r : Run
  r = run_of rs

  -- a reading of the run, and the record that gives it
  record Gives (t c : ℕ) : Type 0 where
    it : Labelled
    stands : Stands s (label_at (reading_at t c p) (all_numbered s)) it
    is : it.it ≡ entry (record { place = reading_at t c p; number = reading r t c p })

  module _ (c : T (clean [] rs)) (k : T (closed rs)) (h : p < r.m) where
    gives : (t d : ℕ) → t < r.strokes → d < r.n → Gives t d
    gives t d a b =
        let w : T (within (sizes_of rs) (reading_at t d p)) = yes_and (ltb t r.strokes) (ltb d r.n && ltb p r.m) (lt→ltb t r.strokes a) (yes_and (ltb d r.n) (ltb p r.m) (lt→ltb d r.n b) (lt→ltb p r.m h)) in
        let full = closed_there rs c k in
        let f = first_at (reading_at t d p) 1 (up_to_close run_file s).records (full.1 (reading_at t d p) w) in
        let number : f.what.number ≡ reading r t d p = f.number_is ∙ sym (run_at (sizes_of rs) (λ q. number_at q (entries_of rs)) full.0 (reading_at t d p) w) in
        record {
          it = f.it;
          stands = record { front = f.front; back = f.back; all = f.all; counted = omega (arith, f.told) };
          is = f.entry_is ∙ (λ i. entry (record { place = f.place_is i; number = number i }));
        }

    two_apart : LieApart r (stroke_apart r p) p → TwoApart s p
    two_apart a =
        let t = stroke_apart r p in
        let hi = gives t (above r t p) a.0 a.1 in
        let lo = gives t (below r t p) a.0 a.2 in
        record {
          high = label_at (reading_at t (above r t p) p) (all_numbered s);
          low = label_at (reading_at t (below r t p) p) (all_numbered s);
          told = refl;
          stroke = t;
          higher = above r t p;
          lower = below r t p;
          two = λ e. subst (λ (z : ℤ). T (not (le_z z (pos 10000)))) (ap (λ (d : ℕ). reading r t d p -ℤ reading r t (below r t p) p) e ∙ +ℤ_invr (reading r t (below r t p) p)) a.3;
          upper = hi.it;
          under = lo.it;
          u = reading r t (above r t p) p;
          v = reading r t (below r t p) p;
          high_stands = hi.stands;
          low_stands = lo.stands;
          high_is = hi.is;
          low_is = lo.is;
          apart = a.3;
        }

pub more_of_10_holds : (s : List ℕ) (p : ℕ) → Means s 10 p → TwoApart s p
more_of_10_holds s p m =
    let t = ten_scattered (up_to_close run_file s) p (told_there s 10 p m (λ e. omega arith)) in
    two_apart s p t.0 t.1 t.2 (far_apart (r s p) p t.3)
