-- The numbers told of a refused run file are those of the records meant: the statements of `Meant` hold.
use Rattle.std.specs.Prelude.{◌≡◌, refl, true, not, ◌⊎◌, List, [], ◌∷◌, ℕ, suc, ◌<◌, ◌≤◌, T, length}
use Rattle.std.proofs.Common.{sym, ap, ◌∙◌, subst, inl, inr, arith, le-leb, ne_eqb, lt→ltb, length-append}
use Rattle.std.proofs.lemmas.Bool.{lt-leb}
use Rattle.whole.specs.Flags.{T-yes}
use Rattle.table.specs.Table.{Given, given_at, First}
use Rattle.run.specs.Places.{input_at}
use Rattle.records.specs.Record.{Labelled, Recorded, its, sizes_of, closes, closed}
use Rattle.records.specs.Meaning.{last_rows}
use Rattle.records.specs.Sound.{clean}
use Rattle.records.specs.FirstFault.{FaultAt, in_words}
use Rattle.format.specs.Format.{up_to_close}
use Rattle.format.specs.Behind.{close_ends, ends_with_bytes}
use Rattle.record.specs.Kinds.{run_file}
use Rattle.records.specs.Closed.{closed_there}
use Rattle.place_text.specs.Place.{those_before}
use Rattle.place_text.specs.Along.{each_before, its_within, all_before, all_before_it, length_numbered, close_last}
use Rattle.place_text.specs.FirstAt.{first_at}
use Rattle.place_text.specs.Offset.{begins_there}
use Rattle.place_text.specs.MoreMeant.{more_of_6_holds, more_of_7_holds, more_of_10_holds}
use Rattle.place_text.specs.Told.{Means, told_there, eight_behind, point_there}
use Rattle.place_text.specs.Meant.{number_told, Begins, Beyond, OfOffset, OfSurplus, OfInput, Meant}

-- ---- 1 to 7
module _ (s : List ℕ) where
  abbrev low : Recorded
  low = up_to_close run_file s

  -- no record has a fault and none closes: the file ends there
  at_the_end : (k p : ℕ) → k ≡ 1 → p ≡ low.end → T (clean [] (its low)) → T (not (closed (its low))) → Beyond s k p
  at_the_end k p one q c o =
      let ends_is : p ≡ length s = q ∙ ends_with_bytes run_file s true 0 [] low.records (omega arith) refl c o in
      record {
        one = one;
        before = λ j x t. omega (arith, ends_is, its_within s t.front x t.back t.all);
        counted = ap (number_told s) ends_is ∙ ap suc (ap (λ (l : List Labelled). length l) (all_before s) ∙ length_numbered 1 low.records);
        ends = ends_is;
        words = rw (le-leb (length s) p (omega (arith, ends_is)), le-leb (length s) p (omega (arith, ends_is)));
      }

  pub told_last : (k p : ℕ) → 1 ≤ k → k ≤ 7 → T (clean [] (its low)) → First (last_rows low) (given_at k p) → Beyond s k p
  told_last k p l h c (inl g) = at_the_end k p g.0 g.1.0 c g.1.1
  told_last k p l h c (inr (n, inl g)) = let e = g.0 in absurd (omega arith)
  told_last k p l h c (inr (n, inr (n', inl g))) = let e = g.0 in absurd (omega arith)
  told_last k p l h c (inr (n, inr (n', inr g))) = let e = ap (λ (a : Given). a.number) g.1 in absurd (omega arith)

  pub of_1_to_7_holds : (k p : ℕ) → 1 ≤ k → k ≤ 7 → Means s k p → OfOffset s k p
  of_1_to_7_holds k p l h m = record {
    told = rw (lt-leb 9 k (omega arith), ne_eqb k 8 (λ e. omega arith));
    meant = go ((in_words low k p).0 (told_there s k p m (λ e. omega arith)));
  }
    where
      go : FaultAt [] low.records k p ⊎ (T (clean [] (its low)) × First (last_rows low) (given_at k p)) → Begins s p ⊎ Beyond s k p
      go (inl f) = inl (subst (Begins s) (sym f.label_is) (begins_there s f.before f.it f.after f.stands))
      go (inr g) = inr (told_last k p l h g.0 g.1)

-- ---- 8
pub of_8_holds : (s : List ℕ) (p : ℕ) → Means s 8 p → OfSurplus s p
of_8_holds s p m =
    let u = eight_behind s p m in
    let l = close_last s (T-yes u.1) in
    let behind : l.it.label < p = omega (arith, u.2, close_ends run_file s true 0 l.front l.it [] l.all (ap closes l.closes_is)) in
    let all : those_before p (low s).records ≡ (low s).records = all_before_it s l p behind in
    record {
      told = refl;
      counted = ap suc (length_numbered 1 (those_before p (low s).records) ∙ ap (λ (l : List Labelled). length l) all);
      before = λ j x t. each_before p t.front x t.back (ap (those_before p) (sym t.all) ∙ all ∙ t.all);
      last = l.it;
      stands = record { front = l.front; back = []; all = l.all; counted = omega (arith, ap (λ (l : List Labelled). length l) l.all, length-append l.front (l.it ∷ [])) };
      closes = l.closes_is;
    }

-- ---- 9 and 10
pub of_9_and_10_holds : (s : List ℕ) (k p : ℕ) → 9 ≤ k → Means s k p → OfInput s k p
of_9_and_10_holds s k p h m =
    let rs = its (up_to_close run_file s) in
    let u = point_there m h in
    let f = first_at (input_at p) 1 (up_to_close run_file s).records ((closed_there rs u.0 u.1).1 (input_at p) (lt→ltb p (sizes_of rs).m u.2)) in
    record {
      told = rw (le-leb 9 k h);
      it = f.it;
      what = f.what;
      stands = record { front = f.front; back = f.back; all = f.all; counted = omega (arith, f.told) };
      entry_is = f.entry_is;
      place_is = f.place_is;
    }

-- ---- all of it
pub meant : Meant
meant = record { of_1_to_7 = of_1_to_7_holds; of_8 = of_8_holds; of_9_and_10 = of_9_and_10_holds; more_of_6 = more_of_6_holds; more_of_7 = more_of_7_holds; more_of_10 = more_of_10_holds }
