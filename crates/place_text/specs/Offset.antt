-- A record of a run file: the number told of its offset is its own, and so is what is told of it.
use Rattle.std.specs.Prelude.{◌≡◌, refl, Bool, true, false, List, [], ◌∷◌, ◌++◌, ℕ, suc, eqb, length, get_or}
use Rattle.std.proofs.Common.{sym, ap, ◌∙◌, arith, ne_eqb, eq-eqb}
use Rattle.std.proofs.lemmas.Bool.{lt-leb}
use Rattle.whole.specs.Flags.{apart}
use Rattle.records.specs.Record.{Record, opening, entry, close, unknown, cut, surplus, Labelled}
use Rattle.format.specs.Format.{up_to_close}
use Rattle.format.specs.Found.{Standing, stands, ends, strange, standing_at, stands_within}
use Rattle.format.specs.Taken.{real}
use Rattle.format.specs.Room.{bytes_at}
use Rattle.format.specs.Met.{met_as, first_met}
use Rattle.format.specs.Behind.{first_behind, no_earlier, stands_there, next_behind}
use Rattle.record.specs.Kinds.{run_file}
use Rattle.runfile.specs.FirstPart.{decoded_real}
use Rattle.place_text.specs.Place.{those_before, record_words, standing_words, words_at}
use Rattle.place_text.specs.Along.{its_within, before_it, length_numbered}
use Rattle.place_text.specs.Meant.{Stands, met_words, number_told, Begins}

module _ (s : List ℕ) (front : List Labelled) (x : Labelled) (back : List Labelled) (e : (up_to_close run_file s).records ≡ front ++ (x ∷ back)) where
  -- the number told of its offset is its own
  number_is : suc (length front) ≡ number_told s x.label
  number_is = ap suc (sym (ap (λ (l : List Labelled). length l) (before_it s front x back e)) ∙ sym (length_numbered 1 (those_before x.label (up_to_close run_file s).records)))

  pub stands_at_offset : Stands s (number_told s x.label) x
  stands_at_offset = record { front = front; back = back; all = e; counted = number_is }

  -- the first one is at offset 0, and no other
  at_start : eqb x.label 0 ≡ first_behind true front
  at_start = go front e
    where
      go : (ys : List Labelled) → (up_to_close run_file s).records ≡ ys ++ (x ∷ back) → eqb x.label 0 ≡ first_behind true ys
      go [] q = eq-eqb x.label 0 (first_met run_file s true 0 x back q).label_is
      go (w ∷ ys) q =
          let n = next_behind run_file s true 0 w ys x back q in
          ne_eqb x.label 0 (λ z. omega (arith, z, (stands_within run_file true s 0 n.there).0, no_earlier run_file s false n.end ys x back n.others))

  -- it is what stands at its offset
  standing_is : x.it ≡ met_as (standing_at run_file (eqb x.label 0) s x.label)
  standing_is = stands_there run_file s true 0 front x back e ∙ ap (λ (b : Bool). met_as (standing_at run_file b s x.label)) (sym at_start)

  pub its_words : words_at s x.label ≡ met_words (get_or s x.label 0) x.it
  its_words = go (standing_at run_file (eqb x.label 0) s x.label) refl standing_is
    where
      whole : (r : Record) → real r ≡ true → record_words r ≡ met_words (get_or s x.label 0) r
      whole (opening z) w = refl
      whole (entry y) w = refl
      whole close w = refl
      whole unknown w = absurd (apart (sym w))
      whole cut w = absurd (apart (sym w))
      whole surplus w = refl

      go : (st : Standing) → standing_at run_file (eqb x.label 0) s x.label ≡ st → x.it ≡ met_as st → standing_words s x.label st ≡ met_words (get_or s x.label 0) x.it
      go (stands r end) w q = whole r (decoded_real (bytes_at run_file (eqb x.label 0) s x.label w).whole) ∙ ap (met_words (get_or s x.label 0)) (sym q)
      go ends w q = rw (lt-leb (length s) x.label (its_within s front x back e)) (ap (met_words (get_or s x.label 0)) (sym q))
      go strange w q = ap (met_words (get_or s x.label 0)) (sym q)

  pub begins_there : Begins s x.label
  begins_there = record { it = x; begins = refl; stands = stands_at_offset; words = its_words }
