-- Which records the lines mean that tell a refused run file (README.md): the numbers told are those of these records, counted from 1. The statements.
use Rattle.std.specs.Prelude.{◌≡◌, not, ◌⊎◌, List, [], ◌∷◌, ◌++◌, ℕ, suc, ◌<◌, ◌≤◌, T, ℤ, pos, ◌-ℤ◌, length, get_or}
use Rattle.std.proofs.Math.Option.{some}
use Rattle.std.specs.Int.Signed.{le_z}
use Rattle.run.specs.Places.{Place, input_at, reading_at, places}
use Rattle.records.specs.Record.{Entry, Record, opening, entry, close, unknown, cut, surplus, Labelled, its, sizes_of, entries_of}
use Rattle.format.specs.Format.{up_to_close}
use Rattle.record.specs.Kinds.{run_file}
use Rattle.plain.specs.Digits.{decimal}
use Rattle.sentences.specs.Sentences.{not_name}
use Rattle.detail.specs.Detail.{label_at, lacking}
use Rattle.detail.specs.Unfilled.{Gap}
use Rattle.detail.specs.declared.Detail.TheVariants.{Earlier, Apart}
use Rattle.place_text.specs.Place.{passed_over, all_numbered, there_name, cut_name, short_name, kind_name, behind_name, the_name, close_name, place_words, record_words, words_at, record_line, told_of, detail_of}
use Rattle.place_text.specs.Told.{Means}

-- record k of a file, counted from 1, is x
pub record Stands (s : List ℕ) (k : ℕ) (x : Labelled) : Type 0 where
  pub front : List Labelled
  pub back : List Labelled
  pub all : (up_to_close run_file s).records ≡ front ++ (x ∷ back)
  pub counted : suc (length front) ≡ k

-- how many there are
abbrev pub how_many : List ℕ → ℕ
how_many s = length (up_to_close run_file s).records

-- ---- 1 to 8, told of an offset
-- the number told is one more than how many records stand before it
abbrev pub number_told : List ℕ → (offset : ℕ) → ℕ
number_told s p = suc (length (passed_over s p))

-- what is told of a record of which the first byte is b: what it is; or that it is not all there; or which kind may not stand there
abbrev pub met_words : (b : ℕ) → Record → List (List ℕ)
met_words b (opening z) = record_words (opening z)
met_words b (entry e) = record_words (entry e)
met_words b close = record_words close
met_words b unknown = kind_name ∷ decimal b ∷ []
met_words b cut = cut_name ∷ short_name ∷ []
met_words b surplus = []

-- a record begins at the offset and has that number, and what is told is told of it
pub record Begins (s : List ℕ) (p : ℕ) : Type 0 where
  pub it : Labelled
  pub begins : it.label ≡ p
  pub stands : Stands s (number_told s p) it
  pub words : words_at s p ≡ met_words (get_or s p 0) it.it

-- no record begins at the offset or behind it, and the file ends there: only under 1, and that is told
pub record Beyond (s : List ℕ) (k p : ℕ) : Type 0 where
  pub one : k ≡ 1
  pub before : (j : ℕ) (x : Labelled) → Stands s j x → x.label < p
  pub counted : number_told s p ≡ suc (how_many s)
  pub ends : p ≡ length s
  pub words : words_at s p ≡ not_name ∷ there_name ∷ []

pub record OfOffset (s : List ℕ) (k p : ℕ) : Type 0 where
  pub told : told_of s k p ≡ record_line (number_told s p) (words_at s p)
  pub meant : Begins s p ⊎ Beyond s k p

-- 8: the number told is one more than that of the last record, which closes; and all records stand before the offset
pub record OfSurplus (s : List ℕ) (p : ℕ) : Type 0 where
  pub told : told_of s 8 p ≡ record_line (number_told s p) (behind_name ∷ the_name ∷ close_name ∷ [])
  pub counted : number_told s p ≡ suc (how_many s)
  pub before : (j : ℕ) (x : Labelled) → Stands s j x → x.label < p
  pub last : Labelled
  pub stands : Stands s (how_many s) last
  pub closes : last.it ≡ close

-- ---- 9 and 10, told of a point
-- the number told is that of a record that gives the input of the point
abbrev pub input_told : List ℕ → (point : ℕ) → ℕ
input_told s p = label_at (input_at p) (all_numbered s)

pub record OfInput (s : List ℕ) (k p : ℕ) : Type 0 where
  pub told : told_of s k p ≡ record_line (input_told s p) (place_words (input_at p))
  pub it : Labelled
  pub what : Entry
  pub stands : Stands s (input_told s p) it
  pub entry_is : it.it ≡ entry what
  pub place_is : what.place ≡ input_at p

-- ---- what more is told
-- 6: the record told is an earlier one at the place of the one that is refused, and none before it is there
pub record ToldFirst (s : List ℕ) (p : ℕ) : Type 0 where
  pub first : ℕ
  pub told : detail_of s 6 p ≡ Earlier first
  pub it : Labelled
  pub what : Entry
  pub begins : it.label ≡ p
  pub stands : Stands s (number_told s p) it
  pub entry_is : it.it ≡ entry what
  pub earlier : Labelled
  pub earlier_what : Entry
  pub earlier_stands : Stands s first earlier
  pub earlier_entry : earlier.it ≡ entry earlier_what
  pub same_place : earlier_what.place ≡ what.place
  pub lower : first < number_told s p
  pub none_before : (j : ℕ) (x : Labelled) (e : Entry) → j < first → Stands s j x → x.it ≡ entry e → ¬ (e.place ≡ what.place)

-- 7: the place told is one of the run that no record gives, and each one before it in travel order some record gives
pub record FirstMissing (s : List ℕ) (p : ℕ) : Type 0 where
  pub place : Place
  pub told : detail_of s 7 p ≡ lacking (some place)
  pub gap : let rs = its (up_to_close run_file s) in Gap (places (sizes_of rs)) (entries_of rs) place

-- 10: the two records told give readings of one stroke at the point in two cycles, the first more than 10,000 above the second
pub record TwoApart (s : List ℕ) (p : ℕ) : Type 0 where
  pub high : ℕ
  pub low : ℕ
  pub told : detail_of s 10 p ≡ Apart high low
  pub stroke : ℕ
  pub higher : ℕ
  pub lower : ℕ
  pub two : ¬ (higher ≡ lower)
  pub upper : Labelled
  pub under : Labelled
  pub u : ℤ
  pub v : ℤ
  pub high_stands : Stands s high upper
  pub low_stands : Stands s low under
  pub high_is : upper.it ≡ entry (record { place = reading_at stroke higher p; number = u })
  pub low_is : under.it ≡ entry (record { place = reading_at stroke lower p; number = v })
  pub apart : T (not (le_z (u -ℤ v) (pos 10000)))

-- ---- all of it, of a file that is refused with this number, told of this place
pub record Meant : Type 0 where
  pub of_1_to_7 : (s : List ℕ) (k p : ℕ) → 1 ≤ k → k ≤ 7 → Means s k p → OfOffset s k p
  pub of_8 : (s : List ℕ) (p : ℕ) → Means s 8 p → OfSurplus s p
  pub of_9_and_10 : (s : List ℕ) (k p : ℕ) → 9 ≤ k → Means s k p → OfInput s k p
  pub more_of_6 : (s : List ℕ) (p : ℕ) → Means s 6 p → ToldFirst s p
  pub more_of_7 : (s : List ℕ) (p : ℕ) → Means s 7 p → FirstMissing s p
  pub more_of_10 : (s : List ℕ) (p : ℕ) → Means s 10 p → TwoApart s p
