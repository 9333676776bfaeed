-- Which record the place of a refused run file means, in words (README.md): the refusal as a sheet tells it, the number of the record, counted from 1, and what stands there; and what more is told. Definitions only.
use Rattle.std.specs.Prelude.{false, cond, List, [], ◌∷◌, ◌++◌, ℕ, suc, ltb, leb, eqb, length, get_or}
use Rattle.run.specs.Places.{Place, input_at, reading_at}
use Rattle.records.specs.Record.{Record, opening, entry, close, unknown, cut, surplus, Labelled, at_label, its}
use Rattle.records.specs.Meaning.{run_of}
use Rattle.format.specs.Format.{up_to_close}
use Rattle.format.specs.Found.{Standing, stands, ends, strange, standing_at}
use Rattle.record.specs.Kinds.{run_file}
use Rattle.reader.specs.Meaning.{meaning}
use Rattle.plain.specs.Plain.{refused_line}
use Rattle.plain.specs.Digits.{decimal}
use Rattle.spoken.specs.Said.{points_word, point_word, cycle_word, stroke_word, strokes_word, spaced}
use Rattle.detail.specs.Detail.{label_at, told_where, apart_at}
pub use Rattle.detail.specs.Detail.{lacks}
use Rattle.detail.specs.declared.Detail.{Detail}
use Rattle.detail.specs.declared.Detail.TheVariants.{Nothing, Earlier}
use Rattle.sentences.specs.Sentences.{record_name, not_name, detail_line}

-- ---- the records of a file, numbered
-- those that stand before an offset
unfoldable pub those_before : (offset : ℕ) → List Labelled → List Labelled
those_before p [] = []
those_before p (x ∷ xs) = cond (ltb x.label p) (x ∷ those_before p xs) []

-- each with its number in the place of its offset
unfoldable pub numbered : (k : ℕ) → List Labelled → List Labelled
numbered k [] = []
numbered k (x ∷ xs) = at_label k x.it ∷ numbered (suc k) xs

-- the records of a file up to its close that stand before an offset, numbered from 1
abbrev pub passed_over : List ℕ → (offset : ℕ) → List Labelled
passed_over s p = numbered 1 (those_before p (up_to_close run_file s).records)

-- all of them
abbrev pub all_numbered : List ℕ → List Labelled
all_numbered s = numbered 1 (up_to_close run_file s).records

-- ---- a record in words
-- "there", "cut", "short", "kind", "stroke", "behind", "the", "close"
abbrev pub there_name : List ℕ
there_name = 116 ∷ 104 ∷ 101 ∷ 114 ∷ 101 ∷ []

abbrev pub cut_name : List ℕ
cut_name = 99 ∷ 117 ∷ 116 ∷ []

abbrev pub short_name : List ℕ
short_name = 115 ∷ 104 ∷ 111 ∷ 114 ∷ 116 ∷ []

abbrev pub kind_name : List ℕ
kind_name = 107 ∷ 105 ∷ 110 ∷ 100 ∷ []

abbrev pub stroke_name : List ℕ
stroke_name = 115 ∷ 116 ∷ 114 ∷ 111 ∷ 107 ∷ 101 ∷ []

abbrev pub behind_name : List ℕ
behind_name = 98 ∷ 101 ∷ 104 ∷ 105 ∷ 110 ∷ 100 ∷ []

abbrev pub the_name : List ℕ
the_name = 116 ∷ 104 ∷ 101 ∷ []

abbrev pub close_name : List ℕ
close_name = 99 ∷ 108 ∷ 111 ∷ 115 ∷ 101 ∷ []

-- a place as a line of a text begins; of a stroke that no run has only that is told
abbrev pub place_words : Place → List (List ℕ)
place_words (input_at i) = point_word ∷ decimal i ∷ []
place_words (reading_at s c i) = cond (ltb s 2) (stroke_word s ∷ point_word ∷ decimal i ∷ cycle_word ∷ decimal c ∷ []) (stroke_name ∷ decimal s ∷ [])

-- a record; an opening names its strokes, as in a text
abbrev pub record_words : Record → List (List ℕ)
record_words (opening z) = points_word ∷ decimal z.m ∷ strokes_word z.strokes ∷ decimal z.n ∷ []
record_words (entry e) = place_words e.place
record_words close = close_name ∷ []
record_words unknown = []
record_words cut = []
record_words surplus = []

-- what stands at an offset: a record; nothing, or the beginning of one; or a kind that may not stand there
abbrev pub standing_words : List ℕ → (at : ℕ) → Standing → List (List ℕ)
standing_words s at (stands r end) = record_words r
standing_words s at ends = cond (leb (length s) at) (not_name ∷ there_name ∷ []) (cut_name ∷ short_name ∷ [])
standing_words s at strange = kind_name ∷ decimal (get_or s at 0) ∷ []

abbrev pub words_at : List ℕ → (at : ℕ) → List (List ℕ)
words_at s at = standing_words s at (standing_at run_file (eqb at 0) s at)

-- ---- the lines
-- `record` k, a colon, and what it is
abbrev pub record_line : (k : ℕ) → List (List ℕ) → List ℕ
record_line k ws = spaced (record_name ∷ (decimal k ++ (58 ∷ [])) ∷ ws)

-- 1 to 7 are told of the record at their place, 8 of what stands behind the close, 9 and 10 of the record that gives the point's input
abbrev pub told_of : List ℕ → (number place : ℕ) → List ℕ
told_of s k p =
    cond (leb 9 k) (record_line (label_at (input_at p) (all_numbered s)) (place_words (input_at p)))
    (cond (eqb k 8) (record_line (suc (length (passed_over s p))) (behind_name ∷ the_name ∷ close_name ∷ []))
    (record_line (suc (length (passed_over s p))) (words_at s p)))

-- 6: the record that told it first; 7: the first place that is missing; 10: the two readings that lie apart
abbrev pub first_told : List Labelled → Standing → Detail
first_told xs (stands (opening z) end) = Nothing
first_told xs (stands (entry e) end) = Earlier (told_where e.place xs)
first_told xs (stands close end) = Nothing
first_told xs (stands unknown end) = Nothing
first_told xs (stands cut end) = Nothing
first_told xs (stands surplus end) = Nothing
first_told xs ends = Nothing
first_told xs strange = Nothing

abbrev pub detail_of : List ℕ → (number place : ℕ) → Detail
detail_of s k p =
    cond (eqb k 6) (first_told (passed_over s p) (standing_at run_file false s p))
    (cond (eqb k 7) (lacks (up_to_close run_file s))
    (cond (eqb k 10) (apart_at (run_of (its (up_to_close run_file s))) (all_numbered s) p)
    Nothing))

-- "nothing is refused", and a line feed
abbrev pub accepted_line : List ℕ
accepted_line = 110 ∷ 111 ∷ 116 ∷ 104 ∷ 105 ∷ 110 ∷ 103 ∷ 32 ∷ 105 ∷ 115 ∷ 32 ∷ 114 ∷ 101 ∷ 102 ∷ 117 ∷ 115 ∷ 101 ∷ 100 ∷ 10 ∷ []

abbrev pub place_lines : List ℕ → (number place : ℕ) → List ℕ
place_lines s k p = cond (eqb k 0) accepted_line (refused_line k p ++ (told_of s k p ++ detail_line record_name (detail_of s k p)))

-- of any byte string
abbrev pub place_of : List ℕ → List ℕ
place_of s = place_lines s (meaning s).number (meaning s).place
