-- How a refused text is told: `refused`, the number, `line` and the line's number; on a second line the sentence of the number; on a third what more is told (docs/TEXT.md). Definitions only.
use Rattle.std.specs.Prelude.{cond, List, [], ◌∷◌, ◌++◌, ℕ, eqb}
use Rattle.plain.specs.Plain.{line_feed, refused_word}
use Rattle.plain.specs.Digits.{decimal}
use Rattle.spoken.specs.Said.{point_word, cycle_word, stroke_word, spaced}
use Rattle.detail.specs.declared.Detail.{Detail}
use Rattle.detail.specs.declared.Detail.TheVariants.{Nothing, Word, NoWord, Earlier, Input, Reading, Apart}

-- " line "
abbrev pub line_between : List ℕ
line_between = 32 ∷ 108 ∷ 105 ∷ 110 ∷ 101 ∷ 32 ∷ []

-- "no line tells points and cycles"
abbrev pub sentence_41 : List ℕ
sentence_41 = 110 ∷ 111 ∷ 32 ∷ 108 ∷ 105 ∷ 110 ∷ 101 ∷ 32 ∷ 116 ∷ 101 ∷ 108 ∷ 108 ∷ 115 ∷ 32 ∷ 112 ∷ 111 ∷ 105 ∷ 110 ∷ 116 ∷ 115 ∷ 32 ∷ 97 ∷ 110 ∷ 100 ∷ 32 ∷ 99 ∷ 121 ∷ 99 ∷ 108 ∷ 101 ∷ 115 ∷ 10 ∷ []

-- "this line is not understood"
abbrev pub sentence_42 : List ℕ
sentence_42 = 116 ∷ 104 ∷ 105 ∷ 115 ∷ 32 ∷ 108 ∷ 105 ∷ 110 ∷ 101 ∷ 32 ∷ 105 ∷ 115 ∷ 32 ∷ 110 ∷ 111 ∷ 116 ∷ 32 ∷ 117 ∷ 110 ∷ 100 ∷ 101 ∷ 114 ∷ 115 ∷ 116 ∷ 111 ∷ 111 ∷ 100 ∷ 10 ∷ []

-- "3 to 11 points and 1 to 10 cycles"
abbrev pub sentence_43 : List ℕ
sentence_43 = 51 ∷ 32 ∷ 116 ∷ 111 ∷ 32 ∷ 49 ∷ 49 ∷ 32 ∷ 112 ∷ 111 ∷ 105 ∷ 110 ∷ 116 ∷ 115 ∷ 32 ∷ 97 ∷ 110 ∷ 100 ∷ 32 ∷ 49 ∷ 32 ∷ 116 ∷ 111 ∷ 32 ∷ 49 ∷ 48 ∷ 32 ∷ 99 ∷ 121 ∷ 99 ∷ 108 ∷ 101 ∷ 115 ∷ 10 ∷ []

-- "no such point or cycle or stroke here"
abbrev pub sentence_44 : List ℕ
sentence_44 = 110 ∷ 111 ∷ 32 ∷ 115 ∷ 117 ∷ 99 ∷ 104 ∷ 32 ∷ 112 ∷ 111 ∷ 105 ∷ 110 ∷ 116 ∷ 32 ∷ 111 ∷ 114 ∷ 32 ∷ 99 ∷ 121 ∷ 99 ∷ 108 ∷ 101 ∷ 32 ∷ 111 ∷ 114 ∷ 32 ∷ 115 ∷ 116 ∷ 114 ∷ 111 ∷ 107 ∷ 101 ∷ 32 ∷ 104 ∷ 101 ∷ 114 ∷ 101 ∷ 10 ∷ []

-- "this number is beyond its limits"
abbrev pub sentence_45 : List ℕ
sentence_45 = 116 ∷ 104 ∷ 105 ∷ 115 ∷ 32 ∷ 110 ∷ 117 ∷ 109 ∷ 98 ∷ 101 ∷ 114 ∷ 32 ∷ 105 ∷ 115 ∷ 32 ∷ 98 ∷ 101 ∷ 121 ∷ 111 ∷ 110 ∷ 100 ∷ 32 ∷ 105 ∷ 116 ∷ 115 ∷ 32 ∷ 108 ∷ 105 ∷ 109 ∷ 105 ∷ 116 ∷ 115 ∷ 10 ∷ []

-- "this was told before"
abbrev pub sentence_46 : List ℕ
sentence_46 = 116 ∷ 104 ∷ 105 ∷ 115 ∷ 32 ∷ 119 ∷ 97 ∷ 115 ∷ 32 ∷ 116 ∷ 111 ∷ 108 ∷ 100 ∷ 32 ∷ 98 ∷ 101 ∷ 102 ∷ 111 ∷ 114 ∷ 101 ∷ 10 ∷ []

-- "a point or a reading is missing"
abbrev pub sentence_47 : List ℕ
sentence_47 = 97 ∷ 32 ∷ 112 ∷ 111 ∷ 105 ∷ 110 ∷ 116 ∷ 32 ∷ 111 ∷ 114 ∷ 32 ∷ 97 ∷ 32 ∷ 114 ∷ 101 ∷ 97 ∷ 100 ∷ 105 ∷ 110 ∷ 103 ∷ 32 ∷ 105 ∷ 115 ∷ 32 ∷ 109 ∷ 105 ∷ 115 ∷ 115 ∷ 105 ∷ 110 ∷ 103 ∷ 10 ∷ []

-- "the text is longer than 65536 bytes"
abbrev pub sentence_48 : List ℕ
sentence_48 = 116 ∷ 104 ∷ 101 ∷ 32 ∷ 116 ∷ 101 ∷ 120 ∷ 116 ∷ 32 ∷ 105 ∷ 115 ∷ 32 ∷ 108 ∷ 111 ∷ 110 ∷ 103 ∷ 101 ∷ 114 ∷ 32 ∷ 116 ∷ 104 ∷ 97 ∷ 110 ∷ 32 ∷ 54 ∷ 53 ∷ 53 ∷ 51 ∷ 54 ∷ 32 ∷ 98 ∷ 121 ∷ 116 ∷ 101 ∷ 115 ∷ 10 ∷ []

-- "this input is not above the one before"
abbrev pub sentence_49 : List ℕ
sentence_49 = 116 ∷ 104 ∷ 105 ∷ 115 ∷ 32 ∷ 105 ∷ 110 ∷ 112 ∷ 117 ∷ 116 ∷ 32 ∷ 105 ∷ 115 ∷ 32 ∷ 110 ∷ 111 ∷ 116 ∷ 32 ∷ 97 ∷ 98 ∷ 111 ∷ 118 ∷ 101 ∷ 32 ∷ 116 ∷ 104 ∷ 101 ∷ 32 ∷ 111 ∷ 110 ∷ 101 ∷ 32 ∷ 98 ∷ 101 ∷ 102 ∷ 111 ∷ 114 ∷ 101 ∷ 10 ∷ []

-- "two cycles are over 10000 apart here"
abbrev pub sentence_50 : List ℕ
sentence_50 = 116 ∷ 119 ∷ 111 ∷ 32 ∷ 99 ∷ 121 ∷ 99 ∷ 108 ∷ 101 ∷ 115 ∷ 32 ∷ 97 ∷ 114 ∷ 101 ∷ 32 ∷ 111 ∷ 118 ∷ 101 ∷ 114 ∷ 32 ∷ 49 ∷ 48 ∷ 48 ∷ 48 ∷ 48 ∷ 32 ∷ 97 ∷ 112 ∷ 97 ∷ 114 ∷ 116 ∷ 32 ∷ 104 ∷ 101 ∷ 114 ∷ 101 ∷ 10 ∷ []

-- the sentence of each number, with its line feed; none of any other number
abbrev pub sentence : ℕ → List ℕ
sentence number =
    cond (eqb number 41) sentence_41
    (cond (eqb number 42) sentence_42
    (cond (eqb number 43) sentence_43
    (cond (eqb number 44) sentence_44
    (cond (eqb number 45) sentence_45
    (cond (eqb number 46) sentence_46
    (cond (eqb number 47) sentence_47
    (cond (eqb number 48) sentence_48
    (cond (eqb number 49) sentence_49
    (cond (eqb number 50) sentence_50
    [])))))))))

-- ---- what more is told
-- the words of its line, each by its name
abbrev pub line_name : List ℕ
line_name = 108 ∷ 105 ∷ 110 ∷ 101 ∷ []

abbrev pub record_name : List ℕ
record_name = 114 ∷ 101 ∷ 99 ∷ 111 ∷ 114 ∷ 100 ∷ []

abbrev pub word_name : List ℕ
word_name = 119 ∷ 111 ∷ 114 ∷ 100 ∷ []

abbrev pub is_name : List ℕ
is_name = 105 ∷ 115 ∷ []

abbrev pub not_name : List ℕ
not_name = 110 ∷ 111 ∷ 116 ∷ []

abbrev pub understood_name : List ℕ
understood_name = 117 ∷ 110 ∷ 100 ∷ 101 ∷ 114 ∷ 115 ∷ 116 ∷ 111 ∷ 111 ∷ 100 ∷ []

abbrev pub missing_name : List ℕ
missing_name = 109 ∷ 105 ∷ 115 ∷ 115 ∷ 105 ∷ 110 ∷ 103 ∷ []

abbrev pub told_name : List ℕ
told_name = 116 ∷ 111 ∷ 108 ∷ 100 ∷ []

abbrev pub it_name : List ℕ
it_name = 105 ∷ 116 ∷ []

abbrev pub first_name : List ℕ
first_name = 102 ∷ 105 ∷ 114 ∷ 115 ∷ 116 ∷ []

abbrev pub and_name : List ℕ
and_name = 97 ∷ 110 ∷ 100 ∷ []

abbrev pub lie_name : List ℕ
lie_name = 108 ∷ 105 ∷ 101 ∷ []

abbrev pub apart_name : List ℕ
apart_name = 97 ∷ 112 ∷ 97 ∷ 114 ∷ 116 ∷ []

-- a label counts lines or records: `noun` says which
abbrev pub detail_words : (noun : List ℕ) → Detail → List (List ℕ)
detail_words noun Nothing = []
detail_words noun (Word k) = word_name ∷ decimal k ∷ is_name ∷ not_name ∷ understood_name ∷ []
detail_words noun (NoWord k) = word_name ∷ decimal k ∷ is_name ∷ missing_name ∷ []
detail_words noun (Earlier l) = noun ∷ decimal l ∷ told_name ∷ it_name ∷ first_name ∷ []
detail_words noun (Input i) = point_word ∷ decimal i ∷ is_name ∷ missing_name ∷ []
detail_words noun (Reading s c i) = stroke_word s ∷ point_word ∷ decimal i ∷ cycle_word ∷ decimal c ∷ is_name ∷ missing_name ∷ []
detail_words noun (Apart h l) = (noun ++ (115 ∷ [])) ∷ decimal h ∷ and_name ∷ decimal l ∷ lie_name ∷ apart_name ∷ []

-- on a line; nothing has none
abbrev pub line_if : List (List ℕ) → List ℕ
line_if [] = []
line_if (w ∷ ws) = spaced (w ∷ ws)

abbrev pub detail_line : (noun : List ℕ) → Detail → List ℕ
detail_line noun d = line_if (detail_words noun d)

-- the two lines, and one more where more is told
abbrev pub refusal : (number line : ℕ) → Detail → List ℕ
refusal number line d = refused_word ++ (decimal number ++ (line_between ++ (decimal line ++ (line_feed ∷ (sentence number ++ detail_line line_name d)))))
