-- What programs print in one way: the refusal line, and a text at the front of a lent buffer (the paper, "In what any program prints"). Definitions only.
use Rattle.std.specs.Prelude.{cond, List, [], ◌∷◌, ◌++◌, ℕ, ltb, length, take, drop, Result, Ok, Err}
use Rattle.plain.specs.Digits.{decimal}
use Rattle.plain.specs.declared.TooShort.{TooShort}

-- a space, and a line feed
abbrev pub space : ℕ
space = 32

abbrev pub line_feed : ℕ
line_feed = 10

-- "refused "
abbrev pub refused_word : List ℕ
refused_word = 114 ∷ 101 ∷ 102 ∷ 117 ∷ 115 ∷ 101 ∷ 100 ∷ 32 ∷ []

-- " at "
abbrev pub at_word : List ℕ
at_word = 32 ∷ 97 ∷ 116 ∷ 32 ∷ []

-- the refusal line: `refused`, the number, `at`, the place
abbrev pub refused_line : (number place : ℕ) → List ℕ
refused_line number place = refused_word ++ (decimal number ++ (at_word ++ (decimal place ++ (line_feed ∷ []))))

-- a text holds at most 831 bytes: no sheet is longer (`sheet_text`, `Longest`)
abbrev pub longest : ℕ
longest = 831

-- what a page keeps of bytes that are put on it: the first 831
unfoldable pub kept : List ℕ → List ℕ
kept l = take longest l

-- the paper's number, and the length of what is printed
pub record Printed : Type 0 where
  pub number : ℕ
  pub len : ℕ

-- what an answer says in the paper's numbers: 0 and the length; or 14 and 0, where the lent buffer is too short
abbrev pub as_printed : Result ℕ TooShort → Printed
as_printed (Ok n) = record { number = 0; len = n }
as_printed (Err e) = record { number = 14; len = 0 }

-- what putting t at the front of a lent buffer answers: 14 where that is too short
abbrev pub printed : List ℕ → List ℕ → Printed
printed t buffer = cond (ltb (length buffer) (length t)) (record { number = 14; len = 0 }) (record { number = 0; len = length t })

-- the buffer afterwards: t, and behind it what stood there; too short, what it held before
abbrev pub buffer_after : List ℕ → List ℕ → List ℕ
buffer_after t buffer = cond (ltb (length buffer) (length t)) buffer (t ++ drop (length t) buffer)
