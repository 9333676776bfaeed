-- The sheet of a byte string given as a run file (the paper, "Figures to meet", the printed sheet; requests C-11 and C-13). Definitions only.
use Rattle.std.specs.Prelude.{◌≡◌, cond, List, [], ◌∷◌, ◌++◌, ℕ, ◌<◌, ◌≤◌, eqb, length, drop}
use Rattle.plain.specs.Digits.{decimal, fraction, percent}
use Rattle.plain.specs.Plain.{space, line_feed, refused_word, refused_line, Printed}
use Rattle.reader.specs.Meaning.{meaning}
use Rattle.due.specs.Due.{Due}
use Rattle.due.specs.declared.Answer.{Answer}
use Rattle.due.specs.declared.Index.{Index}
use Rattle.due.specs.declared.Index.TheVariants as index

-- "points "
abbrev pub points_word : List ℕ
points_word = 112 ∷ 111 ∷ 105 ∷ 110 ∷ 116 ∷ 115 ∷ 32 ∷ []

-- " cycles "
abbrev pub cycles_word : List ℕ
cycles_word = 32 ∷ 99 ∷ 121 ∷ 99 ∷ 108 ∷ 101 ∷ 115 ∷ 32 ∷ []

-- "line"
abbrev pub line_word : List ℕ
line_word = 108 ∷ 105 ∷ 110 ∷ 101 ∷ []

-- "terminal", "shifted", "independent", "zero", "front", "hysteresis", "repeatability", "lh", "lhr"
abbrev pub name : Index → List ℕ
name index.Terminal = 116 ∷ 101 ∷ 114 ∷ 109 ∷ 105 ∷ 110 ∷ 97 ∷ 108 ∷ []
name index.Shifted = 115 ∷ 104 ∷ 105 ∷ 102 ∷ 116 ∷ 101 ∷ 100 ∷ []
name index.Independent = 105 ∷ 110 ∷ 100 ∷ 101 ∷ 112 ∷ 101 ∷ 110 ∷ 100 ∷ 101 ∷ 110 ∷ 116 ∷ []
name index.Zero = 122 ∷ 101 ∷ 114 ∷ 111 ∷ []
name index.Front = 102 ∷ 114 ∷ 111 ∷ 110 ∷ 116 ∷ []
name index.Hysteresis = 104 ∷ 121 ∷ 115 ∷ 116 ∷ 101 ∷ 114 ∷ 101 ∷ 115 ∷ 105 ∷ 115 ∷ []
name index.Repeatability = 114 ∷ 101 ∷ 112 ∷ 101 ∷ 97 ∷ 116 ∷ 97 ∷ 98 ∷ 105 ∷ 108 ∷ 105 ∷ 116 ∷ 121 ∷ []
name index.Lh = 108 ∷ 104 ∷ []
name index.Lhr = 108 ∷ 104 ∷ 114 ∷ []

-- `points`, m, `cycles`, n, however many strokes the run has
abbrev pub head_line : (m n : ℕ) → List ℕ
head_line m n = points_word ++ (decimal m ++ (cycles_word ++ (decimal n ++ (line_feed ∷ []))))

-- what follows a name: the figures, or `refused` and the number
abbrev pub told : (number : ℕ) → List ℕ → List ℕ
told number figures = space ∷ (cond (eqb number 0) figures (refused_word ++ decimal number) ++ (line_feed ∷ []))

-- an index: its name, the index, and the percent to three decimals
abbrev pub index_line : Index → Answer → List ℕ
index_line i a = name i ++ told a.number (fraction a.index ++ (space ∷ percent a.thousandths))

-- `line`, and slope and offset of the LHR line
abbrev pub last_line : Answer → List ℕ
last_line a = line_word ++ told a.number (fraction a.slope ++ (space ∷ fraction a.offset))

-- the eleven lines of an accepted file
abbrev pub lines : (m n : ℕ) → (Index → Answer) → List ℕ
lines m n A =
    head_line m n
    ++ (index_line index.Terminal (A index.Terminal)
    ++ (index_line index.Shifted (A index.Shifted)
    ++ (index_line index.Independent (A index.Independent)
    ++ (index_line index.Zero (A index.Zero)
    ++ (index_line index.Front (A index.Front)
    ++ (index_line index.Hysteresis (A index.Hysteresis)
    ++ (index_line index.Repeatability (A index.Repeatability)
    ++ (index_line index.Lh (A index.Lh)
    ++ (index_line index.Lhr (A index.Lhr)
    ++ last_line (A index.Lhr))))))))))

-- t is the sheet of the byte string s
pub data SheetDue (s t : List ℕ) : Type 0 where
  refused : ((meaning s).number ≡ 0 → ⊥) → t ≡ refused_line (meaning s).number (meaning s).place → SheetDue s t
  accepted : (meaning s).number ≡ 0 → (A : Index → Answer) → ((i : Index) → Due i (meaning s).run (A i)) → t ≡ lines (meaning s).run.m (meaning s).run.n A → SheetDue s t

-- the sheet of s is put at the front of a lent buffer, and what stood behind it stays; a buffer that is too short is refused with 14 and stays as it was
pub data PrintDue (s before after : List ℕ) (q : Printed) : Type 0 where
  fits : (t : List ℕ) → SheetDue s t → length t ≤ length before → q ≡ record { number = 0; len = length t } → after ≡ t ++ drop (length t) before → PrintDue s before after q
  short : (t : List ℕ) → SheetDue s t → length before < length t → q ≡ record { number = 14; len = 0 } → after ≡ before → PrintDue s before after q
