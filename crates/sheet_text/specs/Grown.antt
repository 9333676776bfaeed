-- The texts to which the lines of a run are put. Method.
use Rattle.std.specs.Prelude.{◌≡◌, List, ◌∷◌, ◌++◌, ℕ}
use Rattle.plain.specs.Digits.{fraction, percent}
use Rattle.plain.specs.Plain.{space, kept}
use Rattle.run.specs.declared.Run.{Run}
use Rattle.due.specs.Due.{Due}
use Rattle.due.specs.declared.Answer.{Answer}
use Rattle.due.specs.declared.Index.{Index}
use Rattle.due.specs.declared.Ruled.{Ruled}
use Rattle.due.specs.declared.Shown.{Shown}
use Rattle.sheet_text.specs.Sheet.{name, line_word, told, lines}

-- the lines, of what is shown of an answer and of its line
abbrev pub shown_line : Index → Shown → List ℕ
shown_line i s = name i ++ told s.number (fraction s.index ++ (space ∷ percent s.thousandths))

abbrev pub ruled_line : ℕ → Ruled → List ℕ
ruled_line number l = line_word ++ told number (fraction l.slope ++ (space ∷ fraction l.offset))

-- the sheet of the run r is put behind t on a page, on which p stands then
pub record RunText (r : Run) (t p : List ℕ) : Type 0 where
  pub answers : Index → Answer
  pub due : (i : Index) → Due i r (answers i)
  pub is : p ≡ kept (t ++ lines r.m r.n answers)
