-- Demand 1. "Every byte string given as a run file, and every run built by hand, gets its numbers or exactly one refusal of the paper's table, chosen by the paper's order of checks, with the fixed fields listed there; a lent buffer then holds what it held before." The statement; `Demand1Holds` proves it.
--
-- What it says: for each byte string, and for each run and index, there is exactly one answer. The refusals of a byte string (`records` `Meaning`), of a run built by hand (`run` `Checks`), of an index (`due` `Due`) and of a write (`writer` `File`) are tables, and the number is that of the first condition that holds (`table` `Table`); `words` says it record by record, and `index_exactly` and `write_exactly` number by number. The numbers are those of the paper's table, 15 of request C-11 and 16 of request C-13, the fields under a refusal are the fixed ones, and a refused write or sheet leaves the buffer as it was.
-- What it does not say: what a program reads and prints. No contract can; the comparison with the second program holds it.
use Rattle.std.specs.Prelude.{◌≡◌, List, [], ◌∷◌, ◌++◌, ◌⊎◌, ◌↔◌, ℕ, ◌<◌, ◌≤◌, T, length, drop}
use Rattle.exact.specs.Value.{nought}
use Rattle.plain.specs.Plain.{Printed}
use Rattle.run.specs.Run.{zeros}
use Rattle.run.specs.Checks as C
use Rattle.run.specs.Checks.{verdict}
use Rattle.run.specs.declared.Run.{Run}
use Rattle.table.specs.Table.{given_at, First}
use Rattle.records.specs.Record.{its}
use Rattle.records.specs.Meaning.{last_rows, refusals}
use Rattle.records.specs.Sound.{clean}
use Rattle.records.specs.FirstFault.{FaultAt}
use Rattle.format.specs.Format as F
use Rattle.record.specs.Kinds.{run_file}
use Rattle.reader.specs.Meaning as M
use Rattle.reader.specs.Meaning.{meaning, FileDue, CloseDue}
use Rattle.writer.specs.File.{file, written, buffer_after}
use Rattle.averages.specs.Averages.{AveragesDue}
use Rattle.due.specs.Due.{BelowZero, OneStroke, OneCycle, SeveralReach, LevelLine, only_width, refused, Due}
use Rattle.due.specs.declared.Answer.{Answer}
use Rattle.due.specs.declared.Index.{Index}
use Rattle.sheet_text.specs.Sheet.{SheetDue, PrintDue}

-- exactly one has the property
pub record ExactlyOne {A : Type 0} (P : A → Type 0) : Type 0 where
  pub one : A
  pub is : P one
  pub only : (a : A) → P a → a ≡ one

-- n stands in the list
abbrev pub Among : ℕ → List ℕ → Type 0
Among n [] = ⊥
Among n (k ∷ ks) = (n ≡ k) ⊎ Among n ks

-- no check refuses the run
abbrev pub Passed : Run → Type 0
Passed r = (verdict r).number ≡ 0

-- each number of an index is given exactly when its condition is the first to hold, and 0 when none holds
pub record IndexExactly (which : Index) (r : Run) (a : Answer) : Type 0 where
  pub fifteen : (a.number ≡ 15) ↔ (Passed r × BelowZero which r)
  pub sixteen : (a.number ≡ 16) ↔ (Passed r × ¬ (BelowZero which r) × OneStroke which r)
  pub thirteen : (a.number ≡ 13) ↔ (Passed r × ¬ (BelowZero which r) × ¬ (OneStroke which r) × OneCycle which r)
  pub twelve : (a.number ≡ 12) ↔ (Passed r × ¬ (BelowZero which r) × ¬ (OneStroke which r) × ¬ (OneCycle which r) × SeveralReach which r)
  pub eleven : (a.number ≡ 11) ↔ (Passed r × ¬ (BelowZero which r) × ¬ (OneStroke which r) × ¬ (OneCycle which r) × ¬ (SeveralReach which r) × LevelLine which r)
  pub zero : (a.number ≡ 0) ↔ (Passed r × ¬ (BelowZero which r) × ¬ (OneStroke which r) × ¬ (OneCycle which r) × ¬ (SeveralReach which r) × ¬ (LevelLine which r))
  -- any other number is that of the checks of the run, with their place
  pub of_run : ¬ (Passed r) → (a.number ≡ (verdict r).number) × (a.place ≡ (verdict r).place)

-- each number of a write, told of place 0 but for those of the run; the file's length under 0, and the file in front of what stood behind it
pub record WriteExactly (r : Run) (buffer : List ℕ) : Type 0 where
  pub fourteen : ((written r buffer).number ≡ 14) ↔ (Passed r × (length buffer < length (file r)))
  pub zero : ((written r buffer).number ≡ 0) ↔ (Passed r × (length (file r) ≤ length buffer))
  pub of_run : ¬ (Passed r) → ((written r buffer).number ≡ (verdict r).number) × ((written r buffer).place ≡ (verdict r).place)
  pub place : Passed r → (written r buffer).place ≡ 0
  pub len : (written r buffer).number ≡ 0 → (written r buffer).len ≡ length (file r)
  pub after : (written r buffer).number ≡ 0 → buffer_after r buffer ≡ file r ++ drop (length (file r)) buffer

-- the fixed fields: under 11 the index is 0/1 and the thousandths 0, under 12 all but the width, under any other refusal everything. The place is 0 when accepted, and under 11, 12, 13, 15 and 16
pub record Fixed (a : Answer) : Type 0 where
  pub accepted : a.number ≡ 0 → a.place ≡ 0
  pub flat : a.number ≡ 11 → (a.place ≡ 0) × (a.index ≡ nought) × (a.thousandths ≡ 0)
  pub several : a.number ≡ 12 → a ≡ only_width a.width
  pub one_cycle : a.number ≡ 13 → a ≡ refused 13 0
  pub below_zero : a.number ≡ 15 → a ≡ refused 15 0
  pub one_stroke : a.number ≡ 16 → a ≡ refused 16 0
  pub no_run : a.number ≤ 10 → (a.number ≡ 0 → ⊥) → a ≡ refused a.number a.place

-- what is answered and what a lent buffer then holds
pub record Print : Type 0 where
  pub answer : Printed
  pub buffer : List ℕ

pub record Demand1 : Type 0 where
  -- a byte string
  pub file : (s : List ℕ) → ExactlyOne (FileDue s)
  pub words : (s : List ℕ) (k l : ℕ) → First (refusals (F.file run_file s)) (given_at k l)
      ↔ (FaultAt [] (F.file run_file s).records k l ⊎ (T (clean [] (its (F.file run_file s))) × First (last_rows (F.file run_file s)) (given_at k l)))
  pub file_number : (s : List ℕ) → (meaning s).number ≤ 10
  pub file_refused : (s : List ℕ) → ((meaning s).number ≡ 0 → ⊥) → (meaning s).run ≡ zeros
  -- the same, read up to the close: where it ends is told, and 8 does not arise
  pub to_close : (s : List ℕ) → ExactlyOne (CloseDue s)
  pub no_eight : (s : List ℕ) → (M.to_close s).number ≡ 8 → ⊥
  -- a run built by hand
  pub checks : (r : Run) → ExactlyOne (First (C.checks r))
  pub index : (which : Index) (r : Run) → ExactlyOne (Due which r)
  pub index_exactly : (which : Index) (r : Run) (a : Answer) → Due which r a → IndexExactly which r a
  pub index_number : (which : Index) (r : Run) (a : Answer) → Due which r a → Among a.number (0 ∷ 3 ∷ 5 ∷ 9 ∷ 10 ∷ 11 ∷ 12 ∷ 13 ∷ 15 ∷ 16 ∷ [])
  pub index_fixed : (which : Index) (r : Run) (a : Answer) → Due which r a → Fixed a
  pub averages : (r : Run) → ExactlyOne (AveragesDue r)
  -- a buffer lent to the writer
  pub write_exactly : (r : Run) (buffer : List ℕ) → WriteExactly r buffer
  pub write_number : (r : Run) (buffer : List ℕ) → Among (written r buffer).number (0 ∷ 3 ∷ 5 ∷ 9 ∷ 10 ∷ 14 ∷ [])
  pub write_refused : (r : Run) (buffer : List ℕ) → ((written r buffer).number ≡ 0 → ⊥) → ((written r buffer).len ≡ 0) × (buffer_after r buffer ≡ buffer)
  -- a buffer lent for the sheet
  pub sheet : (s : List ℕ) → ExactlyOne (SheetDue s)
  pub print : (s before : List ℕ) → ExactlyOne (λ (p : Print). PrintDue s before p.buffer p.answer)
  pub print_exactly : (s t before after : List ℕ) (q : Printed) → SheetDue s t → PrintDue s before after q → (q.number ≡ 14) ↔ (length before < length t)
  pub print_refused : (s before after : List ℕ) (q : Printed) → PrintDue s before after q → (q.number ≡ 0 → ⊥) → (q ≡ record { number = 14; len = 0 }) × (after ≡ before)
