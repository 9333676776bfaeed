-- The sheet of a run with an up stroke only (request C-13), derived: 16 stands where the way back is asked for, and of one cycle too, since it comes before 13. T is twice U, so that the linearities are those of the readings themselves.
use Rattle.std.specs.Prelude.{◌≡◌, refl, List, [], ◌∷◌, ℕ, pos}
use Rattle.std.proofs.Common.{subst}
use Rattle.whole.specs.Every.{every, first_not}
use Rattle.plain.specs.Digits.{digits}
use Rattle.table.specs.Table.{given}
use Rattle.run.specs.Places.{rising, falling, cycle_places, cycles_places}
use Rattle.run.specs.Sample.{filled, cycles, written_out}
use Rattle.run.specs.Checks.{fine, verdict}
use Rattle.run.specs.declared.Run.{Run}
use Rattle.records.specs.Record.{number_at}
use Rattle.records.specs.Travel.{trimmed}
use Rattle.writer.specs.File.{file}
use Rattle.runfile.specs.Witness.{of_strokes}
use Rattle.groups.specs.Sums.{sum_to}
use Rattle.band.specs.Candidate.{down}
use Rattle.due.specs.Due.{refused, Due}
use Rattle.due.specs.Cases.{one_stroke, case_due}
use Rattle.due.specs.declared.Answer.{Answer}
use Rattle.due.specs.declared.Index.{Index}
use Rattle.due.specs.declared.Index.TheVariants as index
use Rattle.sheet_text.specs.Sheet.{lines, SheetDue}
use Rattle.promises.specs.Figures.{over, whole, fields}
use Rattle.promises.specs.Tests.{divisor}
use Rattle.promises.specs.Certificate.{one_line, far, ends, best, zero, front}
use Rattle.promises.specs.Ascii.{printed}
use Rattle.promises.proofs.PaperSheet.{sheet_of_run}
use Rattle.promises.proofs.MoreSheets.{by}

-- inputs 0, 10, 20, one cycle, readings 0, 106, 200 up
abbrev pub up_only : Run
up_only = of_strokes 1 (written_out 1 (0 ∷ 10 ∷ 20 ∷ []) ((0 ∷ 106 ∷ 200 ∷ []) ∷ []) [])

abbrev answer : Index → Answer
answer index.Terminal = fields 0 (whole 6) (whole 10) (whole 0) (over (pos 3) 100) 3000
answer index.Shifted = fields 0 (whole 3) (whole 10) (whole 3) (over (pos 3) 200) 1500
answer index.Independent = fields 0 (whole 3) (whole 10) (whole 3) (over (pos 3) 200) 1500
answer index.Zero = fields 0 (whole 4) (over (pos 51) 5) (whole 0) (over (pos 1) 51) 1961
answer index.Front = fields 0 (whole 4) (over (pos 51) 5) (whole 0) (over (pos 1) 51) 1961
answer index.Hysteresis = refused 16 0
answer index.Repeatability = refused 16 0
answer index.Lh = refused 16 0
answer index.Lhr = refused 16 0

due : (i : Index) → Due i up_only (answer i)
unfolding filled cycles written_out sum_to every first_not given divisor
due index.Terminal = by (one_line 6 1 (far 1)) tt
due index.Shifted = by (one_line 3 1 (ends 0 1)) tt
due index.Independent = by (one_line 3 1 (best (down 0 1 2))) tt
due index.Zero = by (one_line 4 1 (zero 1 2)) tt
due index.Front = by (one_line 4 1 (front 1 2)) tt
due index.Hysteresis = case_due (one_stroke refl (λ b. b.asked) (tt, refl) refl)
due index.Repeatability = case_due (one_stroke refl (λ b. b.asked) (tt, refl) refl)
due index.Lh = case_due (one_stroke refl (λ b. b.asked) (tt, refl) refl)
due index.Lhr = case_due (one_stroke refl (λ b. b.asked) (tt, refl) refl)

passes : verdict up_only ≡ fine
unfolding filled cycles written_out every first_not given
passes = refl

kept : trimmed up_only ≡ up_only
unfolding filled cycles written_out rising falling cycle_places cycles_places number_at
kept = refl

abbrev up_only_lines : List ℕ
up_only_lines =
    printed
    ("points 3 cycles 1"
    ∷ "terminal 3/100 3.000"
    ∷ "shifted 3/200 1.500"
    ∷ "independent 3/200 1.500"
    ∷ "zero 1/51 1.961"
    ∷ "front 1/51 1.961"
    ∷ "hysteresis refused 16"
    ∷ "repeatability refused 16"
    ∷ "lh refused 16"
    ∷ "lhr refused 16"
    ∷ "line refused 16"
    ∷ [])

is : lines up_only.m up_only.n answer ≡ up_only_lines
unfolding digits filled cycles written_out
is = refl

pub up_only_sheet : SheetDue (file up_only) up_only_lines
up_only_sheet = subst (SheetDue (file up_only)) is (sheet_of_run up_only passes kept answer due)
