-- The paper's printed sheet, derived: the sheet that is due for the file of the paper's run.
use Rattle.std.specs.Prelude.{◌≡◌, refl, List, [], ◌∷◌, ℕ, zero, suc, ◌<◌, T, ltb, length, get_or}
use Rattle.std.proofs.Common.{sym, ap, subst, ◌∙◌, arith, ltb→lt}
use Rattle.whole.specs.Every.{every, first_not}
use Rattle.plain.specs.Digits.{digits}
use Rattle.table.specs.Table.{given}
use Rattle.run.specs.Places.{rising, falling, cycle_places, cycles_places}
use Rattle.run.specs.Sample.{filled, cycles, written_out, sample}
use Rattle.run.specs.Checks.{fine, verdict}
use Rattle.run.specs.declared.Run.{Run}
use Rattle.records.specs.Record.{number_at}
use Rattle.records.specs.Travel.{trimmed}
use Rattle.reader.specs.Meaning.{as_answer, meaning}
use Rattle.reader.specs.ReadFine as read
use Rattle.reader.specs.declared.Answer as R
use Rattle.writer.specs.File.{file}
use Rattle.runfile.specs.Back.{trip}
use Rattle.due.specs.Due.{refused, Due}
use Rattle.due.specs.declared.Answer.{Answer}
use Rattle.due.specs.declared.Index.{Index}
use Rattle.due.specs.declared.Index.TheVariants as index
use Rattle.sheet_text.specs.Sheet.{lines, SheetDue, accepted}
use Rattle.sheet_text.specs.Once.{one_sheet}
use Rattle.promises.specs.Figures.{Figure, figures}
use Rattle.promises.proofs.Certified.{Each, figures_due}
use Rattle.promises.specs.Ascii.{printed}

-- ---- any run that no check refuses, with zeros beyond its points, cycles and strokes: the sheet of its file has the lines of the answers that are due for it
pub sheet_of_run : (r : Run) → verdict r ≡ fine → trimmed r ≡ r → (A : Index → Answer) → ((i : Index) → Due i r (A i)) → SheetDue (file r) (lines r.m r.n A)
sheet_of_run r v t A d =
    let e : meaning (file r) ≡ read.given r = ap as_answer (trip r v) ∙ ap read.given t in
    accepted (ap (λ (a : R.Answer). a.number) e) A (subst (λ (a : R.Answer). (i : Index) → Due i a.run (A i)) (sym e) d) (ap (λ (a : R.Answer). lines a.run.m a.run.n A) (sym e))

-- ---- the paper's run
passes : verdict sample ≡ fine
unfolding filled cycles written_out every first_not given
passes = refl

trimmed_already : trimmed sample ≡ sample
unfolding filled cycles written_out rising falling cycle_places cycles_places number_at
trimmed_already = refl

-- ---- its answers: nine rows of the table of figures
-- row k, counted from 0; behind the table nothing stands
abbrev row : ℕ → Figure
row k = get_or figures k (record { run = sample; which = index.Terminal; answer = refused 0 0 })

row_due : (k : ℕ) → T (ltb k (length figures)) → Due (row k).which (row k).run (row k).answer
row_due k t = go figures figures_due k (ltb→lt k (length figures) t)
  where
    go : (fs : List Figure) → Each (λ (f : Figure). Due f.which f.run f.answer) fs → (k : ℕ) → k < length fs → let f = get_or fs k (row 25) in Due f.which f.run f.answer
    go [] ds k h = absurd (omega arith)
    go (f ∷ fs) ds zero h = ds.0
    go (f ∷ fs) ds (suc k) h = go fs ds.1 k (omega arith)

abbrev row_of : Index → ℕ
row_of index.Terminal = 13
row_of index.Shifted = 14
row_of index.Independent = 15
row_of index.Zero = 16
row_of index.Front = 17
row_of index.Hysteresis = 18
row_of index.Repeatability = 19
row_of index.Lh = 20
row_of index.Lhr = 21

abbrev paper_answer : Index → Answer
paper_answer i = (row (row_of i)).answer

answer_due : (i : Index) → Due i sample (paper_answer i)
answer_due index.Terminal = row_due 13 tt
answer_due index.Shifted = row_due 14 tt
answer_due index.Independent = row_due 15 tt
answer_due index.Zero = row_due 16 tt
answer_due index.Front = row_due 17 tt
answer_due index.Hysteresis = row_due 18 tt
answer_due index.Repeatability = row_due 19 tt
answer_due index.Lh = row_due 20 tt
answer_due index.Lhr = row_due 21 tt

-- ---- its sheet
-- the paper's nine lines, and those of zero-based and front terminal-based linearity
abbrev pub paper_lines : List ℕ
paper_lines =
    printed
    ("points 3 cycles 2"
    ∷ "terminal 97/2000 4.850"
    ∷ "shifted 97/4000 2.425"
    ∷ "independent 97/4000 2.425"
    ∷ "zero 32/969 3.302"
    ∷ "front 97/2903 3.341"
    ∷ "hysteresis 1/200 0.500"
    ∷ "repeatability 9/1000 0.900"
    ∷ "lh 13/500 2.600"
    ∷ "lhr 61/2000 3.050"
    ∷ "line 100/1 -57/1"
    ∷ [])

-- computed
lines_are : lines sample.m sample.n paper_answer ≡ paper_lines
unfolding digits filled cycles written_out
lines_are = refl

pub paper_sheet : SheetDue (file sample) paper_lines
paper_sheet = subst (SheetDue (file sample)) lines_are (sheet_of_run sample passes trimmed_already paper_answer answer_due)

-- and no other is
pub paper_sheet_only : {t : List ℕ} → SheetDue (file sample) t → t ≡ paper_lines
paper_sheet_only d = one_sheet d paper_sheet
