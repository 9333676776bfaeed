-- Two more sheets, derived: of a run of one cycle, where 13 is due, and of a run with a negative input, where 15 is. So the tables in `due` `Due` that say for which indices these two are given are held, index by index.
use Rattle.std.specs.Prelude.{◌≡◌, refl, List, [], ◌∷◌, map, ℕ, T, pos, negsuc}
use Rattle.std.proofs.Common.{subst, arith}
use Rattle.whole.specs.Every.{every, first_not}
use Rattle.plain.specs.Digits.{digits}
use Rattle.units.specs.Units.{no_input, an_input}
use Rattle.table.specs.Table.{given}
use Rattle.run.specs.Places.{rising, falling, cycle_places, cycles_places}
use Rattle.run.specs.Sample.{filled, cycles, written_out, sample}
use Rattle.run.specs.Checks.{fine, verdict}
use Rattle.run.specs.declared.Run.{Run}
use Rattle.records.specs.Record.{number_at}
use Rattle.records.specs.Travel.{trimmed}
use Rattle.writer.specs.File.{file}
use Rattle.groups.specs.Sums.{sum_to}
use Rattle.band.specs.Candidate.{up, down}
use Rattle.due.specs.Due.{refused, Due}
use Rattle.due.specs.Cases.{below_zero, one_cycle, case_due}
use Rattle.due.specs.declared.Answer.{Answer}
use Rattle.due.specs.declared.Index.{Index}
use Rattle.due.specs.declared.Index.TheVariants as index
use Rattle.sheet_text.specs.Sheet.{lines, SheetDue}
use Rattle.promises.specs.Figures.{over, whole, fields, middle}
use Rattle.promises.specs.Tests.{divisor}
use Rattle.promises.specs.Certificate.{Certificate, one_line, far, ends, best, zero, front, swings, varies, lh, lhr, certifies}
use Rattle.promises.proofs.CertificateLaws.{certified}
use Rattle.promises.proofs.Certified.{sample_limits}
use Rattle.promises.specs.Ascii.{printed}
use Rattle.promises.proofs.PaperSheet.{sheet_of_run}

-- a run of two strokes is not one of an up stroke only
two_not_one : ◌≡◌ {A = ℕ} 2 1 → ⊥
two_not_one e = omega arith

-- an answer that a certificate certifies
pub by : {r : Run} {i : Index} {a : Answer} (c : Certificate i) → T (certifies (record { run = r; which = i; answer = a }) c) → Due i r a
by {r} {i} {a} c t = certified (record { run = r; which = i; answer = a }) c t

-- ---- one cycle: inputs 0, 10, 20, readings 0, 100, 200 up and 0, 112, 200 down
abbrev single : Run
single = middle 100 112

abbrev single_answer : Index → Answer
single_answer index.Terminal = fields 0 (whole 6) (whole 10) (whole 0) (over (pos 3) 100) 3000
single_answer index.Shifted = fields 0 (whole 3) (whole 10) (whole 3) (over (pos 3) 200) 1500
single_answer index.Independent = fields 0 (whole 3) (whole 10) (whole 3) (over (pos 3) 200) 1500
single_answer index.Zero = fields 0 (whole 4) (over (pos 51) 5) (whole 0) (over (pos 1) 51) 1961
single_answer index.Front = fields 0 (whole 4) (over (pos 51) 5) (whole 0) (over (pos 1) 51) 1961
single_answer index.Hysteresis = fields 0 (whole 12) (whole 10) (whole 3) (over (pos 3) 50) 6000
single_answer index.Repeatability = refused 13 0
single_answer index.Lh = fields 0 (whole 6) (whole 10) (whole 6) (over (pos 3) 100) 3000
single_answer index.Lhr = refused 13 0

single_due : (i : Index) → Due i single (single_answer i)
unfolding filled cycles written_out sum_to every first_not given divisor
single_due index.Terminal = by (one_line 6 1 (far 1)) tt
single_due index.Shifted = by (one_line 3 1 (ends 0 1)) tt
single_due index.Independent = by (one_line 3 1 (best (down 0 1 2))) tt
single_due index.Zero = by (one_line 4 1 (zero 1 2)) tt
single_due index.Front = by (one_line 4 1 (front 1 2)) tt
single_due index.Hysteresis = by (one_line 12 1 (swings 1 (down 0 1 2))) tt
single_due index.Repeatability = case_due (one_cycle refl (λ b. b.asked) (λ s. two_not_one s.1) (tt, refl) refl)
single_due index.Lh = by (one_line 6 1 (lh (down 0 1 2))) tt
single_due index.Lhr = case_due (one_cycle refl (λ b. b.asked) (λ s. two_not_one s.1) (tt, refl) refl)

single_passes : verdict single ≡ fine
unfolding filled cycles written_out every first_not given
single_passes = refl

single_trimmed : trimmed single ≡ single
unfolding filled cycles written_out rising falling cycle_places cycles_places number_at
single_trimmed = refl

abbrev single_lines : List ℕ
single_lines =
    printed
    ("points 3 cycles 1"
    ∷ "terminal 3/100 3.000"
    ∷ "shifted 3/200 1.500"
    ∷ "independent 3/200 1.500"
    ∷ "zero 1/51 1.961"
    ∷ "front 1/51 1.961"
    ∷ "hysteresis 3/50 6.000"
    ∷ "repeatability refused 13"
    ∷ "lh 3/100 3.000"
    ∷ "lhr refused 13"
    ∷ "line refused 13"
    ∷ [])

single_is : lines single.m single.n single_answer ≡ single_lines
unfolding digits filled cycles written_out
single_is = refl

pub single_sheet : SheetDue (file single) single_lines
single_sheet = subst (SheetDue (file single)) single_is (sheet_of_run single single_passes single_trimmed single_answer single_due)

-- ---- a negative input: the paper's run with the inputs -10, 0, 10, so that every line has an offset that is ten slopes higher
abbrev moved : Run
moved = record { m = 3; n = 2; strokes = 2; x = filled 11 no_input (map an_input (negsuc 9 ∷ pos 0 ∷ pos 10 ∷ [])); y = sample.y }

abbrev moved_answer : Index → Answer
moved_answer index.Terminal = fields 0 (whole 97) (whole 100) (whole 1002) (over (pos 97) 2000) 4850
moved_answer index.Shifted = fields 0 (over (pos 97) 2) (whole 100) (over (pos 1907) 2) (over (pos 97) 4000) 2425
moved_answer index.Independent = fields 0 (over (pos 97) 2) (whole 100) (over (pos 1907) 2) (over (pos 97) 4000) 2425
moved_answer index.Zero = refused 15 0
moved_answer index.Front = fields 0 (over (pos 194) 3) (over (pos 2903) 30) (over (pos 2909) 3) (over (pos 97) 2903) 3341
moved_answer index.Hysteresis = fields 0 (whole 10) (whole 100) (over (pos 1907) 2) (over (pos 1) 200) 500
moved_answer index.Repeatability = fields 0 (whole 18) (whole 100) (over (pos 1907) 2) (over (pos 9) 1000) 900
moved_answer index.Lh = fields 0 (whole 52) (whole 100) (whole 952) (over (pos 13) 500) 2600
moved_answer index.Lhr = fields 0 (whole 61) (whole 100) (whole 943) (over (pos 61) 2000) 3050

moved_due : (i : Index) → Due i moved (moved_answer i)
unfolding filled cycles written_out sum_to every first_not given divisor
moved_due index.Terminal = by (one_line 97 1 (far 1)) tt
moved_due index.Shifted = by (one_line 97 2 (ends 1 0)) tt
moved_due index.Independent = by (one_line 97 2 (best (up 0 1 2))) tt
moved_due index.Zero = case_due (below_zero refl (record { asked = tt; at = 0; within = omega arith; negative = record { lt = tt } }) refl)
moved_due index.Front = by (one_line 194 3 (front 2 1)) tt
moved_due index.Hysteresis = by (one_line 20 2 (swings 1 (up 0 1 2))) tt
moved_due index.Repeatability = by (one_line 36 2 (varies 1 (up 0 1 2) sample_limits)) tt
moved_due index.Lh = by (one_line 52 1 (lh (up 0 1 2))) tt
moved_due index.Lhr = by (one_line 61 1 (lhr (up 0 1 2) sample_limits)) tt

moved_passes : verdict moved ≡ fine
unfolding filled cycles written_out every first_not given
moved_passes = refl

moved_trimmed : trimmed moved ≡ moved
unfolding filled cycles written_out rising falling cycle_places cycles_places number_at
moved_trimmed = refl

abbrev moved_lines : List ℕ
moved_lines =
    printed
    ("points 3 cycles 2"
    ∷ "terminal 97/2000 4.850"
    ∷ "shifted 97/4000 2.425"
    ∷ "independent 97/4000 2.425"
    ∷ "zero refused 15"
    ∷ "front 97/2903 3.341"
    ∷ "hysteresis 1/200 0.500"
    ∷ "repeatability 9/1000 0.900"
    ∷ "lh 13/500 2.600"
    ∷ "lhr 61/2000 3.050"
    ∷ "line 100/1 943/1"
    ∷ [])

moved_is : lines moved.m moved.n moved_answer ≡ moved_lines
unfolding digits filled cycles written_out
moved_is = refl

pub moved_sheet : SheetDue (file moved) moved_lines
moved_sheet = subst (SheetDue (file moved)) moved_is (sheet_of_run moved moved_passes moved_trimmed moved_answer moved_due)
