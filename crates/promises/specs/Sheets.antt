-- For each run some averages are due, and for each byte string some sheet.
use Rattle.std.specs.Prelude.{◌≡◌, refl, List, map, ℕ, ◌<◌}
use Rattle.std.proofs.Common.{sym, subst, arith}
use Rattle.std.proofs.Math.Decide.{dec_lt, ℕ_discrete}
use Rattle.exact.specs.Value.{nought}
use Rattle.exact.specs.declared.Fraction.{Fraction}
use Rattle.plain.specs.Plain.{refused_line}
use Rattle.run.specs.Places.{rising}
use Rattle.run.specs.Checks.{verdict}
use Rattle.run.specs.WrittenOut.{length_table, table_at}
use Rattle.run.specs.declared.Run.{Run}
use Rattle.reader.specs.Meaning.{meaning}
use Rattle.averages.specs.Averages.{sum, unit, reach, MeanAt, Means, AveragesDue, no_run, told}
use Rattle.averages.specs.Averages as averages
use Rattle.averages.specs.declared.Averages.{Averages}
use Rattle.averages.specs.declared.Mean.{Mean}
use Rattle.averages.specs.declared.Mean.TheVariants.{Up, Down, Both}
use Rattle.sheet_text.specs.Sheet.{lines, SheetDue, refused, accepted}
use Rattle.exact.specs.Exists.{some_made}
use Rattle.promises.specs.Exists.{some_answer}

-- ---- averages
some_mean : (which : Mean) (r : Run) (i : ℕ) → (f : Fraction) × MeanAt which r i f
some_mean which r i = go (dec_lt i (reach which r))
  where
    go : Dec (i < reach which r) → (f : Fraction) × MeanAt which r i f
    go (yes h) = let f = some_made (sum which r i) (unit which r.n) in (f.0, record { mean = λ _. f.1; beyond = λ l. absurd (omega arith) })
    go (no h) = (nought, record { mean = λ l. absurd (h l); beyond = λ _. refl })

some_means : (which : Mean) (r : Run) → (l : List Fraction) × Means which r l
some_means which r =
    let f : ℕ → Fraction = λ i. (some_mean which r i).0 in
    (map f (rising 11), record { eleven = length_table 11 f; each = λ i h. subst (MeanAt which r i) (sym (table_at 11 f i nought h)) (some_mean which r i).1 })

pub some_averages : (r : Run) → (a : Averages) × AveragesDue r a
some_averages r = go (ℕ_discrete (verdict r).number 0)
  where
    go : Dec ((verdict r).number ≡ 0) → (a : Averages) × AveragesDue r a
    go (yes e) =
        let up = some_means Up r in
        let down = some_means Down r in
        let both = some_means Both r in
        (record { number = 0; place = 0; up = up.0; down = down.0; both = both.0 }, told e refl refl up.1 down.1 both.1)
    go (no n) = (averages.refused (verdict r).number (verdict r).place, no_run n refl)

-- ---- sheets
pub some_sheet : (s : List ℕ) → (t : List ℕ) × SheetDue s t
some_sheet s = go (ℕ_discrete (meaning s).number 0)
  where
    go : Dec ((meaning s).number ≡ 0) → (t : List ℕ) × SheetDue s t
    go (yes e) = let r = (meaning s).run in (lines r.m r.n (λ i. (some_answer i r).0), accepted e (λ i. (some_answer i r).0) (λ i. (some_answer i r).1) refl)
    go (no n) = (refused_line (meaning s).number (meaning s).place, refused n refl)
