-- What stands beyond the points, cycles and strokes of a run counts for nothing.
use Rattle.std.specs.Prelude.{◌≡◌, refl, Bool, true, false}
use Rattle.std.proofs.Common.{sym, ap, ◌∙◌, arith}
use Rattle.std.proofs.Math.Decide.{ℕ_discrete}
use Rattle.whole.specs.Flags.{yes-T}
use Rattle.limits.specs.Limits.{fair}
use Rattle.run.specs.Run.{sizes}
use Rattle.run.specs.Laws.{sizes_sized}
use Rattle.run.specs.Checked.{checked, first_there}
use Rattle.run.specs.Checks.{Verdict, verdict}
use Rattle.run.specs.declared.Run.{Run}
use Rattle.records.specs.Travel.{trimmed}
use Rattle.records.specs.Trimmed.{input_kept, reading_kept}
use Rattle.averages.specs.Averages as averages
use Rattle.averages.specs.Averages.{AveragesDue}
use Rattle.averages.specs.declared.Averages.{Averages}
use Rattle.due.specs.Due.{refused}
use Rattle.due.specs.Cases.{Case, no_run, below_zero, one_stroke, one_cycle, given, due_case, case_due}
use Rattle.due.specs.declared.Answer.{Answer}
use Rattle.due.specs.declared.Index.{Index}
use Rattle.writer.specs.WrittenLaws.{written_unchecked, after_unchecked}
use Rattle.promises.specs.Demand2.{SameWithin, Alike}
use Rattle.promises.specs.SameVerdict.{sizes_told, same_verdict}
use Rattle.promises.specs.SameSums.{within_sym}
use Rattle.promises.specs.SameAnswer.{case_over}
use Rattle.promises.specs.SameAverages.{averages_over}
use Rattle.promises.specs.SameFile.{same_written, same_after}

-- ---- two runs of one verdict that a check refuses: nothing else is looked at
module _ (r q : Run) (v : verdict r ≡ verdict q) (n : ¬ ((verdict r).number ≡ 0)) where
  n' : ¬ ((verdict q).number ≡ 0)
  n' z = n (ap (λ (v : Verdict). v.number) v ∙ z)

  refused_case : {which : Index} {a : Answer} → Case which r a → Case which q a
  refused_case (no_run _ k) = no_run n' (k ∙ ap (λ (v : Verdict). refused v.number v.place) v)
  refused_case (below_zero z _ _) = absurd (n z)
  refused_case (one_stroke z _ _ _) = absurd (n z)
  refused_case (one_cycle z _ _ _ _) = absurd (n z)
  refused_case (given z _ _ _ _) = absurd (n z)

  refused_averages : {a : Averages} → AveragesDue r a → AveragesDue q a
  refused_averages (averages.no_run _ k) = averages.no_run n' (k ∙ ap (λ (v : Verdict). averages.refused v.number v.place) v)
  refused_averages (averages.told z _ _ _ _ _) = absurd (n z)

refused_alike : (r q : Run) (v : verdict r ≡ verdict q) (n : ¬ ((verdict r).number ≡ 0)) → Alike r q
refused_alike r q v n =
    let n' : ¬ ((verdict q).number ≡ 0) = λ z. n (ap (λ (v : Verdict). v.number) v ∙ z) in
    record {
      check = v;
      index = λ which a. (λ d. case_due (refused_case r q v n (due_case d)), λ d. case_due (refused_case q r (sym v) n' (due_case d)));
      averages = λ a. (refused_averages r q v n, refused_averages q r (sym v) n');
      written = λ buffer. written_unchecked r buffer n ∙ ap (λ (v : Verdict). record { number = v.number; place = v.place; len = 0 }) v ∙ sym (written_unchecked q buffer n');
      after = λ buffer. after_unchecked r buffer n ∙ sym (after_unchecked q buffer n');
    }

-- ---- the same numbers at the points, cycles and strokes
pub within_alike : (r q : Run) → SameWithin r q → Alike r q
within_alike r q e = go (ℕ_discrete (verdict r).number 0)
  where
    v : verdict r ≡ verdict q
    v = same_verdict r q e

    go : Dec ((verdict r).number ≡ 0) → Alike r q
    go (no n) = refused_alike r q v n
    go (yes z) =
        let z' : (verdict q).number ≡ 0 = sym (ap (λ (v : Verdict). v.number) v) ∙ z in
        record {
          check = v;
          index = λ which a. (λ d. case_due (case_over e z z' (due_case d)), λ d. case_due (case_over (within_sym e) z' z (due_case d)));
          averages = λ a. (averages_over e (first_there (checked q z')) z z', averages_over (within_sym e) (first_there (checked r z)) z' z);
          written = same_written e z z';
          after = same_after e z z';
        }

-- ---- zeros beyond them
-- trimming keeps the sizes: where they are outside their limits, 3 is told of both runs
pub zeros_alike : (r : Run) → Alike r (trimmed r)
zeros_alike r = go (fair (sizes r)) refl
  where
    go : (b : Bool) → fair (sizes r) ≡ b → Alike r (trimmed r)
    go true k =
        let most = sizes_sized r (yes-T k) in
        within_alike r (trimmed r) (record { m = refl; n = refl; strokes = refl; inputs = λ i h. sym (input_kept r most.m_most i h); readings = λ s c i hs hc hi. sym (reading_kept r most s c i hs hc hi) })
    go false k =
        let t = sizes_told r k in
        let three : (verdict r).number ≡ 3 = ap (λ (v : Verdict). v.number) t in
        refused_alike r (trimmed r) (t ∙ sym (sizes_told (trimmed r) k)) (λ z. omega arith)
