-- Demand 3. "Total uncertainty rests on square roots rounded up to one nth of a reading unit. For every accepted run of two or more cycles, no straight line keeps every exact limit point within W less that step, and a reported line keeps each closer than W plus that step." The statement; `Demand3Holds` proves it.
--
-- What it says, of a run of two strokes (request C-13): W is the width of the LHR answer, w/z in reading units, so n·w/z in sum units, and the step is one sum unit over `step`, which is 1: one nth of a reading unit. It speaks of every line of fractions, and of the limit points with the root itself, which need be no fraction. It holds for the width under 11 and 12 as well, and for the line under 11. And nothing of it is empty: a limit is known on both sides of every fraction, some line keeps every exact limit point within some width, and where the number is not 12 a line is reported.
-- What it does not say: that the reported line is the best one for the exact limit points. It is best for the rounded ones, and another line may be better for the exact ones, by less than two steps.
use Rattle.std.specs.Prelude.{◌≡◌, ◌⊎◌, ℕ, ◌*◌, ◌<◌, ◌≤◌, ℤ, pos, ◌+ℤ◌, ◌-ℤ◌, ◌*ℤ◌}
use Rattle.run.specs.Checks.{verdict}
use Rattle.run.specs.declared.Run.{Run}
use Rattle.groups.specs.Cut.{exact_limit, step}
use Rattle.band.specs.Line.{Line}
use Rattle.due.specs.Due.{Due}
use Rattle.due.specs.declared.Answer.{Answer}
use Rattle.due.specs.declared.Index.TheVariants as index
use Rattle.promises.specs.Exact.{Keeps, KeepsCloser}
use Rattle.promises.specs.Reported.{Reports}

pub record Uncertain (r : Run) (a : Answer) : Type 0 where
  -- no line keeps every exact limit point within W less the step
  pub no_line : (L : Line) → Keeps r (exact_limit r) L (pos (step * r.n) *ℤ a.width.num -ℤ pos a.width.den) (step * a.width.den) → ⊥
  -- where a line is reported it keeps every exact limit point closer than W plus the step
  pub kept : (a.number ≡ 12 → ⊥) → (L : Line) → Reports a L → KeepsCloser r (exact_limit r) L (pos (step * r.n) *ℤ a.width.num +ℤ pos a.width.den) (step * a.width.den)
  -- and a line is reported
  pub reported : (a.number ≡ 12 → ⊥) → (L : Line) × Reports a L
  -- some line keeps every exact limit point within some width
  pub some_line : (L : Line) × ((w : ℕ) × Keeps r (exact_limit r) L (pos w) 1)
  -- each exact limit is known on both sides: a fraction that it is not at most, it is at least
  pub known : (s i : ℕ) → s < r.strokes → i < r.m → (t : ℤ) (q : ℕ) → 0 < q → (exact_limit r s i).AtMost t q ⊎ (exact_limit r s i).AtLeast t q

pub record Demand3 : Type 0 where
  -- a run of two strokes: of an up stroke only LHR is refused (16)
  pub lhr : (r : Run) → (verdict r).number ≡ 0 → r.strokes ≡ 2 → 2 ≤ r.n → (a : Answer) → Due index.Lhr r a → Uncertain r a
