-- What each case of an answer that is an enum is in the paper's table ("What can be answered"), and that it is the answer an index of a run gets. The statement; `EnumLaws` proves it.
-- `fit` and `pin` answer a line of any points with `Drawn`, and `exact` a part in thousandths of one percent with an `Option`.
-- `fit` and `pin` are lent arrays of 11 numbers. What stands there beyond the last input is theirs and not the run's, so the points of the arrays are those of the run only within. `SameAnswers` takes any points that are the same within, and says that some arrays have such points.
use Rattle.std.specs.Prelude.{◌≡◌, cond, List, ℕ, ◌<◌, ◌≤◌, eqb, ℤ, pos, nat_abs, length, get_or}
use Rattle.std.specs.Prelude as std
use Rattle.std.proofs.Math.Option.{Option, none, some}
use Rattle.exact.specs.Value.{nought}
use Rattle.exact.specs.Rounding.{Told, PercentDue}
use Rattle.exact.specs.declared.Fraction.{Fraction}
use Rattle.run.specs.declared.Run.{Run}
use Rattle.groups.specs.Cut.{LimitsOf}
use Rattle.band.specs.Line.{Points}
use Rattle.band.specs.Band.{lent}
use Rattle.fit.specs.Answer.{BestDue, TerminalDue, ShiftedDue}
use Rattle.fit.specs.declared.Drawn.{Drawn}
use Rattle.fit.specs.declared.Drawn.TheVariants as drawn
use Rattle.pin.specs.Answer.{ZeroDue, FrontDue}
use Rattle.bands.specs.Through.{means, stroke_points, limit_points}
use Rattle.bands.specs.Parts.{SamePoints}
use Rattle.due.specs.Due.{Due}
use Rattle.due.specs.declared.Answer.{Answer}
use Rattle.due.specs.declared.Index.{Index}
use Rattle.due.specs.declared.Index.TheVariants as index

-- ---- a line
-- a number of the table, and what stands of the width and the line under it
pub record Lined : Type 0 where
  pub number : ℕ
  pub width : Fraction
  pub slope : Fraction
  pub offset : Fraction

-- of an answer
abbrev pub lined : Answer → Lined
lined a = record { number = a.number; width = a.width; slope = a.slope; offset = a.offset }

-- a line is 11 where its slope is zero, else 0; a width alone is 12. `Improper` has no number: no run has such points, since 3, 5, 9 or 10 refuse it, or 15 for lines through the origin
abbrev pub as_lined : Drawn → Option Lined
as_lined (drawn.Line f) = some (record { number = cond (eqb (nat_abs f.slope.num) 0) 11 0; width = f.width; slope = f.slope; offset = f.offset })
as_lined (drawn.Several h) = some (record { number = 12; width = h.width; slope = nought; offset = nought })
as_lined drawn.Improper = none

-- ---- the arrays
-- 11 numbers, of which all behind the first m are zero
abbrev pub Eleven : ℕ → List ℤ → Type 0
Eleven m l = (length l ≡ 11) × ((i : ℕ) → m ≤ i → i < 11 → get_or l i (pos 0) ≡ pos 0)

-- arrays with the points P: the inputs, and at each the lowest and the highest value. Zeros behind them, so that no number is larger than those of the points, and a function can be lent the arrays wherever P is `Admitted`
pub record Arrays (P : Points) (x low high : List ℤ) : Type 0 where
  pub inputs : Eleven P.m x
  pub lows : Eleven P.m low
  pub highs : Eleven P.m high
  pub same : SamePoints (lent P.m P.d x low high) P

-- ---- of a run that no check refuses: what the functions answer of its points is what stands under its index
pub record SameAnswers (r : Run) : Type 0 where
  pub independent : (P : Points) → SamePoints P (means r) → (d : Drawn) → BestDue P d → (a : Answer) → Due index.Independent r a → as_lined d ≡ some (lined a)
  pub terminal : (P : Points) → SamePoints P (means r) → (d : Drawn) → TerminalDue P d → (a : Answer) → Due index.Terminal r a → as_lined d ≡ some (lined a)
  pub shifted : (P : Points) → SamePoints P (means r) → (d : Drawn) → ShiftedDue P d → (a : Answer) → Due index.Shifted r a → as_lined d ≡ some (lined a)
  pub zero : (P : Points) → SamePoints P (means r) → (d : Drawn) → ZeroDue P d → (a : Answer) → Due index.Zero r a → ¬ (a.number ≡ 15) → as_lined d ≡ some (lined a)
  pub front : (P : Points) → SamePoints P (means r) → (d : Drawn) → FrontDue P d → (a : Answer) → Due index.Front r a → as_lined d ≡ some (lined a)
  pub lh : (P : Points) → SamePoints P (stroke_points r) → (d : Drawn) → BestDue P d → (a : Answer) → Due index.Lh r a → ¬ (a.number ≡ 16) → as_lined d ≡ some (lined a)
  pub lhr : (k : ℕ → ℕ → ℕ) → LimitsOf r k → (P : Points) → SamePoints P (limit_points r k) → (d : Drawn) → BestDue P d → (a : Answer) → Due index.Lhr r a → ¬ (a.number ≡ 16) → ¬ (a.number ≡ 13) → as_lined d ≡ some (lined a)
  -- `None` has no value: the fraction is negative, over zero, or too large to be told. That the index may be told is what `index_of` of `indices` promises beside `Due`
  pub thousandths : (which : Index) (a : Answer) → Due which r a → (p : std.Option ℕ) → PercentDue a.index p → Told a.index → p ≡ std.Some a.thousandths
  -- some arrays have these points, so that none of this is said of nothing, but for `lh` and `lhr` of a run with an up stroke only, which 16 refuses. The means are one array, lent twice
  pub lent_means : (x : List ℤ) × ((t : List ℤ) × Arrays (means r) x t t)
  pub lent_strokes : (x : List ℤ) × ((low : List ℤ) × ((high : List ℤ) × Arrays (stroke_points r) x low high))
  pub lent_limits : (k : ℕ → ℕ → ℕ) → LimitsOf r k → (x : List ℤ) × ((low : List ℤ) × ((high : List ℤ) × Arrays (limit_points r k) x low high))
