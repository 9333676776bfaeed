-- The answer that is due for an index of a run (the paper, "What can be answered" and "The formulas in whole numbers"; requests C-11 and C-13). Definitions only.
use Rattle.std.specs.Prelude.{◌≡◌, Bool, true, false, ◌⊎◌, List, [], ◌∷◌, ◌++◌, ℕ, ◌*◌, ◌-◌, ◌<◌, T, pos, nat_abs, ◌-ℤ◌, ◌<ℤ◌}
use Rattle.exact.specs.Value.{Made, nought}
use Rattle.exact.specs.Rounding.{Nearest}
use Rattle.exact.specs.declared.Fraction.{Fraction}
use Rattle.table.specs.Table.{Condition, conditions, FirstOf, given_at}
use Rattle.run.specs.Run.{input}
use Rattle.run.specs.Checks.{checks}
use Rattle.run.specs.declared.Run.{Run}
use Rattle.groups.specs.Cut.{WithLimits}
use Rattle.band.specs.Line.{Line, Points, Within, Largest, All, Parallel, Zero, Front, Least, Single, Several, Terminal}
use Rattle.bands.specs.Through.{means, stroke_points, limit_points, LargestOf, swing, scatter}
use Rattle.due.specs.declared.Answer.{Answer}
use Rattle.due.specs.declared.Index.{Index}
use Rattle.due.specs.declared.Index.TheVariants as index

-- ---- lines and widths
-- L is the one line of the family F whose largest deviation is least, and w/z is that deviation
pub record Best (F : Line → Type 0) (P : Points) (L : Line) (w z : ℕ) : Type 0 where
  pub member : F L
  pub reached : Within P L w z
  pub least : Least F P w z
  pub single : Single F P w z

-- L is the independent line
pub record Independent (r : Run) (L : Line) : Type 0 where
  pub w : ℕ
  pub z : ℕ
  pub best : Best All (means r) L w z

-- L is the best line of the terminal line's slope
pub record Shifted (P : Points) (L : Line) (w z : ℕ) : Type 0 where
  pub base : Line
  pub terminal : Terminal P base
  pub best : Best (Parallel base) P L w z

-- an index's line L and its width w/z. Hysteresis and repeatability have the independent line (4.3 note 1)
abbrev pub Fits : Index → Run → Line → (w z : ℕ) → Type 0
Fits index.Terminal r L w z = Terminal (means r) L × Largest (means r) L w z
Fits index.Shifted r L w z = Shifted (means r) L w z
Fits index.Independent r L w z = Best All (means r) L w z
Fits index.Zero r L w z = Best (Zero (means r)) (means r) L w z
Fits index.Front r L w z = Best (Front (means r)) (means r) L w z
Fits index.Hysteresis r L w z = Independent r L × LargestOf r.m (swing r) w × (z ≡ r.n)
Fits index.Repeatability r L w z = Independent r L × WithLimits r (λ k. LargestOf r.m (scatter r k) w) × (z ≡ r.n)
Fits index.Lh r L w z = Best All (stroke_points r) L w z
Fits index.Lhr r L w z = WithLimits r (λ k. Best All (limit_points r k) L w z)

-- several lines of the family F reach its least width w/z
pub record Many (F : Line → Type 0) (P : Points) (w z : ℕ) : Type 0 where
  pub least : Least F P w z
  pub several : Several F P w z

-- several lines can reach it where an input has two values, and through the origin where an input is zero
abbrev pub SeveralFit : Index → Run → (w z : ℕ) → Type 0
SeveralFit index.Terminal r w z = ⊥
SeveralFit index.Shifted r w z = ⊥
SeveralFit index.Independent r w z = ⊥
SeveralFit index.Zero r w z = Many (Zero (means r)) (means r) w z
SeveralFit index.Front r w z = ⊥
SeveralFit index.Hysteresis r w z = ⊥
SeveralFit index.Repeatability r w z = ⊥
SeveralFit index.Lh r w z = Many All (stroke_points r) w z
SeveralFit index.Lhr r w z = WithLimits r (λ k. Many All (limit_points r k) w z)

-- ---- when an index is refused
-- 15 (request C-11): zero-based linearity is asked for, and an input is negative
abbrev pub from_zero : Index → Bool
from_zero index.Terminal = false
from_zero index.Shifted = false
from_zero index.Independent = false
from_zero index.Zero = true
from_zero index.Front = false
from_zero index.Hysteresis = false
from_zero index.Repeatability = false
from_zero index.Lh = false
from_zero index.Lhr = false

pub record BelowZero (which : Index) (r : Run) : Type 0 where
  pub asked : T (from_zero which)
  pub at : ℕ
  pub within : at < r.m
  pub negative : input r at <ℤ pos 0

-- 16 (request C-13): hysteresis, repeatability, LH or LHR is asked for, and the run has an up stroke only
abbrev pub needs_down : Index → Bool
needs_down index.Terminal = false
needs_down index.Shifted = false
needs_down index.Independent = false
needs_down index.Zero = false
needs_down index.Front = false
needs_down index.Hysteresis = true
needs_down index.Repeatability = true
needs_down index.Lh = true
needs_down index.Lhr = true

abbrev pub OneStroke : Index → Run → Type 0
OneStroke which r = T (needs_down which) × (r.strokes ≡ 1)

-- 13: repeatability or LHR is asked for, and the run has one cycle
abbrev pub scatters : Index → Bool
scatters index.Terminal = false
scatters index.Shifted = false
scatters index.Independent = false
scatters index.Zero = false
scatters index.Front = false
scatters index.Hysteresis = false
scatters index.Repeatability = true
scatters index.Lh = false
scatters index.Lhr = true

abbrev pub OneCycle : Index → Run → Type 0
OneCycle which r = T (scatters which) × (r.n ≡ 1)

-- 12: more than one line has the least largest deviation w/z
pub record SeveralReach (which : Index) (r : Run) : Type 0 where
  pub w : ℕ
  pub z : ℕ
  pub some : 0 < z
  pub fit : SeveralFit which r w z

-- 11: the line of the index has slope zero
pub record LevelLine (which : Index) (r : Run) : Type 0 where
  pub line : Line
  pub w : ℕ
  pub z : ℕ
  pub some : 0 < z
  pub fits : Fits which r line w z
  pub level : line.a ≡ pos 0

-- told of place 0
abbrev pub at_zero : (number : ℕ) → Type 0 → Condition
at_zero k P = record { number = k; Told = λ p. (p ≡ 0) × P }

-- 15, then 16, then 13, then 12, then 11
abbrev pub own : Index → Run → List Condition
own which r = at_zero 15 (BelowZero which r) ∷ at_zero 16 (OneStroke which r) ∷ at_zero 13 (OneCycle which r) ∷ at_zero 12 (SeveralReach which r) ∷ at_zero 11 (LevelLine which r) ∷ []

-- behind the checks of the run
abbrev pub refusals : Index → Run → List Condition
refusals which r = conditions (checks r) ++ own which r

-- ---- what stands beside the number
-- last x minus first x
abbrev pub span : Run → ℕ
span r = nat_abs (input r (r.m - 1) -ℤ input r 0)

-- the line L and the width w/z, in lowest terms. The index is the width over the full-span output, absolute slope times span; where the slope is zero it is 0/1
pub record Stands (r : Run) (L : Line) (w z : ℕ) (a : Answer) : Type 0 where
  pub width : Made (pos w) z a.width
  pub slope : Made L.a L.q a.slope
  pub offset : Made L.b L.q a.offset
  pub index : Made (pos (w * L.q)) (z * (nat_abs L.a * span r)) a.index
  pub thousandths : Nearest (100000 * nat_abs a.index.num) a.index.den a.thousandths

-- under 0 and under 11: a line of the index and its width
pub record LineStands (which : Index) (r : Run) (a : Answer) : Type 0 where
  pub line : Line
  pub w : ℕ
  pub z : ℕ
  pub some : 0 < z
  pub fits : Fits which r line w z
  pub stands : Stands r line w z a

-- under 12 only the width
abbrev pub only_width : Fraction → Answer
only_width f = record { number = 12; place = 0; width = f; slope = nought; offset = nought; index = nought; thousandths = 0 }

pub record WidthStands (which : Index) (r : Run) (a : Answer) : Type 0 where
  pub w : ℕ
  pub z : ℕ
  pub some : 0 < z
  pub fit : SeveralFit which r w z
  pub width : Made (pos w) z a.width
  pub alone : a ≡ only_width a.width

-- under every other refusal all fractions are 0/1 and the thousandths 0
abbrev pub refused : (number place : ℕ) → Answer
refused number place = record { number = number; place = place; width = nought; slope = nought; offset = nought; index = nought; thousandths = 0 }

-- ---- the answer
pub record Due (which : Index) (r : Run) (a : Answer) : Type 0 where
  pub told : FirstOf (refusals which r) (given_at a.number a.place)
  pub line : (a.number ≡ 0) ⊎ (a.number ≡ 11) → LineStands which r a
  pub width : a.number ≡ 12 → WidthStands which r a
  pub nothing : ¬ (a.number ≡ 0) → ¬ (a.number ≡ 11) → ¬ (a.number ≡ 12) → a ≡ refused a.number a.place
