-- What an index stands on, in whole numbers, and what an answer and a sheet have of it. Method.
use Rattle.std.specs.Prelude.{◌≡◌, ◌⊎◌, ℕ, ◌*◌, ◌<◌, ◌≤◌, pos, nat_abs, ◌≤ℤ◌}
use Rattle.exact.specs.Value.{Made, nought}
use Rattle.exact.specs.Rounding.{Nearest, Told}
use Rattle.run.specs.Checks.{verdict}
use Rattle.run.specs.declared.Run.{Run}
use Rattle.band.specs.Line.{Line}
use Rattle.due.specs.Due.{Fits, SeveralFit, refused, only_width, BelowZero, OneStroke, OneCycle}
use Rattle.due.specs.declared.Answer.{Answer}
use Rattle.due.specs.declared.Based.{Based}
use Rattle.due.specs.declared.Ground.{Ground}
use Rattle.due.specs.declared.Ground.TheVariants as ground
use Rattle.due.specs.declared.Index.{Index}
use Rattle.due.specs.declared.Ruled.{Ruled}
use Rattle.due.specs.declared.Shown.{Shown}

-- ---- what is told of a line
-- numbers that an index may be made of: no product overruns
pub record Tellable (b : Based) : Type 0 where
  pub some : 0 < b.q
  pub unit : 0 < b.unit
  pub sign : pos 0 ≤ℤ b.num
  pub num_most : nat_abs b.num ≤ 184467440737095
  pub a_most : nat_abs b.a ≤ 412000000
  pub unit_most : b.unit ≤ 10
  pub q_most : b.q ≤ 24000000

pub record ShownParts (b : Based) (span : ℕ) (s : Shown) : Type 0 where
  pub flat : b.a ≡ pos 0 → s.number ≡ 11
  pub sloping : (b.a ≡ pos 0 → ⊥) → s.number ≡ 0
  pub index : Made b.num (b.unit * (nat_abs b.a * span)) s.index
  pub thousandths : Nearest (100000 * nat_abs s.index.num) s.index.den s.thousandths
  pub told : Told s.index

pub record LineParts (b : Based) (l : Ruled) : Type 0 where
  pub slope : Made b.a b.q l.slope
  pub offset : Made b.b b.q l.offset

-- what of an answer a sheet shows, and its line
abbrev pub shown : Answer → Shown
shown a = record { number = a.number; index = a.index; thousandths = a.thousandths }

abbrev pub ruled : Answer → Ruled
ruled a = record { slope = a.slope; offset = a.offset }

pub record AnswerParts (b : Based) (span : ℕ) (a : Answer) : Type 0 where
  pub shows : ShownParts b span (shown a)
  pub line : LineParts b (ruled a)
  pub place : a.place ≡ 0
  pub width : Made b.num (b.unit * b.q) a.width

-- ---- and of what an index stands on
-- only the number is shown
abbrev pub hidden : ℕ → Shown
hidden number = record { number = number; index = nought; thousandths = 0 }

abbrev pub Ready : Ground → Type 0
Ready (ground.Line b) = Tellable b
Ready (ground.Several h) = Unit {0}
Ready (ground.Refused k) = Unit {0}

abbrev pub ShownBy : Ground → ℕ → Shown → Type 0
ShownBy (ground.Line b) span s = ShownParts b span s
ShownBy (ground.Several h) span s = s ≡ hidden 12
ShownBy (ground.Refused k) span s = s ≡ hidden k

abbrev pub LineBy : Ground → Ruled → Type 0
LineBy (ground.Line b) l = LineParts b l
LineBy (ground.Several h) l = l ≡ record { slope = nought; offset = nought }
LineBy (ground.Refused k) l = l ≡ record { slope = nought; offset = nought }

abbrev pub AnswerBy : Ground → ℕ → Answer → Type 0
AnswerBy (ground.Line b) span a = AnswerParts b span a
AnswerBy (ground.Several h) span a = Made h.w h.q a.width × (a ≡ only_width a.width)
AnswerBy (ground.Refused k) span a = a ≡ refused k 0

-- ---- what an index of a run stands on
abbrev pub line : (b : Based) → 0 < b.q → Line
line b some = record { a = b.a; b = b.b; q = b.q; some = some }

-- its line and its width w/z, which is num/(unit·q)
pub record Rests (which : Index) (r : Run) (b : Based) : Type 0 where
  pub tellable : Tellable b
  pub w : ℕ
  pub z : ℕ
  pub some : 0 < z
  pub fits : Fits which r (line b tellable.some) w z
  pub is : w * (b.unit * b.q) ≡ nat_abs b.num * z

-- neither the run nor 15, 16 or 13 refuses it
pub record Answered (which : Index) (r : Run) : Type 0 where
  pub fine : (verdict r).number ≡ 0
  pub from_zero : BelowZero which r → ⊥
  pub strokes : OneStroke which r → ⊥
  pub cycles : OneCycle which r → ⊥

-- 15, then 16, then 13
abbrev pub Refuses : Index → Run → ℕ → Type 0
Refuses which r k = ((k ≡ 15) × BelowZero which r) ⊎ (((k ≡ 16) × (BelowZero which r → ⊥) × OneStroke which r) ⊎ ((k ≡ 13) × (BelowZero which r → ⊥) × (OneStroke which r → ⊥) × OneCycle which r))

abbrev pub GroundDue : Index → Run → Ground → Type 0
GroundDue which r (ground.Line b) = Answered which r × Rests which r b
GroundDue which r (ground.Several h) = Answered which r × (0 < h.q) × (pos 0 ≤ℤ h.w) × SeveralFit which r (nat_abs h.w) h.q
GroundDue which r (ground.Refused k) = ((verdict r).number ≡ 0) × Refuses which r k
