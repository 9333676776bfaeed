-- Demand 2. "Each accepted run gives exactly the means, lines and indices of the Standard, as fractions in lowest terms. The independent line has the least largest deviation. Writing a run and reading it back gives the same run; reading a file and writing it gives the same records in travel order." The statement; `Demand2Holds` proves it.
--
-- What it says: of a run that no check refuses, of two strokes or of an up stroke only (request C-13), every mean is the sum over all n cycles over its unit, and a mean of a stroke that the run does not have is 0/1; an index that is accepted has a line and a width that `Fits` names for it, and is that width over the full-span output of that line; under 11 that line has slope zero, and under 12 several lines reach the width; all fractions are in lowest terms. The reported independent line keeps every mean within the reported width, and no line of fractions keeps them within less; the same holds of the zero-based line among the lines through the origin, and of the front terminal-based line among those through the first point, where no other line ever reaches the width. The shifted line is the terminal line moved as the paper says. What the writer puts into any buffer that is long enough is read back as the run; of an accepted byte string it puts the same records in travel order there. What stands beyond the points, cycles and strokes of a run counts for nothing. That these answers exist and are the only ones, and exactly when each number is given, is demand 1.
-- What it does not say: that a sensor's readings are right, or that a file holds the readings that were taken.
use Rattle.std.specs.Prelude.{◌≡◌, List, ◌⊎◌, ◌↔◌, ℕ, ◌*◌, ◌<◌, ◌≤◌, ℤ, pos, nat_abs, ◌+ℤ◌, ◌-ℤ◌, ◌*ℤ◌, length, take, get_or}
use Rattle.exact.specs.Value.{Worth, Lowest, nought}
use Rattle.exact.specs.Rounding.{Nearest}
use Rattle.exact.specs.declared.Fraction.{Fraction}
use Rattle.run.specs.Run.{input, reading}
use Rattle.run.specs.Checks.{verdict}
use Rattle.run.specs.declared.Run.{Run}
use Rattle.groups.specs.Sums.{total, up_sum, both_sum}
use Rattle.reader.specs.Meaning.{meaning}
use Rattle.reader.specs.ReadFine as read
use Rattle.writer.specs.File.{file, written, buffer_after}
use Rattle.records.specs.Travel.{trimmed, TrimmedOf}
use Rattle.runfile.specs.RecordLaws.{Bytes}
use Rattle.runfile.specs.Accepted.{Rewritten}
use Rattle.averages.specs.Averages.{AveragesDue}
use Rattle.averages.specs.declared.Averages.{Averages}
use Rattle.band.specs.Line.{Line, All, Zero, Front, Least, Single, Terminal}
use Rattle.band.specs.Shift.{Range}
use Rattle.bands.specs.Through.{means}
use Rattle.due.specs.Due.{Best, Fits, SeveralFit, span, Due}
use Rattle.due.specs.declared.Answer.{Answer}
use Rattle.due.specs.declared.Index.{Index}
use Rattle.due.specs.declared.Index.TheVariants as kinds
use Rattle.promises.specs.Enums.{SameAnswers}
use Rattle.promises.specs.Reported.{Reports}

-- ---- means, lines and indices
-- f is n/d, in lowest terms, where d is not zero
pub record Is (n : ℤ) (d : ℕ) (f : Fraction) : Type 0 where
  pub lowest : Lowest f
  pub worth : Worth f n d

-- formulas 1 to 3 at a point. A run with an up stroke only has no mean of the down stroke: it is told as 0/1, and T is twice U (request C-13)
pub record MeansAt (r : Run) (a : Averages) (i : ℕ) : Type 0 where
  pub up : Is (up_sum r i) r.n (get_or a.up i nought)
  pub down : r.strokes ≡ 2 → Is (total r 1 i) r.n (get_or a.down i nought)
  pub no_down : r.strokes ≡ 1 → get_or a.down i nought ≡ nought
  pub both : Is (both_sum r i) (2 * r.n) (get_or a.both i nought)
  pub sum_of_both : r.strokes ≡ 2 → both_sum r i ≡ up_sum r i +ℤ total r 1 i
  pub twice_up : r.strokes ≡ 1 → both_sum r i ≡ pos 2 *ℤ up_sum r i
  pub both_is_up : r.strokes ≡ 1 → get_or a.both i nought ≡ get_or a.up i nought

-- the line of an index and its width w/z, as the answer reports them
pub record Drawn (which : Index) (r : Run) (a : Answer) : Type 0 where
  pub line : Line
  pub w : ℕ
  pub z : ℕ
  pub fits : Fits which r line w z
  pub width : Is (pos w) z a.width
  pub slope : Is line.a line.q a.slope
  pub offset : Is line.b line.q a.offset

-- an index that is accepted: the width over the full-span output of the line
pub record Accepted (which : Index) (r : Run) (a : Answer) : Type 0 where
  pub drawn : Drawn which r a
  pub output : 0 < nat_abs drawn.line.a * span r
  pub index : Is (pos (drawn.w * drawn.line.q)) (drawn.z * (nat_abs drawn.line.a * span r)) a.index
  pub thousandths : Nearest (100000 * nat_abs a.index.num) a.index.den a.thousandths

-- 11: the line has slope zero
pub record Flat (which : Index) (r : Run) (a : Answer) : Type 0 where
  pub drawn : Drawn which r a
  pub slope : drawn.line.a ≡ pos 0

-- 12: several lines reach the width w/z
pub record Divided (which : Index) (r : Run) (a : Answer) : Type 0 where
  pub w : ℕ
  pub z : ℕ
  pub several : SeveralFit which r w z
  pub width : Is (pos w) z a.width

-- the shifted line: the terminal line's slope, its offset moved by half the sum of the largest and the smallest signed deviation, and half their difference for width. The deviations of the means from the terminal line (a·x + b)/q, times q·d, range from lo to hi, where d is 2n
pub record Moved (r : Run) (a : Answer) : Type 0 where
  pub base : Line
  pub terminal : Terminal (means r) base
  pub lo : ℤ
  pub hi : ℤ
  pub range : Range (means r) base lo hi
  pub slope : Is base.a base.q a.slope
  pub offset : let d = 2 * r.n in Is (pos (2 * d) *ℤ base.b +ℤ (lo +ℤ hi)) (2 * d * base.q) a.offset
  pub width : let d = 2 * r.n in Is (hi -ℤ lo) (2 * d * base.q) a.width

-- ---- files
-- what is written into the buffer is read back as the run, its strokes too, with zeros beyond m, n and the strokes
pub record WrittenBack (r : Run) (buffer : List ℕ) : Type 0 where
  pub number : (written r buffer).number ≡ 0
  pub back : meaning (take (written r buffer).len (buffer_after r buffer)) ≡ read.given (trimmed r)

-- what is written there are the records of s, in travel order, in as many bytes
pub record SameRecords (s : List ℕ) (r : Run) (buffer : List ℕ) : Type 0 where
  pub number : (written r buffer).number ≡ 0
  pub len : (written r buffer).len ≡ length s
  pub bytes : take (written r buffer).len (buffer_after r buffer) ≡ file r
  pub records : Rewritten s r

-- ---- what stands beyond m, n and the strokes
-- the runs have the same numbers at the points, cycles and strokes of a run, whatever stands beyond them
pub record SameWithin (r q : Run) : Type 0 where
  pub m : r.m ≡ q.m
  pub n : r.n ≡ q.n
  pub strokes : r.strokes ≡ q.strokes
  pub inputs : (i : ℕ) → i < q.m → input r i ≡ input q i
  pub readings : (s c i : ℕ) → s < q.strokes → c < q.n → i < q.m → reading r s c i ≡ reading q s c i

-- and so they have the same answers
pub record Alike (r q : Run) : Type 0 where
  pub check : verdict r ≡ verdict q
  pub index : (which : Index) (a : Answer) → Due which r a ↔ Due which q a
  pub averages : (a : Averages) → AveragesDue r a ↔ AveragesDue q a
  pub written : (buffer : List ℕ) → written r buffer ≡ written q buffer
  pub after : (buffer : List ℕ) → buffer_after r buffer ≡ buffer_after q buffer

-- ---- of a run that no check refuses
pub record Standard (r : Run) : Type 0 where
  pub strokes : (r.strokes ≡ 1) ⊎ (r.strokes ≡ 2)
  pub averages : (a : Averages) → AveragesDue r a → (i : ℕ) → i < r.m → MeansAt r a i
  pub index : (which : Index) (a : Answer) → Due which r a → a.number ≡ 0 → Accepted which r a
  pub flat : (which : Index) (a : Answer) → Due which r a → a.number ≡ 11 → Flat which r a
  pub divided : (which : Index) (a : Answer) → Due which r a → a.number ≡ 12 → Divided which r a
  -- the reported independent line has the least largest deviation, under 11 too
  pub independent : (a : Answer) → Due kinds.Independent r a → (L : Line) → Reports a L → Best All (means r) L (nat_abs a.width.num) a.width.den
  -- the shifted line, under 11 too
  pub shifted : (a : Answer) → Due kinds.Shifted r a → Moved r a
  -- the reported zero-based line has the least of the lines through the origin, and the front terminal-based line the least of those through the first point
  pub zero : (a : Answer) → Due kinds.Zero r a → (a.number ≡ 12 → ⊥) → (a.number ≡ 15 → ⊥) → (L : Line) → Reports a L → Best (Zero (means r)) (means r) L (nat_abs a.width.num) a.width.den
  pub front : (a : Answer) → Due kinds.Front r a → (L : Line) → Reports a L → Best (Front (means r)) (means r) L (nat_abs a.width.num) a.width.den
  -- 12 is never due for the front terminal-based line: where a line through the first point has the least, it is the only one
  pub front_single : (w z : ℕ) → Least (Front (means r)) (means r) w z → Single (Front (means r)) (means r) w z
  -- an answer under 0 or 11 reports a line
  pub reports : (which : Index) (a : Answer) → Due which r a → (a.number ≡ 12 → ⊥) → (a.number ≡ 13 → ⊥) → (a.number ≡ 15 → ⊥) → (a.number ≡ 16 → ⊥) → (L : Line) × Reports a L
  -- written and read back it is the same run, with zeros beyond m, n and the strokes
  pub back : (buffer : List ℕ) → length (file r) ≤ length buffer → WrittenBack r buffer
  pub same : TrimmedOf r (trimmed r)
  -- its file is a byte string, so that what follows speaks of it
  pub bytes : Bytes (file r)
  -- what `fit`, `pin` and `exact` answer of its points is what stands under its indices
  pub enums : SameAnswers r

pub record Demand2 : Type 0 where
  pub run : (r : Run) → (verdict r).number ≡ 0 → Standard r
  -- a byte string that is accepted as the run r: it has at most 1,830 bytes, and what the writer puts into a buffer at least as long are the same records in travel order
  pub rewritten : (s : List ℕ) (r : Run) → Bytes s → meaning s ≡ read.given r → (buffer : List ℕ) → length s ≤ length buffer → SameRecords s r buffer
  pub longest : (s : List ℕ) → Bytes s → (meaning s).number ≡ 0 → length s ≤ 1830
  -- what stands beyond m, n and the strokes counts for nothing: any two runs that are the same within have the same answers, and so have any run and the same with zeros there
  pub within : (r q : Run) → SameWithin r q → Alike r q
  pub zeros : (r : Run) → Alike r (trimmed r)
