-- Certificates: what is told beside an answer to show that it is the one that is due.
-- A line that keeps every value within half a candidate shows that no line keeps them closer, and three points that make the candidate show that the line is the only one. Of the lines through a fixed point two points show both. So nothing is searched for.
use Rattle.std.specs.Prelude.{Bool, not, ◌&&◌, ◌||◌, List, [], ◌∷◌, ℕ, suc, ltb, eqb, ℤ, pos, nat_abs, get_or}
use Prim.Native.Nat as nat
use Rattle.std.specs.Int.Signed.{le_z}
use Rattle.whole.specs.Every.{every}
use Rattle.run.specs.Run.{input}
use Rattle.run.specs.Checks.{verdict}
use Rattle.run.specs.declared.Run.{Run}
use Rattle.band.specs.Line.{Line}
use Rattle.band.specs.Candidate.{Candidate}
use Rattle.pin.specs.Pair.{rise, wide, part}
use Rattle.bands.specs.Through.{means, stroke_points, limit_points, swing, scatter}
use Rattle.due.specs.Due.{from_zero, needs_down, scatters}
use Rattle.due.specs.declared.Answer.{Answer}
use Rattle.due.specs.declared.Index.{Index}
use Rattle.due.specs.declared.Index.TheVariants as index
use Rattle.promises.specs.Figures.{Figure}
use Rattle.promises.specs.Tests.{all, alike, half, largest_of, single, many, terminal, shifted, pinned, pinned_many, smallests, line_of, stands, width_only}

-- the limits k of each stroke, by point
pub record Limits : Type 0 where
  pub up : List ℕ
  pub down : List ℕ

abbrev pub limits : Limits → (stroke point : ℕ) → ℕ
limits l nat.zero i = get_or l.up i 0
limits l (suc s) i = get_or l.down i 0

-- what shows the line and the width of an index
pub data Shown : Index → Type 0 where
  -- a point that lies as far from the line as the width
  far : (point : ℕ) → Shown index.Terminal
  -- the points furthest below and furthest above the line
  ends : (lowest highest : ℕ) → Shown index.Shifted
  -- three points from which no line is nearer than the width
  best : Candidate → Shown index.Independent
  -- two points that no line through the origin, or through the first point, has both nearer than the width
  zero : (i j : ℕ) → Shown index.Zero
  front : (i j : ℕ) → Shown index.Front
  -- a point whose swing is the width, and three points of the independent line
  swings : (point : ℕ) → Candidate → Shown index.Hysteresis
  -- a point whose larger k is the width, such points, and every k
  varies : (point : ℕ) → Candidate → Limits → Shown index.Repeatability
  lh : Candidate → Shown index.Lh
  lhr : Candidate → Limits → Shown index.Lhr

-- beside it the width w/z, as the index's rule writes it. Where LH or the zero-based index has several lines, two of them
pub data Certificate : Index → Type 0 where
  one_line : {which : Index} → (w z : ℕ) → Shown which → Certificate which
  zero_several : (w z : ℕ) → (A B : Line) → Certificate index.Zero
  lh_several : (w z : ℕ) → Candidate → (A B : Line) → Certificate index.Lh

-- L is the best of the lines through the value v/d at the input x, and w/z its width
abbrev pub best_through : Run → (x v : ℤ) → (i j : ℕ) → Line → (w z : ℕ) → List Bool
best_through r x v i j L w z = let P = means r in all (pinned P x v i j L) ∷ all (alike (wide P x v i j) (part P x i j) w z) ∷ []

-- L is the line of the index, and w/z its width
abbrev pub shows : {which : Index} → Shown which → Run → Line → (w z : ℕ) → List Bool
shows (far i) r L w z = terminal (means r) L w z i
shows (ends i j) r L w z = shifted (means r) L w z i j
shows (best c) r L w z = single (means r) c L ∷ all (half (means r) c w z) ∷ []
shows (zero i j) r L w z = best_through r (pos 0) (pos 0) i j L w z
shows (front i j) r L w z = let P = means r in best_through r (P.x 0) (P.low 0) i j L w z
shows (swings i c) r L w z = single (means r) c L ∷ all (largest_of r.m (swing r) w i) ∷ eqb z r.n ∷ []
shows (varies i c l) r L w z = single (means r) c L ∷ all (largest_of r.m (scatter r (limits l)) w i) ∷ eqb z r.n ∷ smallests r (limits l) ∷ []
shows (lh c) r L w z = single (stroke_points r) c L ∷ all (half (stroke_points r) c w z) ∷ []
shows (lhr c l) r L w z = let P = limit_points r (limits l) in single P c L ∷ all (half P c w z) ∷ smallests r (limits l) ∷ []

-- and the answer is the one with that line and width
abbrev pub gives : {which : Index} → Certificate which → Run → Answer → List Bool
gives (one_line w z s) r a = ltb 0 z ∷ all (shows s r (line_of a) w z) ∷ all (stands r (line_of a) w z a) ∷ []
gives (zero_several w z A B) r a = let P = means r in ltb 0 z ∷ all (pinned_many P (pos 0) (pos 0) A B) ∷ all (alike (nat_abs (rise P (pos 0) 0)) P.d w z) ∷ all (width_only w z a) ∷ []
gives (lh_several w z c A B) r a = ltb 0 z ∷ all (many (stroke_points r) c A B) ∷ all (half (stroke_points r) c w z) ∷ all (width_only w z a) ∷ []

-- the input is not negative
abbrev pub from_zero_up : Run → ℕ → Bool
from_zero_up r i = le_z (pos 0) (input r i)

-- no check refuses the run, where zero-based linearity is asked for no input is negative, where the way back is asked for it has more strokes than one, and where scatter is more cycles
abbrev pub certifies : (f : Figure) → Certificate f.which → Bool
certifies f c = all (eqb (verdict f.run).number 0 ∷ (not (from_zero f.which) || every f.run.m (from_zero_up f.run)) ∷ not (needs_down f.which && eqb f.run.strokes 1) ∷ not (scatters f.which && eqb f.run.n 1) ∷ all (gives c f.run f.answer) ∷ [])
