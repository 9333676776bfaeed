-- The figures of the paper that are marked P, as one table (the paper, "Figures to meet"): a run, an index, and every field of the answer. `Certified` proves that each answer is the one that is due.
-- The rows of Zero and Front are those of request C-11, of the paper's run, and one where an input at zero decides the width. The last three are the halves of request C-12.
-- Tables A4 and A1 of the Standard stand in hundredths, as one cycle with both strokes equal.
use Rattle.std.specs.Prelude.{List, [], ◌∷◌, ℕ, ℤ, pos, negsuc}
use Rattle.exact.specs.declared.Fraction.{Fraction}
use Rattle.run.specs.Sample.{written_out, sample}
use Rattle.run.specs.declared.Run.{Run}
use Rattle.due.specs.declared.Answer.{Answer}
use Rattle.due.specs.declared.Index.{Index}
use Rattle.due.specs.declared.Index.TheVariants as index

abbrev pub over : ℤ → ℕ → Fraction
over n d = record { num = n; den = d }

abbrev pub whole : ℕ → Fraction
whole n = over (pos n) 1

-- number, width, slope, offset, index, thousandths; the place is 0 in all of them
abbrev pub fields : ℕ → (width slope offset index : Fraction) → ℕ → Answer
fields number width slope offset index thousandths = record { number = number; place = 0; width = width; slope = slope; offset = offset; index = index; thousandths = thousandths }

-- one cycle
abbrev pub once : (inputs up down : List ℕ) → Run
once inputs up down = written_out 1 inputs (up ∷ []) (down ∷ [])

abbrev pub a4 : Run
a4 = let y : List ℕ = 202 ∷ 400 ∷ 598 ∷ 790 ∷ 1010 ∷ 1205 ∷ [] in once (1 ∷ 2 ∷ 3 ∷ 4 ∷ 5 ∷ 6 ∷ []) y y

abbrev pub a1 : Run
a1 = let y : List ℕ = 3 ∷ 1005 ∷ 2020 ∷ 2960 ∷ 3990 ∷ 5000 ∷ [] in once (0 ∷ 1 ∷ 2 ∷ 3 ∷ 4 ∷ 5 ∷ []) y y

-- inputs 0, 10, 20; 0 and 200 at the ends, two readings in the middle
abbrev pub middle : (up down : ℕ) → Run
middle up down = once (0 ∷ 10 ∷ 20 ∷ []) (0 ∷ up ∷ 200 ∷ []) (0 ∷ down ∷ 200 ∷ [])

abbrev pub zeros : Run
zeros = let y : List ℕ = 0 ∷ 0 ∷ 0 ∷ [] in once (0 ∷ 10 ∷ 20 ∷ []) y y

-- the value at input zero lies further off than any line through the origin must leave the others
abbrev pub zero_decides : Run
zero_decides = let y : List ℕ = 11 ∷ 90 ∷ 210 ∷ [] in once (0 ∷ 10 ∷ 20 ∷ []) y y

-- 0 and 200,000 at the ends, one value in the middle: what it is off 100,000 counts halves of a thousandth of one percent
abbrev pub bowed : (value : ℕ) → Run
bowed value = let y : List ℕ = 0 ∷ value ∷ 200000 ∷ [] in once (0 ∷ 10 ∷ 20 ∷ []) y y

pub record Figure : Type 0 where
  pub run : Run
  pub which : Index
  pub answer : Answer

abbrev figure : Run → Index → Answer → Figure
figure run which answer = record { run = run; which = which; answer = answer }

abbrev pub figures : List Figure
figures =
    figure a4 index.Terminal (fields 0 (over (pos 69) 5) (over (pos 1003) 5) (over (pos 7) 5) (over (pos 69) 5015) 1376)
    ∷ figure a4 index.Shifted (fields 0 (over (pos 97) 10) (over (pos 1003) 5) (over (negsuc 26) 10) (over (pos 97) 10030) 967)
    ∷ figure a4 index.Independent (fields 0 (whole 9) (whole 202) (over (negsuc 8) 1) (over (pos 9) 1010) 891)
    ∷ figure a4 index.Zero (fields 0 (whole 10) (whole 200) (whole 0) (over (pos 1) 100) 1000)
    ∷ figure a4 index.Front (fields 0 (over (pos 72) 7) (over (pos 1396) 7) (over (pos 18) 7) (over (pos 18) 1745) 1032)
    ∷ figure a1 index.Terminal (fields 0 (over (pos 206) 5) (over (pos 4997) 5) (whole 3) (over (pos 206) 24985) 824)
    ∷ figure a1 index.Independent (fields 0 (over (pos 80) 3) (over (pos 2980) 3) (over (pos 20) 3) (over (pos 4) 745) 537)
    ∷ figure a1 index.Zero (fields 0 (whole 28) (whole 996) (whole 0) (over (pos 7) 1245) 562)
    ∷ figure a1 index.Front (fields 0 (over (pos 137) 5) (over (pos 4974) 5) (whole 3) (over (pos 137) 24870) 551)
    ∷ figure (middle 100 112) index.Lh (fields 0 (whole 6) (whole 10) (whole 6) (over (pos 3) 100) 3000)
    ∷ figure (middle 96 108) index.Lh (fields 12 (whole 6) (whole 0) (whole 0) (whole 0) 0)
    ∷ figure zeros index.Independent (fields 11 (whole 0) (whole 0) (whole 0) (whole 0) 0)
    ∷ figure zero_decides index.Zero (fields 12 (whole 11) (whole 0) (whole 0) (whole 0) 0)
    ∷ figure sample index.Terminal (fields 0 (whole 97) (whole 100) (whole 2) (over (pos 97) 2000) 4850)
    ∷ figure sample index.Shifted (fields 0 (over (pos 97) 2) (whole 100) (over (negsuc 92) 2) (over (pos 97) 4000) 2425)
    ∷ figure sample index.Independent (fields 0 (over (pos 97) 2) (whole 100) (over (negsuc 92) 2) (over (pos 97) 4000) 2425)
    ∷ figure sample index.Zero (fields 0 (whole 64) (over (pos 969) 10) (whole 0) (over (pos 32) 969) 3302)
    ∷ figure sample index.Front (fields 0 (over (pos 194) 3) (over (pos 2903) 30) (whole 2) (over (pos 97) 2903) 3341)
    ∷ figure sample index.Hysteresis (fields 0 (whole 10) (whole 100) (over (negsuc 92) 2) (over (pos 1) 200) 500)
    ∷ figure sample index.Repeatability (fields 0 (whole 18) (whole 100) (over (negsuc 92) 2) (over (pos 9) 1000) 900)
    ∷ figure sample index.Lh (fields 0 (whole 52) (whole 100) (over (negsuc 47) 1) (over (pos 13) 500) 2600)
    ∷ figure sample index.Lhr (fields 0 (whole 61) (whole 100) (over (negsuc 56) 1) (over (pos 61) 2000) 3050)
    ∷ figure (bowed 100001) index.Terminal (fields 0 (whole 1) (whole 10000) (whole 0) (over (pos 1) 200000) 0)
    ∷ figure (bowed 100003) index.Terminal (fields 0 (whole 3) (whole 10000) (whole 0) (over (pos 3) 200000) 2)
    ∷ figure (bowed 100005) index.Terminal (fields 0 (whole 5) (whole 10000) (whole 0) (over (pos 1) 40000) 2)
    ∷ []
