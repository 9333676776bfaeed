-- The whole numbers that a line is made of. Method.
use Rattle.std.specs.Prelude.{◌≡◌, ℕ, ◌*◌, ◌<◌, ◌≤◌, ℤ, pos, nat_abs, ◌+ℤ◌, ◌-ℤ◌, ◌*ℤ◌, ◌≤ℤ◌, ◌<ℤ◌}
use Rattle.exact.specs.Value.{Made}
use Rattle.band.specs.Line.{Points}
use Rattle.band.specs.Band.{Admitted}
use Rattle.fit.specs.Answer.{Told}
use Rattle.fit.specs.declared.Course.{Course}
use Rattle.fit.specs.declared.Reach.{Reach}
use Rattle.fit.specs.declared.Fit.{Fit}
use Rattle.fit.specs.declared.Wide.{Wide}

-- numbers that a line may be told with
pub record Whole (a b q w : ℤ) : Type 0 where
  pub positive : pos 0 <ℤ q
  pub sign : pos 0 ≤ℤ w
  pub a_most : nat_abs a ≤ 412000000
  pub b_most : nat_abs b ≤ 50000000000000
  pub w_most : nat_abs w ≤ 40000000000000
  pub q_most : nat_abs q ≤ 24000000

-- the line c has these numbers
pub record CourseParts (c : Course) (a b q w : ℤ) : Type 0 where
  pub whole : Whole a b q w
  pub a_is : c.a ≡ a
  pub b_is : c.b ≡ b
  pub q_is : pos c.q ≡ q
  pub w_is : c.w ≡ w

-- f is told with them
pub record FitParts (f : Fit) (a b q w : ℤ) : Type 0 where
  pub told : Told f
  pub a_is : f.a ≡ a
  pub b_is : f.b ≡ b
  pub q_is : pos f.q ≡ q
  pub w_is : f.w ≡ w

-- a line over a gap s of inputs, in units of 1/d, with the width w
pub record Over (s w : ℤ) (d : ℕ) : Type 0 where
  pub rise : pos 0 <ℤ s
  pub sign : pos 0 ≤ℤ w
  pub unit : 0 < d

-- two admitted inputs, and a width
pub record Chosen (P : Points) (i k : ℕ) (n : ℤ) : Type 0 where
  pub admitted : Admitted P
  pub order : i < k
  pub fits : k < P.m
  pub size : nat_abs n ≤ 18540000000000
  pub sign : pos 0 ≤ℤ n

-- T of the numbers of the chord over the highest values at i and k, moved down by half of n, or over the lowest, moved up, with the width n
abbrev pub OverHigh : Points → (i k : ℕ) → ℤ → (ℤ → ℤ → ℤ → ℤ → Type 0) → Type 0
OverHigh P i k n T = T (pos 2 *ℤ (P.high k -ℤ P.high i)) (pos 2 *ℤ (P.x k *ℤ P.high i -ℤ P.x i *ℤ P.high k) -ℤ n) (pos 2 *ℤ (P.x k -ℤ P.x i) *ℤ pos P.d) n

abbrev pub OverLow : Points → (i k : ℕ) → ℤ → (ℤ → ℤ → ℤ → ℤ → Type 0) → Type 0
OverLow P i k n T = T (pos 2 *ℤ (P.low k -ℤ P.low i)) (pos 2 *ℤ (P.x k *ℤ P.low i -ℤ P.x i *ℤ P.low k) -ℤ (pos 0 -ℤ n)) (pos 2 *ℤ (P.x k -ℤ P.x i) *ℤ pos P.d) n

-- T of the numbers of the line through the middles at i and j
abbrev pub PairParts : Points → (i j : ℕ) → (ℤ → ℤ → ℤ → ℤ → Type 0) → Type 0
PairParts P i j T =
    T (P.low j +ℤ P.high j -ℤ (P.low i +ℤ P.high i)) (P.x j *ℤ (P.low i +ℤ P.high i) -ℤ P.x i *ℤ (P.low j +ℤ P.high j)) (pos 2 *ℤ (P.x j -ℤ P.x i) *ℤ pos P.d)
    ((P.high i -ℤ P.low i) *ℤ (P.x j -ℤ P.x i))

-- h is the width w/(2d)
pub record ReachParts (w : ℤ) (d : ℕ) (h : Reach) : Type 0 where
  pub w_is : h.w ≡ w
  pub q_is : h.q ≡ 2 * d

-- the same with its fraction
pub record WideParts (w : ℤ) (d : ℕ) (h : Wide) : Type 0 where
  pub w_is : h.w ≡ w
  pub q_is : h.q ≡ 2 * d
  pub width : Made h.w h.q h.width
