-- Pairs of inputs that lie beyond a fixed point, the value v/d at the input x: what each pair keeps the lines through that point off by. Method: no public statement cites this file.
use Rattle.std.specs.Prelude.{◌≡◌, ℕ, ◌*◌, ◌<◌, ◌≤◌, ℤ, pos, nat_abs, ◌+ℤ◌, ◌-ℤ◌, ◌*ℤ◌, ◌≤ℤ◌, ◌<ℤ◌}
use Rattle.band.specs.Line.{Line, Points}

-- how far an input lies beyond x, and its value above v
abbrev pub ahead : Points → (x : ℤ) → ℕ → ℤ
ahead P x i = P.x i -ℤ x

abbrev pub rise : Points → (v : ℤ) → ℕ → ℤ
rise P v i = P.low i -ℤ v

-- no line through the point has both values nearer than num/(den·d)
abbrev pub num : Points → (x v : ℤ) → (i j : ℕ) → ℤ
num P x v i j = rise P v i *ℤ ahead P x j -ℤ rise P v j *ℤ ahead P x i

abbrev pub den : Points → (x : ℤ) → (i j : ℕ) → ℤ
den P x i j = ahead P x i +ℤ ahead P x j

-- two inputs beyond x; they may be one
pub record Fits (P : Points) (x : ℤ) (i j : ℕ) : Type 0 where
  pub i_fits : i < P.m
  pub j_fits : j < P.m
  pub i_ahead : pos 0 <ℤ ahead P x i
  pub j_ahead : pos 0 <ℤ ahead P x j

-- the fraction of the pair k, l is at most n/z
abbrev pub AtMost : Points → (x v : ℤ) → (n z : ℤ) → (k l : ℕ) → Type 0
AtMost P x v n z k l = (num P x v k l *ℤ z) ≤ℤ (n *ℤ den P x k l)

-- the pair whose fraction is greatest
pub record Greatest (P : Points) (x v : ℤ) (i j : ℕ) : Type 0 where
  pub fits : Fits P x i j
  pub all : (k l : ℕ) → Fits P x k l → AtMost P x v (num P x v i j) (den P x i j) k l

-- no input lies before x: where x is 0, none is negative
abbrev pub Beyond : Points → (x : ℤ) → Type 0
Beyond P x = (i : ℕ) → i < P.m → x ≤ℤ P.x i

-- the width of a pair is wide/part
abbrev pub wide : Points → (x v : ℤ) → (i j : ℕ) → ℕ
wide P x v i j = nat_abs (num P x v i j)

abbrev pub part : Points → (x : ℤ) → (i j : ℕ) → ℕ
part P x i j = nat_abs (den P x i j) * P.d

-- the line through the point that leaves both values of the pair as far off, on its two sides
abbrev pub pair_line : (P : Points) (x v : ℤ) (i j : ℕ) → 0 < part P x i j → Line
pair_line P x v i j some = record {
  a = rise P v i +ℤ rise P v j;
  b = v *ℤ den P x i j -ℤ (rise P v i +ℤ rise P v j) *ℤ x;
  q = part P x i j;
  some = some;
}

-- where the first input is x itself, its value lies no further off than the pair
abbrev pub Nearer : Points → (x v : ℤ) → (i j : ℕ) → Type 0
Nearer P x v i j = P.x 0 ≡ x → (nat_abs (rise P v 0) * nat_abs (den P x i j)) ≤ wide P x v i j

-- or further: then no line through the point comes nearer to it than it is
abbrev pub Further : Points → (x v : ℤ) → (i j : ℕ) → Type 0
Further P x v i j = (P.x 0 ≡ x) × (wide P x v i j < nat_abs (rise P v 0) * nat_abs (den P x i j))
