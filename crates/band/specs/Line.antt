-- Points and lines (the paper, "The formulas in whole numbers"; the Standard, 2.3.5). Definitions only: nothing here says how a line is found.
use Rattle.std.specs.Prelude.{◌≡◌, ℕ, ◌*◌, ◌-◌, ◌<◌, ◌≤◌, ℤ, pos, nat_abs, ◌+ℤ◌, ◌-ℤ◌, ◌*ℤ◌, ◌≤ℤ◌, ◌<ℤ◌}

-- the line (a·x + b)/q
pub record Line : Type 0 where
  pub a : ℤ
  pub b : ℤ
  pub q : ℕ
  pub some : 0 < q

-- m inputs, and at each a lowest and a highest value, which count units of 1/d
pub record Points : Type 0 where
  pub m : ℕ
  pub d : ℕ
  pub x : ℕ → ℤ
  pub low : ℕ → ℤ
  pub high : ℕ → ℤ

-- inputs that rise strictly, and at each a lowest value that is not above the highest
pub record Proper (P : Points) : Type 0 where
  pub two : 2 ≤ P.m
  pub unit : 0 < P.d
  pub rise : (i j : ℕ) → i < j → j < P.m → P.x i <ℤ P.x j
  pub order : (i : ℕ) → i < P.m → P.low i ≤ℤ P.high i

-- one value at each input
abbrev pub OneValue : Points → Type 0
OneValue P = (i : ℕ) → i < P.m → P.low i ≡ P.high i

-- how far the value v/d at the input x lies above the line, times q·d
abbrev pub off : Points → Line → ℤ → ℤ → ℤ
off P L x v = pos L.q *ℤ v -ℤ pos P.d *ℤ (L.a *ℤ x +ℤ L.b)

-- no value lies further than w/z from the line
pub record Within (P : Points) (L : Line) (w z : ℕ) : Type 0 where
  pub low : (i : ℕ) → i < P.m → nat_abs (off P L (P.x i) (P.low i)) * z ≤ w * (L.q * P.d)
  pub high : (i : ℕ) → i < P.m → nat_abs (off P L (P.x i) (P.high i)) * z ≤ w * (L.q * P.d)

-- w/z is the line's largest deviation: no value lies further, and no smaller number can be said
pub record Largest (P : Points) (L : Line) (w z : ℕ) : Type 0 where
  pub some : 0 < z
  pub within : Within P L w z
  pub least : (w' z' : ℕ) → 0 < z' → Within P L w' z' → w * z' ≤ w' * z

-- ---- families of lines
abbrev pub All : Line → Type 0
All L = Unit {0}

-- the lines of L's slope
abbrev pub Parallel : Line → Line → Type 0
Parallel L M = M.a *ℤ pos L.q ≡ L.a *ℤ pos M.q

-- the lines through the value v/d at the input x
abbrev pub Passing : Points → (x v : ℤ) → Line → Type 0
Passing P x v L = off P L x v ≡ pos 0

-- through the origin (2.3.5.4)
abbrev pub Zero : Points → Line → Type 0
Zero P L = Passing P (pos 0) (pos 0) L

-- through the first point, at which there is one value (2.3.5.5)
abbrev pub Front : Points → Line → Type 0
Front P L = Passing P (P.x 0) (P.low 0) L

-- w/z is the least largest deviation in the family F: a line of F reaches it, and none has a smaller one
pub record Least (F : Line → Type 0) (P : Points) (w z : ℕ) : Type 0 where
  pub some : 0 < z
  pub line : Line
  pub member : F line
  pub reached : Within P line w z
  pub least : (L : Line) (w' z' : ℕ) → F L → 0 < z' → Within P L w' z' → w * z' ≤ w' * z

-- two lines are one
pub record Same (L M : Line) : Type 0 where
  pub slope : L.a *ℤ pos M.q ≡ M.a *ℤ pos L.q
  pub offset : L.b *ℤ pos M.q ≡ M.b *ℤ pos L.q

-- at most one line of F is within w/z
abbrev pub Single : (Line → Type 0) → Points → ℕ → ℕ → Type 0
Single F P w z = (L M : Line) → F L → F M → Within P L w z → Within P M w z → Same L M

-- two different lines of F are within w/z
pub record Several (F : Line → Type 0) (P : Points) (w z : ℕ) : Type 0 where
  pub one : Line
  pub two : Line
  pub one_of : F one
  pub two_of : F two
  pub one_in : Within P one w z
  pub two_in : Within P two w z
  pub differ : Same one two → ⊥

-- ---- the terminal line (2.3.5.2): it passes through the first and the last point, at each of which there is one value
pub record Terminal (P : Points) (L : Line) : Type 0 where
  pub first : Front P L
  pub last : Passing P (P.x (P.m - 1)) (P.low (P.m - 1)) L
