-- Tests that compute, of numbers, of lines and of answers. `TestLaws`, `LineLaws`, `PinLaws` and `LimitLaws` prove what each of them shows.
use Rattle.std.specs.Prelude.{Bool, true, false, cond, not, ◌&&◌, ◌||◌, List, [], ◌∷◌, ℕ, zero, suc, ◌*◌, ◌-◌, ◌%◌, leb, ltb, eqb, ℤ, pos, nat_abs, ◌-ℤ◌, ◌*ℤ◌}
use Rattle.std.proofs.Common.{arith}
use Rattle.std.specs.Int.Signed.{le_z, lt_z}
use Rattle.whole.specs.Every.{every}
use Rattle.exact.proofs.RoundingLaws.{some_nearest}
use Rattle.exact.specs.declared.Fraction.{Fraction}
use Rattle.run.specs.declared.Run.{Run}
use Rattle.groups.specs.LimitTest.{smallest}
use Rattle.band.specs.Line.{Line, Points, off}
use Rattle.band.specs.Candidate.{Candidate, one, up, down, num, wide, part}
use Rattle.band.specs.Terminal.{terminal_part}
use Rattle.pin.specs.Pair as pair
use Rattle.due.specs.Due.{span}
use Rattle.due.specs.declared.Answer.{Answer}

-- every test of a list
abbrev pub all : List Bool → Bool
all [] = true
all (b ∷ bs) = b && all bs

-- ---- numbers
abbrev pub same : ℤ → ℤ → Bool
same a b = le_z a b && le_z b a

-- Euclid's divisor, in so many steps
unfoldable pub divisor : (steps a b : ℕ) → ℕ
divisor zero a b = 0
divisor (suc n) a zero = a
divisor (suc n) a (suc b) = divisor n (suc b) (a % suc b)

abbrev pub zero_one : Fraction → Bool
zero_one f = same f.num (pos 0) && eqb f.den 1

-- f is made of n and d
abbrev pub made : ℤ → ℕ → Fraction → List Bool
made n d f = ltb 0 f.den ∷ eqb (divisor 64 (nat_abs f.num) f.den) 1 ∷ same (f.num *ℤ pos d) (n *ℤ pos f.den) ∷ (ltb 0 d || zero_one f) ∷ []

-- t is the whole number that the rule of rounding has for v/d
abbrev pub nearest : (v d t : ℕ) → Bool
nearest v zero t = false
nearest v (suc d) t = eqb (some_nearest v (suc d) (omega arith)).0 t

-- w/z and w'/z' are one number
abbrev pub alike : (w z w' z' : ℕ) → List Bool
alike w z w' z' = ltb 0 z ∷ ltb 0 z' ∷ eqb (w * z') (w' * z) ∷ []

abbrev pub largest_of : (m : ℕ) → (ℕ → ℕ) → (w at : ℕ) → List Bool
largest_of m g w at = every m (λ i. leb (g i) w) ∷ ltb at m ∷ eqb (g at) w ∷ []

-- ---- lines
-- the line (a·x + b)/q, q above zero
abbrev pub line : (a b : ℤ) → (q : ℕ) → Line
line a b q = record { a = a; b = b; q = suc (q - 1); some = omega arith }

abbrev pub height : Points → Line → ℕ → ℤ
height P L i = off P L (P.x i) (P.low i)

abbrev pub top : Points → Line → ℕ → ℤ
top P L i = off P L (P.x i) (P.high i)

abbrev pub near : Points → Line → (w z : ℕ) → ℤ → Bool
near P L w z v = leb (nat_abs v * z) (w * (L.q * P.d))

abbrev pub within : Points → Line → (w z : ℕ) → Bool
within P L w z = every P.m (λ i. near P L w z (height P L i) && near P L w z (top P L i))

abbrev pub among : ℕ → Candidate → Bool
among m (one i) = ltb i m
among m (up i j k) = ltb i j && (ltb j k && ltb k m)
among m (down i j k) = ltb i j && (ltb j k && ltb k m)

abbrev pub triple : Candidate → Bool
triple (one i) = false
triple (up i j k) = true
triple (down i j k) = true

-- the line keeps every value within half the candidate, so that no candidate is greater
abbrev pub greatest : Points → Candidate → Line → List Bool
greatest P c L = among P.m c ∷ le_z (pos 0) (num P c) ∷ within P L (wide P c) (part P c) ∷ []

abbrev pub single : Points → Candidate → Line → Bool
single P c L = triple c && all (greatest P c L)

-- half the candidate is w/z
abbrev pub half : Points → Candidate → (w z : ℕ) → List Bool
half P c w z = alike (wide P c) (part P c) w z

abbrev pub unlike : (one two : Line) → Bool
unlike A B = not (same (A.a *ℤ pos B.q) (B.a *ℤ pos A.q))

-- two lines within half the candidate, of different slope
abbrev pub many : Points → Candidate → (one two : Line) → List Bool
many P c A B = all (greatest P c A) ∷ within P B (wide P c) (part P c) ∷ unlike A B ∷ []

abbrev pub terminal : Points → Line → (w z at : ℕ) → List Bool
terminal P L w z at =
    same (height P L 0) (pos 0) ∷ same (height P L (P.m - 1)) (pos 0) ∷ within P L w z ∷ ltb at P.m ∷ eqb (nat_abs (height P L at) * z) (w * (L.q * P.d)) ∷ []

abbrev pub between : Points → Line → (i j p : ℕ) → Bool
between P L i j p = le_z (height P L i) (height P L p) && le_z (top P L p) (top P L j)

-- the line has the terminal line's slope, and the widest heights above and below it are w/z each
abbrev pub shifted : Points → Line → (w z i j : ℕ) → List Bool
shifted P L w z i j =
    same (L.a *ℤ pos (terminal_part P)) ((P.low (P.m - 1) -ℤ P.low 0) *ℤ pos L.q)
    ∷ within P L w z
    ∷ ltb i P.m
    ∷ ltb j P.m
    ∷ every P.m (between P L i j)
    ∷ all (alike (nat_abs (top P L j -ℤ height P L i)) (2 * L.q * P.d) w z)
    ∷ []

-- an input beyond x
abbrev pub is_ahead : Points → (x : ℤ) → ℕ → Bool
is_ahead P x i = ltb i P.m && lt_z (pos 0) (pair.ahead P x i)

-- the line passes through the value v/d at the input x, and keeps every value within what the pair i, j keeps such lines off by
abbrev pub pinned : Points → (x v : ℤ) → (i j : ℕ) → Line → List Bool
pinned P x v i j L = is_ahead P x i ∷ is_ahead P x j ∷ same (off P L x v) (pos 0) ∷ within P L (pair.wide P x v i j) (pair.part P x i j) ∷ []

-- the first input is x, and how far its value lies from v is what two lines through the point keep every value within, of different slope
abbrev pub pinned_many : Points → (x v : ℤ) → (one two : Line) → List Bool
pinned_many P x v A B =
    let w = nat_abs (pair.rise P v 0) in
    same (P.x 0) x ∷ same (off P A x v) (pos 0) ∷ same (off P B x v) (pos 0) ∷ within P A w P.d ∷ within P B w P.d ∷ unlike A B ∷ []

-- ---- limits
abbrev pub smallests : Run → (k : ℕ → ℕ → ℕ) → Bool
smallests r k = every r.m (λ i. every r.strokes (λ s. smallest r s i (k s i)))

-- ---- answers
-- the line of the answer's slope and offset
abbrev pub line_of : Answer → Line
line_of a = line (a.slope.num *ℤ pos a.offset.den) (a.offset.num *ℤ pos a.slope.den) (a.slope.den * a.offset.den)

abbrev pub stands : Run → Line → (w z : ℕ) → Answer → List Bool
stands r L w z a =
    eqb a.number (cond (eqb (nat_abs L.a) 0) 11 0)
    ∷ eqb a.place 0
    ∷ all (made (pos w) z a.width)
    ∷ all (made L.a L.q a.slope)
    ∷ all (made L.b L.q a.offset)
    ∷ all (made (pos (w * L.q)) (z * (nat_abs L.a * span r)) a.index)
    ∷ nearest (100000 * nat_abs a.index.num) a.index.den a.thousandths
    ∷ []

-- only the width stands, under 12
abbrev pub width_only : (w z : ℕ) → Answer → List Bool
width_only w z a = eqb a.number 12 ∷ eqb a.place 0 ∷ all (made (pos w) z a.width) ∷ zero_one a.slope ∷ zero_one a.offset ∷ zero_one a.index ∷ eqb a.thousandths 0 ∷ []
