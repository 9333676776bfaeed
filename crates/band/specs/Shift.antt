-- The line of a given slope that is best: with the deviations from a line known to range from `lo` to `hi`, the line moved by half their sum is the one of its slope that is within half their difference.
use Rattle.std.specs.Prelude.{◌≡◌, List, ◌∷◌, [], ℕ, ◌*◌, ◌<◌, ◌≤◌, ℤ, pos, nat_abs, ◌+ℤ◌, ◌-ℤ◌, ◌*ℤ◌, ◌≤ℤ◌}
use Rattle.std.proofs.Common.{sym, ap, ◌∙◌, subst, mul-pos, arith}
use Rattle.whole.specs.Balance as B
use Rattle.whole.specs.Balance.{nat}
use Rattle.whole.specs.Poly.{E, var, lit, ◌⊕◌, ◌⊖◌, ◌⊗◌}
use Rattle.whole.specs.Ring.{ring}
use Rattle.whole.specs.Sign.{NonNeg, Positive, le_sign, sign_le, le_trans, le_antisym, nonneg_add, nonneg_mul, nonneg_nat, nat_nonneg, positive_nat, positive_mul, cancel_le}
use Rattle.band.specs.Line.{Line, Points, Proper, off, Within, Least, Parallel, Single, Same}
use Rattle.band.specs.Seen.{level, within_inside, inside_within, off_order, offE}
use Rattle.band.specs.Same.{same_sym, same_trans}

-- the deviations from L, each times q·d, range from lo to hi, and reach both
pub record Range (P : Points) (L : Line) (lo hi : ℤ) : Type 0 where
  pub from : (p : ℕ) → p < P.m → lo ≤ℤ off P L (P.x p) (P.low p)
  pub to : (p : ℕ) → p < P.m → off P L (P.x p) (P.high p) ≤ℤ hi
  pub i : ℕ
  pub i_fits : i < P.m
  pub lowest : off P L (P.x i) (P.low i) ≡ lo
  pub j : ℕ
  pub j_fits : j < P.m
  pub highest : off P L (P.x j) (P.high j) ≡ hi

abbrev pub moved_part : Points → Line → ℕ
moved_part P L = 2 * P.d * L.q

abbrev pub moved : (P : Points) (L : Line) (lo hi : ℤ) → 0 < moved_part P L → Line
moved P L lo hi some = record { a = pos 2 *ℤ pos P.d *ℤ L.a; b = pos 2 *ℤ pos P.d *ℤ L.b +ℤ (lo +ℤ hi); q = moved_part P L; some = some }

-- half the difference of lo and hi, in units of the readings: wide/part
abbrev pub shift_wide : ℤ → ℤ → ℕ
shift_wide lo hi = nat_abs (hi -ℤ lo)

abbrev pub shift_part : Points → Line → ℕ
shift_part P L = 2 * L.q * P.d

-- the letters: the line, the unit, an input, a value there, and the range
abbrev q : E
q = var 0

abbrev d : E
d = var 1

abbrev a : E
a = var 2

abbrev b : E
b = var 3

abbrev x : E
x = var 4

abbrev v : E
v = var 5

abbrev l : E
l = var 6

abbrev h : E
h = var 7

pub moved_some : {P : Points} → Proper P → (L : Line) → 0 < moved_part P L
moved_some proper L = mul-pos (mul-pos {m = 2} (omega arith) proper.unit) L.some

pub moved_parallel : (P : Points) (L : Line) (lo hi : ℤ) (some : 0 < moved_part P L) → Parallel L (moved P L lo hi some)
moved_parallel P L lo hi some = ring (pos L.q ∷ pos P.d ∷ L.a ∷ []) (lit 2 ⊗ d ⊗ a ⊗ q) (a ⊗ (lit 2 ⊗ d ⊗ q)) tt

module _ {P : Points} {L : Line} {lo hi : ℤ} (proper : Proper P) (R : Range P L lo hi) where
  ordered : lo ≤ℤ hi
  ordered = subst (λ (t : ℤ). lo ≤ℤ t) R.highest (le_trans (R.from R.j R.j_fits) (off_order proper L R.j R.j_fits))

  pub wide_is : pos (shift_wide lo hi) ≡ hi -ℤ lo
  wide_is = nat_nonneg (le_sign ordered)

  pub moved_within : (some : 0 < moved_part P L) → Within P (moved P L lo hi some) (shift_wide lo hi) (shift_part P L)
  moved_within positive = inside_within proper (record {
    above = λ p f. subst NonNeg (ring (ρ p (P.high p)) (four ⊗ (h ⊖ offE q d a b x v)) (T ⊖ height) tt ∙ ap (λ (w : ℤ). w *ℤ r -ℤ pos (shift_part P L) *ℤ off P M (P.x p) (P.high p)) (sym wide_is))
        (nonneg_mul some (le_sign (R.to p f)));
    below = λ p f. subst NonNeg (ring (ρ p (P.low p)) (four ⊗ (offE q d a b x v ⊖ l)) (T ⊕ height) tt ∙ ap (λ (w : ℤ). w *ℤ r +ℤ pos (shift_part P L) *ℤ off P M (P.x p) (P.low p)) (sym wide_is))
        (nonneg_mul some (le_sign (R.from p f)));
  })
    where
      M : Line
      M = moved P L lo hi positive

      r : ℤ
      r = pos (moved_part P L) *ℤ pos P.d

      ρ : ℕ → ℤ → List ℤ
      ρ p v = pos L.q ∷ pos P.d ∷ L.a ∷ L.b ∷ P.x p ∷ v ∷ lo ∷ hi ∷ []

      four : E
      four = lit 4 ⊗ q ⊗ d ⊗ d

      T : E
      T = (h ⊖ l) ⊗ (lit 2 ⊗ d ⊗ q ⊗ d)

      height : E
      height = lit 2 ⊗ q ⊗ d ⊗ offE (lit 2 ⊗ d ⊗ q) d (lit 2 ⊗ d ⊗ a) (lit 2 ⊗ d ⊗ b ⊕ (l ⊕ h)) x v

      some : NonNeg (pos 4 *ℤ pos L.q *ℤ pos P.d *ℤ pos P.d)
      some = nonneg_nat (4 * L.q * P.d * P.d)

-- ---- a line N of L's slope sees the values as L does, but for the unit and a shift
abbrev apart : Points → Line → Line → ℤ
apart P L N = pos P.d *ℤ (L.b *ℤ pos N.q -ℤ N.b *ℤ pos L.q)

parallel_off : (P : Points) (L N : Line) → Parallel L N → (x v : ℤ) → pos L.q *ℤ off P N x v ≡ pos N.q *ℤ off P L x v +ℤ apart P L N
parallel_off P L N e x' v' =
    ring (pos L.q ∷ pos P.d ∷ N.a ∷ N.b ∷ x' ∷ v' ∷ pos N.q ∷ []) (q ⊗ offE (var 6) d a b x v) (q ⊗ var 6 ⊗ v ⊖ d ⊗ (a ⊗ q ⊗ x ⊕ b ⊗ q)) tt
    ∙ ap (λ (t : ℤ). pos L.q *ℤ pos N.q *ℤ v' -ℤ pos P.d *ℤ (t *ℤ x' +ℤ N.b *ℤ pos L.q)) e
    ∙ ring (pos L.q ∷ pos P.d ∷ L.a ∷ L.b ∷ x' ∷ v' ∷ pos N.q ∷ N.b ∷ []) (q ⊗ var 6 ⊗ v ⊖ d ⊗ (a ⊗ var 6 ⊗ x ⊕ var 7 ⊗ q)) (var 6 ⊗ offE q d a b x v ⊕ d ⊗ (b ⊗ var 6 ⊖ var 7 ⊗ q)) tt

module _ {P : Points} {L : Line} {lo hi : ℤ} (proper : Proper P) (R : Range P L lo hi) (N : Line) (parallel : Parallel L N) {w z : ℕ} (W : Within P N w z) where
  abbrev k : ℤ
  k = apart P L N

  abbrev T : ℤ
  T = pos w *ℤ (pos N.q *ℤ pos P.d)

  -- what N leaves to the level above the highest value, and below the lowest, times q
  above : NonNeg (pos L.q *ℤ T -ℤ pos z *ℤ (pos N.q *ℤ hi +ℤ k))
  above =
      let o = off P N (P.x R.j) (P.high R.j) in
      subst NonNeg
      (ring (pos L.q ∷ T ∷ pos z ∷ o ∷ []) (var 0 ⊗ (var 1 ⊖ var 2 ⊗ var 3)) (var 0 ⊗ var 1 ⊖ var 2 ⊗ (var 0 ⊗ var 3)) tt
      ∙ ap (λ (t : ℤ). pos L.q *ℤ T -ℤ pos z *ℤ t) (parallel_off P L N parallel (P.x R.j) (P.high R.j) ∙ ap (λ (t : ℤ). pos N.q *ℤ t +ℤ k) R.highest))
      (nonneg_mul (nonneg_nat L.q) ((within_inside W).above R.j R.j_fits))

  below : NonNeg (pos L.q *ℤ T +ℤ pos z *ℤ (pos N.q *ℤ lo +ℤ k))
  below =
      let o = off P N (P.x R.i) (P.low R.i) in
      subst NonNeg
      (ring (pos L.q ∷ T ∷ pos z ∷ o ∷ []) (var 0 ⊗ (var 1 ⊕ var 2 ⊗ var 3)) (var 0 ⊗ var 1 ⊕ var 2 ⊗ (var 0 ⊗ var 3)) tt
      ∙ ap (λ (t : ℤ). pos L.q *ℤ T +ℤ pos z *ℤ t) (parallel_off P L N parallel (P.x R.i) (P.low R.i) ∙ ap (λ (t : ℤ). pos N.q *ℤ t +ℤ k) R.lowest))
      (nonneg_mul (nonneg_nat L.q) ((within_inside W).below R.i R.i_fits))

  no_less : shift_wide lo hi * z ≤ w * shift_part P L
  no_less =
      let r = var 2 in let w' = var 3 in let z' = var 4 in let l = var 5 in let h = var 6 in let k' = var 7 in
      let T' = w' ⊗ (r ⊗ d) in
      omega (
        arith,
        B.le_of (nat (shift_wide lo hi * z)) (nat (w * shift_part P L))
            (sign_le (cancel_le (positive_nat N.some) (subst NonNeg
            (ring (pos L.q ∷ pos P.d ∷ pos N.q ∷ pos w ∷ pos z ∷ lo ∷ hi ∷ k ∷ []) (q ⊗ T' ⊖ z' ⊗ (r ⊗ h ⊕ k') ⊕ (q ⊗ T' ⊕ z' ⊗ (r ⊗ l ⊕ k'))) (r ⊗ (w' ⊗ (lit 2 ⊗ q ⊗ d) ⊖ (h ⊖ l) ⊗ z')) tt
            ∙ ap (λ (t : ℤ). pos N.q *ℤ (pos w *ℤ pos (shift_part P L) -ℤ t *ℤ pos z)) (sym (wide_is proper R)))
            (nonneg_add above below)))),
      )

module _ {P : Points} {L : Line} {lo hi : ℤ} (proper : Proper P) (R : Range P L lo hi) where
  pub moved_least : Least (Parallel L) P (shift_wide lo hi) (shift_part P L)
  moved_least = record {
    some = mul-pos (mul-pos {m = 2} (omega arith) L.some) proper.unit;
    line = moved P L lo hi (moved_some proper L);
    member = moved_parallel P L lo hi (moved_some proper L);
    reached = moved_within proper R (moved_some proper L);
    least = λ N w z parallel _ W. no_less proper R N parallel W;
  }

  -- at that width both ends touch, which fixes the offset
  moved_only : (N : Line) → Parallel L N → Within P N (shift_wide lo hi) (shift_part P L) → Same N (moved P L lo hi (moved_some proper L))
  moved_only N parallel W = record { slope = slope; offset = le_antisym (sign_le (cancel_le unit (subst NonNeg down (below proper R N parallel W)))) (sign_le (cancel_le unit (subst NonNeg up (above proper R N parallel W)))) }
    where
      unit : Positive (pos L.q *ℤ pos P.d)
      unit = positive_mul (positive_nat L.some) (positive_nat proper.unit)

      slope : N.a *ℤ pos (moved_part P L) ≡ pos 2 *ℤ pos P.d *ℤ L.a *ℤ pos N.q
      slope =
          ring (pos L.q ∷ pos P.d ∷ N.a ∷ []) (a ⊗ (lit 2 ⊗ d ⊗ q)) (lit 2 ⊗ d ⊗ (a ⊗ q)) tt
          ∙ ap (λ (t : ℤ). pos 2 *ℤ pos P.d *ℤ t) parallel
          ∙ ring (pos N.q ∷ pos P.d ∷ L.a ∷ []) (lit 2 ⊗ d ⊗ (a ⊗ q)) (lit 2 ⊗ d ⊗ a ⊗ q) tt

      ρ : List ℤ
      ρ = pos L.q ∷ pos P.d ∷ pos N.q ∷ L.b ∷ N.b ∷ lo ∷ hi ∷ []

      r : E
      r = var 2

      c : E
      c = var 4

      l : E
      l = var 5

      h : E
      h = var 6

      T' : E
      T' = (h ⊖ l) ⊗ (r ⊗ d)

      z : E
      z = lit 2 ⊗ q ⊗ d

      k' : E
      k' = d ⊗ (b ⊗ r ⊖ c ⊗ q)

      mine : E
      mine = c ⊗ (lit 2 ⊗ d ⊗ q)

      its : E
      its = (lit 2 ⊗ d ⊗ b ⊕ (l ⊕ h)) ⊗ r

      T : ℤ → ℤ
      T w = pos L.q *ℤ (w *ℤ (pos N.q *ℤ pos P.d))

      up : pos L.q *ℤ level P N (shift_wide lo hi) -ℤ pos (shift_part P L) *ℤ (pos N.q *ℤ hi +ℤ apart P L N)
          ≡ pos L.q *ℤ pos P.d *ℤ (N.b *ℤ pos (moved_part P L) -ℤ (pos 2 *ℤ pos P.d *ℤ L.b +ℤ (lo +ℤ hi)) *ℤ pos N.q)
      up = ap (λ (w : ℤ). T w -ℤ pos (shift_part P L) *ℤ (pos N.q *ℤ hi +ℤ apart P L N)) (wide_is proper R) ∙ ring ρ (q ⊗ T' ⊖ z ⊗ (r ⊗ h ⊕ k')) (q ⊗ d ⊗ (mine ⊖ its)) tt

      down : pos L.q *ℤ level P N (shift_wide lo hi) +ℤ pos (shift_part P L) *ℤ (pos N.q *ℤ lo +ℤ apart P L N)
          ≡ pos L.q *ℤ pos P.d *ℤ ((pos 2 *ℤ pos P.d *ℤ L.b +ℤ (lo +ℤ hi)) *ℤ pos N.q -ℤ N.b *ℤ pos (moved_part P L))
      down = ap (λ (w : ℤ). T w +ℤ pos (shift_part P L) *ℤ (pos N.q *ℤ lo +ℤ apart P L N)) (wide_is proper R) ∙ ring ρ (q ⊗ T' ⊕ z ⊗ (r ⊗ l ⊕ k')) (q ⊗ d ⊗ (its ⊖ mine)) tt

  pub moved_single : Single (Parallel L) P (shift_wide lo hi) (shift_part P L)
  moved_single N O e f WN WO = same_trans {M = moved P L lo hi (moved_some proper L)} (moved_only N e WN) (same_sym (moved_only O f WO))
