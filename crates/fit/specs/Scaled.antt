-- No statement of `Line` on a deviation w/z depends on how that is written, nor on how a family of lines is.
use Rattle.std.specs.Prelude.{◌≡◌, ℕ, ◌*◌, ◌<◌, ◌≤◌, nat_abs}
use Rattle.std.proofs.Common.{sym, ap, mul-le-mul_right, arith}
use Rattle.std.proofs.Math.Nat.{le_of_mul-le-mul_left}
use Rattle.whole.specs.Sign.{positive_nat}
use Rattle.band.specs.Line.{Line, Points, off, Within, Least, Single, Several, Same, Parallel}
use Rattle.band.specs.Same.{through, same_within}
use Rattle.fit.specs.Answer.{Told, TheLine, line_of}
use Rattle.fit.specs.declared.Fit.{Fit}

-- w/z and w'/z' are one number
pub record Alike (w z w' z' : ℕ) : Type 0 where
  pub some : 0 < z
  pub some' : 0 < z'
  pub is : w * z' ≡ w' * z

pub alike_sym : {w z w' z' : ℕ} → Alike w z w' z' → Alike w' z' w z
alike_sym e = record { some = e.some'; some' = e.some; is = sym e.is }

pub alike_written : {w z w' z' : ℕ} → 0 < z → w ≡ w' → z ≡ z' → Alike w z w' z'
alike_written {w} {z} {w'} {z'} h e f = record { some = h; some' = omega arith; is = cc }

module _ {w z w' z' : ℕ} (e : Alike w z w' z') where
  carried : (f r : ℕ) → f * z ≤ w * r → f * z' ≤ w' * r
  carried f r h = le_of_mul-le-mul_left (omega (arith, ap (λ (t : ℕ). t * r) e.is, mul-le-mul_right z' h)) e.some

  no_more : (v y : ℕ) → w * y ≤ v * z → w' * y ≤ v * z'
  no_more v y h = le_of_mul-le-mul_left (omega (arith, ap (λ (t : ℕ). t * y) e.is, mul-le-mul_right z' h)) e.some

  pub within_alike : {P : Points} {L : Line} → Within P L w z → Within P L w' z'
  within_alike {P} {L} W = record {
    low = λ i h. carried (nat_abs (off P L (P.x i) (P.low i))) (L.q * P.d) (W.low i h);
    high = λ i h. carried (nat_abs (off P L (P.x i) (P.high i))) (L.q * P.d) (W.high i h);
  }

  pub least_alike : {F : Line → Type 0} {P : Points} → Least F P w z → Least F P w' z'
  least_alike M = record { some = e.some'; line = M.line; member = M.member; reached = within_alike M.reached; least = λ L v y f h W. no_more v y (M.least L v y f h W) }

  pub several_alike : {F : Line → Type 0} {P : Points} → Several F P w z → Several F P w' z'
  several_alike s = record { one = s.one; two = s.two; one_of = s.one_of; two_of = s.two_of; one_in = within_alike s.one_in; two_in = within_alike s.two_in; differ = s.differ }

pub single_alike : {F : Line → Type 0} {P : Points} {w z w' z' : ℕ} → Alike w z w' z' → Single F P w z → Single F P w' z'
single_alike e s L M f g A B = s L M f g (within_alike (alike_sym e) A) (within_alike (alike_sym e) B)

-- ---- the same lines, said in two ways
module _ {F G : Line → Type 0} (to : (L : Line) → F L → G L) (from : (L : Line) → G L → F L) {P : Points} {w z : ℕ} where
  pub least_family : Least F P w z → Least G P w z
  least_family M = record { some = M.some; line = M.line; member = to M.line M.member; reached = M.reached; least = λ L v y f h W. M.least L v y (from L f) h W }

  pub single_family : Single F P w z → Single G P w z
  single_family s L M f g A B = s L M (from L f) (from M g) A B

pub several_family : {F G : Line → Type 0} → ((L : Line) → F L → G L) → {P : Points} {w z : ℕ} → Several F P w z → Several G P w z
several_family to s = record { one = s.one; two = s.two; one_of = to s.one s.one_of; two_of = to s.two s.two_of; one_in = s.one_in; two_in = s.two_in; differ = s.differ }

pub parallel_same : {L N : Line} → Same L N → (M : Line) → Parallel L M → Parallel N M
parallel_same {L} {N} e M h = through M.a L.a N.a _ _ _ (positive_nat L.some) h e.slope

-- a denominator of twice a gap, in units of 1/d
pub unit_most : (q n d : ℕ) → q ≡ 2 * n * d → n ≤ 60000 → q ≤ 120000 * d
unit_most q n d e h = omega (arith, mul-le-mul_right d h)

-- ---- a line that is written otherwise
pub the_line : {F : Line → Type 0} {P : Points} {f : Fit} {w z : ℕ} (told : Told f) (L : Line) → F (line_of f told.some) → Same L (line_of f told.some) → Within P L w z → Least F P w z → Single F P w z → Alike w z (nat_abs f.w) f.q → f.q ≤ 120000 * P.d → TheLine F P f
the_line told L member same W M s e u = record { told = told; member = member; reached = within_alike e (same_within same W); least = least_alike e M; single = single_alike e s; unit = u }
