-- What the tests of lines show: that a candidate is the greatest, and with it the least width, the only line, several lines; the terminal and the shifted line.
use Rattle.std.specs.Prelude.{◌≡◌, refl, ◌&&◌, ◌∷◌, [], ℕ, ◌*◌, ◌<◌, T, ltb, ℤ, pos, nat_abs, ◌-ℤ◌, ◌*ℤ◌}
use Rattle.std.proofs.Common.{sym, ap, ap₂, ◌∙◌, subst, inl, leb→le, ltb→lt, eqb→eq}
use Rattle.std.specs.Int.Signed.{le_z, ≤ℤ_refl}
use Rattle.std.proofs.Math.Facts.{and_yes, yes_and, T_not}
use Rattle.whole.specs.Every.{every, every_holds}
use Rattle.whole.specs.Poly.{var, lit, ◌⊖◌, ◌⊗◌}
use Rattle.whole.specs.Ring.{ring}
use Rattle.whole.specs.Sign.{NonNeg, Positive, le_sign, sign_le, nat_nonneg, positive_nat, positive_mul, cancel_le}
use Rattle.band.specs.Line.{Line, Points, Proper, Within, Largest, All, Parallel, Single, Same, Terminal}
use Rattle.band.specs.Candidate.{Candidate, one, up, down, num, den, Fits, Greatest, wide, part, part_is}
use Rattle.band.specs.Seen.{seen, level, seen_num, seen_rising, within_inside}
use Rattle.band.specs.Bound.{inside_bounded}
use Rattle.band.specs.Triple.{up_single, down_single}
use Rattle.band.specs.Least.{least}
use Rattle.band.specs.Largest.{largest_by}
use Rattle.band.specs.Terminal.{terminal_line, terminal_some}
use Rattle.band.specs.Terminal as ends
use Rattle.band.specs.Shift.{Range, moved_least, moved_single}
use Rattle.band.specs.Same.{through}
use Rattle.fit.specs.Scaled.{Alike, within_alike, least_alike, several_alike, single_alike, least_family, single_family}
use Rattle.due.specs.Due.{Best, Many, Shifted}
use Rattle.promises.specs.Tests.{all, same, height, top, near, within, among, triple, greatest, single, half, unlike, many, terminal, between, shifted}
use Rattle.promises.specs.TestLaws.{all_hold, same_is, alike_by}

pub within_by : (P : Points) (L : Line) (w z : ℕ) → T (within P L w z) → Within P L w z
within_by P L w z t = record { low = λ i h. leb→le _ _ (both i h).0; high = λ i h. leb→le _ _ (both i h).1 }
  where
    both : (i : ℕ) → i < P.m → T (near P L w z (height P L i)) × T (near P L w z (top P L i))
    both i h = and_yes (near P L w z (height P L i)) (near P L w z (top P L i)) (every_holds P.m _ t i h)

-- ---- the greatest candidate
rising : (i j k m : ℕ) → T (ltb i j && (ltb j k && ltb k m)) → (i < j) × (j < k) × (k < m)
rising i j k m t =
    let s = and_yes (ltb i j) (ltb j k && ltb k m) t in
    let u = and_yes (ltb j k) (ltb k m) s.1 in
    (ltb→lt i j s.0, ltb→lt j k u.0, ltb→lt k m u.1)

among_by : (P : Points) (c : Candidate) → T (among P.m c) → Fits P c
among_by P (one i) t = ltb→lt i P.m t
among_by P (up i j k) t = rising i j k P.m t
among_by P (down i j k) t = rising i j k P.m t

-- every candidate is at most twice the deviation of the line, and that is the candidate c
kept_greatest : {P : Points} → Proper P → (c : Candidate) → Fits P c → NonNeg (num P c) → (L : Line) → Within P L (wide P c) (part P c) → Greatest P c
kept_greatest {P} proper c f n L W = record { fits = f; all = λ e h. sign_le (cancel_le unit (subst NonNeg (shape e) (le_sign ((inside_bounded (seen_rising proper L (part P c)) (within_inside W)).all e h)))) }
  where
    unit : Positive (pos 2 *ℤ (pos L.q *ℤ pos P.d))
    unit = positive_mul {a = pos 2} (record { lt = tt }) (positive_mul (positive_nat L.some) (positive_nat proper.unit))

    shape : (e : Candidate) → pos 2 *ℤ level P L (wide P c) *ℤ den P e -ℤ num (seen P L (part P c)) e ≡ pos 2 *ℤ (pos L.q *ℤ pos P.d) *ℤ (num P c *ℤ den P e -ℤ num P e *ℤ den P c)
    shape e =
        let m = var 0 in let k = var 1 in let q = var 2 in let d = var 3 in
        ap₂ (λ (w v : ℤ). pos 2 *ℤ (w *ℤ (pos L.q *ℤ pos P.d)) *ℤ den P e -ℤ v) (nat_nonneg n) (seen_num P L (part P c) e ∙ ap (λ (z : ℤ). z *ℤ pos L.q *ℤ num P e) (part_is proper c f))
        ∙ ring (num P c ∷ den P c ∷ pos L.q ∷ pos P.d ∷ num P e ∷ den P e ∷ []) (lit 2 ⊗ (m ⊗ (q ⊗ d)) ⊗ var 5 ⊖ lit 2 ⊗ k ⊗ d ⊗ q ⊗ var 4) (lit 2 ⊗ (q ⊗ d) ⊗ (m ⊗ var 5 ⊖ var 4 ⊗ k)) tt

-- two slopes that the test tells apart
pub differ : (A B : Line) → T (unlike A B) → Same A B → ⊥
differ A B t e =
    let a = A.a *ℤ pos B.q in
    T_not (same a (B.a *ℤ pos A.q)) (subst (λ (b : ℤ). T (same a b)) e.slope (yes_and (le_z a a) (le_z a a) (≤ℤ_refl a).le (≤ℤ_refl a).le)) t

module _ {P : Points} (proper : Proper P) (c : Candidate) where
  greatest_by : (L : Line) → T (all (greatest P c L)) → Greatest P c × Within P L (wide P c) (part P c)
  greatest_by L t =
      let (fits, (sign, (kept, _))) = all_hold (greatest P c L) t in
      let W = within_by P L (wide P c) (part P c) kept in
      (kept_greatest proper c (among_by P c fits) (record { le = sign }) L W, W)

  module _ {w z : ℕ} (t : T (all (half P c w z))) where
    is_half : Alike (wide P c) (part P c) w z
    is_half = alike_by (wide P c) (part P c) w z t

    -- several lines reach the width
    pub many_by : (A B : Line) → T (all (many P c A B)) → Many All P w z
    many_by A B s =
        let (keeps, (also, (apart, _))) = all_hold (many P c A B) s in
        let g = greatest_by A keeps in
        let W = within_by P B (wide P c) (part P c) also in
        record {
          least = least_alike is_half (least proper c g.0);
          several = several_alike is_half (record { one = A; two = B; one_of = tt; two_of = tt; one_in = g.1; two_in = W; differ = differ A B apart });
        }

-- three points fix the line
only : {P : Points} → Proper P → (c : Candidate) → T (triple c) → Greatest P c → Single All P (wide P c) (part P c)
only proper (one i) t g = absurd t
only proper (up i j k) t g = up_single proper i j k g
only proper (down i j k) t g = down_single proper i j k g

-- one line alone reaches it
pub single_by : {P : Points} → Proper P → (c : Candidate) (L : Line) → T (single P c L) → Best All P L (wide P c) (part P c)
single_by {P} proper c L t =
    let s = and_yes (triple c) (all (greatest P c L)) t in
    let g = greatest_by proper c L s.1 in
    record { member = tt; reached = g.1; least = least proper c g.0; single = only proper c s.0 g.0 }

pub best_alike : {F : Line → Type 0} {P : Points} {L : Line} {w z w' z' : ℕ} → Alike w z w' z' → Best F P L w z → Best F P L w' z'
best_alike e b = record { member = b.member; reached = within_alike e b.reached; least = least_alike e b.least; single = single_alike e b.single }

pub many_alike : {F : Line → Type 0} {P : Points} {w z w' z' : ℕ} → Alike w z w' z' → Many F P w z → Many F P w' z'
many_alike e m = record { least = least_alike e m.least; several = several_alike e m.several }

-- ---- the terminal line
-- it passes through the ends, and one point lies as far from it as the width
pub terminal_by : {P : Points} → Proper P → (L : Line) (w z at : ℕ) → 0 < z → T (all (terminal P L w z at)) → Terminal P L × Largest P L w z
terminal_by {P} proper L w z at some t =
    let (first, (last, (kept, (fits, (far, _))))) = all_hold (terminal P L w z at) t in (
      record { first = same_is _ _ first; last = same_is _ _ last },
      largest_by proper some (within_by P L w z kept) (record { at = at; fits = ltb→lt at P.m fits; far = inl (eqb→eq _ _ far) }),
    )

-- ---- the shifted line
-- its heights range from that at i to that at j
range_by : (P : Points) (L : Line) (i j : ℕ) → i < P.m → j < P.m → T (every P.m (between P L i j)) → Range P L (height P L i) (top P L j)
range_by P L i j hi hj t = record { from = λ p h. record { le = (both p h).0 }; to = λ p h. record { le = (both p h).1 }; i = i; i_fits = hi; lowest = refl; j = j; j_fits = hj; highest = refl }
  where
    both : (p : ℕ) → p < P.m → T (le_z (height P L i) (height P L p)) × T (le_z (top P L p) (top P L j))
    both p h = and_yes (le_z (height P L i) (height P L p)) (le_z (top P L p) (top P L j)) (every_holds P.m (between P L i j) t p h)

-- a line that is parallel to M is parallel to what M is parallel to
across : (L M N : Line) → Parallel L M → Parallel M N → Parallel L N
across L M N e f = through N.a M.a L.a _ _ _ (positive_nat M.some) f e

-- of the lines of the terminal slope L alone is within w/z
pub shifted_by : {P : Points} → Proper P → (L : Line) (w z i j : ℕ) → T (all (shifted P L w z i j)) → Shifted P L w z
shifted_by {P} proper L w z i j t =
    let (slope, (kept, (low, (high, (ranged, (half, _)))))) = all_hold (shifted P L w z i j) t in
    let some = terminal_some proper in
    let M = terminal_line P some in
    let p : Parallel M L = same_is _ _ slope in
    let R = range_by P L i j (ltb→lt i P.m low) (ltb→lt j P.m high) ranged in
    let e = alike_by (nat_abs (top P L j -ℤ height P L i)) (2 * L.q * P.d) w z half in
    record {
      base = M;
      terminal = ends.terminal proper some;
      best = record {
        member = p;
        reached = within_by P L w z kept;
        least = least_family (λ N f. across M L N p f) (λ N f. across L M N (sym p) f) (least_alike e (moved_least proper R));
        single = single_family (λ N f. across M L N p f) (λ N f. across L M N (sym p) f) (single_alike e (moved_single proper R));
      };
    }
