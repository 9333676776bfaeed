-- What a pair of inputs says of the lines through the fixed point: none comes nearer than the pair's width, and within no more than that width there is one at most.
use Rattle.std.specs.Prelude.{◌≡◌, ◌∷◌, [], ℕ, zero, suc, ◌*◌, ◌<◌, ◌≤◌, ℤ, pos, nat_abs, neg_ℤ, ◌+ℤ◌, ◌-ℤ◌, ◌*ℤ◌, ◌≤ℤ◌, ◌<ℤ◌}
use Rattle.std.proofs.Common.{sym, ap, ap₂, ◌∙◌, subst, ⊎_elim, mul-pos, arith}
use Rattle.std.proofs.Math.IntN.{+ℤ_idr}
use Rattle.whole.specs.Balance as B
use Rattle.whole.specs.Balance.{int, nat, opp, ◌⊠◌}
use Rattle.whole.specs.Poly.{var, lit, neg, ◌⊕◌, ◌⊖◌, ◌⊗◌}
use Rattle.whole.specs.Ring.{ring}
use Rattle.whole.specs.Sign.{NonNeg, Positive, le_sign, sign_le, sign_lt, weaken, le_trans, le_antisym, le_or_gt, nonneg_add, nonneg_mul, positive_add, positive_nat, nat_nonneg, nat_positive, cancel_le}
use Rattle.whole.specs.Size.{size_of, size_by, size_neg}
use Rattle.band.specs.Line.{Line, Points, Proper, off, Passing, Within, Single}
use Rattle.band.specs.Seen.{offE}
use Rattle.band.specs.Same.{agree_by, agree_twice, agree_passing}
use Rattle.pin.specs.Pair.{ahead, rise, num, den, Fits, Beyond, wide, part, pair_line}

-- inputs that rise from x lie beyond it
pub beyond_first : {P : Points} {x : ℤ} → Proper P → x ≤ℤ P.x 0 → Beyond P x
beyond_first proper h zero i = h
beyond_first proper h (suc k) i = le_trans h (weaken (proper.rise 0 (suc k) (omega arith) i))

-- ---- a pair's denominator, and the pair the other way round
module _ {P : Points} {x : ℤ} {i j : ℕ} (f : Fits P x i j) where
  pub den_positive : Positive (den P x i j)
  den_positive = positive_add (weaken f.i_ahead) f.j_ahead

  pub den_is : pos (nat_abs (den P x i j)) ≡ den P x i j
  den_is = nat_nonneg (weaken den_positive)

  pub flipped : Fits P x j i
  flipped = record { i_fits = f.j_fits; j_fits = f.i_fits; i_ahead = f.j_ahead; j_ahead = f.i_ahead }

part_flip : (P : Points) (x : ℤ) (i j : ℕ) → part P x j i ≡ part P x i j
part_flip P x i j = ap (λ (t : ℤ). nat_abs t * P.d) (ring (ahead P x i ∷ ahead P x j ∷ []) (var 1 ⊕ var 0) (var 0 ⊕ var 1) tt)

num_flip : (P : Points) (x v : ℤ) (i j : ℕ) → num P x v j i ≡ neg_ℤ (num P x v i j)
num_flip P x v i j = ring ((rise P v i *ℤ ahead P x j) ∷ (rise P v j *ℤ ahead P x i) ∷ []) (var 1 ⊖ var 0) (neg (var 0 ⊖ var 1)) tt

-- ---- a line through the point
-- what it leaves a value off by is told by the input and the value as seen from the point
pub passing_off : (P : Points) (x v : ℤ) (L : Line) → Passing P x v L → (k : ℕ) → off P L (P.x k) (P.low k) ≡ pos L.q *ℤ rise P v k -ℤ pos P.d *ℤ (L.a *ℤ ahead P x k)
passing_off P x v L e k =
    let q = var 0 in let d = var 1 in let a = var 2 in let b = var 3 in let y = var 6 in let l = var 7 in
    ring (pos L.q ∷ pos P.d ∷ L.a ∷ L.b ∷ x ∷ v ∷ P.x k ∷ P.low k ∷ []) (offE q d a b y l) (q ⊗ (l ⊖ var 5) ⊖ d ⊗ (a ⊗ (y ⊖ var 4)) ⊕ offE q d a b (var 4) (var 5)) tt
    ∙ ap (λ (t : ℤ). pos L.q *ℤ rise P v k -ℤ pos P.d *ℤ (L.a *ℤ ahead P x k) +ℤ t) e
    ∙ +ℤ_idr _

module _ {P : Points} {x : ℤ} (v : ℤ) {i j : ℕ} (f : Fits P x i j) (L : Line) (w z : ℕ) (e : Passing P x v L) (W : Within P L w z) where
  abbrev T : ℤ
  T = pos (w * (L.q * P.d))

  abbrev first : ℤ
  first = off P L (P.x i) (P.low i)

  abbrev second : ℤ
  second = off P L (P.x j) (P.low j)

  above : NonNeg (T -ℤ pos z *ℤ first)
  above = le_sign (size_of first z (w * (L.q * P.d)) (W.low i f.i_fits)).0

  below : NonNeg (T -ℤ pos z *ℤ neg_ℤ second)
  below = le_sign (size_of second z (w * (L.q * P.d)) (W.low j f.j_fits)).1

  -- what the width is more than the pair's, the two values leave below the level and above its opposite
  gap : pos L.q *ℤ (pos (w * part P x i j) -ℤ pos z *ℤ num P x v i j) ≡ ahead P x j *ℤ (T -ℤ pos z *ℤ first) +ℤ ahead P x i *ℤ (T -ℤ pos z *ℤ neg_ℤ second)
  gap =
      let q = var 0 in let d = var 1 in let a = var 2 in let w' = var 3 in let z' = var 4 in let ui = var 5 in let uj = var 6 in let yi = var 7 in let yj = var 8 in
      let T' = w' ⊗ (q ⊗ d) in
      ap (λ (t : ℤ). pos L.q *ℤ (pos w *ℤ (t *ℤ pos P.d) -ℤ pos z *ℤ num P x v i j)) (den_is f)
      ∙ ring (pos L.q ∷ pos P.d ∷ L.a ∷ pos w ∷ pos z ∷ ahead P x i ∷ ahead P x j ∷ rise P v i ∷ rise P v j ∷ [])
      (q ⊗ (w' ⊗ ((ui ⊕ uj) ⊗ d) ⊖ z' ⊗ (yi ⊗ uj ⊖ yj ⊗ ui)))
      (uj ⊗ (T' ⊖ z' ⊗ (q ⊗ yi ⊖ d ⊗ (a ⊗ ui))) ⊕ ui ⊗ (T' ⊖ z' ⊗ neg (q ⊗ yj ⊖ d ⊗ (a ⊗ uj)))) tt
      ∙ sym (ap₂ (λ (s t : ℤ). ahead P x j *ℤ (T -ℤ pos z *ℤ s) +ℤ ahead P x i *ℤ (T -ℤ pos z *ℤ neg_ℤ t)) (passing_off P x v L e i) (passing_off P x v L e j))

  bound : (pos z *ℤ num P x v i j) ≤ℤ pos (w * part P x i j)
  bound = sign_le (cancel_le (positive_nat L.some) (subst NonNeg (sym gap) (nonneg_add (nonneg_mul (weaken f.j_ahead) above) (nonneg_mul (weaken f.i_ahead) below))))

  -- where the width is no more, the first value lies at the level
  touch : pos (w * part P x i j) ≤ℤ (pos z *ℤ num P x v i j) → pos z *ℤ first ≡ pos w *ℤ pos (L.q * P.d)
  touch h = le_antisym (sign_le above) (sign_le (cancel_le f.j_ahead (subst NonNeg shape (nonneg_add (nonneg_mul (weaken f.i_ahead) below) (nonneg_mul (weaken (positive_nat L.some)) (le_sign h))))))
    where
      ui : ℤ
      ui = ahead P x i

      under : ℤ
      under = T -ℤ pos z *ℤ neg_ℤ second

      shape : ui *ℤ under +ℤ pos L.q *ℤ (pos z *ℤ num P x v i j -ℤ pos (w * part P x i j)) ≡ ahead P x j *ℤ (pos z *ℤ first -ℤ T)
      shape =
          ring (ui ∷ under ∷ pos L.q ∷ (pos z *ℤ num P x v i j) ∷ pos (w * part P x i j) ∷ []) (var 0 ⊗ var 1 ⊕ var 2 ⊗ (var 3 ⊖ var 4)) (var 0 ⊗ var 1 ⊖ var 2 ⊗ (var 4 ⊖ var 3)) tt
          ∙ ap (λ (t : ℤ). ui *ℤ under -ℤ t) gap
          ∙ ring (ui ∷ under ∷ ahead P x j ∷ T ∷ (pos z *ℤ first) ∷ []) (var 0 ⊗ var 1 ⊖ (var 2 ⊗ (var 3 ⊖ var 4) ⊕ var 0 ⊗ var 1)) (var 2 ⊗ (var 4 ⊖ var 3)) tt

-- ---- the laws of a pair
module _ {P : Points} (proper : Proper P) {x : ℤ} where
  pub part_some : {i j : ℕ} → Fits P x i j → 0 < part P x i j
  part_some f = mul-pos (nat_positive (den_positive f)) proper.unit

  pub pair_passing : (v : ℤ) {i j : ℕ} → Fits P x i j → (some : 0 < part P x i j) → Passing P x v (pair_line P x v i j some)
  pair_passing v {i} {j} f some =
      let D = var 0 in let d = var 1 in let a = var 2 in
      let A = rise P v i +ℤ rise P v j in
      ap (λ (t : ℤ). t *ℤ pos P.d *ℤ v -ℤ pos P.d *ℤ (A *ℤ x +ℤ (v *ℤ den P x i j -ℤ A *ℤ x))) (den_is f)
      ∙ ring (den P x i j ∷ pos P.d ∷ A ∷ x ∷ v ∷ []) (offE (D ⊗ d) d a (var 4 ⊗ D ⊖ a ⊗ var 3) (var 3) (var 4)) (lit 0) tt

  pub no_less : (v : ℤ) {i j : ℕ} → Fits P x i j → (L : Line) (w z : ℕ) → Passing P x v L → Within P L w z → wide P x v i j * z ≤ w * part P x i j
  no_less v {i} {j} f L w z e W =
      size_by (num P x v i j) z (w * part P x i j) (bound v f L w z e W)
      (subst (λ (t : ℤ). (pos z *ℤ t) ≤ℤ pos (w * part P x i j)) (num_flip P x v i j)
      (subst (λ (p : ℕ). (pos z *ℤ num P x v j i) ≤ℤ pos (w * p)) (part_flip P x i j) (bound v (flipped f) L w z e W)))

  -- a pair whose fraction is not negative
  single : (v : ℤ) {i j : ℕ} → Fits P x i j → {w z : ℕ} → 0 < z → w * part P x i j ≤ wide P x v i j * z → NonNeg (num P x v i j) → Single (Passing P x v) P w z
  single v {i} {j} f {w} {z} some h s L M eL eM WL WM =
      agree_twice L M x (P.x i) (sign_lt f.i_ahead)
      (agree_passing P L M x v proper.unit eL eM)
      (agree_by P L M z (pos w) (P.x i) (P.low i) proper.unit some (touch v f L w z eL WL most) (touch v f M w z eM WM most))
    where
      most : pos (w * part P x i j) ≤ℤ (pos z *ℤ num P x v i j)
      most = subst (λ (t : ℤ). pos (w * part P x i j) ≤ℤ (pos z *ℤ t)) (nat_nonneg s) (B.le_by (nat (w * part P x i j)) (nat z ⊠ nat (wide P x v i j)) (omega arith))

  pub pair_single : (v : ℤ) {i j : ℕ} → Fits P x i j → {w z : ℕ} → 0 < z → w * part P x i j ≤ wide P x v i j * z → Single (Passing P x v) P w z
  pair_single v {i} {j} f {w} {z} some h = ⊎_elim (single v f some h) (λ l. single v (flipped f) some other (subst NonNeg (sym (num_flip P x v i j)) (opposite l))) (le_or_gt (pos 0) (num P x v i j))
    where
      opposite : {n : ℤ} → n <ℤ pos 0 → NonNeg (neg_ℤ n)
      opposite {n} l = B.le_by (nat 0) (opp (int n)) (omega (arith, B.lt_of (int n) (nat 0) l))

      other : w * part P x j i ≤ wide P x v j i * z
      other = omega (arith, ap (λ (t : ℕ). w * t) (part_flip P x i j), ap (λ (t : ℕ). t * z) (ap nat_abs (num_flip P x v i j) ∙ size_neg (num P x v i j)))
