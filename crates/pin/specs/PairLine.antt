-- The line of the pair whose fraction is greatest: it leaves no value beyond the fixed point further off than the pair says. So its width is the least, unless the value at the point itself lies further off.
use Rattle.std.specs.Prelude.{◌≡◌, refl, ◌∷◌, [], ◌⊎◌, ℕ, zero, suc, ◌*◌, ◌<◌, ◌≤◌, ℤ, pos, nat_abs, ◌+ℤ◌, ◌-ℤ◌, ◌*ℤ◌, ◌≤ℤ◌, ◌<ℤ◌}
use Rattle.std.proofs.Common.{sym, ap, ◌∙◌, subst, inl, inr, ⊎_elim, mul-le-mul_left, mul-le-mul_right, arith}
use Rattle.std.specs.Int.Signed.{clash_ℤ}
use Rattle.whole.specs.Poly.{var, lit, neg, ◌⊕◌, ◌⊖◌, ◌⊗◌}
use Rattle.whole.specs.Ring.{ring, difference_of_eq}
use Rattle.whole.specs.Sign.{NonNeg, Positive, le_sign, sign_le, lt_sign, le_trans, le_antisym, le_or_gt, cancel_le}
use Rattle.whole.specs.Size.{size_product, size_within}
use Rattle.band.specs.Line.{Line, Points, Proper, OneValue, off, Passing, Within, Least}
use Rattle.pin.specs.Pair.{ahead, rise, num, den, Greatest, Beyond, wide, part, pair_line, Nearer}
use Rattle.pin.specs.PairLaws.{den_is, part_some, passing_off, pair_passing, no_less}

-- a line through the point whose denominator is e·d: what it leaves a value off by is d times a height
module _ (P : Points) (x v : ℤ) (level : OneValue P) (L : Line) (passing : Passing P x v L) (e : ℕ) (is : L.q ≡ e * P.d) where
  abbrev height : ℕ → ℤ
  height k = pos e *ℤ rise P v k -ℤ L.a *ℤ ahead P x k

  off_size : (k : ℕ) → nat_abs (off P L (P.x k) (P.low k)) ≡ P.d * nat_abs (height k)
  off_size k =
      let d = var 1 in let y = var 3 in let u = var 4 in
      ap nat_abs (passing_off P x v L passing k
      ∙ ap (λ (n : ℕ). pos n *ℤ rise P v k -ℤ pos P.d *ℤ (L.a *ℤ ahead P x k)) is
      ∙ ring (pos e ∷ pos P.d ∷ L.a ∷ rise P v k ∷ ahead P x k ∷ []) (var 0 ⊗ d ⊗ y ⊖ d ⊗ (var 2 ⊗ u)) (d ⊗ (var 0 ⊗ y ⊖ var 2 ⊗ u)) tt)
      ∙ size_product (pos P.d) (height k)

  pub within_by : (w z : ℕ) → ((k : ℕ) → k < P.m → nat_abs (height k) * z ≤ w * (e * P.d)) → Within P L w z
  within_by w z h = record { low = low; high = λ k l. subst (λ (t : ℤ). nat_abs (off P L (P.x k) t) * z ≤ w * (L.q * P.d)) (level k l) (low k l) }
    where
      low : (k : ℕ) → k < P.m → nat_abs (off P L (P.x k) (P.low k)) * z ≤ w * (L.q * P.d)
      low k l = omega (arith, ap (λ (t : ℕ). t * z) (off_size k), mul-le-mul_left P.d (h k l), ap (λ (t : ℕ). w * (t * P.d)) is)

-- ---- the heights of the values above the pair's line
-- the height at k, times den
abbrev pub lift : Points → (x v : ℤ) → (i j k : ℕ) → ℤ
lift P x v i j k = den P x i j *ℤ rise P v k -ℤ (rise P v i +ℤ rise P v j) *ℤ ahead P x k

-- k is the first input, and x itself
pub record AtPoint (P : Points) (x v : ℤ) (i j k : ℕ) : Type 0 where
  pub first : P.x 0 ≡ x
  pub none : ahead P x k ≡ pos 0
  pub size : nat_abs (lift P x v i j k) ≡ nat_abs (rise P v 0) * nat_abs (den P x i j)

module _ {P : Points} (proper : Proper P) {x v : ℤ} (beyond : Beyond P x) {i j : ℕ} (top : Greatest P x v i j) where
  at_most : (k : ℕ) → k < P.m → Positive (ahead P x k) → nat_abs (lift P x v i j k) ≤ wide P x v i j
  at_most k l s =
      let f = top.fits in
      let ui = var 0 in let uj = var 1 in let uk = var 2 in let yi = var 3 in let yj = var 4 in let yk = var 5 in
      let ρ = ahead P x i ∷ ahead P x j ∷ ahead P x k ∷ rise P v i ∷ rise P v j ∷ rise P v k ∷ [] in
      let n = yi ⊗ uj ⊖ yj ⊗ ui in let D = ui ⊕ uj in let h = D ⊗ yk ⊖ (yi ⊕ yj) ⊗ uk in
      size_within (lift P x v i j k) (num P x v i j)
      (sign_le (cancel_le f.j_ahead (subst NonNeg (ring ρ (n ⊗ (uk ⊕ uj) ⊖ (yk ⊗ uj ⊖ yj ⊗ uk) ⊗ D) (uj ⊗ (n ⊖ h)) tt) (le_sign (top.all k j (record { i_fits = l; j_fits = f.j_fits; i_ahead = s; j_ahead = f.j_ahead }))))))
      (sign_le (cancel_le f.i_ahead (subst NonNeg (ring ρ (n ⊗ (ui ⊕ uk) ⊖ (yi ⊗ uk ⊖ yk ⊗ ui) ⊗ D) (ui ⊗ (n ⊖ neg h)) tt) (le_sign (top.all i k (record { i_fits = f.i_fits; j_fits = l; i_ahead = f.i_ahead; j_ahead = s }))))))

  at_point : P.x 0 ≡ x → AtPoint P x v i j 0
  at_point e = record { first = e; none = none; size = ap nat_abs (ap (λ (t : ℤ). D *ℤ y -ℤ A *ℤ t) none ∙ ring (D ∷ y ∷ A ∷ []) (var 0 ⊗ var 1 ⊖ var 2 ⊗ lit 0) (var 1 ⊗ var 0) tt) ∙ size_product y D }
    where
      D : ℤ
      D = den P x i j

      y : ℤ
      y = rise P v 0

      A : ℤ
      A = rise P v i +ℤ rise P v j

      none : ahead P x 0 ≡ pos 0
      none = difference_of_eq (P.x 0) x e

  pub lifts : (k : ℕ) → k < P.m → (nat_abs (lift P x v i j k) ≤ wide P x v i j) ⊎ AtPoint P x v i j k
  lifts k l = go k l (le_or_gt (P.x k) x)
    where
      go : (k : ℕ) → k < P.m → (P.x k ≤ℤ x) ⊎ (x <ℤ P.x k) → (nat_abs (lift P x v i j k) ≤ wide P x v i j) ⊎ AtPoint P x v i j k
      go k l (inr h) = inl (at_most k l (lt_sign h))
      go zero l (inl h) = inr (at_point (le_antisym h (beyond 0 l)))
      go (suc k) l (inl h) = clash_ℤ (proper.rise 0 (suc k) (omega arith) l) (le_trans h (beyond 0 (omega arith)))

-- ---- where the value at the point lies no further off
module _ {P : Points} (proper : Proper P) {x v : ℤ} (level : OneValue P) (beyond : Beyond P x) {i j : ℕ} (top : Greatest P x v i j) where
  pub pair_within : Nearer P x v i j → (some : 0 < part P x i j) → Within P (pair_line P x v i j some) (wide P x v i j) (part P x i j)
  pair_within nearer some =
      within_by P x v level (pair_line P x v i j some) (pair_passing proper v top.fits some) (nat_abs (den P x i j)) refl (wide P x v i j) (part P x i j)
      (λ k l. mul-le-mul_right (part P x i j) (subst (λ (t : ℤ). nat_abs (t *ℤ rise P v k -ℤ (rise P v i +ℤ rise P v j) *ℤ ahead P x k) ≤ wide P x v i j) (sym (den_is top.fits))
      (⊎_elim (λ h. h) (λ p. omega (arith, p.size, nearer p.first)) (lifts proper beyond top k l))))

  pub pair_least : Nearer P x v i j → Least (Passing P x v) P (wide P x v i j) (part P x i j)
  pair_least nearer =
      let some = part_some proper top.fits in
      record { some = some; line = pair_line P x v i j some; member = pair_passing proper v top.fits some; reached = pair_within nearer some; least = λ L w z e _ W. no_less proper v top.fits L w z e W }
