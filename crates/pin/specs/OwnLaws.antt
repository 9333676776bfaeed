-- Where the value at the fixed point's own input lies further off than the greatest pair says: every line through the point leaves that value as far off, and several leave no other further.
use Rattle.std.specs.Prelude.{◌≡◌, refl, ◌∷◌, [], ◌⊎◌, ℕ, ◌+◌, ◌*◌, ◌-◌, ◌<◌, ◌≤◌, ℤ, pos, nat_abs, ◌+ℤ◌, ◌-ℤ◌, ◌*ℤ◌, ◌≤ℤ◌}
use Rattle.std.proofs.Common.{sym, ap, ◌∙◌, subst, inl, inr, mul-pos, mul-le-mul, mul-le-mul_left, mul-le-mul_right, arith}
use Rattle.std.proofs.Math.Nat.{le_of_mul-le-mul_left}
use Rattle.std.proofs.Math.IntN.{*ℤ_comm}
use Rattle.std.specs.Int.Signed.{≤ℤ_refl}
use Rattle.whole.specs.Balance as B
use Rattle.whole.specs.Balance.{int, nat, opp, ◌⊞◌, ◌⊟◌}
use Rattle.whole.specs.Poly.{var, lit, ◌⊕◌, ◌⊖◌, ◌⊗◌}
use Rattle.whole.specs.Ring.{ring}
use Rattle.whole.specs.Sign.{Positive, weaken, positive_nat, nat_positive, cancel_eq}
use Rattle.whole.specs.Size.{size_sub, size_product, size_within}
use Rattle.band.specs.Line.{Line, Points, Proper, OneValue, off, Passing, Within, Least, Several, Same}
use Rattle.band.specs.Place.{Place, before, same, after, place}
use Rattle.band.specs.Seen.{offE}
use Rattle.pin.specs.Pair.{ahead, rise, den, Greatest, Beyond, wide, Further}
use Rattle.pin.specs.PairLaws.{den_positive, den_is, passing_off}
use Rattle.pin.specs.PairLine.{within_by, lift, AtPoint, lifts}

-- ---- the last input lies furthest ahead
abbrev last : Points → ℕ
last P = P.m - 1

module _ {P : Points} (proper : Proper P) {x : ℤ} (beyond : Beyond P x) where
  pub last_ahead : Positive (ahead P x (P.m - 1))
  last_ahead =
      let two = proper.two in let e = int (P.x (last P)) in let y = int (P.x 0) in
      B.lt_by (nat 0) (e ⊟ int x) (omega (arith, B.le_of (int x) y (beyond 0 (omega arith)), B.lt_of y e (proper.rise 0 (last P) (omega arith) (omega arith))))

  ahead_most : (k : ℕ) → k < P.m → nat_abs (ahead P x k) ≤ nat_abs (ahead P x (last P))
  ahead_most k l =
      let y = int (P.x k) in let e = int (P.x (last P)) in
      let h = B.le_of y e (order (place k (last P))) in
      size_within (ahead P x k) (ahead P x (last P)) (B.le_by (y ⊟ int x) (e ⊟ int x) (omega arith)) (B.le_by (opp (y ⊟ int x)) (e ⊟ int x) (omega (arith, B.le_of (int x) y (beyond k l))))
    where
      order : Place k (last P) → P.x k ≤ℤ P.x (last P)
      order (before a) = weaken (proper.rise k (last P) a (omega arith))
      order (same a) = subst (λ (n : ℕ). P.x n ≤ℤ P.x (last P)) a (≤ℤ_refl _)
      order (after a) = absurd (omega arith)

-- ---- where the first input is the point's own, no line through the point comes nearer to its value
pub own_no_less : {P : Points} → Proper P → {x : ℤ} → P.x 0 ≡ x → (v : ℤ) (L : Line) (w z : ℕ) → Passing P x v L → Within P L w z → nat_abs (rise P v 0) * z ≤ w * P.d
own_no_less {P} proper {x} at v L w z e W = le_of_mul-le-mul_left (omega (arith, W.low 0 (omega (arith, proper.two)), ap (λ (t : ℕ). t * z) size)) L.some
  where
    size : nat_abs (off P L (P.x 0) (P.low 0)) ≡ L.q * nat_abs (rise P v 0)
    size =
        ap nat_abs (passing_off P x v L e 0
        ∙ ap (λ (t : ℤ). pos L.q *ℤ rise P v 0 -ℤ pos P.d *ℤ (L.a *ℤ (t -ℤ x))) at
        ∙ ring (pos L.q ∷ rise P v 0 ∷ pos P.d ∷ L.a ∷ x ∷ []) (var 0 ⊗ var 1 ⊖ var 2 ⊗ (var 3 ⊗ (var 4 ⊖ var 4))) (var 0 ⊗ var 1) tt)
        ∙ size_product (pos L.q) (rise P v 0)

module _ {P : Points} (proper : Proper P) {x v : ℤ} (level : OneValue P) (beyond : Beyond P x) {i j : ℕ} (top : Greatest P x v i j) where
  abbrev A : ℤ
  A = rise P v i +ℤ rise P v j

  abbrev D : ℕ
  D = nat_abs (den P x i j)

  abbrev U : ℕ
  U = nat_abs (ahead P x (last P))

  -- the pair's line, and one a little steeper
  abbrev tilted : ℕ → Line
  tilted s = record {
    a = A *ℤ pos U +ℤ pos s;
    b = v *ℤ pos (D * U) -ℤ (A *ℤ pos U +ℤ pos s) *ℤ x;
    q = D * U * P.d;
    some = mul-pos (mul-pos (nat_positive (den_positive top.fits)) (nat_positive (last_ahead proper beyond))) proper.unit;
  }

  tilted_passing : (s : ℕ) → Passing P x v (tilted s)
  tilted_passing s = let e = var 0 in let d = var 1 in let a = var 2 in ring (pos (D * U) ∷ pos P.d ∷ (A *ℤ pos U +ℤ pos s) ∷ x ∷ v ∷ []) (offE (e ⊗ d) d a (var 4 ⊗ e ⊖ a ⊗ var 3) (var 3) (var 4)) (lit 0) tt

  module _ (further : Further P x v i j) where
    abbrev Y : ℕ
    Y = nat_abs (rise P v 0)

    -- beyond the point there is room for the tilt, since the pair says less than Y
    tilted_size : (s k : ℕ) → s ≤ 1 → k < P.m → nat_abs (pos (D * U) *ℤ rise P v k -ℤ (A *ℤ pos U +ℤ pos s) *ℤ ahead P x k) ≤ Y * (D * U)
    tilted_size s k h l = subst (λ (t : ℤ). nat_abs t ≤ Y * (D * U)) shape (omega (arith, size_sub big small (nat_abs big) (nat_abs small) (omega arith) (omega arith), size_product (pos U) height, size_product (pos s) (ahead P x k), room (lifts proper beyond top k l)))
      where
        height : ℤ
        height = lift P x v i j k

        big : ℤ
        big = pos U *ℤ height

        small : ℤ
        small = pos s *ℤ ahead P x k

        shape : big -ℤ small ≡ pos (D * U) *ℤ rise P v k -ℤ (A *ℤ pos U +ℤ pos s) *ℤ ahead P x k
        shape =
            let u = var 1 in let t = var 2 in let y = var 3 in let n = var 4 in let a = var 5 in
            ring (den P x i j ∷ pos U ∷ pos s ∷ rise P v k ∷ ahead P x k ∷ A ∷ []) (u ⊗ (var 0 ⊗ y ⊖ a ⊗ n) ⊖ t ⊗ n) (var 0 ⊗ u ⊗ y ⊖ (a ⊗ u ⊕ t) ⊗ n) tt
            ∙ ap (λ (t : ℤ). t *ℤ pos U *ℤ rise P v k -ℤ (A *ℤ pos U +ℤ pos s) *ℤ ahead P x k) (sym (den_is top.fits))

        room : (nat_abs height ≤ wide P x v i j) ⊎ AtPoint P x v i j k → U * nat_abs height + s * nat_abs (ahead P x k) ≤ Y * (D * U)
        room (inl a) = let less : nat_abs height + 1 ≤ Y * D = omega (arith, further.1) in omega (arith, mul-le-mul_left U less, mul-le-mul h (ahead_most proper beyond k l))
        room (inr p) = omega (arith, ap (λ (t : ℕ). U * t) p.size, ap (λ (t : ℤ). s * nat_abs t) p.none)

    tilted_within : (s : ℕ) → s ≤ 1 → Within P (tilted s) Y P.d
    tilted_within s h = within_by P x v level (tilted s) (tilted_passing s) (D * U) refl Y P.d (λ k l. omega (arith, mul-le-mul_right P.d (tilted_size s k h l)))

    pub own_least : Least (Passing P x v) P (nat_abs (rise P v 0)) P.d
    own_least = record { some = proper.unit; line = tilted 0; member = tilted_passing 0; reached = tilted_within 0 (omega arith); least = λ L w z e _ W. own_no_less proper further.0 v L w z e W }

    pub own_several : Several (Passing P x v) P (nat_abs (rise P v 0)) P.d
    own_several = record { one = tilted 0; two = tilted 1; one_of = tilted_passing 0; two_of = tilted_passing 1; one_in = tilted_within 0 (omega arith); two_in = tilted_within 1 (omega arith); differ = differ }
      where
        differ : Same (tilted 0) (tilted 1) → ⊥
        differ e =
            let a = int (A *ℤ pos U) in
            omega (arith, B.eq_of (a ⊞ nat 0) (a ⊞ nat 1) (cancel_eq (positive_nat (tilted 0).some) (*ℤ_comm (pos (D * U * P.d)) (A *ℤ pos U +ℤ pos 0) ∙ e.slope ∙ sym (*ℤ_comm (pos (D * U * P.d)) (A *ℤ pos U +ℤ pos 1)))))
