-- What `==` says of a finite float and one that is a whole number: they are equal exactly where both are that number, minus zero and zero too.
use Rattle.std.specs.Prelude.{◌≡◌, ◌↔◌, Bool, true, false, ◌∷◌, [], ℕ, ◌*◌, T, eqb, ℤ, pos, neg_ℤ, ◌*ℤ◌, Float}
use Rattle.std.proofs.Common.{sym, ap, ◌∙◌, arith, eqb→eq}
use Rattle.std.proofs.Math.IntN.{*ℤ_comm}
use Rattle.std.specs.Float.{nan, inf, fin}
use Rattle.std.specs.Float.Ieee.{up, down, eq, level}
use Rattle.std.specs.Float.Ieee.Fits.{and_l, and_r, and_i, eq→eqb}
use Rattle.std.specs.Float.Ieee.Scale.{finite}
use Rattle.whole.specs.Balance as B
use Rattle.whole.specs.Balance.{nat, opp}
use Rattle.whole.specs.Poly.{var, ◌⊗◌}
use Rattle.whole.specs.Ring.{ring}
use Rattle.whole.specs.Sign.{cancel_eq, positive_nat}
use Rattle.floats.specs.Value.{with_sign, over, under, Worth}
use Rattle.floats.specs.One.{signed_times, under_pos}

-- ---- two numbers with signs
level_says : (b s : Bool) (x y : ℕ) → T (level b x s y) → with_sign b x ≡ with_sign s y
level_says false false x y t = ap pos (eqb→eq x y (and_l (eqb x y) true t))
level_says true true x y t = ap (λ (n : ℕ). neg_ℤ (pos n)) (eqb→eq x y (and_l (eqb x y) true t))
level_says false true x y t =
    let e = eqb→eq x y (and_l (eqb x y) (eqb x 0) t) in
    let z = eqb→eq x 0 (and_r (eqb x y) (eqb x 0) t) in
    B.eq_by (nat x) (opp (nat y)) (omega arith)
level_says true false x y t =
    let e = eqb→eq x y (and_l (eqb x y) (eqb x 0) t) in
    let z = eqb→eq x 0 (and_r (eqb x y) (eqb x 0) t) in
    B.eq_by (opp (nat x)) (nat y) (omega arith)

says_level : (b s : Bool) (x y : ℕ) → with_sign b x ≡ with_sign s y → T (level b x s y)
says_level false false x y e = let h = B.eq_of (nat x) (nat y) e in let q : x ≡ y = omega arith in and_i (eqb x y) true (eq→eqb q) tt
says_level true true x y e = let h = B.eq_of (opp (nat x)) (opp (nat y)) e in let q : x ≡ y = omega arith in and_i (eqb x y) true (eq→eqb q) tt
says_level false true x y e =
    let h = B.eq_of (nat x) (opp (nat y)) e in
    let q : x ≡ y = omega arith in
    let z : x ≡ 0 = omega arith in
    and_i (eqb x y) (eqb x 0) (eq→eqb q) (eq→eqb z)
says_level true false x y e =
    let h = B.eq_of (opp (nat x)) (nat y) e in
    let q : x ≡ y = omega arith in
    let z : x ≡ 0 = omega arith in
    and_i (eqb x y) (eqb x 0) (eq→eqb q) (eq→eqb z)

-- ---- two fractions
crossed : (y x : Float) → T (finite y) → T (finite x) → T (eq y x) ↔ (over y *ℤ pos (under x) ≡ over x *ℤ pos (under y))
unfolding eq
crossed nan x f g = absurd f
crossed (inf b) x f g = absurd f
crossed (fin b n d) nan f g = absurd g
crossed (fin b n d) (inf s) f g = absurd g
crossed (fin b n d) (fin s m e) f g =
    let p = signed_times b (n * up d) (down e) in
    let q = signed_times s (m * up e) (down d) in (
      λ t. p ∙ level_says b s (n * up d * down e) (m * up e * down d) t ∙ sym q,
      λ h. says_level b s (n * up d * down e) (m * up e * down d) (sym p ∙ h ∙ q),
    )

pub equal_exactly : (y x : Float) (z : ℤ) → Worth y z → T (finite x) → T (eq y x) ↔ Worth x z
equal_exactly y x z w f = (there, back)
  where
    there : T (eq y x) → Worth x z
    there t = record {
      finite = f;
      equal =
          cancel_eq (positive_nat (under_pos y))
          (*ℤ_comm (pos (under y)) (over x)
          ∙ sym ((crossed y x w.finite f).0 t)
          ∙ ap (λ (n : ℤ). n *ℤ pos (under x)) w.equal
          ∙ ring (z ∷ pos (under y) ∷ pos (under x) ∷ []) (var 0 ⊗ var 1 ⊗ var 2) (var 1 ⊗ (var 0 ⊗ var 2)) tt);
    }

    back : Worth x z → T (eq y x)
    back v =
        (crossed y x w.finite f).1
        (ap (λ (n : ℤ). n *ℤ pos (under x)) w.equal
        ∙ ring (z ∷ pos (under y) ∷ pos (under x) ∷ []) (var 0 ⊗ var 1 ⊗ var 2) (var 0 ⊗ var 2 ⊗ var 1) tt
        ∙ ap (λ (n : ℤ). n *ℤ pos (under y)) (sym v.equal))
