-- `whole_of` gives the whole number that a float is, and none exactly where it is none; and every whole number up to 2^24 in size is that of four bytes.
use Rattle.std.specs.Prelude.{◌≡◌, refl, ◌↔◌, Bool, true, false, cond, ℕ, ◌*◌, ◌/◌, ◌%◌, ◌<◌, ◌≤◌, T, eqb, ℤ, pos, nat_abs, Float}
use Rattle.std.proofs.Common.{sym, ap, ◌∙◌, subst, div-add-mod', arith, eqb→eq}
use Rattle.std.proofs.Math.Option.{Option, none, some}
use Rattle.std.proofs.Math.Nat.{mul-mod_left}
use Rattle.std.specs.Float.{nan, inf, fin, binary32}
use Rattle.std.specs.Float.Ieee.{up, down, of_int, of_bits}
use Rattle.std.specs.Float.Ieee.Bits.{of_bits-to_bits, to_bits-lt}
use Rattle.std.specs.Float.Ieee.Fits.{eq→eqb, of_int-fits}
use Rattle.whole.specs.Size.{size_product}
use Rattle.floats.specs.Value.{with_sign, Worth, whole_of}
use Rattle.floats.specs.Bits.{float_bits}
use Rattle.floats.specs.One.{size_signed, signed_times, one_whole, float_whole}

never : (z : ℤ) → none ≡ some z → ⊥
never z h = let q : ◌≡◌ {A = ℕ} 0 1 = cc in omega arith

-- no remainder: the quotient is the number
module _ (s : Bool) (m : ℕ) (e : ℤ) where
  divided : T (eqb (m * up e % down e) 0) → Worth (fin s m e) (with_sign s (m * up e / down e))
  divided t = record { finite = tt; equal = ap (with_sign s) (sym (no_rest (m * up e) (down e) (eqb→eq (m * up e % down e) 0 t))) ∙ sym (signed_times s (m * up e / down e) (down e)) }
    where
      no_rest : (n d : ℕ) → n % d ≡ 0 → n / d * d ≡ n
      no_rest n d h = omega (arith, div-add-mod' n d)

  -- a whole number leaves none
  rest_none : (z : ℤ) → Worth (fin s m e) z → T (eqb (m * up e % down e) 0)
  rest_none z w =
      let h : m * up e ≡ nat_abs z * down e = sym (size_signed s (m * up e)) ∙ ap nat_abs w.equal ∙ size_product z (pos (down e)) in
      eq→eqb (ap (λ (n : ℕ). n % down e) h ∙ mul-mod_left (nat_abs z) (down e))

  pub quotient_whole : (z : ℤ) → Worth (fin s m e) z → with_sign s (m * up e / down e) ≡ z
  quotient_whole z w = one_whole (divided (rest_none z w)) w

chosen : (b : Bool) (y z : ℤ) → (cond b (some y) none ≡ some z) ↔ (T b × (y ≡ z))
chosen true y z = (λ h. (tt, cc), λ h. ap some h.1)
chosen false y z = (λ h. absurd (never z h), λ h. absurd h.0)

pub whole_exactly : (x : Float) (z : ℤ) → (whole_of x ≡ some z) ↔ Worth x z
whole_exactly nan z = (λ h. absurd (never z h), λ w. absurd w.finite)
whole_exactly (inf s) z = (λ h. absurd (never z h), λ w. absurd w.finite)
whole_exactly (fin s m e) z = (there, back)
  where
    if : (whole_of (fin s m e) ≡ some z) ↔ (T (eqb (m * up e % down e) 0) × (with_sign s (m * up e / down e) ≡ z))
    if = chosen (eqb (m * up e % down e) 0) (with_sign s (m * up e / down e)) z

    there : whole_of (fin s m e) ≡ some z → Worth (fin s m e) z
    there h = let p = if.0 h in subst (Worth (fin s m e)) p.1 (divided s m e p.0)

    back : Worth (fin s m e) z → whole_of (fin s m e) ≡ some z
    back w = if.1 (rest_none s m e z w, quotient_whole s m e z w)

pub none_exactly : (x : Float) → (whole_of x ≡ none) ↔ ((z : ℤ) → ¬ (Worth x z))
none_exactly x = (λ h z w. never z (sym h ∙ (whole_exactly x z).1 w), λ n. go (whole_of x) (λ z h. n z ((whole_exactly x z).0 h)))
  where
    go : (o : Option ℤ) → ((z : ℤ) → ¬ (o ≡ some z)) → o ≡ none
    go none n = refl
    go (some z) n = absurd (n z refl)

-- ---- the float of a whole number, by its bits
pub float_bits_whole : (z : ℤ) → nat_abs z ≤ 16777216 → whole_of (of_bits binary32 (float_bits z)) ≡ some z
float_bits_whole z h = ap whole_of (of_bits-to_bits binary32 (of_int binary32 z) (of_int-fits binary32 z)) ∙ (whole_exactly (of_int binary32 z) z).1 (float_whole z h)

pub float_bits_fit : (z : ℤ) → nat_abs z ≤ 16777216 → float_bits z < 4294967296
float_bits_fit z h = to_bits-lt binary32 (of_int binary32 z) (of_int-fits binary32 z)
