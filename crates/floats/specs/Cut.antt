-- The whole part of a float within 2^24: what the cut to an i64 asks, and that the float is whole exactly where the float of its whole part equals it.
use Rattle.std.specs.Prelude.{◌≡◌, ◌↔◌, Bool, true, false, not, ◌||◌, cond, ℕ, ◌+◌, ◌-◌, ◌*◌, ◌/◌, ◌^◌, ◌≤◌, ◌<◌, min, T, ℤ, pos, negsuc, neg_ℤ, nat_abs, Float}
use Rattle.std.proofs.Math.Path.{sym}
use Rattle.std.proofs.Common.{ap, ◌∙◌, subst, true≢false, arith, le→leb, lt→ltb}
use Rattle.std.proofs.Math.Option.{none, some}
use Rattle.std.proofs.Math.Nat.{div-le_of_le-mul}
use Rattle.std.specs.Float.{nan, inf, fin}
use Rattle.std.specs.Float.Ieee.{binary32, up, down, lt, le, eq, ne, of_int, in_float, to_signed}
use Rattle.std.specs.Float.Ieee.Fits.{down_pos}
use Rattle.std.specs.Float.Ieee.Scale.{finite}
use Rattle.std.proofs.Math.Facts.{T_not}
use Rattle.whole.specs.Flags.{yes-T}
use Rattle.floats.specs.Value.{with_sign, Worth, whole_of}
use Rattle.floats.specs.One.{size_signed, float_whole}
use Rattle.floats.specs.Exactly.{quotient_whole, whole_exactly, none_exactly}
use Rattle.floats.specs.Equal.{equal_exactly}
use Rattle.floats.specs.Far.{Within}

either : (a b : Bool) → T a → T (a || b)
either true b t = tt
either false b t = absurd t

within_finite : (x : Float) → Within x → T (finite x)
within_finite nan w = w
within_finite (inf s) w = w
within_finite (fin s m e) w = tt

-- of 2^63 over a denominator d
less : (d n : ℕ) → 0 < d → n ≤ 16777216 * d → n * 1 < 9223372036854775808 * d
less d n h i = omega arith

some_left : (d n : ℕ) → 0 < d → 0 < 9223372036854775808 * d + n
some_left d n h = omega arith

some_right : (d n : ℕ) → 0 < d → 0 < n + 9223372036854775808 * d
some_right d n h = omega arith

-- what a cut to an i64 asks
pub from_least : (x : Float) → Within x → T (le (fin true 1 (pos 63)) x)
unfolding le
from_least nan w = absurd w
from_least (inf s) w = absurd w
from_least (fin true m e) w = either (lt (fin true 1 (pos 63)) (fin true m e)) (eq (fin true 1 (pos 63)) (fin true m e)) (lt→ltb (m * up e * 1) (9223372036854775808 * down e) (less (down e) (m * up e) (down_pos e) w))
from_least (fin false m e) w = either (lt (fin true 1 (pos 63)) (fin false m e)) (eq (fin true 1 (pos 63)) (fin false m e)) (lt→ltb 0 (9223372036854775808 * down e + m * up e * 1) (some_left (down e) (m * up e * 1) (down_pos e)))

pub to_most : (x : Float) → Within x → T (lt x (fin false 1 (pos 63)))
unfolding lt
to_most nan w = absurd w
to_most (inf s) w = absurd w
to_most (fin false m e) w = lt→ltb (m * up e * 1) (9223372036854775808 * down e) (less (down e) (m * up e) (down_pos e) w)
to_most (fin true m e) w = lt→ltb 0 (m * up e * 1 + 9223372036854775808 * down e) (some_right (down e) (m * up e * 1) (down_pos e))

-- ---- the whole part
cut_is : (s : Bool) (q : ℕ) → q ≤ 16777216 → cond s (neg_ℤ (pos (min q (2 ^ 63)))) (pos (min q (2 ^ 63 - 1))) ≡ with_sign s q
cut_is true q h = let e : min q (2 ^ 63) ≡ q = omega arith in ap (λ (n : ℕ). neg_ℤ (pos n)) e
cut_is false q h = let e : min q (2 ^ 63 - 1) ≡ q = omega arith in ap pos e

part_most : (n d : ℕ) → n ≤ 16777216 * d → n / d ≤ 16777216
part_most n d h = div-le_of_le-mul d (omega arith)

pub cut_size : (x : Float) → Within x → nat_abs (to_signed 63 x) ≤ 16777216
unfolding to_signed
cut_size nan w = absurd w
cut_size (inf s) w = absurd w
cut_size (fin s m e) w =
    let q = m * up e / down e in
    let h : q ≤ 16777216 = part_most (m * up e) (down e) w in
    subst (λ (n : ℕ). n ≤ 16777216) (sym (ap nat_abs (cut_is s q h) ∙ size_signed s q)) h

-- what the cast back to a float asks
pub cast_fits : (z : ℤ) → nat_abs z ≤ 16777216 → T (in_float binary32 z)
unfolding in_float
cast_fits (pos n) h = le→leb n 16777216 h
cast_fits (negsuc n) h = lt→ltb n 16777216 h

-- the whole part of a whole number is it
cut_whole : (x : Float) (z : ℤ) → Within x → Worth x z → to_signed 63 x ≡ z
unfolding to_signed
cut_whole nan z w v = absurd w
cut_whole (inf s) z w v = absurd w
cut_whole (fin s m e) z w v = cut_is s (m * up e / down e) (part_most (m * up e) (down e) w) ∙ quotient_whole s m e z v

not-not : (b : Bool) → not b ≡ false → T b
not-not true e = tt
not-not false e = absurd (true≢false e)

-- ---- x against the float of n, its whole part
module _ (x : Float) (w : Within x) (n : ℤ) (h : n ≡ to_signed 63 x) where
  equal_whole : T (eq (of_int binary32 n) x) ↔ Worth x n
  equal_whole = equal_exactly (of_int binary32 n) x n (float_whole n (subst (λ (z : ℤ). nat_abs z ≤ 16777216) (sym h) (cut_size x w))) (within_finite x w)

  pub cut_same : ne (of_int binary32 n) x ≡ false → whole_of x ≡ some n
  unfolding ne
  cut_same e = (whole_exactly x n).1 (equal_whole.0 (not-not (eq (of_int binary32 n) x) e))

  pub cut_other : ne (of_int binary32 n) x ≡ true → whole_of x ≡ none
  unfolding ne
  cut_other e = (none_exactly x).1 (λ z v. T_not (eq (of_int binary32 n) x) (equal_whole.1 (subst (Worth x) (sym (cut_whole x z w v) ∙ sym h) v)) (yes-T e))
