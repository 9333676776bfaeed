-- A float is one whole number at most; and of every whole number up to 2^24 in size the float is it.
use Rattle.std.specs.Prelude.{◌≡◌, refl, Bool, true, false, ℕ, suc, ◌*◌, ◌<◌, ◌≤◌, ℤ, pos, negsuc, nat_abs, ◌*ℤ◌, Float}
use Rattle.std.proofs.Common.{sym, ap, ◌∙◌, mul-one, arith}
use Rattle.std.proofs.Math.IntN.{*ℤ_comm}
use Rattle.std.specs.Float.{nan, inf, fin, binary32}
use Rattle.std.specs.Float.Ieee.{up, down, round, of_int}
use Rattle.std.specs.Float.Ieee.Back.{round_whole}
use Rattle.std.specs.Float.Ieee.Exact.{HasValue}
use Rattle.std.specs.Float.Ieee.Fits.{down_pos}
use Rattle.whole.specs.Balance as B
use Rattle.whole.specs.Balance.{nat, opp, ◌⊠◌}
use Rattle.whole.specs.Sign.{cancel_eq, positive_nat}
use Rattle.whole.specs.Size.{size_neg}
use Rattle.floats.specs.Value.{with_sign, Worth, under}

-- ---- a number with a sign
pub size_signed : (s : Bool) (n : ℕ) → nat_abs (with_sign s n) ≡ n
size_signed false n = refl
size_signed true n = size_neg (pos n)

pub signed_times : (s : Bool) (m d : ℕ) → with_sign s m *ℤ pos d ≡ with_sign s (m * d)
signed_times false m d = refl
signed_times true m d = B.eq_by (opp (nat m) ⊠ nat d) (opp (nat (m * d))) (omega arith)

-- ---- at most one
pub under_pos : (x : Float) → 0 < under x
under_pos nan = omega arith
under_pos (inf s) = omega arith
under_pos (fin s m e) = down_pos e

pub one_whole : {x : Float} {y z : ℤ} → Worth x y → Worth x z → y ≡ z
one_whole {x} {y} {z} a b =
    cancel_eq (positive_nat (under_pos x)) (*ℤ_comm (pos (under x)) y ∙ sym a.equal ∙ b.equal ∙ *ℤ_comm z (pos (under x)))

-- ---- the float of a whole number
valued : (x : Float) (s : Bool) (n : ℕ) → HasValue x s n 1 → Worth x (with_sign s n)
valued nan s n v = absurd v
valued (inf t) s n v = absurd v
valued (fin t m e) s n v = record { finite = tt; equal = ap (λ (b : Bool). with_sign b (m * up e)) v.0 ∙ ap (with_sign s) (sym (mul-one (m * up e)) ∙ v.1) ∙ sym (signed_times s n (down e)) }

pub float_whole : (z : ℤ) → nat_abs z ≤ 16777216 → Worth (of_int binary32 z) z
unfolding of_int
float_whole (pos n) h = valued (round binary32 false n 1) false n (round_whole binary32 false n h)
float_whole (negsuc n) h = valued (round binary32 true (suc n) 1) true (suc n) (round_whole binary32 true (suc n) h)
