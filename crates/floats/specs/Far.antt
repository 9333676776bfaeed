-- Which floats are finite, and that those beyond 2^24 are whole.
use Rattle.std.specs.Prelude.{◌≡◌, refl, Bool, true, false, not, ◌&&◌, ℕ, zero, suc, ◌*◌, ◌%◌, ◌^◌, ◌≤◌, ◌<◌, T, eqb, ltb, leb, ℤ, pos, negsuc, nat_abs, Float}
use Rattle.std.proofs.Common.{sym, subst, true≢false, arith, ltb→lt, nltb→le, pow_pos}
use Rattle.std.proofs.lemmas.Bool.{false≢true}
use Rattle.std.proofs.Math.Option.{none}
use Rattle.std.specs.Float.{nan, inf, fin, binary32}
use Rattle.std.specs.Float.Ieee.{up, down, lt, fits}
use Rattle.std.specs.Float.Ieee.Fits.{and_l, and_r}
use Rattle.std.specs.Float.Ieee.Scale.{finite}
use Rattle.whole.specs.Balance as B
use Rattle.whole.specs.Balance.{int, nat, ◌⊠◌}
use Rattle.floats.specs.Value.{with_sign, Worth, whole_of}
use Rattle.floats.specs.One.{size_signed}

-- ---- only a NaN and an infinity are not between the infinities
pub not_below : (x : Float) → not (lt x (inf false)) ≡ true → whole_of x ≡ none
unfolding lt
not_below nan h = refl
not_below (inf s) h = refl
not_below (fin s m e) h = absurd (false≢true h)

pub not_above : (x : Float) → not (lt (inf true) x) ≡ true → whole_of x ≡ none
unfolding lt
not_above nan h = refl
not_above (inf s) h = refl
not_above (fin s m e) h = absurd (false≢true h)

pub between_finite : (x : Float) → not (lt x (inf false)) ≡ false → not (lt (inf true) x) ≡ false → T (finite x)
unfolding lt
between_finite nan h i = absurd (true≢false h)
between_finite (inf true) h i = absurd (true≢false i)
between_finite (inf false) h i = absurd (true≢false h)
between_finite (fin s m e) h i = tt

-- ---- beyond 2^24: m has at most 24 digits, so there is no fraction
few_digits : (s : Bool) (m : ℕ) (e : ℤ) → T (fits binary32 (fin s m e)) → m < 16777216
unfolding fits
few_digits s zero e F = omega arith
few_digits s (suc m) e F =
    let a = eqb (suc m % 2) 1 in
    let b = ltb (suc m) 16777216 in
    let c = leb (down e) (2 ^ 149) in
    let d = ltb (suc m * up e) (2 ^ 128 * down e) in
    ltb→lt (suc m) 16777216 (and_r a b (and_l (a && b) c (and_l (a && b && c) d F)))

beyond : (s : Bool) (m : ℕ) (e : ℤ) → T (fits binary32 (fin s m e)) → 16777216 * down e < m * up e * 1 → (z : ℤ) × Worth (fin s m e) z × (16777216 < nat_abs z)
beyond s m (pos k) F h =
    let z = with_sign s (m * 2 ^ k) in
    (z, record { finite = tt; equal = sym (B.eq_by (int z ⊠ nat 1) (int z) (omega arith)) }, subst (λ (n : ℕ). 16777216 < n) (sym (size_signed s (m * 2 ^ k))) (more (m * 2 ^ k) h))
  where
    more : (n : ℕ) → 16777216 * 1 < n * 1 → 16777216 < n
    more n h = omega arith
beyond s m (negsuc k) F h = absurd (no m (2 ^ suc k) (few_digits s m (negsuc k) F) (pow_pos (suc k)) h)
  where
    no : (m d : ℕ) → m < 16777216 → 0 < d → 16777216 * d < m * 1 * 1 → ⊥
    no m d a b c = omega arith

-- 2^24, with a sign
abbrev pub far : Bool → Float
far s = fin s 1 (pos 24)

pub below_far : (x : Float) → T (fits binary32 x) → T (finite x) → T (lt x (far true)) → (z : ℤ) × Worth x z × (16777216 < nat_abs z)
unfolding lt
below_far nan F f t = absurd f
below_far (inf s) F f t = absurd f
below_far (fin false m e) F f t = absurd t
below_far (fin true m e) F f t = beyond true m e F (ltb→lt (16777216 * down e) (m * up e * 1) t)

pub above_far : (x : Float) → T (fits binary32 x) → T (finite x) → T (lt (far false) x) → (z : ℤ) × Worth x z × (16777216 < nat_abs z)
unfolding lt
above_far nan F f t = absurd f
above_far (inf s) F f t = absurd f
above_far (fin true m e) F f t = absurd t
above_far (fin false m e) F f t = beyond false m e F (ltb→lt (16777216 * down e) (m * up e * 1) t)

-- ---- within 2^24
abbrev pub Within : Float → Type 0
Within nan = ⊥
Within (inf s) = ⊥
Within (fin s m e) = m * up e ≤ 16777216 * down e

pub within_far : (x : Float) → T (finite x) → T (not (lt x (far true))) → T (not (lt (far false) x)) → Within x
unfolding lt
within_far nan f t u = absurd f
within_far (inf s) f t u = absurd f
within_far (fin true m e) f t u = omega (arith, nltb→le (16777216 * down e) (m * up e * 1) t)
within_far (fin false m e) f t u = omega (arith, nltb→le (16777216 * down e) (m * up e * 1) u)
