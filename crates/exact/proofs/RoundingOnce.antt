-- Only one answer fits the rule of rounding, and so the public statement of `thousandths`.
use Rattle.std.specs.Prelude.{◌≡◌, refl, Option, Some, None, ℕ, ◌+◌, ◌*◌, ◌/◌, ◌<◌, ◌≤◌}
use Rattle.std.proofs.Common.{sym, ap, arith}
use Rattle.std.proofs.Math.Nat as N
use Rattle.std.proofs.Math.Decide.{dec_lt}
use Rattle.exact.specs.Rounding.{distance, Nearest, PercentDue}
use Rattle.exact.proofs.RoundingLaws.{distance_is}
use Rattle.exact.specs.declared.Fraction.{Fraction}

-- the rule of rounding, and so `nearest`: between two different even numbers that are equally near lies another, which is nearer
pub one_nearest : {v d s t : ℕ} → Nearest v d s → Nearest v d t → s ≡ t
one_nearest {v} {d} {s} {t} a b = N.le_antisymm (not_more a b) (not_more b a)
  where
    not_more : {s t : ℕ} → Nearest v d s → Nearest v d t → s ≤ t
    not_more {s} {t} a b = go (dec_lt t s)
      where
        alike : distance v d s ≡ distance v d t
        alike = N.le_antisymm (a.near t) (b.near s)

        go : Dec (t < s) → s ≤ t
        go (no h) = omega arith
        go (yes h) =
            let s_even = N.mod-eq-zero_of_dvd 2 (a.even t (λ e. omega arith) (sym alike)) in
            let t_even = N.mod-eq-zero_of_dvd 2 (b.even s (λ e. omega arith) alike) in
            let apart : t * d < s * d = N.mul-lt-mul_of_pos_right h a.some in
            let u = (s + t) / 2 in
            let twice : 2 * u ≡ s + t = omega arith in
            let e : ⊥ = omega (arith, alike, distance_is v d s, distance_is v d t, distance_is v d u, a.near u, ap (λ (k : ℕ). k * d) twice) in
            absurd e

-- `thousandths`
pub one_percent : (f : Fraction) (p q : Option ℕ) → PercentDue f p → PercentDue f q → p ≡ q
one_percent f (Some s) (Some t) a b = ap Some (one_nearest a.1 b.1)
one_percent f (Some s) None a b = absurd (b a.0)
one_percent f None (Some t) a b = absurd (a b.0)
one_percent f None None a b = refl
