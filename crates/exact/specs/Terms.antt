-- Laws of lowest terms: two numbers divided by their greatest common divisor give the fraction that is made.
use Rattle.std.specs.Prelude.{◌≡◌, refl, ℕ, zero, suc, ◌*◌, ◌/◌, ◌<◌, ◌≤◌, ℤ, pos, negsuc, nat_abs, neg_ℤ, ◌*ℤ◌}
use Rattle.std.proofs.Common.{sym, ap, ◌∙◌, subst, zero-le, arith}
use Rattle.std.proofs.Math.Nat as N
use Rattle.whole.specs.Balance as B
use Rattle.whole.specs.Balance.{nat, opp, ◌⊠◌}
use Rattle.whole.specs.Size.{size_neg}
use Rattle.exact.specs.Divisor.{Gcd}
use Rattle.exact.specs.Euclid.{coprime_parts}
use Rattle.exact.specs.Value.{Worth, Lowest, Made, NoLarger, nought}
use Rattle.exact.specs.declared.Fraction.{Fraction}

-- m with the sign of z
abbrev pub signed : ℤ → ℕ → ℤ
signed (pos n) m = pos m
signed (negsuc n) m = neg_ℤ (pos m)

pub size_signed : (z : ℤ) (m : ℕ) → nat_abs (signed z m) ≡ m
size_signed (pos n) m = refl
size_signed (negsuc n) m = size_neg (pos m)

-- z/d divided through by g
abbrev pub through : ℤ → ℕ → ℕ → Fraction
through z d g = record { num = signed z (nat_abs z / g); den = d / g }

module _ {d g : ℕ} (p : 0 < d) where
  part_positive : {n : ℕ} → Gcd n d g → 0 < d / g
  part_positive h = go (d / g) refl
    where
      go : (t : ℕ) → d / g ≡ t → 0 < t
      go zero e = let b : 0 * g ≡ d = subst (λ (t : ℕ). t * g ≡ d) e (N.div-mul_cancel g h.right) in let z : ⊥ = omega arith in absurd z
      go (suc t) e = omega arith

  crossed : (n : ℕ) → Gcd n d g → n / g * d ≡ n * (d / g)
  crossed n h = ap (λ (t : ℕ). n / g * t) (sym (N.div-mul_cancel g h.right)) ∙ regroup (n / g) (d / g) g ∙ ap (λ (t : ℕ). t * (d / g)) (N.div-mul_cancel g h.left)
    where
      regroup : (x y g : ℕ) → x * (y * g) ≡ x * g * y
      regroup x y g = omega arith

  worth_through : (z : ℤ) → Gcd (nat_abs z) d g → Worth (through z d g) z d
  worth_through (pos n) h = ap pos (crossed n h)
  worth_through (negsuc n) h = turned (suc n / g) d ∙ ap (λ (t : ℕ). neg_ℤ (pos t)) (crossed (suc n) h) ∙ sym (turned (suc n) (d / g))
    where
      turned : (a b : ℕ) → neg_ℤ (pos a) *ℤ pos b ≡ neg_ℤ (pos (a * b))
      turned a b = B.eq_by (opp (nat a) ⊠ nat b) (opp (nat a ⊠ nat b)) (omega arith)

  lowest_through : (z : ℤ) → Gcd (nat_abs z) d g → Lowest (through z d g)
  lowest_through z h = record { positive = part_positive h; coprime = subst (λ (t : ℕ). Gcd t (d / g) 1) (sym (size_signed z (nat_abs z / g))) (coprime_parts p h) }

  pub made_through : (z : ℤ) → Gcd (nat_abs z) d g → Made z d (through z d g)
  made_through z h = record { lowest = lowest_through z h; worth = λ _. worth_through z h; none = λ e. let b : ⊥ = omega arith in absurd b }

pub no_larger_through : (z : ℤ) (d g : ℕ) → NoLarger z d (through z d g)
no_larger_through z d g = record { num = subst (λ (t : ℕ). t ≤ nat_abs z) (sym (size_signed z (nat_abs z / g))) (N.div-le_self (nat_abs z) g); den = λ _. N.div-le_self d g }

-- over a denominator of zero
pub made_nought : (z : ℤ) (d : ℕ) → d ≡ 0 → Made z d nought
made_nought z d e = record { lowest = record { positive = omega arith; coprime = record { left = N.one-dvd 0; right = N.one-dvd 1; all = λ t i j. j } }; worth = λ p. let b : ⊥ = omega arith in absurd b; none = λ _. refl }

pub no_larger_nought : (z : ℤ) (d : ℕ) → d ≡ 0 → NoLarger z d nought
no_larger_nought z d e = record { num = zero-le; den = λ p. let b : ⊥ = omega arith in absurd b }
