-- For every numerator and denominator there is the fraction that is made of them.
use Rattle.std.specs.Prelude.{refl, ℕ, zero, suc, ℤ, nat_abs}
use Rattle.std.proofs.Common.{arith}
use Rattle.exact.specs.Value.{Made, nought}
use Rattle.exact.specs.Euclid.{gcd_within}
use Rattle.exact.specs.Terms.{through, made_through, made_nought}
use Rattle.exact.specs.declared.Fraction.{Fraction}

pub some_made : (n : ℤ) (d : ℕ) → (f : Fraction) × Made n d f
some_made n zero = (nought, made_nought n 0 refl)
some_made n (suc d) =
    let g = gcd_within (suc (suc d)) (nat_abs n) (suc d) (omega arith) in
    (through n (suc d) g.0, made_through (omega arith) n g.1)
