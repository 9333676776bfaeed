-- Only one answer fits each public statement of this crate.
use Rattle.std.specs.Prelude.{◌≡◌, ◌∷◌, [], ℕ, ◌*◌, ◌<◌, ℤ, pos, nat_abs, ◌*ℤ◌}
use Rattle.std.proofs.Common.{sym, ap, ◌∙◌, subst, ⊎_elim}
use Rattle.std.specs.Int.{◌∣◌}
use Rattle.std.proofs.Math.Nat as N
use Rattle.std.proofs.Math.IntN.{*ℤ_comm}
use Rattle.whole.specs.Poly.{var, ◌⊗◌}
use Rattle.whole.specs.Ring.{ring}
use Rattle.whole.specs.Sign.{cancel_eq, positive_nat}
use Rattle.whole.specs.Size.{size_product}
use Rattle.exact.specs.Divisor.{Gcd}
use Rattle.exact.specs.Euclid.{gcd_same, coprime_divides}
use Rattle.exact.specs.Value.{SameWorth, Lowest, Made, nought}
use Rattle.exact.specs.declared.Fraction.{Fraction}

-- `divisor`
pub one_divisor : {a b g h : ℕ} → Gcd a b g → Gcd a b h → g ≡ h
one_divisor = gcd_same

-- two fractions in lowest terms that are worth the same are the same
pub same_terms : {f g : Fraction} → Lowest f → Lowest g → SameWorth f g → f ≡ g
same_terms {f} {g} l m e =
    let z : nat_abs f.num * g.den ≡ nat_abs g.num * f.den = sym (size_product f.num (pos g.den)) ∙ ap nat_abs e ∙ size_product g.num (pos f.den) in
    let into : f.den ∣ g.den = coprime_divides m.positive l.coprime (subst (λ (t : ℕ). f.den ∣ t) (sym z ∙ N.mul_comm (nat_abs f.num) g.den) (N.dvd-mul_left f.den (nat_abs g.num))) in
    let back : g.den ∣ f.den = coprime_divides l.positive m.coprime (subst (λ (t : ℕ). g.den ∣ t) (z ∙ N.mul_comm (nat_abs g.num) f.den) (N.dvd-mul_left g.den (nat_abs f.num))) in
    let q : f.den ≡ g.den = N.dvd_antisymm into back in
    let n : f.num ≡ g.num = cancel_eq (positive_nat l.positive) (*ℤ_comm (pos f.den) f.num ∙ ap (λ (t : ℕ). f.num *ℤ pos t) q ∙ e ∙ *ℤ_comm g.num (pos f.den)) in
    λ i. record { num = n i; den = q i }

-- zero is 0/1
pub zero_is_nought : {f : Fraction} → Lowest f → f.num ≡ pos 0 → f ≡ nought
zero_is_nought {f} l e =
    let d : f.den ≡ 1 = N.dvd_antisymm (l.coprime.all f.den (subst (λ (t : ℤ). f.den ∣ nat_abs t) (sym e) (N.dvd-zero f.den)) (N.dvd_refl f.den)) (N.one-dvd f.den) in
    λ i. record { num = e i; den = d i }

-- `lowest`
pub one_fraction : {n : ℤ} {d : ℕ} {f g : Fraction} → Made n d f → Made n d g → f ≡ g
one_fraction {n} {d} {f} {g} a b = ⊎_elim (λ e. a.none e ∙ sym (b.none e)) worth (N.eq-zero-or-pos d)
  where
    worth : 0 < d → f ≡ g
    worth p =
        same_terms a.lowest b.lowest
        (cancel_eq (positive_nat p)
        (ring (pos d ∷ f.num ∷ pos g.den ∷ []) (var 0 ⊗ (var 1 ⊗ var 2)) (var 2 ⊗ (var 1 ⊗ var 0)) tt
        ∙ ap (λ (t : ℤ). pos g.den *ℤ t) (a.worth p)
        ∙ ring (pos g.den ∷ n ∷ pos f.den ∷ []) (var 0 ⊗ (var 1 ⊗ var 2)) (var 2 ⊗ (var 1 ⊗ var 0)) tt
        ∙ ap (λ (t : ℤ). pos f.den *ℤ t) (sym (b.worth p))
        ∙ ring (pos f.den ∷ g.num ∷ pos d ∷ []) (var 0 ⊗ (var 1 ⊗ var 2)) (var 2 ⊗ (var 1 ⊗ var 0)) tt))
