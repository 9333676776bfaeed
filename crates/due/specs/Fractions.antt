-- Fractions that are made of equal quotients.
use Rattle.std.specs.Prelude.{◌≡◌, refl, ℕ, zero, suc, ◌*◌, ◌<◌, ℤ, pos, ◌*ℤ◌}
use Rattle.std.proofs.Common.{sym, ap, ◌∙◌, subst, ⊎_elim, eq-zero-or-pos, arith}
use Rattle.exact.specs.Value.{Made}
use Rattle.exact.specs.Exists.{some_made}
use Rattle.exact.specs.declared.Fraction.{Fraction}
use Rattle.fit.specs.Once.{made_once}

-- ---- where a product is zero and one factor is not, the other is
pub none_right : (q d : ℕ) → 0 < q → q * d ≡ 0 → d ≡ 0
none_right q zero h e = refl
none_right q (suc d) h e = absurd (omega arith)

-- where z·(a·s) is zero, so is every z'·(b·s) with b a multiple of a
pub none_too : (z z' a b s l m : ℕ) → 0 < z → 0 < l → a * m ≡ b * l → z * (a * s) ≡ 0 → z' * (b * s) ≡ 0
none_too z z' a b s l m hz hl e n =
    let i = none_right z (a * s) hz n in
    let j : l * (b * s) ≡ 0 = omega (arith, ap (λ (t : ℕ). t * s) e, ap (λ (t : ℕ). t * m) i) in
    let k = none_right l (b * s) hl j in
    omega (arith, ap (λ (t : ℕ). z' * t) k)

-- ---- fractions
-- two fractions over denominators of which neither or both are zero
pub made_same : {n m : ℤ} {p q : ℕ} {f h : Fraction} → Made n p f → Made m q h → (p ≡ 0 → q ≡ 0) → (q ≡ 0 → p ≡ 0) → n *ℤ pos q ≡ m *ℤ pos p → f ≡ h
made_same {p = p} {q} {f} {h} a b to from e = ⊎_elim (λ i. a.none i ∙ sym (b.none (to i))) (λ i. ⊎_elim (λ j. a.none (from j) ∙ sym (b.none j)) (λ j. made_once a b i j e) (eq-zero-or-pos q)) (eq-zero-or-pos p)

-- so what is made of the one is made of the other
pub made_alike : {n m : ℤ} {p q : ℕ} {f : Fraction} → Made n p f → (p ≡ 0 → q ≡ 0) → (q ≡ 0 → p ≡ 0) → n *ℤ pos q ≡ m *ℤ pos p → Made m q f
made_alike {m = m} {q = q} a to from e = let s = some_made m q in subst (Made m q) (sym (made_same a s.1 to from e)) s.1
