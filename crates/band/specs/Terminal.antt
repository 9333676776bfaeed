-- The terminal line, written out, and that it is the only one.
use Rattle.std.specs.Prelude.{◌≡◌, List, ◌∷◌, [], ℕ, ◌*◌, ◌-◌, ◌<◌, ℤ, pos, nat_abs, ◌+ℤ◌, ◌-ℤ◌, ◌*ℤ◌, ◌<ℤ◌}
use Rattle.std.proofs.Common.{sym, ap, ◌∙◌, subst, arith}
use Rattle.whole.specs.Poly.{E, var, lit, ◌⊖◌, ◌⊗◌}
use Rattle.whole.specs.Ring.{ring}
use Rattle.whole.specs.Sign.{Positive, lt_sign, weaken, nat_nonneg, nat_positive, positive_mul, positive_nat}
use Rattle.band.specs.Line.{Line, Points, Proper, off, Terminal, Same}
use Rattle.band.specs.Seen.{offE}
use Rattle.band.specs.Same.{agree_twice, agree_passing}

abbrev last : Points → ℕ
last P = P.m - 1

abbrev pub terminal_part : Points → ℕ
terminal_part P = nat_abs (P.x (P.m - 1) -ℤ P.x 0) * P.d

abbrev pub terminal_line : (P : Points) → 0 < terminal_part P → Line
terminal_line P some = record {
  a = P.low (P.m - 1) -ℤ P.low 0;
  b = P.low 0 *ℤ P.x (P.m - 1) -ℤ P.low (P.m - 1) *ℤ P.x 0;
  q = terminal_part P;
  some = some;
}

module _ {P : Points} (proper : Proper P) where
  rise : P.x 0 <ℤ P.x (last P)
  rise = proper.rise 0 (last P) (omega (arith, proper.two)) (omega (arith, proper.two))

  part_is : pos (terminal_part P) ≡ (P.x (last P) -ℤ P.x 0) *ℤ pos P.d
  part_is = ap (λ (t : ℤ). t *ℤ pos P.d) (nat_nonneg (weaken (lt_sign rise)))

  pub terminal_some : 0 < terminal_part P
  terminal_some = nat_positive (subst Positive (sym part_is) (positive_mul (lt_sign rise) (positive_nat proper.unit)))

  pub terminal : (some : 0 < terminal_part P) → Terminal P (terminal_line P some)
  terminal some = record { first = opened (P.x 0) (P.low 0) ∙ ring ρ (height x v) (lit 0) tt; last = opened (P.x (last P)) (P.low (last P)) ∙ ring ρ (height y w) (lit 0) tt }
    where
      L : Line
      L = terminal_line P some

      opened : (x v : ℤ) → off P L x v ≡ (P.x (last P) -ℤ P.x 0) *ℤ pos P.d *ℤ v -ℤ pos P.d *ℤ (L.a *ℤ x +ℤ L.b)
      opened x v = ap (λ (q : ℤ). q *ℤ v -ℤ pos P.d *ℤ (L.a *ℤ x +ℤ L.b)) part_is

      ρ : List ℤ
      ρ = pos P.d ∷ P.x 0 ∷ P.low 0 ∷ P.x (last P) ∷ P.low (last P) ∷ []

      d : E
      d = var 0

      x : E
      x = var 1

      v : E
      v = var 2

      y : E
      y = var 3

      w : E
      w = var 4

      height : E → E → E
      height t u = offE ((y ⊖ x) ⊗ d) d (w ⊖ v) (v ⊗ y ⊖ w ⊗ x) t u

  pub terminal_same : (L M : Line) → Terminal P L → Terminal P M → Same L M
  terminal_same L M s t =
      agree_twice L M (P.x 0) (P.x (last P)) rise
      (agree_passing P L M (P.x 0) (P.low 0) proper.unit s.first t.first)
      (agree_passing P L M (P.x (last P)) (P.low (last P)) proper.unit s.last t.last)
