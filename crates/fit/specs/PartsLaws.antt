-- Whole numbers that are made from numbers of bounded size may be told, and what is told of the stored ones is told of the numbers.
use Rattle.std.specs.Prelude.{◌≡◌, Bool, ◌&&◌, List, ℕ, ◌<◌, ◌≤◌, T, leb, ℤ, pos, nat_abs, ◌≤ℤ◌, ◌<ℤ◌}
use Rattle.std.proofs.Common.{sym, ap, ◌∙◌, subst}
use Rattle.std.proofs.Math.Facts.{and_yes}
use Rattle.whole.specs.Poly.{E, val}
use Rattle.whole.specs.Sign.{nat_positive}
use Rattle.whole.specs.Machine.{Bounds, stored, raw, bound, ok, ends, stays}
use Rattle.fit.specs.Parts.{Whole, CourseParts, FitParts, ReachParts, WideParts}
use Rattle.fit.specs.Plot.{Tells, TellsWidth}
use Rattle.fit.specs.declared.Course.{Course}
use Rattle.fit.specs.declared.Reach.{Reach}
use Rattle.fit.specs.declared.Fit.{Fit}
use Rattle.fit.specs.declared.Wide.{Wide}

-- the numbers as expressions
pub record Written : Type 0 where
  pub a : E
  pub b : E
  pub q : E
  pub w : E

abbrev within : List ℕ → E → ℕ → Bool
within β e n = ok β e && leb (bound β e) n

-- no operation leaves the machine's range, and none of the four is larger than `Whole` allows
abbrev pub tellable : List ℕ → Written → Bool
tellable β e = (within β e.a 412000000 && within β e.b 50000000000000) && (within β e.q 24000000 && within β e.w 40000000000000)

-- the same numbers, written otherwise
pub parts_is : {a b q w a' b' q' w' : ℤ} {c : Course} → a ≡ a' → b ≡ b' → q ≡ q' → w ≡ w' → CourseParts c a b q w → CourseParts c a' b' q' w'
parts_is ea eb eq ew p = record {
  whole = record {
    positive = subst (λ (z : ℤ). pos 0 <ℤ z) eq p.whole.positive;
    sign = subst (λ (z : ℤ). pos 0 ≤ℤ z) ew p.whole.sign;
    a_most = subst (λ (z : ℤ). nat_abs z ≤ 412000000) ea p.whole.a_most;
    b_most = subst (λ (z : ℤ). nat_abs z ≤ 50000000000000) eb p.whole.b_most;
    w_most = subst (λ (z : ℤ). nat_abs z ≤ 40000000000000) ew p.whole.w_most;
    q_most = subst (λ (z : ℤ). nat_abs z ≤ 24000000) eq p.whole.q_most;
  };
  a_is = p.a_is ∙ ea;
  b_is = p.b_is ∙ eb;
  q_is = p.q_is ∙ eq;
  w_is = p.w_is ∙ ew;
}

module _ (ρ : List ℤ) (β : List ℕ) (hs : Bounds ρ β) (e : Written) (t : T (tellable β e)) where
  abbrev kept : E → ℤ
  kept x = stored (raw ρ x)

  left : T (within β e.a 412000000) × T (within β e.b 50000000000000)
  left = and_yes (within β e.a 412000000) (within β e.b 50000000000000) (and_yes (within β e.a 412000000 && within β e.b 50000000000000) (within β e.q 24000000 && within β e.w 40000000000000) t).0

  right : T (within β e.q 24000000) × T (within β e.w 40000000000000)
  right = and_yes (within β e.q 24000000) (within β e.w 40000000000000) (and_yes (within β e.a 412000000 && within β e.b 50000000000000) (within β e.q 24000000 && within β e.w 40000000000000) t).1

  is : (x : E) (n : ℕ) → T (within β x n) → kept x ≡ val ρ x
  is x n s = ends ρ β hs x (and_yes (ok β x) (leb (bound β x) n) s).0

  most : (x : E) (n : ℕ) → T (within β x n) → nat_abs (kept x) ≤ n
  most x n s = let p = and_yes (ok β x) (leb (bound β x) n) s in stays ρ β hs x n p.0 p.1

  pub whole_by : pos 0 <ℤ val ρ e.q → pos 0 ≤ℤ val ρ e.w → Whole (stored (raw ρ e.a)) (stored (raw ρ e.b)) (stored (raw ρ e.q)) (stored (raw ρ e.w))
  whole_by h i = record {
    positive = subst (λ (z : ℤ). pos 0 <ℤ z) (sym (is e.q 24000000 right.0)) h;
    sign = subst (λ (z : ℤ). pos 0 ≤ℤ z) (sym (is e.w 40000000000000 right.1)) i;
    a_most = most e.a 412000000 left.0;
    b_most = most e.b 50000000000000 left.1;
    w_most = most e.w 40000000000000 right.1;
    q_most = most e.q 24000000 right.0;
  }

  pub parts_by : {c : Course} → CourseParts c (stored (raw ρ e.a)) (stored (raw ρ e.b)) (stored (raw ρ e.q)) (stored (raw ρ e.w)) → CourseParts c (val ρ e.a) (val ρ e.b) (val ρ e.q) (val ρ e.w)
  parts_by = parts_is (is e.a 412000000 left.0) (is e.b 50000000000000 left.1) (is e.q 24000000 right.0) (is e.w 40000000000000 right.1)

-- ---- with the fractions
pub tells_parts : {a b q w : ℤ} {c : Course} {f : Fit} → CourseParts c a b q w → Tells c f → FitParts f a b q w
tells_parts {a} {b} {q} {w} p t =
    let a_is = t.a_is ∙ p.a_is in
    let b_is = t.b_is ∙ p.b_is in
    let q_is = ap pos t.q_is ∙ p.q_is in
    let w_is = t.w_is ∙ p.w_is in
    let n = ap nat_abs q_is in
    record {
      told = record {
        some = subst (λ (k : ℕ). 0 < k) (sym n) (nat_positive p.whole.positive);
        sign = subst (λ (z : ℤ). pos 0 ≤ℤ z) (sym w_is) p.whole.sign;
        width = t.width;
        slope = t.slope;
        offset = t.offset;
        a_most = subst (λ (z : ℤ). nat_abs z ≤ 412000000) (sym a_is) p.whole.a_most;
        b_most = subst (λ (z : ℤ). nat_abs z ≤ 50000000000000) (sym b_is) p.whole.b_most;
        w_most = subst (λ (z : ℤ). nat_abs z ≤ 40000000000000) (sym w_is) p.whole.w_most;
        q_most = subst (λ (k : ℕ). k ≤ 24000000) (sym n) p.whole.q_most;
      };
      a_is = a_is;
      b_is = b_is;
      q_is = q_is;
      w_is = w_is;
    }

pub tells_wide : {w : ℤ} {d : ℕ} {h : Reach} {k : Wide} → ReachParts w d h → TellsWidth h k → WideParts w d k
tells_wide p t = record { w_is = t.w_is ∙ p.w_is; q_is = t.q_is ∙ p.q_is; width = t.width }
