-- When two lines are one: `Same` is an equivalence, a line is fixed by its values at two inputs, and no statement of `Line` depends on how a line is written.
use Rattle.std.specs.Prelude.{◌≡◌, ◌∷◌, [], ℕ, ◌*◌, ◌<◌, ◌≤◌, ℤ, pos, nat_abs, ◌+ℤ◌, ◌-ℤ◌, ◌*ℤ◌, ◌<ℤ◌}
use Rattle.std.proofs.Common.{sym, ap, ap₂, ◌∙◌, mul-le-mul_right, arith}
use Rattle.std.proofs.Math.Nat.{le_of_mul-le-mul_left}
use Rattle.whole.specs.Poly.{E, var, lit, ◌⊕◌, ◌⊖◌, ◌⊗◌}
use Rattle.whole.specs.Ring.{ring}
use Rattle.whole.specs.Sign.{Positive, lt_sign, positive_nat, positive_mul, cancel_zero, cancel_eq}
use Rattle.whole.specs.Size.{size_product}
use Rattle.band.specs.Line.{Line, Points, off, Passing, Within, Least, Same, Single, Several}
use Rattle.band.specs.Seen.{offE}

pub same_sym : {L M : Line} → Same L M → Same M L
same_sym e = record { slope = sym e.slope; offset = sym e.offset }

pub same_written : {L M : Line} → L.a ≡ M.a → L.b ≡ M.b → L.q ≡ M.q → Same L M
same_written e f g = record { slope = ap₂ (λ (s : ℤ) (r : ℕ). s *ℤ pos r) e (sym g); offset = ap₂ (λ (s : ℤ) (r : ℕ). s *ℤ pos r) f (sym g) }

-- two fractions that equal a third: q is the third's denominator
pub through : (a b c q r s : ℤ) → Positive q → a *ℤ q ≡ b *ℤ r → b *ℤ s ≡ c *ℤ q → a *ℤ s ≡ c *ℤ r
through a b c q r s h e f =
    cancel_eq h
    (ring (a ∷ q ∷ s ∷ []) (var 1 ⊗ (var 0 ⊗ var 2)) (var 0 ⊗ var 1 ⊗ var 2) tt
    ∙ ap (λ (t : ℤ). t *ℤ s) e
    ∙ ring (b ∷ r ∷ s ∷ []) (var 0 ⊗ var 1 ⊗ var 2) (var 0 ⊗ var 2 ⊗ var 1) tt
    ∙ ap (λ (t : ℤ). t *ℤ r) f
    ∙ ring (c ∷ q ∷ r ∷ []) (var 0 ⊗ var 1 ⊗ var 2) (var 1 ⊗ (var 0 ⊗ var 2)) tt)

pub same_trans : {L M N : Line} → Same L M → Same M N → Same L N
same_trans {L} {M} {N} e f =
    let h = positive_nat M.some in
    record { slope = through L.a M.a N.a _ _ _ h e.slope f.slope; offset = through L.b M.b N.b _ _ _ h e.offset f.offset }

-- ---- a line is fixed by its values at two inputs
-- L and M have one value at x
abbrev pub Agree : Line → Line → ℤ → Type 0
Agree L M x = (L.a *ℤ x +ℤ L.b) *ℤ pos M.q ≡ (M.a *ℤ x +ℤ M.b) *ℤ pos L.q

pub agree_twice : (L M : Line) (x y : ℤ) → x <ℤ y → Agree L M x → Agree L M y → Same L M
agree_twice L M x y h e f = record { slope = cancel_eq (lt_sign h) slope; offset = cancel_eq (lt_sign h) offset }
  where
    value : E → E
    value x = (var 2 ⊗ x ⊕ var 3) ⊗ var 4

    rise : (a b q : ℤ) → (y -ℤ x) *ℤ (a *ℤ q) ≡ (a *ℤ y +ℤ b) *ℤ q -ℤ (a *ℤ x +ℤ b) *ℤ q
    rise a b q = ring (x ∷ y ∷ a ∷ b ∷ q ∷ []) ((var 1 ⊖ var 0) ⊗ (var 2 ⊗ var 4)) (value (var 1) ⊖ value (var 0)) tt

    cross : (a b q : ℤ) → (y -ℤ x) *ℤ (b *ℤ q) ≡ y *ℤ ((a *ℤ x +ℤ b) *ℤ q) -ℤ x *ℤ ((a *ℤ y +ℤ b) *ℤ q)
    cross a b q = ring (x ∷ y ∷ a ∷ b ∷ q ∷ []) ((var 1 ⊖ var 0) ⊗ (var 3 ⊗ var 4)) (var 1 ⊗ value (var 0) ⊖ var 0 ⊗ value (var 1)) tt

    slope : (y -ℤ x) *ℤ (L.a *ℤ pos M.q) ≡ (y -ℤ x) *ℤ (M.a *ℤ pos L.q)
    slope = rise L.a L.b (pos M.q) ∙ ap₂ (λ (s t : ℤ). s -ℤ t) f e ∙ sym (rise M.a M.b (pos L.q))

    offset : (y -ℤ x) *ℤ (L.b *ℤ pos M.q) ≡ (y -ℤ x) *ℤ (M.b *ℤ pos L.q)
    offset = cross L.a L.b (pos M.q) ∙ ap₂ (λ (s t : ℤ). y *ℤ s -ℤ x *ℤ t) e f ∙ sym (cross M.a M.b (pos L.q))

-- two lines from which the value v/d at x lies as far, t/z
pub agree_by : (P : Points) (L M : Line) (z : ℕ) (t x v : ℤ) → 0 < P.d → 0 < z → pos z *ℤ off P L x v ≡ t *ℤ pos (L.q * P.d) → pos z *ℤ off P M x v ≡ t *ℤ pos (M.q * P.d) → Agree L M x
agree_by P L M z t x v unit some e f = cancel_eq (positive_mul (positive_nat some) (positive_nat unit)) (here L (pos M.q) e ∙ swap ∙ sym (here M (pos L.q) f))
  where
    d : ℤ
    d = pos P.d

    here : (N : Line) (r : ℤ) → pos z *ℤ off P N x v ≡ t *ℤ pos (N.q * P.d) → pos z *ℤ d *ℤ ((N.a *ℤ x +ℤ N.b) *ℤ r) ≡ r *ℤ (pos z *ℤ (pos N.q *ℤ v) -ℤ t *ℤ (pos N.q *ℤ d))
    here N r g =
        ring (pos z ∷ pos N.q ∷ d ∷ N.a ∷ N.b ∷ x ∷ v ∷ r ∷ []) (var 0 ⊗ var 2 ⊗ ((var 3 ⊗ var 5 ⊕ var 4) ⊗ var 7)) (var 7 ⊗ (var 0 ⊗ (var 1 ⊗ var 6) ⊖ var 0 ⊗ offE (var 1) (var 2) (var 3) (var 4) (var 5) (var 6))) tt
        ∙ ap (λ (s : ℤ). r *ℤ (pos z *ℤ (pos N.q *ℤ v) -ℤ s)) g

    swap : pos M.q *ℤ (pos z *ℤ (pos L.q *ℤ v) -ℤ t *ℤ (pos L.q *ℤ d)) ≡ pos L.q *ℤ (pos z *ℤ (pos M.q *ℤ v) -ℤ t *ℤ (pos M.q *ℤ d))
    swap =
        let side : E → E → E = λ q r. q ⊗ (var 0 ⊗ (r ⊗ var 2) ⊖ var 3 ⊗ (r ⊗ var 1)) in
        ring (pos z ∷ d ∷ v ∷ t ∷ pos L.q ∷ pos M.q ∷ []) (side (var 5) (var 4)) (side (var 4) (var 5)) tt

-- two lines through one point agree there
pub agree_passing : (P : Points) (L M : Line) (x v : ℤ) → 0 < P.d → Passing P x v L → Passing P x v M → Agree L M x
agree_passing P L M x v unit e f = agree_by P L M 1 (pos 0) x v unit (omega arith) (none L e) (none M f)
  where
    none : (N : Line) → Passing P x v N → pos 1 *ℤ off P N x v ≡ pos 0 *ℤ pos (N.q * P.d)
    none N h = ap (λ (t : ℤ). pos 1 *ℤ t) h ∙ ring (pos (N.q * P.d) ∷ []) (lit 1 ⊗ lit 0) (lit 0 ⊗ var 0) tt

-- ---- how far a value lies off does not depend on how a line is written
off_same : (P : Points) (x v : ℤ) {L M : Line} → Same L M → pos L.q *ℤ off P M x v ≡ pos M.q *ℤ off P L x v
off_same P x v {L} {M} e =
    scaled M (pos L.q)
    ∙ ap₂ (λ (s t : ℤ). pos L.q *ℤ pos M.q *ℤ v -ℤ d *ℤ (s *ℤ x +ℤ t)) (sym e.slope) (sym e.offset)
    ∙ ap (λ (s : ℤ). s *ℤ v -ℤ d *ℤ (L.a *ℤ pos M.q *ℤ x +ℤ L.b *ℤ pos M.q)) (ring (pos L.q ∷ pos M.q ∷ []) (var 0 ⊗ var 1) (var 1 ⊗ var 0) tt)
    ∙ sym (scaled L (pos M.q))
  where
    d : ℤ
    d = pos P.d

    scaled : (N : Line) (r : ℤ) → r *ℤ off P N x v ≡ r *ℤ pos N.q *ℤ v -ℤ d *ℤ (N.a *ℤ r *ℤ x +ℤ N.b *ℤ r)
    scaled N r = ring (pos N.q ∷ d ∷ N.a ∷ N.b ∷ x ∷ v ∷ r ∷ []) (var 6 ⊗ offE (var 0) (var 1) (var 2) (var 3) (var 4) (var 5)) (var 6 ⊗ var 0 ⊗ var 5 ⊖ var 1 ⊗ (var 2 ⊗ var 6 ⊗ var 4 ⊕ var 3 ⊗ var 6)) tt

pub same_passing : (P : Points) (x v : ℤ) {L M : Line} → Same L M → Passing P x v L → Passing P x v M
same_passing P x v {L} {M} e h = cancel_zero (positive_nat L.some) (off_same P x v e ∙ ap (λ (t : ℤ). pos M.q *ℤ t) h ∙ ring (pos M.q ∷ []) (var 0 ⊗ lit 0) (lit 0) tt)

pub same_within : {P : Points} {L M : Line} {w z : ℕ} → Same L M → Within P L w z → Within P M w z
same_within {P} {L} {M} {w} {z} e W = record { low = λ i h. go (P.x i) (P.low i) (W.low i h); high = λ i h. go (P.x i) (P.high i) (W.high i h) }
  where
    less : (q r f g n : ℕ) → 0 < q → q * f ≡ r * g → g * z ≤ n * (q * P.d) → f * z ≤ n * (r * P.d)
    less q r f g n hq k h = le_of_mul-le-mul_left (omega (arith, ap (λ (t : ℕ). t * z) k, mul-le-mul_right r h)) hq

    go : (x v : ℤ) → nat_abs (off P L x v) * z ≤ w * (L.q * P.d) → nat_abs (off P M x v) * z ≤ w * (M.q * P.d)
    go x v h = less L.q M.q (nat_abs (off P M x v)) (nat_abs (off P L x v)) w L.some (sym (size_product (pos L.q) (off P M x v)) ∙ ap nat_abs (off_same P x v e) ∙ size_product (pos M.q) (off P L x v)) h

-- ---- one answer
pub exclusive : {F : Line → Type 0} {P : Points} {w z : ℕ} → Single F P w z → Several F P w z → ⊥
exclusive s t = t.differ (s t.one t.two t.one_of t.two_of t.one_in t.two_in)

pub width_same : {F : Line → Type 0} {P : Points} {w z w' z' : ℕ} → Least F P w z → Least F P w' z' → w * z' ≡ w' * z
width_same {w = w} {z} {w'} {z'} M N = omega (arith, M.least N.line w' z' N.member N.some N.reached, N.least M.line w z M.member M.some M.reached)
