-- A line that fits an index, or a width that several lines reach, is what stands under the index, as `Enums` numbers it: only one answer is due, and an answer with the same fractions is.
use Rattle.std.specs.Prelude.{◌≡◌, refl, cond, ◌∷◌, [], ℕ, ◌*◌, ◌<◌, eqb, ℤ, pos, nat_abs, ◌*ℤ◌, ◌≤ℤ◌}
use Rattle.std.proofs.Common.{sym, ap, ◌∙◌, subst}
use Rattle.std.proofs.Math.Option.{some}
use Rattle.std.proofs.Math.IntN.{*ℤ_comm}
use Rattle.whole.specs.Poly.{var, lit, ◌⊗◌}
use Rattle.whole.specs.Ring.{ring}
use Rattle.whole.specs.Sign.{positive_nat, nat_nonneg, cancel_zero}
use Rattle.exact.specs.Value.{Made}
use Rattle.exact.specs.Exists.{some_made}
use Rattle.exact.proofs.RoundingLaws.{some_nearest}
use Rattle.exact.specs.declared.Fraction.{Fraction}
use Rattle.run.specs.declared.Run.{Run}
use Rattle.band.specs.Line.{Line, Points}
use Rattle.fit.specs.Answer.{line_of, Told, OnlyWidth}
use Rattle.fit.specs.declared.Fit.{Fit}
use Rattle.fit.specs.declared.Wide.{Wide}
use Rattle.fit.specs.declared.Drawn.TheVariants as drawn
use Rattle.due.specs.Due.{Fits, SeveralFit, only_width, span, Stands, Due}
use Rattle.due.specs.Cases.{Counted, Given, several, one_line}
use Rattle.due.specs.Ground.{Answered}
use Rattle.due.specs.GroundLaws.{answered_given}
use Rattle.due.specs.Once.{one_answer}
use Rattle.due.specs.declared.Answer.{Answer}
use Rattle.due.specs.declared.Index.{Index}
use Rattle.promises.specs.TestLaws as tests
use Rattle.promises.specs.Enums.{lined, as_lined}

-- a width is not negative, so it is made of its size
made_size : {w : ℤ} {q : ℕ} {f : Fraction} → pos 0 ≤ℤ w → Made w q f → Made (pos (nat_abs w)) q f
made_size {q = q} {f} sign m = subst (λ (n : ℤ). Made n q f) (sym (nat_nonneg sign)) m

-- ---- the number of a line
-- where n/d and m/p are worth the same, n is zero where m is
zero_too : (n m : ℤ) (d p : ℕ) → 0 < d → n *ℤ pos d ≡ m *ℤ pos p → m ≡ pos 0 → n ≡ pos 0
zero_too n m d p h e z = cancel_zero (positive_nat h) (*ℤ_comm (pos d) n ∙ e ∙ ap (λ (t : ℤ). t *ℤ pos p) z ∙ ring (pos p ∷ []) (lit 0 ⊗ var 0) (lit 0) tt)

-- the answer with the fractions of f: 11 where the slope is zero, else 0
abbrev with_line : Fit → (index : Fraction) → (thousandths : ℕ) → Answer
with_line f i k = record { number = cond (eqb (nat_abs f.slope.num) 0) 11 0; place = 0; width = f.width; slope = f.slope; offset = f.offset; index = i; thousandths = k }

-- the slope as a fraction in lowest terms is zero where the line's own numerator is
counted : {f : Fit} (t : Told f) (i : Fraction) (k : ℕ) → Counted (line_of f t.some) (with_line f i k)
counted {f} t i k =
    let s = f.slope in
    let worth = t.slope.worth t.some in
    let number = tests.told s.num (with_line f i k).number refl in
    record {
      flat = λ e. number.0 (zero_too s.num f.a f.q s.den t.some worth e);
      sloping = λ n. number.1 (λ e. n (zero_too f.a s.num s.den f.q t.slope.lowest.positive (sym worth) e));
      place = refl;
    }

-- ---- what stands under an index
module _ {which : Index} {r : Run} (o : Answered which r) {a : Answer} (due : Due which r a) where
  same_lined : {b : Answer} → Given which r b → some (lined b) ≡ some (lined a)
  same_lined g = ap (λ (b : Answer). some (lined b)) (one_answer which r (answered_given o g) due)

  pub line_is : {f : Fit} (t : Told f) → Fits which r (line_of f t.some) (nat_abs f.w) f.q → as_lined (drawn.Line f) ≡ some (lined a)
  line_is {f} t fits =
      let L = line_of f t.some in
      let w = nat_abs f.w in
      let i = some_made (pos (w * f.q)) (f.q * (nat_abs f.a * span r)) in
      let k = some_nearest (100000 * nat_abs i.0.num) i.0.den i.1.lowest.positive in
      let stands : Stands r L w f.q (with_line f i.0 k.0) = record { width = made_size t.sign t.width; slope = t.slope; offset = t.offset; index = i.1; thousandths = k.1 } in
      same_lined (one_line L w f.q t.some fits (counted t i.0 k.0) stands)

  pub width_is : {F : Line → Type 0} {P : Points} {h : Wide} → OnlyWidth F P h → SeveralFit which r (nat_abs h.w) h.q → as_lined (drawn.Several h) ≡ some (lined a)
  width_is {h = h} t fit = same_lined {b = only_width h.width} (several (nat_abs h.w) h.q t.some fit (made_size t.sign t.width) refl)
