-- The independent line as a program in C gets it, and that only one answer fits.
use Rattle.std.specs.Prelude.{◌≡◌, List, ◌∷◌, [], ℕ, ℤ}
use Rattle.std.proofs.Common.{sym, ◌∙◌}
use Rattle.band.specs.Line.{Points, All}
use Rattle.band.specs.Band.{Admitted}
use Rattle.exact.specs.declared.Fraction.{Fraction}
use Rattle.fit.specs.Answer.{TheLine}
use Rattle.fit.specs.Once.{OneLine, line_once}
use Rattle.fit.specs.declared.Fit.{Fit}

-- width, slope and offset
abbrev pub numerators : Fit → List ℤ
numerators f = f.width.num ∷ f.slope.num ∷ f.offset.num ∷ []

abbrev pub denominators : Fit → List ℕ
denominators f = f.width.den ∷ f.slope.den ∷ f.offset.den ∷ []

-- admitted points get their line; of others nothing is written
pub data Handed (P : Points) (above after : List ℤ) (below behind : List ℕ) : Type 0 where
  line : Admitted P → (f : Fit) → TheLine All P f → after ≡ numerators f → behind ≡ denominators f → Handed P above after below behind
  none : (Admitted P → ⊥) → after ≡ above → behind ≡ below → Handed P above after below behind

-- ---- only one answer fits
pub record OneLeft (after after' : List ℤ) (behind behind' : List ℕ) : Type 0 where
  pub above : after ≡ after'
  pub below : behind ≡ behind'

three : {X : Type 0} (g : Fraction → X) {f h : Fit} → OneLine f h → g f.width ∷ g f.slope ∷ g f.offset ∷ [] ≡ g h.width ∷ g h.slope ∷ g h.offset ∷ []
three g e = simp (e.width, e.slope, e.offset)

pub one_handed : {P : Points} {above after after' : List ℤ} {below behind behind' : List ℕ} → Handed P above after below behind → Handed P above after' below behind' → OneLeft after after' behind behind'
one_handed (line a f t p q) (line b h u r s) =
    let e = line_once t u in
    record { above = p ∙ three (λ z. z.num) e ∙ sym r; below = q ∙ three (λ z. z.den) e ∙ sym s }
one_handed (line a f t p q) (none b r s) = absurd (b a)
one_handed (none a p q) (line b h u r s) = absurd (a b)
one_handed (none a p q) (none b r s) = record { above = p ∙ sym r; below = q ∙ sym s }
