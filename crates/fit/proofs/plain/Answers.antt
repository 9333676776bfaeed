-- `fit::plain` meets its contract: numbers of bounded size, so every operation fits, and the four may be laid.
use mathlib.Core.Path.{◌≡◌, sym, ap₂, ◌∙◌, subst}
use mathlib.Core.List.{List, ◌∷◌, []}
use Prim.Native.Nat.{ℕ, ◌≤◌}
use borrow.Author.Rules.{rules}
use lib.IntN.{ℤ, pos, nat_abs, ◌-ℤ◌, ◌*ℤ◌}
use lib.Signed.{◌≤ℤ◌}
use Rattle.whole.specs.Poly.{var, lit, ◌⊖◌, ◌⊗◌}
use Rattle.whole.specs.Sign.{positive_mul, positive_nat, le_trans}
use Rattle.whole.specs.Machine.{Bounds, stored, ends, sized}
use Rattle.band.specs.Band.{most_d}
use Rattle.fit.specs.Parts.{CourseParts}
use Rattle.whole.specs.Greater.{greater, greater_left, greater_size}
use Rattle.fit.specs.Ends.{most_a, most_b, most_gap, most_e}
use Rattle.fit.specs.PartsLaws.{Written, whole_by, parts_by}
use Rattle.fit.proofs.plain.Goals.{After-max, Start}
use Rattle.fit.proofs.plain.Goals as goal

abbrev ρ : Start → List ℤ
ρ c = c.args.e.a ∷ c.args.e.b ∷ c.args.e.s ∷ c.args.r.lo ∷ c.args.r.hi ∷ pos c.args.d ∷ []

abbrev β : List ℕ
β = most_a ∷ most_b ∷ most_gap ∷ most_e ∷ most_e ∷ most_d ∷ []

-- the line's numbers, and the width that was found
abbrev start : After-max → Start
start c = c.before.before.before.before.before

abbrev wide : Start → ℤ
wide s = greater s.args.r.hi (pos 0 -ℤ s.args.r.lo)

found : (c : After-max) → c.max.result ≡ wide (start c)
found c = let s = start c in let m : c.max.result ≡ greater (stored s.args.r.hi) (stored (pos 0 -ℤ stored s.args.r.lo)) = search rules in m ∙ ap₂ greater (ends (ρ s) β s.requires.bounds (var 4) tt) (ends (ρ s) β s.requires.bounds (lit 0 ⊖ var 3) tt)

abbrev σ : After-max → List ℤ
σ c = let s = start c in s.args.e.a ∷ s.args.e.b ∷ s.args.e.s ∷ pos s.args.d ∷ c.max.result ∷ []

abbrev β' : List ℕ
β' = most_a ∷ most_b ∷ most_gap ∷ most_d ∷ most_e ∷ []

abbrev four : Written
four = record { a = var 0; b = var 1; q = var 2 ⊗ var 3; w = var 4 }

bounds : (c : After-max) → Bounds (σ c) β'
bounds c =
    let s = start c in
    let b = s.requires.bounds in
    let w : nat_abs (wide s) ≤ most_e = greater_size s.args.r.hi (pos 0 -ℤ s.args.r.lo) most_e b.1.1.1.1.0 (sized (ρ s) β b (lit 0 ⊖ var 3) most_e tt) in
    (b.0, (b.1.0, (b.1.1.0, (b.1.1.1.1.1.0, (subst (λ (z : ℤ). nat_abs z ≤ most_e) (sym (found c)) w, tt)))))

pub lay-requires : goal.lay-requires
lay-requires c =
    let h = (start (goal.at.lay-requires c).After-max).requires in
    whole_by (σ (goal.at.lay-requires c).After-max) β' (bounds (goal.at.lay-requires c).After-max) four tt (positive_mul h.rise (positive_nat h.unit))
    (subst (λ (z : ℤ). pos 0 ≤ℤ z) (sym (found (goal.at.lay-requires c).After-max)) (le_trans h.high (greater_left (start (goal.at.lay-requires c).After-max).args.r.hi (pos 0 -ℤ (start (goal.at.lay-requires c).After-max).args.r.lo))))

pub returns : goal.returns
returns c =
    let s = start (goal.at.returns c).After-max in
    subst (λ (w : ℤ). CourseParts c.lay.result s.args.e.a s.args.e.b (s.args.e.s *ℤ pos s.args.d) w) (found (goal.at.returns c).After-max)
    (parts_by (σ (goal.at.returns c).After-max) β' (bounds (goal.at.returns c).After-max) four tt c.lay.ensures)
