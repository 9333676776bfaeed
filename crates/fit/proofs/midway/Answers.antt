-- `fit::midway` meets its contract: numbers of bounded size, so every operation fits, and the four may be laid.
use mathlib.Core.List.{List, ◌∷◌, []}
use Prim.Native.Nat.{ℕ}
use lib.IntN.{ℤ, pos}
use Rattle.whole.specs.Poly.{var, lit, ◌⊕◌, ◌⊗◌}
use Rattle.whole.specs.Sign.{positive_mul, positive_nat, nonneg_mul, weaken}
use Rattle.band.specs.Band.{most_d}
use Rattle.fit.specs.Ends.{most_a, most_b, most_gap}
use Rattle.fit.specs.PartsLaws.{Written, whole_by, parts_by}
use Rattle.fit.proofs.midway.Goals.{After-struct_told-5-1, Start}
use Rattle.fit.proofs.midway.Goals as goal

abbrev ρ : Start → List ℤ
ρ c = c.args.e.a ∷ c.args.e.b ∷ c.args.e.s ∷ c.args.h.a ∷ c.args.h.b ∷ c.args.w ∷ pos c.args.d ∷ []

abbrev β : List ℕ
β = most_a ∷ most_b ∷ most_gap ∷ most_a ∷ most_b ∷ most_a ∷ most_d ∷ []

abbrev four : Written
four = record { a = var 0 ⊕ var 3; b = var 1 ⊕ var 4; q = lit 2 ⊗ var 2 ⊗ var 6; w = var 5 ⊗ var 2 }

abbrev start : After-struct_told-5-1 → Start
start c = c.before.before.before.before.before

pub lay-requires : goal.lay-requires
lay-requires c =
    let h = (start (goal.at.lay-requires c).After-struct_told-5-1).requires.over in
    whole_by (ρ (start (goal.at.lay-requires c).After-struct_told-5-1)) β (start (goal.at.lay-requires c).After-struct_told-5-1).requires.bounds four tt (positive_mul (positive_mul {a = pos 2} (record { lt = tt }) h.rise) (positive_nat h.unit)) (nonneg_mul h.sign (weaken h.rise))

pub returns : goal.returns
returns c = parts_by (ρ (start (goal.at.returns c).After-struct_told-5-1)) β (start (goal.at.returns c).After-struct_told-5-1).requires.bounds four tt c.lay.ensures
