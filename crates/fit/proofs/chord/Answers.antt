-- `fit::chord` meets its contract: numbers of bounded size, so every operation fits, and the four may be laid.
use mathlib.Core.List.{List, ◌∷◌, []}
use Prim.Native.Nat.{ℕ}
use lib.IntN.{ℤ, pos}
use Rattle.whole.specs.Poly.{var, lit, ◌⊖◌, ◌⊗◌}
use Rattle.whole.specs.Sign.{positive_mul, positive_nat}
use Rattle.band.specs.Band.{most_d}
use Rattle.fit.specs.Ends.{most_a, most_b, most_gap, most_e}
use Rattle.fit.specs.PartsLaws.{Written, whole_by, parts_by}
use Rattle.fit.proofs.chord.Goals.{After-struct_told-3-1, Start}
use Rattle.fit.proofs.chord.Goals as goal

abbrev ρ : Start → List ℤ
ρ c = c.args.e.a ∷ c.args.e.b ∷ c.args.e.s ∷ c.args.s ∷ c.args.w ∷ pos c.args.d ∷ []

abbrev β : List ℕ
β = most_a ∷ most_b ∷ most_gap ∷ most_e ∷ most_e ∷ most_d ∷ []

abbrev four : Written
four = record { a = lit 2 ⊗ var 0; b = lit 2 ⊗ var 1 ⊖ var 3; q = lit 2 ⊗ var 2 ⊗ var 5; w = var 4 }

abbrev start : After-struct_told-3-1 → Start
start c = c.before.before.before

pub lay-requires : goal.lay-requires
lay-requires c =
    let h = (start (goal.at.lay-requires c).After-struct_told-3-1).requires.over in
    whole_by (ρ (start (goal.at.lay-requires c).After-struct_told-3-1)) β (start (goal.at.lay-requires c).After-struct_told-3-1).requires.bounds four tt (positive_mul (positive_mul {a = pos 2} (record { lt = tt }) h.rise) (positive_nat h.unit)) h.sign

pub returns : goal.returns
returns c = parts_by (ρ (start (goal.at.returns c).After-struct_told-3-1)) β (start (goal.at.returns c).After-struct_told-3-1).requires.bounds four tt c.lay.ensures
