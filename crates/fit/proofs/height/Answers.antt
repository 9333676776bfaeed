-- `fit::height` meets its contract: numbers of bounded size, so both products and their difference fit.
use mathlib.Core.List.{List, ◌∷◌, []}
use Prim.Native.Nat.{ℕ}
use lib.IntN.{ℤ}
use Rattle.whole.specs.Poly.{E, var, ◌⊖◌, ◌⊗◌}
use Rattle.whole.specs.Machine.{safe, ends}
use Rattle.fit.specs.Ends.{most_a, most_gap}
use Rattle.fit.proofs.height.Goals.{Start}
use Rattle.fit.proofs.height.Goals as goal

abbrev ρ : Start → List ℤ
ρ c = c.args.e.a ∷ c.args.e.s ∷ c.args.run ∷ c.args.lift ∷ []

abbrev β : List ℕ
β = most_a ∷ most_gap ∷ most_gap ∷ most_a ∷ []

abbrev whole : E
whole = var 1 ⊗ var 3 ⊖ var 0 ⊗ var 2

pub overflow_sub-result : goal.overflow_sub-result
overflow_sub-result c = safe (ρ (goal.at.overflow_sub-result c).Start) β c.requires whole tt

pub returns : goal.returns
returns c = ends (ρ (goal.at.returns c).Start) β c.requires whole tt
