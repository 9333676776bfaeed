-- `search::bend` meets its contract: gaps and rises of bounded size, so both products and their sum fit.
use mathlib.Core.List.{List, ◌∷◌, []}
use Prim.Native.Nat.{ℕ}
use lib.IntN.{ℤ}
use Rattle.whole.specs.Poly.{E, var, ◌⊕◌, ◌⊗◌}
use Rattle.whole.specs.Machine.{safe, ends}
use Rattle.search.proofs.bend.Goals.{Start}
use Rattle.search.proofs.bend.Goals as goal

abbrev ρ : Start → List ℤ
ρ c = c.args.span ∷ c.args.left ∷ c.args.off ∷ c.args.climb ∷ []

abbrev β : List ℕ
β = 60000 ∷ 60000 ∷ 206000000 ∷ 206000000 ∷ []

abbrev whole : E
whole = var 0 ⊗ var 2 ⊕ var 1 ⊗ var 3

pub overflow_add-result : goal.overflow_add-result
overflow_add-result c = safe (ρ (goal.at.overflow_add-result c).Start) β c.requires whole tt

pub returns : goal.returns
returns c = ends (ρ (goal.at.returns c).Start) β c.requires whole tt
