-- `worked::above_line`: y - (a·x + b), letters in the order of the contract's list.
use mathlib.Core.List.{List, ◌∷◌, []}
use Prim.Native.Nat.{ℕ}
use lib.IntN.{ℤ}
use Rattle.whole.specs.Poly.{var, ◌⊕◌, ◌⊖◌, ◌⊗◌}
use Rattle.whole.specs.Machine.{safe, ends}
use Rattle.worked.proofs.above_line.Goals.{Start}
use Rattle.worked.proofs.above_line.Goals as goal

abbrev ρ : Start → List ℤ
ρ c = c.args.y ∷ c.args.a ∷ c.args.x ∷ c.args.b ∷ []

abbrev β : List ℕ
β = 1000000 ∷ 1000 ∷ 30000 ∷ 1000000 ∷ []

pub overflow_sub-result : goal.overflow_sub-result
overflow_sub-result c = safe (ρ c) β c.requires (var 0 ⊖ (var 1 ⊗ var 2 ⊕ var 3)) tt

pub returns : goal.returns
returns c = ends (ρ c) β c.requires (var 0 ⊖ (var 1 ⊗ var 2 ⊕ var 3)) tt
