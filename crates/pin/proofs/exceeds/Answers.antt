-- `pin::exceeds` meets its contract: the two cross products fit, and the flag compares them.
use mathlib.Core.Path.{ap₂}
use mathlib.Core.List.{List, ◌∷◌, []}
use Prim.Native.Nat.{ℕ}
use lib.IntN.{ℤ}
use lib.Signed.{lt_z}
use Rattle.whole.specs.Poly.{var, ◌⊗◌}
use Rattle.whole.specs.Machine.{ends}
use Rattle.pin.specs.Search.{most_num, most_den}
use Rattle.pin.proofs.exceeds.Goals.{Start}
use Rattle.pin.proofs.exceeds.Goals as goal

abbrev ρ : Start → List ℤ
ρ c = c.args.a ∷ c.args.b ∷ c.args.c ∷ c.args.d ∷ []

abbrev β : List ℕ
β = most_num ∷ most_den ∷ most_num ∷ most_den ∷ []

pub returns : goal.returns
returns c = ap₂ lt_z (ends (ρ (goal.at.returns c).Start) β c.requires (var 2 ⊗ var 1) tt) (ends (ρ (goal.at.returns c).Start) β c.requires (var 0 ⊗ var 3) tt)
