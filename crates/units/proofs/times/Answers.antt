-- The product of an input and a part of bounded size fits.
use mathlib.Core.List.{List, ◌∷◌, []}
use Prim.Native.Nat.{ℕ}
use lib.IntN.{ℤ}
use Rattle.whole.specs.Poly.{var, ◌⊗◌}
use Rattle.whole.specs.Machine.{ends, stays}
use Rattle.units.specs.Units.{most_v, most_x}
use Rattle.units.proofs.times.Goals.{Start}
use Rattle.units.proofs.times.Goals as goal

abbrev ρ : goal.Start → List ℤ
ρ c = c.args.x.count ∷ c.args.v.count ∷ []

abbrev β : List ℕ
β = most_x ∷ most_v ∷ []

pub returns : goal.returns
returns c = record { value = ends (ρ (goal.at.returns c).Start) β c.requires (var 0 ⊗ var 1) tt; small = stays (ρ (goal.at.returns c).Start) β c.requires (var 0 ⊗ var 1) 3090000000000 tt tt }
