-- `search::takes` meets its contract: the two cross products fit, and the flag compares them.
use mathlib.Core.Logic.{⊎_elim}
use mathlib.Core.Path.{◌≡◌, ap₂}
use mathlib.Core.List.{List, ◌∷◌, []}
use Prim.Native.Nat.{ℕ}
use lib.IntN.{ℤ, ◌*ℤ◌}
use lib.Signed.{lt_z, le_z}
use Rattle.whole.specs.Poly.{var, ◌⊗◌}
use Rattle.whole.specs.Machine.{stored, ends}
use Rattle.search.proofs.takes.Goals.{Start}
use Rattle.search.proofs.takes.Goals as goal

abbrev ρ : Start → List ℤ
ρ c = c.args.old.num ∷ c.args.old.den ∷ c.args.new.num ∷ c.args.new.den ∷ []

abbrev β : List ℕ
β = 18540000000000 ∷ 60000 ∷ 18540000000000 ∷ 60000 ∷ []

products : (c : Start) → (stored (stored c.args.old.num *ℤ stored c.args.new.den) ≡ c.args.old.num *ℤ c.args.new.den) × (stored (stored c.args.new.num *ℤ stored c.args.old.den) ≡ c.args.new.num *ℤ c.args.old.den)
products c = (ends (ρ c) β c.requires (var 0 ⊗ var 3) tt, ends (ρ c) β c.requires (var 2 ⊗ var 1) tt)

pub returns-in-One : goal.returns-in-One
returns-in-One c = let p = products (goal.at.returns-in-One c).Start in rw c.in-One.is (ap₂ lt_z p.0 p.1)

pub returns-in-Up : goal.returns-in-Up
returns-in-Up c = let p = products (goal.at.returns-in-Up c).Start in ⊎_elim (λ h. rw h.3 (ap₂ le_z p.0 p.1)) (λ h. rw h.3 (ap₂ le_z p.0 p.1)) c.in-Up.is
