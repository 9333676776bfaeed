-- `worked::less`: a·b < c·d.
use mathlib.Core.List.{List, ◌∷◌, []}
use mathlib.Core.Path.{sym}
use Prim.Native.Nat.{ℕ}
use lib.IntN.{ℤ}
use Rattle.whole.specs.Flags.{apart}
use Rattle.whole.specs.Poly.{var, ◌⊗◌}
use Rattle.whole.specs.Machine.{if_lt, if_ge}
use Rattle.worked.proofs.less.Goals.{Start}
use Rattle.worked.proofs.less.Goals as goal

abbrev ρ : Start → List ℤ
ρ c = c.args.a ∷ c.args.b ∷ c.args.c ∷ c.args.d ∷ []

abbrev β : List ℕ
β = 60000 ∷ 60000 ∷ 60000 ∷ 60000 ∷ []

pub returns-then-a-b : goal.returns-then-a-b
returns-then-a-b c = record { yes = (λ _. if_lt (ρ c.before) β c.requires (var 0 ⊗ var 1) (var 2 ⊗ var 3) tt tt c.if-a-b.true); no = λ e. absurd (apart e) }

pub returns-else-a-b : goal.returns-else-a-b
returns-else-a-b c = record { yes = (λ e. absurd (apart (sym e))); no = λ _. if_ge (ρ c.before) β c.requires (var 0 ⊗ var 1) (var 2 ⊗ var 3) tt tt c.if-a-b.false }
