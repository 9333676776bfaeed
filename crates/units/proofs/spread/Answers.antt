-- n, differences and squares of bounded size, so what is worked with them fits, and it is not negative.
use mathlib.Core.Path.{ap, ◌∙◌}
use mathlib.Core.List.{List, ◌∷◌, []}
use Prim.Native.Nat.{ℕ}
use lib.IntN.{pos}
use Rattle.whole.specs.Poly.{E, var, ◌⊖◌, ◌⊗◌}
use Rattle.whole.specs.Sign.{nat_nonneg}
use Rattle.whole.specs.Machine.{to_u64, as_u64}
use Rattle.units.specs.Units.{most_difference_sum, most_square_sum}
use Rattle.units.proofs.spread.Goals as goal

abbrev q : E
q = var 0 ⊗ var 2 ⊖ var 1 ⊗ var 1

abbrev β : List ℕ
β = 10 ∷ most_difference_sum ∷ most_square_sum ∷ []

pub overflow_cast-result : goal.overflow_cast-result
overflow_cast-result c = to_u64 (pos c.args.n ∷ c.args.sum.count ∷ c.args.squares.count ∷ []) β c.requires.0 q tt c.requires.1

pub returns : goal.returns
returns c = ap pos (as_u64 (pos c.args.n ∷ c.args.sum.count ∷ c.args.squares.count ∷ []) β c.requires.0 q tt) ∙ nat_nonneg c.requires.1
