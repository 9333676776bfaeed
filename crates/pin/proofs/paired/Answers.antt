-- `pin::paired` meets its contract: numbers of bounded size, so every operation fits, and the test is that of `ordered`.
use mathlib.Core.Path.{◌≡◌, sym, ap, ap₂, ◌∙◌}
use mathlib.Core.Bool.{Bool, cond}
use mathlib.Core.List.{List, ◌∷◌, []}
use Prim.Native.Nat.{ℕ}
use lib.Dec.{T}
use lib.IntN.{ℤ}
use lib.Signed.{lt_z}
use Rattle.whole.specs.Poly.{E, val, var, ◌⊕◌, ◌⊖◌, ◌⊗◌}
use Rattle.whole.specs.Machine.{stored, raw, ok, safe, ends}
use Rattle.pin.specs.Search.{written, ordered}
use Rattle.pin.specs.declared.Pair.{Pair}
use Rattle.pin.proofs.paired.Goals.{Start}
use Rattle.pin.proofs.paired.Goals as goal

abbrev ρ : Start → List ℤ
ρ c = c.args.a ∷ c.args.b ∷ c.args.s ∷ c.args.t ∷ []

abbrev β : List ℕ
β = 206000000 ∷ 206000000 ∷ 60000 ∷ 60000 ∷ []

-- the two products
abbrev u : E
u = var 0 ⊗ var 3

abbrev v : E
v = var 1 ⊗ var 2

-- the test chose the order
chosen : (s : Start) {c : Bool} → lt_z (stored (raw (ρ s) u)) (stored (raw (ρ s) v)) ≡ c → let a = s.args in cond c (written a.j a.i a.b a.a a.t a.s) (written a.i a.j a.a a.b a.s a.t) ≡ ordered a.i a.j a.a a.b a.s a.t
chosen s e = let a = s.args in ap (λ (c : Bool). cond c (written a.j a.i a.b a.a a.t a.s) (written a.i a.j a.a a.b a.s a.t)) (sym e ∙ ap₂ lt_z (ends (ρ s) β s.requires u tt) (ends (ρ s) β s.requires v tt))

-- the stored numerator and denominator are the numbers
made : (s : Start) (i j : ℕ) (n e : E) → T (ok β n) → T (ok β e) → ◌≡◌ {A = Pair} (record { i = i; j = j; num = stored (raw (ρ s) n); den = stored (raw (ρ s) e) }) (record { i = i; j = j; num = val (ρ s) n; den = val (ρ s) e })
made s i j n e h l = ap₂ (λ (n e : ℤ). record { i = i; j = j; num = n; den = e }) (ends (ρ s) β s.requires n h) (ends (ρ s) β s.requires e l)

pub overflow_sub-result : goal.overflow_sub-result
overflow_sub-result c = safe (ρ (goal.at.overflow_sub-result c).Start) β c.requires (v ⊖ u) tt

pub overflow_add-result : goal.overflow_add-result
overflow_add-result c = safe (ρ (goal.at.overflow_add-result c).Start) β c.requires (var 3 ⊕ var 2) tt

pub overflow_sub-result-else-u-v : goal.overflow_sub-result-else-u-v
overflow_sub-result-else-u-v c = safe (ρ (goal.at.overflow_sub-result-else-u-v c).Start) β c.requires (u ⊖ v) tt

pub overflow_add-result-else-u-v : goal.overflow_add-result-else-u-v
overflow_add-result-else-u-v c = safe (ρ (goal.at.overflow_add-result-else-u-v c).Start) β c.requires (var 2 ⊕ var 3) tt

pub returns-then-u-v : goal.returns-then-u-v
returns-then-u-v c = made (goal.at.returns-then-u-v c).Start c.args.j c.args.i (v ⊖ u) (var 3 ⊕ var 2) tt tt ∙ chosen (goal.at.returns-then-u-v c).Start c.if-u-v.true

pub returns-else-u-v : goal.returns-else-u-v
returns-else-u-v c = made (goal.at.returns-else-u-v c).Start c.args.i c.args.j (u ⊖ v) (var 2 ⊕ var 3) tt tt ∙ chosen (goal.at.returns-else-u-v c).Start c.if-u-v.false
