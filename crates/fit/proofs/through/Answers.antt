-- `fit::through` meets its contract: inputs and values of bounded size, so every difference and product fits.
use mathlib.Core.Path.{◌≡◌, sym, ap₂, ◌∙◌, subst}
use mathlib.Core.List.{List, ◌∷◌, []}
use Prim.Native.Nat.{ℕ, ◌≤◌}
use borrow.Author.Rules.{rules}
use lib.IntN.{ℤ, nat_abs, ◌-ℤ◌, ◌*ℤ◌}
use mir.Facts.{to_z-of_z}
use Rattle.whole.specs.Poly.{E, var, ◌⊖◌}
use Rattle.whole.specs.Machine.{Bounds, stored, ends, stays}
use Rattle.units.specs.declared.Input.{Input}
use Rattle.units.specs.declared.Part.{Part}
use Rattle.fit.specs.Ends.{most_a, most_b, most_gap}
use mir.Syntax.{w64}
use Rattle.fit.proofs.through.Goals.{After-times-2}
use Rattle.fit.proofs.through.Goals as goal

-- and so is a result, as it lies in the machine
kept : {z : ℤ} (n : ℕ) → stored z ≡ z → nat_abs z ≤ n → nat_abs (stored z) ≤ n
kept n e h = subst (λ (z : ℤ). nat_abs z ≤ n) (sym e) h

-- the offset, of the two products
abbrev σ : After-times-2 → List ℤ
σ c = c.times.result ∷ c.times-2.result ∷ []

abbrev β : List ℕ
β = 3090000000000 ∷ 3090000000000 ∷ []

abbrev offset : E
offset = var 0 ⊖ var 1

products : (c : After-times-2) → Bounds (σ c) β
products c = (c.times.ensures.small, (c.times-2.ensures.small, tt))

pub returns : goal.returns
returns c =
    let p = c.input_at-p.ensures in
    let q = c.input_at-q.ensures in
    let u = c.part_at-a.ensures in
    let v = c.part_at-c.ensures in
    let rise = to_z-of_z {w = w64} (search rules) in
    let gap = to_z-of_z {w = w64} (search rules) in
    record {
      a_is = rise ∙ c.rise.ensures.value ∙ ap₂ (λ (w z : Part). w.count -ℤ z.count) v u;
      b_is =
          ends (σ (goal.at.returns c).After-times-2) β (products (goal.at.returns c).After-times-2) offset tt
          ∙ ap₂ ◌-ℤ◌ (c.times.ensures.value ∙ ap₂ (λ (x : Input) (w : Part). x.count *ℤ w.count) q u) (c.times-2.ensures.value ∙ ap₂ (λ (x : Input) (w : Part). x.count *ℤ w.count) p v);
      s_is = gap ∙ c.gap.ensures.value ∙ ap₂ (λ (z x : Input). z.count -ℤ x.count) q p;
      a_most = kept most_a rise c.rise.ensures.small;
      b_most = stays (σ (goal.at.returns c).After-times-2) β (products (goal.at.returns c).After-times-2) offset most_b tt tt;
      s_most = kept most_gap gap c.gap.ensures.small;
    }
