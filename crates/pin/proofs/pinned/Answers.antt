-- `pin::pinned` meets its contract: the pair that was found is the greatest, and the test tells whether the fixed point's own value lies further off.
use mathlib.Core.Path.{◌≡◌, sym, ap, ap₂, ◌∙◌, subst}
use mathlib.Core.List.{List, ◌∷◌, []}
use Prim.Native.Nat.{ℕ}
use lib.IntN.{ℤ, pos, ◌*ℤ◌}
use lib.Signed.{lt_z}
use Rattle.whole.specs.Poly.{var, lit, ◌⊗◌}
use Rattle.whole.specs.Machine.{Bounds, ends, stays}
use Rattle.fit.specs.Ends.{most_e}
use Rattle.fit.specs.Parts.{ReachParts}
use Rattle.fit.specs.PartsLaws.{tells_parts, tells_wide}
use Rattle.fit.specs.Plot.{line_plotted, several_plotted}
use Rattle.pin.specs.Search.{most_num, most_den}
use Rattle.pin.specs.Due.{line_due, several_due}
use Rattle.pin.proofs.pinned.Goals.{After-exceeds, After-own_distance-own, Start}
use Rattle.pin.proofs.pinned.Goals as goal

-- the own distance, and the pair's fraction
abbrev ρ : After-own_distance-own → List ℤ
ρ c = c.own_distance-own.result ∷ c.greatest-t.result.num ∷ c.greatest-t.result.den ∷ []

abbrev β : List ℕ
β = 206000000 ∷ most_num ∷ most_den ∷ []

bounds : (c : After-own_distance-own) → Bounds (ρ c) β
bounds c = let t = c.greatest-t.ensures.paired in (c.own_distance-own.ensures.most, (t.num_most, (t.den_most, tt)))

abbrev start : After-own_distance-own → Start
start c = c.before.before.before

-- what was tested
test : (c : After-exceeds) → let o = c.before.before.before.before in let t = o.greatest-t.result in lt_z (t.num *ℤ pos 1) (o.own_distance-own.result *ℤ t.den) ≡ c.exceeds.result
test c =
    let o = c.before.before.before.before in
    let is = ends (ρ o) β (bounds o) in
    sym (c.exceeds.ensures ∙ ap₂ lt_z (ap (λ (z : ℤ). z *ℤ pos 1) (is (var 1) tt)) (ap₂ ◌*ℤ◌ (is (var 0) tt) (is (var 2) tt)))

pub only-requires : goal.only-requires
only-requires c = (stays (ρ (goal.at.only-requires c).After-own_distance-own) β (bounds (goal.at.only-requires c).After-own_distance-own) (lit 2 ⊗ var 0) most_e tt tt, (start (goal.at.only-requires c).After-own_distance-own).requires.ready.0.admitted.unit)

pub returns-then-exceeds : goal.returns-then-exceeds
returns-then-exceeds c =
    let h = (start (goal.at.returns-then-exceeds c).After-own_distance-own).requires in
    let p = subst (λ (z : ℤ). ReachParts z (start (goal.at.returns-then-exceeds c).After-own_distance-own).args.d c.only.result) (ends (ρ (goal.at.returns-then-exceeds c).After-own_distance-own) β (bounds (goal.at.returns-then-exceeds c).After-own_distance-own) (lit 2 ⊗ var 0) tt) c.only.ensures in
    several_plotted (λ k t. several_due h.ready.0 h.one_value h.ready.1 c.greatest-t.ensures c.own_distance-own.ensures (test (goal.at.returns-then-exceeds c).After-exceeds ∙ c.if-exceeds.true) (tells_wide p t))

pub returns : goal.returns
returns c =
    let h = (start (goal.at.returns c).After-own_distance-own).requires in
    line_plotted (λ f t. line_due h.ready.0 h.one_value h.ready.1 c.greatest-t.ensures c.own_distance-own.ensures (test (goal.at.returns c).After-exceeds ∙ c.if-exceeds.false) (tells_parts c.line_of.ensures t))
