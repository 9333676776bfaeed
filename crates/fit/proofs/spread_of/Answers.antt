-- `fit::spread_of` meets its contract: the spread so far holds the smallest and the largest of the heights so far, and the first of them is zero.
use mathlib.Core.Path.{ap₂, ◌∙◌}
use Prim.Native.Nat.{◌<◌}
use native.Mathlib.Omega.{arith}
use borrow.Author.Rules.{rules}
use lib.IntN.{ℤ, ◌-ℤ◌, ◌*ℤ◌}
use mir.Facts.{to_z-of_z}
use Rattle.units.specs.declared.Input.{Input}
use Rattle.units.specs.declared.Part.{Part}
use Rattle.band.specs.Line.{Points}
use Rattle.band.specs.Band.{lent}
use Rattle.fit.specs.EndsLaws.{above_from, ranged_none, ranged_more, ranged_all}
use mir.Syntax.{w64}
use Rattle.fit.proofs.spread_of.Goals.{Start}
use Rattle.fit.proofs.spread_of.Goals as goal

abbrev points : Start → Points
points s = let a = s.args in lent a.m a.d a.x.now a.low.now a.high.now

some : (s : Start) → 0 < s.args.m
some s = omega (arith, s.requires.0.three)

pub loop-i-init : goal.loop-i-init
loop-i-init c = ranged_none (points (goal.at.loop-i-init c).Start) c.args.e c.requires.1 (some (goal.at.loop-i-init c).Start)

pub loop-i-preserved : goal.loop-i-preserved
loop-i-preserved c =
    let e = c.args.e in
    let lift = to_z-of_z {w = w64} (search rules) ∙ c.rise.ensures.value ∙ ap₂ (λ (w z : Part). w.count -ℤ z.count) c.part_at.ensures c.part_at-v.ensures in
    let run = to_z-of_z {w = w64} (search rules) ∙ c.gap.ensures.value ∙ ap₂ (λ (z x : Input). z.count -ℤ x.count) c.input_at.ensures c.input_at-p.ensures in
    ranged_more c.loop-i.invariant (omega arith)
    (to_z-of_z {w = w64} (search rules) ∙ c.height.ensures ∙ ap₂ (λ (y z : ℤ). e.s *ℤ y -ℤ e.a *ℤ z) lift run ∙ above_from (points (goal.at.loop-i-preserved c).Start) e c.requires.1 c.loop-i.i) c.wider-r.ensures

pub returns : goal.returns
returns c = ranged_all c.loop-i.invariant (omega arith)
