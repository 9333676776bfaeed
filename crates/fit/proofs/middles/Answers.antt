-- `fit::middles` meets its contract: two admitted inputs and their values are of bounded size, and no lowest value is above the highest.
use mathlib.Core.Path.{◌≡◌, sym, ap, ap₂, ◌∙◌, subst}
use mathlib.Core.List.{◌∷◌, []}
use Prim.Native.Nat.{◌<◌, ◌≤◌}
use native.Mathlib.Omega.{arith}
use borrow.Author.Rules.{rules}
use lib.IntN.{ℤ, pos, nat_abs, ◌+ℤ◌, ◌-ℤ◌, ◌*ℤ◌}
use lib.Signed.{◌≤ℤ◌}
use mir.Facts.{to_z-of_z}
use Rattle.whole.specs.Poly.{var, ◌⊕◌, ◌⊖◌, ◌⊗◌}
use Rattle.whole.specs.Ring.{ring}
use Rattle.whole.specs.Machine.{stored}
use Rattle.whole.specs.Sign.{le_sign}
use Rattle.units.specs.declared.Part.{Part}
use Rattle.band.specs.Line.{Points}
use Rattle.band.specs.Band.{lent}
use Rattle.fit.specs.Ends.{most_a}
use Rattle.fit.specs.PartsLaws.{parts_is}
use Rattle.fit.specs.ChordLaws.{gap_some}
use mir.Syntax.{w64}
use Rattle.fit.proofs.middles.Goals.{After-rise, Start}
use Rattle.fit.proofs.middles.Goals as goal

abbrev points : Start → Points
points s = let a = s.args in lent a.m a.d a.x.now a.low.now a.high.now

first : (s : Start) → s.args.i < s.args.m
first s = omega (arith, s.requires.1, s.requires.2)

-- the gap of the values, as it lies in the machine
abbrev start : After-rise → Start
start c = c.before.before.before.before.before

wide : (c : After-rise) → let P = points (start c) in stored c.rise.result ≡ P.high (start c).args.i -ℤ P.low (start c).args.i
wide c = to_z-of_z {w = w64} (search rules) ∙ c.rise.ensures.value ∙ ap₂ (λ (h l : Part). h.count -ℤ l.count) c.part_at-2.ensures c.part_at.ensures

pub midway-requires : goal.midway-requires
midway-requires c =
    let s = start (goal.at.midway-requires c).After-rise in
    let a = s.requires.0 in
    let e = c.through.ensures in
    let u = c.through-2.ensures in
    let r : stored c.rise.result ≡ c.rise.result = to_z-of_z {w = w64} (search rules) in
    let w : nat_abs (stored c.rise.result) ≤ most_a = subst (λ (z : ℤ). nat_abs z ≤ most_a) (sym r) c.rise.ensures.small in
    record { bounds = (e.a_most, (e.b_most, (e.s_most, (u.a_most, (u.b_most, (w, (a.unit, tt))))))); over = record { rise = gap_some a s.requires.1 s.requires.2 e; sign = subst (λ (z : ℤ). pos 0 ≤ℤ z) (sym (wide (goal.at.midway-requires c).After-rise)) (le_sign (a.proper.order s.args.i (first (goal.at.midway-requires c).Start))); unit = a.proper.unit } }

pub returns : goal.returns
returns c =
    let s = start (goal.at.returns c).After-rise in
    let P = points (goal.at.returns c).Start in
    let i = s.args.i in
    let j = s.args.j in
    let e = c.through.ensures in
    let u = c.through-2.ensures in
    parts_is
    (ap₂ ◌+ℤ◌ e.a_is u.a_is ∙ ring (P.low i ∷ P.low j ∷ P.high i ∷ P.high j ∷ []) (var 1 ⊖ var 0 ⊕ (var 3 ⊖ var 2)) (var 1 ⊕ var 3 ⊖ (var 0 ⊕ var 2)) tt)
    (ap₂ ◌+ℤ◌ e.b_is u.b_is
    ∙ ring (P.x i ∷ P.x j ∷ P.low i ∷ P.low j ∷ P.high i ∷ P.high j ∷ []) (var 1 ⊗ var 2 ⊖ var 0 ⊗ var 3 ⊕ (var 1 ⊗ var 4 ⊖ var 0 ⊗ var 5)) (var 1 ⊗ (var 2 ⊕ var 4) ⊖ var 0 ⊗ (var 3 ⊕ var 5)) tt)
    (ap (λ (z : ℤ). pos 2 *ℤ z *ℤ pos P.d) e.s_is) (ap₂ ◌*ℤ◌ (wide (goal.at.returns c).After-rise) e.s_is) c.midway.ensures
