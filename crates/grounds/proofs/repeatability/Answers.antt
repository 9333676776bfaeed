-- `grounds::repeatability` meets its contract: one stroke is 16, then one cycle is 13; else the limits are those of the run.
use mathlib.Core.Path.{◌≡◌, refl}
use Rattle.run.specs.Run.{lent}
use Rattle.run.specs.declared.Run.{Run}
use Rattle.due.specs.Ground.{Answered}
use Rattle.due.specs.GroundLaws.{cycles_two}
use Rattle.due.specs.declared.Index.TheVariants as index
use Rattle.grounds.specs.Basis.{limits_sides}
use Rattle.grounds.specs.WidthLaws.{not_alone, answered_cycles}
use Rattle.grounds.proofs.repeatability.Goals.{Else-is_alone, Else-is_alone-2, Start}
use Rattle.grounds.proofs.repeatability.Goals as goal

abbrev run : Start → Run
run s = lent s.args.z s.args.x.now s.args.y.now

-- the run has two strokes
back : (c : Else-is_alone) → c.args.z.strokes ≡ 1 → ⊥
back c = not_alone c.is_alone.ensures c.if-is_alone.false

answered : (c : Else-is_alone-2) → Answered index.Repeatability (run c.before.before.before.before)
answered c =
    let t = c in
    let e = c.before.before in
    let s = c.before.before.before.before in
    answered_cycles index.Repeatability (run s) refl s.requires.0 (back e) (not_alone t.is_alone-2.ensures c.if-is_alone-2.false)

pub wide-requires : goal.wide-requires
wide-requires c =
    let s = c in
    let a = s.args in
    let o = answered (goal.at.wide-requires c).Else-is_alone-2 in
    (o, s.requires.1, limits_sides a.z a.x.now a.y.now s.requires.2 (cycles_two index.Repeatability tt o))
