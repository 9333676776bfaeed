-- `grounds::lhr` meets its contract: one stroke is 16, then one cycle is 13; else the points are the limit points.
use mathlib.Core.Path.{◌≡◌, refl, sym, subst}
use Rattle.run.specs.Run.{lent}
use Rattle.run.specs.Checked.{Checked, checked}
use Rattle.run.specs.declared.Run.{Run}
use Rattle.groups.specs.Search.{limit}
use Rattle.bands.specs.Through.{limit_points}
use Rattle.bands.specs.Parts.{Limits, SamePoints}
use Rattle.bands.specs.Admitted.{admitted_through, admitted}
use Rattle.bands.specs.declared.Width.TheVariants as widths
use Rattle.due.specs.Ground.{Answered, GroundDue}
use Rattle.due.specs.GroundLaws.{cycles_two}
use Rattle.due.specs.declared.Index.TheVariants as index
use Rattle.grounds.specs.Basis.{Sides, sums_addable, limits_sides, limits_addable, pairs, pairs_limits}
use Rattle.grounds.specs.FoundLaws.{plot_points}
use Rattle.grounds.specs.LineLaws.{limits_stand}
use Rattle.grounds.specs.WidthLaws.{not_alone, answered_cycles}
use Rattle.grounds.proofs.lhr.Goals.{Else-is_alone, Else-is_alone-2, Start}
use Rattle.grounds.proofs.lhr.Goals as goal

abbrev run : Start → Run
run s = lent s.args.z s.args.x.now s.args.y.now

fine : (s : Start) → Checked (run s)
fine s = checked (run s) s.requires.0

-- the run has two strokes
back : (c : Else-is_alone) → c.args.z.strokes ≡ 1 → ⊥
back c = not_alone c.is_alone.ensures c.if-is_alone.false

abbrev start : Else-is_alone-2 → Start
start c = c.before.before.before.before

answered : (c : Else-is_alone-2) → Answered index.Lhr (run (start c))
answered c =
    let t = c in
    answered_cycles index.Lhr (run (start c)) refl (start c).requires.0 (back c.before.before) (not_alone t.is_alone-2.ensures c.if-is_alone-2.false)

sides : (c : Else-is_alone-2) → let a = (start c).args in Sides widths.Scatter (run (start c)) a.up_limits.now a.down_limits.now
sides c = let s = start c in let a = s.args in limits_sides a.z a.x.now a.y.now s.requires.2 (cycles_two index.Lhr tt (answered c))

same : (c : Else-is_alone-2) → let r = run (start c) in let a = (start c).args in SamePoints (pairs a.z.m a.z.n a.x.now a.up.now a.down.now a.up_limits.now a.down_limits.now) (limit_points r (limit r))
same c = let s = start c in let a = s.args in pairs_limits a.z a.x.now a.y.now a.up.now a.down.now a.up_limits.now a.down_limits.now s.requires.1 (sides c)

pub paired-requires : goal.paired-requires
paired-requires c =
    let s = start (goal.at.paired-requires c).Else-is_alone-2 in
    let a = sums_addable (fine (goal.at.paired-requires c).Start) s.requires.1 in
    let k = limits_addable (fine (goal.at.paired-requires c).Start) (sides (goal.at.paired-requires c).Else-is_alone-2) in
    record { admitted = admitted (admitted_through (fine (goal.at.paired-requires c).Start) Limits) (same (goal.at.paired-requires c).Else-is_alone-2); addable = (a.0, a.1, k.0, k.1) }

pub returns : goal.returns
returns c =
    let p = c in
    let e = c in
    let s = start (goal.at.returns c).Else-is_alone-2 in
    subst (GroundDue index.Lhr (run (goal.at.returns c).Start)) (sym c.on_plot.ensures) (limits_stand (run (goal.at.returns c).Start) (answered (goal.at.returns c).Else-is_alone-2) p.paired.result (plot_points (same (goal.at.returns c).Else-is_alone-2) p.paired.ensures))
