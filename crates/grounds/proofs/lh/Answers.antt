-- `grounds::lh` meets its contract: one stroke is 16; else, with limits of zero, the points are U and D.
use mathlib.Core.Path.{refl, sym, subst}
use mathlib.Core.List.{List}
use lib.IntN.{ℤ, pos}
use lib.ListN.{replicate}
use Rattle.run.specs.Run.{lent}
use Rattle.run.specs.Checked.{Checked, checked}
use Rattle.run.specs.declared.Run.{Run}
use Rattle.bands.specs.Through.{stroke_points}
use Rattle.bands.specs.Parts.{Strokes, SamePoints}
use Rattle.bands.specs.Admitted.{admitted_through, admitted}
use Rattle.due.specs.Ground.{GroundDue}
use Rattle.due.specs.declared.Index.TheVariants as index
use Rattle.grounds.specs.Basis.{sums_addable, zeros_addable, pairs, pairs_strokes, none}
use Rattle.grounds.specs.FoundLaws.{plot_points}
use Rattle.grounds.specs.LineLaws.{strokes_stand}
use Rattle.grounds.specs.WidthLaws.{not_alone, answered_strokes}
use Rattle.grounds.proofs.lh.Goals.{Start}
use Rattle.grounds.proofs.lh.Goals as goal

abbrev run : Start → Run
run s = lent s.args.z s.args.x.now s.args.y.now

fine : (s : Start) → Checked (run s)
fine s = checked (run s) s.requires.0

abbrev zeros : List ℤ
zeros = replicate 11 (pos 0)

same : (s : Start) → let a = s.args in SamePoints (pairs a.z.m a.z.n a.x.now a.up.now a.down.now zeros zeros) (stroke_points (run s))
same s =
    let a = s.args in
    let k = none a.z.m (fine s).m_most in
    pairs_strokes a.z a.x.now a.y.now a.up.now a.down.now zeros zeros s.requires.1 k k

pub paired-requires : goal.paired-requires
paired-requires c =
    let s = c in
    let a = sums_addable (fine (goal.at.paired-requires c).Start) s.requires.1 in
    let k = zeros_addable (fine (goal.at.paired-requires c).Start) (none s.args.z.m (fine (goal.at.paired-requires c).Start).m_most) in
    record { admitted = admitted (admitted_through (fine (goal.at.paired-requires c).Start) Strokes) (same (goal.at.paired-requires c).Start); addable = (a.0, a.1, k, k) }

pub returns : goal.returns
returns c =
    let p = c in
    let e = c in
    let t = c in
    let s = c in
    let o = answered_strokes index.Lh (run (goal.at.returns c).Start) refl s.requires.0 (not_alone t.is_alone.ensures e.if-is_alone.false) refl in
    subst (GroundDue index.Lh (run (goal.at.returns c).Start)) (sym c.on_plot.ensures) (strokes_stand (run (goal.at.returns c).Start) o p.paired.result (plot_points (same (goal.at.returns c).Start) p.paired.ensures))
