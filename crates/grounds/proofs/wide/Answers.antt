-- `grounds::wide` meets its contract: the largest width over the points, with the independent line.
use lib.IntN.{nat_abs}
use Rattle.run.specs.Run.{lent}
use Rattle.run.specs.Checked.{Checked, checked}
use Rattle.run.specs.declared.Run.{Run}
use Rattle.bands.specs.Through.{LargestOf}
use Rattle.bands.specs.Parts.{width_at}
use Rattle.grounds.specs.Basis.{sides_wide, sides_largest}
use Rattle.grounds.specs.WidthLaws.{widest_most, narrow, width_stands}
use Rattle.grounds.proofs.wide.Goals.{After-widest, Start}
use Rattle.grounds.proofs.wide.Goals as goal

abbrev run : Start → Run
run s = lent s.args.z s.args.x.now s.args.y.now

fine : (s : Start) → Checked (run s)
fine s = checked (run s) s.requires.0.fine

-- the width that was found is the largest of the run's
largest : (c : After-widest) → LargestOf (run c.before).m (width_at c.args.w (run c.before)) (nat_abs c.widest.result.count)
largest c = let s = c.before in sides_largest s.args.w (run s) s.args.up.now s.args.down.now s.requires.2 c.widest.ensures.largest

pub widest-requires : goal.widest-requires
widest-requires c = sides_wide (fine (goal.at.widest-requires c).Start) c.args.w c.args.up.now c.args.down.now c.requires.2

pub on_width-requires : goal.on_width-requires
on_width-requires c = let s = c in (narrow (fine (goal.at.on_width-requires c).Start) s.args.line s.requires.1, widest_most s.args.w (fine (goal.at.on_width-requires c).Start) (largest (goal.at.on_width-requires c).After-widest), (fine (goal.at.on_width-requires c).Start).n_most)

pub returns : goal.returns
returns c =
    let w = c in
    let s = c in
    let k = s.args.w in
    width_stands k (fine (goal.at.returns c).Start) s.requires.0 w.widest.ensures.sign (largest (goal.at.returns c).After-widest) s.args.line s.requires.1 c.on_width.result c.on_width.ensures
