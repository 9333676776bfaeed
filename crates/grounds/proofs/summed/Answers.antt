-- `grounds::summed` meets its contract: the sums and means that are filled in are those of the run.
use Prim.Native.Nat.{ℕ, ◌<◌}
use native.Mathlib.Omega.{arith}
use Rattle.run.specs.Run.{last_stroke, lent, group}
use Rattle.run.specs.Checked.{Checked, checked, first_there, last_there}
use Rattle.run.specs.declared.Run.{Run}
use Rattle.groups.specs.Limit.{Grouped, grouped, grouped_lent}
use Rattle.grounds.specs.Basis.{sums_addable}
use Rattle.grounds.proofs.summed.Goals.{Start}
use Rattle.grounds.proofs.summed.Goals as goal

abbrev run : Start → Run
run s = lent s.args.z s.args.x.now s.args.y.now

fine : (s : Start) → Checked (run s)
fine s = checked (run s) s.requires.0

groups : (s : Start) (t : ℕ) → t < s.args.z.strokes → (i : ℕ) → i < s.args.z.m → Grouped (group s.args.z.n s.args.y.now) t i
groups s t h i l = let a = s.args in grouped_lent a.z a.x.now a.y.now (grouped (fine s) h l)

-- there is a last stroke
pub overflow_sub-last : goal.overflow_sub-last
overflow_sub-last c = omega (arith, (fine (goal.at.overflow_sub-last c).Start).strokes_least)

pub sums_of-requires : goal.sums_of-requires
sums_of-requires c = let s = c in ((fine (goal.at.sums_of-requires c).Start).m_most, groups (goal.at.sums_of-requires c).Start 0 (first_there (fine (goal.at.sums_of-requires c).Start)), s.requires.1)

pub sums_of-requires-2 : goal.sums_of-requires-2
sums_of-requires-2 c = let s = c in ((fine (goal.at.sums_of-requires-2 c).Start).m_most, groups (goal.at.sums_of-requires-2 c).Start (last_stroke (run (goal.at.sums_of-requires-2 c).Start)) (last_there (fine (goal.at.sums_of-requires-2 c).Start)), s.requires.2)

pub means_of-requires : goal.means_of-requires
means_of-requires c =
    let k = c in
    let l = c in
    let s = c in
    let a = sums_addable (fine (goal.at.means_of-requires c).Start) (l.sums_of.ensures, k.sums_of-2.ensures) in
    (a.0, a.1, s.requires.3)
