-- `indices::nine_over` meets its contract: the sums, means and limits that are filled in are those of the run.
use mathlib.Core.Path.{refl}
use native.Mathlib.Omega.{arith}
use Rattle.run.specs.Run.{lent}
use Rattle.run.specs.Checked.{checked, last_there}
use Rattle.run.specs.declared.Run.{Run}
use Rattle.groups.specs.Limit.{grouped, grouped_lent}
use Rattle.indices.proofs.nine_over.Goals.{Start}
use Rattle.indices.proofs.nine_over.Goals as goal

abbrev run : Start → Run
run s = lent s.args.z s.args.x.now s.args.y.now

-- there is a last stroke
pub overflow_sub-last : goal.overflow_sub-last
overflow_sub-last c = omega (arith, (checked (run (goal.at.overflow_sub-last c).Start) c.requires).strokes_least)

pub both_limits-requires : goal.both_limits-requires
both_limits-requires c =
    let s = c in
    let a = s.args in
    let k = checked (run (goal.at.both_limits-requires c).Start) s.requires in
    (k.m_most, (λ t i h l. grouped_lent a.z a.x.now a.y.now (grouped k (omega (arith, h, last_there k)) l)), refl, refl)
