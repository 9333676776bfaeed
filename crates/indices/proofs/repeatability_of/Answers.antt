-- `indices::repeatability_of` meets its contract: the limits that are filled in are those of the run.
use mathlib.Core.Path.{refl}
use native.Mathlib.Omega.{arith}
use Rattle.run.specs.Checked.{last_there}
use Rattle.groups.specs.Limit.{grouped, grouped_lent}
use Rattle.grounds.specs.Basis.{meant_checked}
use Rattle.indices.proofs.repeatability_of.Goals as goal

-- there is a last stroke
pub overflow_sub-last : goal.overflow_sub-last
overflow_sub-last c = omega (arith, (meant_checked c.requires).strokes_least)

pub both_limits-requires : goal.both_limits-requires
both_limits-requires c =
    let s = c in
    let a = s.args in
    let k = meant_checked s.requires in
    (k.m_most, (λ t i h l. grouped_lent a.z a.x.now a.y.now (grouped k (omega (arith, h, last_there k)) l)), refl, refl)
