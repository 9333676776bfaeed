-- `grounds::zero` meets its contract: where the first input is negative it is 15, and else `pin` gives the line through the origin.
use mathlib.Core.Path.{refl, sym, ◌∙◌, subst}
use lib.IntN.{pos}
use lib.Signed.{lt_z}
use mir.Facts.{T_not}
use Rattle.whole.specs.Flags.{yes-T, no-T}
use Rattle.run.specs.Run.{input, lent}
use Rattle.run.specs.declared.Run.{Run}
use Rattle.due.specs.Due.{BelowZero}
use Rattle.due.specs.DueLaws.{first_negative, points_not_negative}
use Rattle.due.specs.Ground.{GroundDue}
use Rattle.due.specs.declared.Index.TheVariants as index
use Rattle.grounds.specs.Basis.{meant_checked, meant_same, meant_admitted, negative_is}
use Rattle.grounds.specs.LineLaws.{fifteen, zero_stands}
use Rattle.grounds.proofs.zero.Goals.{Else-has_negative, Start}
use Rattle.grounds.proofs.zero.Goals as goal

abbrev run : Start → Run
run s = lent s.args.z s.args.x.now s.args.y.now

from_zero_up : (c : Else-has_negative) → BelowZero index.Zero (run c.before.before) → ⊥
from_zero_up c h =
    let s = c.before.before in
    let e = sym (negative_is s.args.z s.args.x.now s.args.y.now) ∙ sym c.has_negative.ensures ∙ c.if-has_negative.false in
    T_not (lt_z (input (run s) 0) (pos 0)) (first_negative (meant_checked s.requires) h).lt (no-T e)

pub returns-then-has_negative : goal.returns-then-has_negative
returns-then-has_negative c =
    let s = c in
    let e = sym (negative_is s.args.z s.args.x.now s.args.y.now) ∙ sym c.has_negative.ensures ∙ c.if-has_negative.true in
    fifteen (run (goal.at.returns-then-has_negative c).Start) s.requires.fine (record { lt = yes-T e })

pub mean_unit-requires : goal.mean_unit-requires
mean_unit-requires c = (meant_checked c.requires).n_most

pub zero_of-requires : goal.zero_of-requires
zero_of-requires c =
    let e = c in
    let s = c in
    (meant_admitted s.requires c.mean_unit.ensures, (λ i h. refl), points_not_negative _ (run (goal.at.zero_of-requires c).Start) (from_zero_up (goal.at.zero_of-requires c).Else-has_negative) (meant_same s.requires c.mean_unit.ensures))

pub returns : goal.returns
returns c =
    let t = c in
    let u = c in
    let e = c in
    let s = c in
    subst (GroundDue index.Zero (run (goal.at.returns c).Start)) (sym c.on_plot.ensures) (zero_stands (run (goal.at.returns c).Start) s.requires.fine (meant_same s.requires u.mean_unit.ensures) (from_zero_up (goal.at.returns c).Else-has_negative) t.zero_of.result t.zero_of.ensures)
