-- `pin::front_of` meets its contract: the inputs rise, so none lies before the first point.
use mathlib.Core.Path.{sym, subst}
use Prim.Native.Nat.{◌<◌, ◌≤◌}
use native.Mathlib.Omega.{arith}
use lib.IntN.{nat_abs}
use lib.Signed.{≤ℤ_refl}
use Rattle.units.specs.declared.Input.{Input}
use Rattle.units.specs.declared.Part.{Part}
use Rattle.band.specs.Line.{Points}
use Rattle.band.specs.Band.{lent, most_x, most_v}
use Rattle.fit.specs.Plot.{PlotDue, plot_due}
use Rattle.pin.specs.Pair.{Beyond}
use Rattle.pin.specs.PairLaws.{beyond_first}
use Rattle.pin.specs.Search.{PinDue}
use Rattle.pin.specs.Due.{first, front_due}
use Rattle.pin.proofs.front_of.Goals.{Start}
use Rattle.pin.proofs.front_of.Goals as goal

abbrev P : Start → Points
P s = let a = s.args in lent a.m a.d a.x.now a.low.now a.high.now

pub pinned-requires : goal.pinned-requires
pinned-requires c =
    let h = c.requires in
    let any : 0 < c.args.m = omega (arith, h.0.three) in record {
      ready = (
        record {
          admitted = h.0;
          x_most = subst (λ (u : Input). nat_abs u.count ≤ most_x) (sym c.input_at.ensures) (h.0.inputs 0 any);
          v_most = subst (λ (u : Part). nat_abs u.count ≤ most_v) (sym c.part_at.ensures) (h.0.lows 0 any);
        },
        subst (λ (u : Input). Beyond (P (goal.at.pinned-requires c).Start) u.count) (sym c.input_at.ensures) (beyond_first h.0.proper (≤ℤ_refl ((P (goal.at.pinned-requires c).Start).x 0))),
      );
      one_value = h.1;
    }

pub returns : goal.returns
returns c =
    let r = c.pinned.result in
    plot_due (front_due c.requires.0 c.requires.1)
    (subst (λ (u : Part). PlotDue (PinDue (P (goal.at.returns c).Start) (record { x = (first (P (goal.at.returns c).Start)).x; v = u })) r) c.part_at.ensures (subst (λ (v : Input). PlotDue (PinDue (P (goal.at.returns c).Start) (record { x = v; v = c.part_at.result })) r) c.input_at.ensures c.pinned.ensures))
