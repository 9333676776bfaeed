-- What the tests of lines through a fixed point show: that a line is the best of them and the only one, or that several are.
use Rattle.std.specs.Prelude.{ℕ, ◌<◌, T, ltb, ℤ, pos, nat_abs, ◌<ℤ◌}
use Rattle.std.proofs.Common.{arith, ltb→lt}
use Rattle.std.specs.Int.Signed.{lt_z, lt_z_yes}
use Rattle.std.proofs.Math.Facts.{and_yes}
use Rattle.band.specs.Line.{Line, Points, Proper, Passing}
use Rattle.pin.specs.Pair.{ahead, rise, wide, part, Fits}
use Rattle.pin.specs.PairLaws.{part_some, no_less, pair_single}
use Rattle.pin.specs.OwnLaws.{own_no_less}
use Rattle.due.specs.Due.{Best, Many}
use Rattle.promises.specs.Tests.{all, is_ahead, pinned, pinned_many}
use Rattle.promises.specs.TestLaws.{all_hold, same_is}
use Rattle.promises.specs.LineLaws.{within_by, differ}

ahead_fits : (P : Points) (x : ℤ) (i : ℕ) → T (is_ahead P x i) → (i < P.m) × (pos 0 <ℤ ahead P x i)
ahead_fits P x i t =
    let h = and_yes (ltb i P.m) (lt_z (pos 0) (ahead P x i)) t in
    (ltb→lt i P.m h.0, lt_z_yes h.1)

pub pinned_by : {P : Points} → Proper P → (x v : ℤ) (i j : ℕ) (L : Line) → T (all (pinned P x v i j L)) → Best (Passing P x v) P L (wide P x v i j) (part P x i j)
pinned_by {P} proper x v i j L t =
    let (one, (other, (on, (kept, _)))) = all_hold (pinned P x v i j L) t in
    let a = ahead_fits P x i one in
    let b = ahead_fits P x j other in
    let fits : Fits P x i j = record { i_fits = a.0; j_fits = b.0; i_ahead = a.1; j_ahead = b.1 } in
    let through = same_is _ _ on in
    let some = part_some proper fits in
    let W = within_by P L (wide P x v i j) (part P x i j) kept in
    record {
      member = through;
      reached = W;
      least = record { some = some; line = L; member = through; reached = W; least = λ M w z f h k. no_less proper v fits M w z f k };
      single = pair_single proper v fits some (omega arith);
    }

-- the value at the point's own input decides, and several lines reach what it says
pub pinned_many_by : {P : Points} → Proper P → (x v : ℤ) (A B : Line) → T (all (pinned_many P x v A B)) → Many (Passing P x v) P (nat_abs (rise P v 0)) P.d
pinned_many_by {P} proper x v A B t =
    let (at, (one, (two, (kept, (also, (apart, _)))))) = all_hold (pinned_many P x v A B) t in
    let W = within_by P A (nat_abs (rise P v 0)) P.d kept in
    record {
      least = record { some = proper.unit; line = A; member = same_is _ _ one; reached = W; least = λ L w z e _ k. own_no_less proper (same_is _ _ at) v L w z e k };
      several = record { one = A; two = B; one_of = same_is _ _ one; two_of = same_is _ _ two; one_in = W; two_in = within_by P B (nat_abs (rise P v 0)) P.d also; differ = differ A B apart };
    }
