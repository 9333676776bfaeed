-- Points that are the same: every statement of `Line` on the ones holds on the others.
use Rattle.std.proofs.Common.{sym, arith}
use Rattle.std.specs.Prelude.{ℕ, ◌-◌, ◌<◌}
use Rattle.band.specs.Line.{Line, Points, Proper, Within, Largest, Least, Single, Several, Zero, Front, Terminal}
use Rattle.bands.specs.Parts.{SamePoints}

pub same_points_sym : {P R : Points} → SamePoints P R → SamePoints R P
same_points_sym {P} {R} e = record {
  m = sym e.m;
  d = sym e.d;
  x = λ i h. sym (e.x i (omega arith));
  low = λ i h. sym (e.low i (omega arith));
  high = λ i h. sym (e.high i (omega arith));
}

pub within_points : {P R : Points} → SamePoints P R → {L : Line} {w z : ℕ} → Within P L w z → Within R L w z
within_points {P} {R} e {L} {w} {z} W = record {
  low = λ i h. rw (e.d, e.x i h, e.low i h) at (W.low i (omega arith));
  high = λ i h. rw (e.d, e.x i h, e.high i h) at (W.high i (omega arith));
}

module _ {P R : Points} (e : SamePoints P R) where
  pub largest_points : {L : Line} {w z : ℕ} → Largest P L w z → Largest R L w z
  largest_points M = record { some = M.some; within = within_points e M.within; least = λ w z h W. M.least w z h (within_points (same_points_sym e) W) }

  module _ {F : Line → Type 0} {w z : ℕ} where
    pub least_points : Least F P w z → Least F R w z
    least_points M = record { some = M.some; line = M.line; member = M.member; reached = within_points e M.reached; least = λ L v y f h W. M.least L v y f h (within_points (same_points_sym e) W) }

    pub single_points : Single F P w z → Single F R w z
    single_points s L M f g A B = s L M f g (within_points (same_points_sym e) A) (within_points (same_points_sym e) B)

    pub several_points : Several F P w z → Several F R w z
    several_points s = record { one = s.one; two = s.two; one_of = s.one_of; two_of = s.two_of; one_in = within_points e s.one_in; two_in = within_points e s.two_in; differ = s.differ }

  pub zero_points : (L : Line) → Zero P L → Zero R L
  zero_points L t = rw e.d at t

  pub front_points : 0 < R.m → (L : Line) → Front P L → Front R L
  front_points h L t = rw (e.d, e.x 0 h, e.low 0 h) at t

  pub terminal_points : 0 < R.m → {L : Line} → Terminal P L → Terminal R L
  terminal_points h {L} t = record {
    first = front_points h L t.first;
    last = rw (e.m, e.d, e.x (R.m - 1) (omega arith), e.low (R.m - 1) (omega arith)) at t.last;
  }

  pub proper_points : Proper P → Proper R
  proper_points p = record {
    two = omega arith;
    unit = omega arith;
    rise = λ i j h k. rw (e.x i (omega arith), e.x j k) at (p.rise i j h (omega arith));
    order = λ i h. rw (e.low i h, e.high i h) at (p.order i (omega arith));
  }
