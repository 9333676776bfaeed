-- Laws of what is due: when an input is negative, and a best line, as `fit` tells it or written otherwise.
use Rattle.std.proofs.Common.{sym, subst, ⊎_elim, arith}
use Rattle.std.specs.Prelude.{ℕ, zero, suc, ◌<◌, T, pos, nat_abs, ◌≤ℤ◌, ◌<ℤ◌}
use Rattle.std.specs.Int.Signed.{<ℤ-≤ℤ_trans}
use Rattle.whole.specs.Sign.{NonNeg, weaken, le_or_gt}
use Rattle.run.specs.Run.{input}
use Rattle.run.specs.Checked.{Checked}
use Rattle.run.specs.declared.Run.{Run}
use Rattle.band.specs.Line.{Line, Points, Parallel, Zero, Front, Same}
use Rattle.band.specs.Same.{same_within, same_sym}
use Rattle.fit.specs.Answer.{line_of, TheLine, OnlyWidth}
use Rattle.fit.specs.Scaled.{least_family, single_family, several_family, parallel_same}
use Rattle.fit.specs.declared.Fit.{Fit}
use Rattle.fit.specs.declared.Wide.{Wide}
use Rattle.bands.specs.Through.{means}
use Rattle.bands.specs.Parts.{SamePoints}
use Rattle.bands.specs.Transfer.{same_points_sym, within_points, least_points, single_points, several_points, zero_points, front_points}
use Rattle.bands.specs.Admitted.{rising}
use Rattle.due.specs.Due.{Best, Many, from_zero, BelowZero}
use Rattle.due.specs.declared.Index.{Index}
use Rattle.due.specs.declared.Index.TheVariants as index

-- ---- negative inputs
-- the inputs rise: one is negative only where the first one is
pub first_negative : {which : Index} {r : Run} → Checked r → BelowZero which r → input r 0 <ℤ pos 0
first_negative {r = r} c b = go b.at b.within b.negative
  where
    go : (at : ℕ) → at < r.m → input r at <ℤ pos 0 → input r 0 <ℤ pos 0
    go zero h l = l
    go (suc at) h l = <ℤ-≤ℤ_trans (rising c 0 (suc at) (omega arith) h) (weaken l)

pub below_first : {which : Index} {r : Run} → Checked r → T (from_zero which) → input r 0 <ℤ pos 0 → BelowZero which r
below_first c t l = record { asked = t; at = 0; within = omega (arith, c.m_least); negative = l }

pub not_negative : {r : Run} → (BelowZero index.Zero r → ⊥) → (i : ℕ) → i < r.m → pos 0 ≤ℤ input r i
not_negative {r} none i h = ⊎_elim (λ l. l) (λ l. absurd (none (record { asked = tt; at = i; within = h; negative = l }))) (le_or_gt (pos 0) (input r i))

-- where no input of the run is negative, none of points that are the same is
pub points_not_negative : (P : Points) (r : Run) → (BelowZero index.Zero r → ⊥) → SamePoints P (means r) → (i : ℕ) → i < P.m → pos 0 ≤ℤ P.x i
points_not_negative P r none e i h = let k : i < r.m = omega (arith, e.m) in subst NonNeg (sym (e.x i k)) (not_negative none i k)

-- ---- a best line
-- a line that `fit` told, and a width that it told alone
pub best_line : {F : Line → Type 0} {P : Points} {f : Fit} → (t : TheLine F P f) → Best F P (line_of f t.told.some) (nat_abs f.w) f.q
best_line t = record { member = t.member; reached = t.reached; least = t.least; single = t.single }

pub many_lines : {F : Line → Type 0} {P : Points} {h : Wide} → OnlyWidth F P h → Many F P (nat_abs h.w) h.q
many_lines o = record { least = o.least; several = o.several }

-- the line, written otherwise
pub best_same : {F : Line → Type 0} {P : Points} {L M : Line} {w z : ℕ} → Same L M → F M → Best F P L w z → Best F P M w z
best_same e f b = record { member = f; reached = same_within e b.reached; least = b.least; single = b.single }

-- of points that are the same
pub best_points : {F : Line → Type 0} {P R : Points} {L : Line} {w z : ℕ} → SamePoints P R → Best F P L w z → Best F R L w z
best_points e b = record { member = b.member; reached = within_points e b.reached; least = least_points e b.least; single = single_points e b.single }

pub many_points : {F : Line → Type 0} {P R : Points} {w z : ℕ} → SamePoints P R → Many F P w z → Many F R w z
many_points e m = record { least = least_points e m.least; several = several_points e m.several }

-- of the same lines, said in two ways
module _ {F G : Line → Type 0} (to : (L : Line) → F L → G L) (from : (L : Line) → G L → F L) {P : Points} {w z : ℕ} where
  best_family : {L : Line} → Best F P L w z → Best G P L w z
  best_family {L} b = record { member = to L b.member; reached = b.reached; least = least_family to from b.least; single = single_family to from b.single }

  many_family : Many F P w z → Many G P w z
  many_family m = record { least = least_family to from m.least; several = several_family to m.several }

-- of points that are the same: through the origin, and through the first point
module _ {P R : Points} (e : SamePoints P R) {w z : ℕ} where
  pub best_zero : {L : Line} → Best (Zero P) P L w z → Best (Zero R) R L w z
  best_zero b = best_family (zero_points e) (zero_points (same_points_sym e)) (best_points e b)

  pub many_zero : Many (Zero P) P w z → Many (Zero R) R w z
  many_zero m = many_family (zero_points e) (zero_points (same_points_sym e)) (many_points e m)

  pub best_front : 0 < R.m → {L : Line} → Best (Front P) P L w z → Best (Front R) R L w z
  best_front h b = best_family (front_points e h) (front_points (same_points_sym e) (omega (arith, h, e.m))) (best_points e b)

-- of a slope that is written otherwise
pub best_parallel : {P : Points} {T T' L : Line} {w z : ℕ} → Same T T' → Best (Parallel T) P L w z → Best (Parallel T') P L w z
best_parallel e b = best_family (parallel_same e) (parallel_same (same_sym e)) b
