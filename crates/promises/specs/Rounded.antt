-- What demand 3 says of an LHR answer, from the width and the line that are due.
use Rattle.std.specs.Prelude.{◌≡◌, ℕ, ◌≤◌, ℤ, pos, nat_abs, ◌+ℤ◌, ◌-ℤ◌, ◌*ℤ◌}
use Rattle.std.proofs.Common.{sym, ap, subst, arith}
use Rattle.run.specs.Checks.{verdict}
use Rattle.run.specs.Checked.{checked}
use Rattle.run.specs.declared.Run.{Run}
use Rattle.groups.specs.Cut.{exact_limit, LimitsOf}
use Rattle.band.specs.Line.{Line, Within, All, Least}
use Rattle.band.specs.Same.{same_within}
use Rattle.fit.specs.Scaled.{within_alike, least_alike}
use Rattle.bands.specs.Through.{limit_points}
use Rattle.due.specs.Due.{Due}
use Rattle.due.specs.Cases.{Given, several, one_line, Case, no_run, below_zero, one_stroke, one_cycle, given, due_case}
use Rattle.due.specs.declared.Answer.{Answer}
use Rattle.due.specs.declared.Index.TheVariants as index
use Rattle.promises.specs.Exact.{Keeps, KeepsCloser}
use Rattle.promises.specs.Reported.{Reports}
use Rattle.promises.specs.ReportedLaws.{made_alike, made_sign, reported}
use Rattle.promises.specs.Points as P
use Rattle.promises.specs.Roots.{limits_round}

-- what the answer says of the rounded points
record Told (r : Run) (a : Answer) : Type 0 where
  k : ℕ → ℕ → ℕ
  limits : LimitsOf r k
  sign : pos (nat_abs a.width.num) ≡ a.width.num
  least : Least All (limit_points r k) (nat_abs a.width.num) a.width.den
  line : (a.number ≡ 12 → ⊥) → (L : Line) → Reports a L → Within (limit_points r k) L (nat_abs a.width.num) a.width.den
  reports : (a.number ≡ 12 → ⊥) → (L : Line) × Reports a L

told_given : {r : Run} {a : Answer} → Given index.Lhr r a → Told r a
told_given (several w z h m u e) = record {
  k = m.k;
  limits = m.limits;
  sign = made_sign h u;
  least = least_alike (made_alike h u) m.holds.least;
  line = λ d L t. absurd (d (ap (λ (b : Answer). b.number) e));
  reports = λ d. absurd (d (ap (λ (b : Answer). b.number) e));
}
told_given (one_line L w z h b c s) = record {
  k = b.k;
  limits = b.limits;
  sign = made_sign h s.width;
  least = least_alike (made_alike h s.width) b.holds.least;
  line = λ d M t. same_within (reported s t) (within_alike (made_alike h s.width) b.holds.reached);
  reports = λ d. (L, record { slope = s.slope.worth L.some; offset = s.offset.worth L.some });
}

told : {r : Run} {a : Answer} → (verdict r).number ≡ 0 → r.strokes ≡ 2 → 2 ≤ r.n → Case index.Lhr r a → Told r a
told e back two (no_run h f) = absurd (h e)
told e back two (below_zero v b f) = absurd b.asked
told e back two (one_stroke v n u f) = let one = u.1 in absurd (omega arith)
told e back two (one_cycle v n u o f) = let one = o.1 in absurd (omega arith)
told e back two (given v n u o g) = told_given g

module _ (r : Run) (e : (verdict r).number ≡ 0) (back : r.strokes ≡ 2) (two : 2 ≤ r.n) (a : Answer) (due : Due index.Lhr r a) where
  pub lost : (L : Line) → Keeps r (exact_limit r) L (pos r.n *ℤ a.width.num -ℤ pos a.width.den) a.width.den → ⊥
  lost L K =
      let t = told e back two (due_case due) in
      let c = checked r e in
      P.lost r (limits_round r two t.limits) L (nat_abs a.width.num) a.width.den t.least.some (omega (arith, c.m_least)) (omega arith) t.least
      (subst (λ (w : ℤ). Keeps r (exact_limit r) L (pos r.n *ℤ w -ℤ pos a.width.den) a.width.den) (sym t.sign) K)

  pub kept_closer : (a.number ≡ 12 → ⊥) → (L : Line) → Reports a L → KeepsCloser r (exact_limit r) L (pos r.n *ℤ a.width.num +ℤ pos a.width.den) a.width.den
  kept_closer d L s =
      let t = told e back two (due_case due) in
      subst (λ (w : ℤ). KeepsCloser r (exact_limit r) L (pos r.n *ℤ w +ℤ pos a.width.den) a.width.den) t.sign
      (P.kept r (limits_round r two t.limits) L (nat_abs a.width.num) a.width.den t.least.some (t.line d L s))

  -- where several lines do not reach it, a line is reported
  pub some_reported : (a.number ≡ 12 → ⊥) → (L : Line) × Reports a L
  some_reported = (told e back two (due_case due)).reports
