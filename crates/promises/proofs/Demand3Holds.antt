-- Demand 3 holds.
use Rattle.std.specs.Prelude.{◌≡◌, ℕ, ◌*◌, ◌≤◌, pos, ◌+ℤ◌, ◌-ℤ◌, ◌*ℤ◌}
use Rattle.std.proofs.Common.{sym, subst, arith}
use Rattle.run.specs.Checks.{verdict}
use Rattle.run.specs.declared.Run.{Run}
use Rattle.groups.specs.Cut.{exact_limit, step}
use Rattle.band.specs.Line.{Line}
use Rattle.due.specs.Due.{Due}
use Rattle.due.specs.declared.Answer.{Answer}
use Rattle.due.specs.declared.Index.TheVariants as index
use Rattle.promises.specs.Exact.{Keeps, KeepsCloser}
use Rattle.promises.specs.Rounded.{lost, kept_closer, some_reported}
use Rattle.promises.specs.Kept.{some_kept, known}
use Rattle.promises.specs.Demand3.{Uncertain, Demand3}

-- a sum unit has one step
one_step : (n : ℕ) → step * n ≡ n
one_step n = omega arith

module _ (r : Run) (a : Answer) where
  abbrev z : ℕ
  z = a.width.den

  -- n·w/z less a step, and more a step, written with it
  no_line : ((L : Line) → Keeps r (exact_limit r) L (pos r.n *ℤ a.width.num -ℤ pos z) z → ⊥)
      → (L : Line) → Keeps r (exact_limit r) L (pos (step * r.n) *ℤ a.width.num -ℤ pos z) (step * z) → ⊥
  no_line f L K = f L (subst (λ (n : ℕ). Keeps r (exact_limit r) L (pos n *ℤ a.width.num -ℤ pos z) z) (one_step r.n) (subst (Keeps r (exact_limit r) L (pos (step * r.n) *ℤ a.width.num -ℤ pos z)) (one_step z) K))

  closer : (L : Line) → KeepsCloser r (exact_limit r) L (pos r.n *ℤ a.width.num +ℤ pos z) z → KeepsCloser r (exact_limit r) L (pos (step * r.n) *ℤ a.width.num +ℤ pos z) (step * z)
  closer L K = subst (KeepsCloser r (exact_limit r) L (pos (step * r.n) *ℤ a.width.num +ℤ pos z)) (sym (one_step z)) (subst (λ (n : ℕ). KeepsCloser r (exact_limit r) L (pos n *ℤ a.width.num +ℤ pos z) z) (sym (one_step r.n)) K)

uncertain : (r : Run) → (verdict r).number ≡ 0 → r.strokes ≡ 2 → 2 ≤ r.n → (a : Answer) → Due index.Lhr r a → Uncertain r a
uncertain r e back two a due = record {
  no_line = no_line r a (lost r e back two a due);
  kept = λ n L t. closer r a L (kept_closer r e back two a due n L t);
  reported = some_reported r e back two a due;
  some_line = some_kept r e two;
  known = known r two;
}

pub demand_3 : Demand3
demand_3 = record { lhr = uncertain }
