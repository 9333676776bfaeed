-- What is due, case by case: a refusal of the run, 15, 16, 13, 12, or a line with 0 or 11. It is the same as `Due`, both ways; laws and callers use it.
use Rattle.std.specs.Prelude.{◌≡◌, refl, ◌⊎◌, List, [], ◌∷◌, ℕ, ◌<◌, pos}
use Rattle.std.proofs.Common.{sym, ap, ap₂, ◌∙◌, subst, inl, inr, arith}
use Rattle.std.proofs.Math.IntN.{ℤ_discrete}
use Rattle.exact.specs.Value.{Made}
use Rattle.table.specs.Table as table
use Rattle.table.specs.Table.{given_at, Condition, Quiet, conditions, FirstOf, All}
use Rattle.table.specs.Conditions.{behind, in_front, parted}
use Rattle.table.specs.Laws.{exists, first_given, others, silent_quiet, zero_exactly}
use Rattle.run.specs.Checks.{checks, verdict}
use Rattle.run.specs.Checked.{checked, checks_numbers, verdict_most}
use Rattle.run.specs.declared.Run.{Run}
use Rattle.band.specs.Line.{Line}
use Rattle.due.specs.Due.{Fits, SeveralFit, BelowZero, OneStroke, OneCycle, SeveralReach, LevelLine, at_zero, own, refusals, Stands, LineStands, only_width, WidthStands, refused, Due}
use Rattle.due.specs.OneFit.{fits_once, zero_slope, not_both}
use Rattle.due.specs.declared.Answer.{Answer}
use Rattle.due.specs.declared.Index.{Index}

-- the number that goes with a line: 11 where its slope is zero, else 0
pub record Counted (L : Line) (a : Answer) : Type 0 where
  pub flat : L.a ≡ pos 0 → a.number ≡ 11
  pub sloping : (L.a ≡ pos 0 → ⊥) → a.number ≡ 0
  pub place : a.place ≡ 0

pub data Given (which : Index) (r : Run) (a : Answer) : Type 0 where
  several : (w z : ℕ) → 0 < z → SeveralFit which r w z → Made (pos w) z a.width → a ≡ only_width a.width → Given which r a
  one_line : (L : Line) → (w z : ℕ) → 0 < z → Fits which r L w z → Counted L a → Stands r L w z a → Given which r a

pub data Case (which : Index) (r : Run) (a : Answer) : Type 0 where
  no_run : ((verdict r).number ≡ 0 → ⊥) → a ≡ refused (verdict r).number (verdict r).place → Case which r a
  below_zero : (verdict r).number ≡ 0 → BelowZero which r → a ≡ refused 15 0 → Case which r a
  one_stroke : (verdict r).number ≡ 0 → (BelowZero which r → ⊥) → OneStroke which r → a ≡ refused 16 0 → Case which r a
  one_cycle : (verdict r).number ≡ 0 → (BelowZero which r → ⊥) → (OneStroke which r → ⊥) → OneCycle which r → a ≡ refused 13 0 → Case which r a
  given : (verdict r).number ≡ 0 → (BelowZero which r → ⊥) → (OneStroke which r → ⊥) → (OneCycle which r → ⊥) → Given which r a → Case which r a

-- no check refuses the run exactly where none of its conditions holds
pub quiet_checks : (r : Run) → (verdict r).number ≡ 0 → All Quiet (conditions (checks r))
quiet_checks r v = (silent_quiet (checks r)).0 ((zero_exactly (checks r) (checks_numbers r)).0 v)

pub checks_quiet : (r : Run) → All Quiet (conditions (checks r)) → (verdict r).number ≡ 0
checks_quiet r q = (zero_exactly (checks r) (checks_numbers r)).1 ((silent_quiet (checks r)).1 q)

-- ---- a case is due
-- only the number and the place stand
refused_due : (which : Index) (r : Run) (k p : ℕ) → ¬ (k ≡ 0) → ¬ (k ≡ 11) → ¬ (k ≡ 12) → FirstOf (refusals which r) (given_at k p) → Due which r (refused k p)
refused_due which r k p n0 n11 n12 f = record { told = f; line = none; width = λ e. absurd (n12 e); nothing = λ _ _ _. refl }
  where
    none : (k ≡ 0) ⊎ (k ≡ 11) → LineStands which r (refused k p)
    none (inl e) = absurd (n0 e)
    none (inr e) = absurd (n11 e)

-- behind the checks of the run, 15, 16 and 13 the answer is told by 12 and 11
abbrev lined : Index → Run → List Condition
lined which r = at_zero 12 (SeveralReach which r) ∷ at_zero 11 (LevelLine which r) ∷ []

here : (which : Index) (r : Run) (g : table.Given) → (verdict r).number ≡ 0 → (BelowZero which r → ⊥) → (OneStroke which r → ⊥) → (OneCycle which r → ⊥) → FirstOf (lined which r) g → FirstOf (refusals which r) g
here which r g v n u o f = behind (conditions (checks r)) (own which r) g (quiet_checks r v) (inr ((λ p h. n h.1), inr ((λ p h. u h.1), inr ((λ p h. o h.1), f))))

module _ {which : Index} {r : Run} {a : Answer} where
  line_due : (verdict r).number ≡ 0 → (BelowZero which r → ⊥) → (OneStroke which r → ⊥) → (OneCycle which r → ⊥)
      → (L : Line) (w z : ℕ) → 0 < z → Fits which r L w z → Counted L a → Stands r L w z a → Dec (L.a ≡ pos 0) → Due which r a
  line_due v n u o L w z h f c s (yes e) =
      let k = c.flat e in
      record {
        told = here which r (given_at a.number a.place) v n u o (inr ((λ p t. not_both which r L t.1.w t.1.z w z t.1.fit f), inl (k, (c.place, record { line = L; w = w; z = z; some = h; fits = f; level = e }))));
        line = λ _. record { line = L; w = w; z = z; some = h; fits = f; stands = s };
        width = λ q. absurd (omega arith);
        nothing = λ _ q _. absurd (q k);
      }
  line_due v n u o L w z h f c s (no d) =
      let k = c.sloping d in
      record {
        told = here which r (given_at a.number a.place) v n u o (inr (
          (λ p t. not_both which r L t.1.w t.1.z w z t.1.fit f),
          inr ((λ p t. d (zero_slope (fits_once which (checked r v) t.1.fits f).line t.1.level)), λ i. given_at (k i) (c.place i)),
        ));
        line = λ _. record { line = L; w = w; z = z; some = h; fits = f; stands = s };
        width = λ q. absurd (omega arith);
        nothing = λ q _ _. absurd (q k);
      }

  pub case_due : Case which r a → Due which r a
  case_due (no_run n e) =
      let most = verdict_most r in
      subst (Due which r) (sym e) (refused_due which r (verdict r).number (verdict r).place n (λ q. omega arith) (λ q. omega arith) (in_front (conditions (checks r)) (own which r) (table.given (checks r)) n (exists (checks r))))
  case_due (below_zero v b e) =
      subst (Due which r) (sym e) (refused_due which r 15 0 (λ q. omega arith) (λ q. omega arith) (λ q. omega arith) (behind (conditions (checks r)) (own which r) _ (quiet_checks r v) (inl (refl, (refl, b)))))
  case_due (one_stroke v n u e) =
      subst (Due which r) (sym e) (refused_due which r 16 0 (λ q. omega arith) (λ q. omega arith) (λ q. omega arith) (behind (conditions (checks r)) (own which r) _ (quiet_checks r v) (inr ((λ p h. n h.1), inl (refl, (refl, u))))))
  case_due (one_cycle v n u o e) =
      subst (Due which r) (sym e) (refused_due which r 13 0 (λ q. omega arith) (λ q. omega arith) (λ q. omega arith) (behind (conditions (checks r)) (own which r) _ (quiet_checks r v) (inr ((λ p h. n h.1), inr ((λ p h. u h.1), inl (refl, (refl, o)))))))
  case_due (given v n u o (several w z h m wide e)) =
      let k : a.number ≡ 12 = ap (λ (b : Answer). b.number) e in
      record {
        told = here which r (given_at a.number a.place) v n u o (inl (k, (ap (λ (b : Answer). b.place) e, record { w = w; z = z; some = h; fit = m })));
        line = none k;
        width = λ _. record { w = w; z = z; some = h; fit = m; width = wide; alone = e };
        nothing = λ _ _ q. absurd (q k);
      }
    where
      none : a.number ≡ 12 → (a.number ≡ 0) ⊎ (a.number ≡ 11) → LineStands which r a
      none k (inl q) = absurd (omega arith)
      none k (inr q) = absurd (omega arith)
  case_due (given v n u o (one_line L w z h f c s)) = line_due v n u o L w z h f c s (ℤ_discrete L.a (pos 0))

-- ---- what is due is one of the cases
module _ {which : Index} {r : Run} {a : Answer} (d : Due which r a) where
  -- only the number and the place stand
  told_alone : (k p : ℕ) → ¬ (k ≡ 0) → ¬ (k ≡ 11) → ¬ (k ≡ 12) → a.number ≡ k → a.place ≡ p → a ≡ refused k p
  told_alone k p n0 n11 n12 e f = d.nothing (λ q. n0 (sym e ∙ q)) (λ q. n11 (sym e ∙ q)) (λ q. n12 (sym e ∙ q)) ∙ ap₂ refused e f

  several_given : WidthStands which r a → Given which r a
  several_given s = several s.w s.z s.some s.fit s.width s.alone

  line_given : (s : LineStands which r a) → Counted s.line a → Given which r a
  line_given s c = one_line s.line s.w s.z s.some s.fits c s.stands

  own_case : (verdict r).number ≡ 0 → FirstOf (own which r) (given_at a.number a.place) → Case which r a
  own_case v (inl (k, t)) = below_zero v t.1 (told_alone 15 0 (λ q. omega arith) (λ q. omega arith) (λ q. omega arith) k t.0)
  own_case v (inr (n, inl (k, t))) = one_stroke v (λ b. n 0 (refl, b)) t.1 (told_alone 16 0 (λ q. omega arith) (λ q. omega arith) (λ q. omega arith) k t.0)
  own_case v (inr (n, inr (u, inl (k, t)))) = one_cycle v (λ b. n 0 (refl, b)) (λ b. u 0 (refl, b)) t.1 (told_alone 13 0 (λ q. omega arith) (λ q. omega arith) (λ q. omega arith) k t.0)
  own_case v (inr (n, inr (u, inr (o, inl (k, t))))) = given v (λ b. n 0 (refl, b)) (λ b. u 0 (refl, b)) (λ b. o 0 (refl, b)) (several_given (d.width k))
  own_case v (inr (n, inr (u, inr (o, inr (m, inl (k, t)))))) =
      let s = d.line (inr k) in
      let level = zero_slope (fits_once which (checked r v) t.1.fits s.fits).line t.1.level in
      given v (λ b. n 0 (refl, b)) (λ b. u 0 (refl, b)) (λ b. o 0 (refl, b)) (line_given s (record { flat = λ _. k; sloping = λ q. absurd (q level); place = t.0 }))
  own_case v (inr (n, inr (u, inr (o, inr (m, inr (l, e)))))) =
      let k : a.number ≡ 0 = ap (λ (g : table.Given). g.number) e in
      let s = d.line (inl k) in
      given v (λ b. n 0 (refl, b)) (λ b. u 0 (refl, b)) (λ b. o 0 (refl, b)) (line_given s (record {
        flat = λ q. absurd (l 0 (refl, record { line = s.line; w = s.w; z = s.z; some = s.some; fits = s.fits; level = q }));
        sloping = λ _. k;
        place = ap (λ (g : table.Given). g.place) e;
      }))

  pub due_case : Case which r a
  due_case = go (parted (conditions (checks r)) (own which r) (given_at a.number a.place) (others 0 (checks r) (checks_numbers r)) d.told)
    where
      go : let g = given_at a.number a.place in (FirstOf (conditions (checks r)) g × ¬ (g.number ≡ 0)) ⊎ (All Quiet (conditions (checks r)) × FirstOf (own which r) g) → Case which r a
      go (inl (f, n)) =
          let e = first_given (checks r) f in
          let k : a.number ≡ (verdict r).number = ap (λ (g : table.Given). g.number) e in
          let p : a.place ≡ (verdict r).place = ap (λ (g : table.Given). g.place) e in
          let most = verdict_most r in
          no_run (λ z. n (k ∙ z)) (told_alone (verdict r).number (verdict r).place (λ z. n (k ∙ z)) (λ q. omega arith) (λ q. omega arith) k p)
      go (inr (q, f)) = own_case (checks_quiet r q) f
