-- Each number of an index, and each of a write, is given exactly when its condition is the first to hold.
use Rattle.std.specs.Prelude.{◌≡◌, refl, ◌↔◌, List, [], ◌∷◌, ◌++◌, ℕ, ◌<◌, ◌≤◌, length}
use Rattle.std.proofs.Common.{sym, ap, ◌∙◌, subst, arith}
use Rattle.std.proofs.Math.Decide.{dec_lt, ℕ_discrete}
use Rattle.table.specs.Table.{Given, given_at, accepted, Condition, Quiet, conditions, FirstOf, All, Other}
use Rattle.table.specs.Conditions.{exactly, none_exactly, zero_first, OnePlace, one_first}
use Rattle.table.specs.Laws.{all_append, one_places}
use Rattle.run.specs.Checks.{checks, verdict}
use Rattle.run.specs.Checked.{verdict_most}
use Rattle.run.specs.declared.Run.{Run}
use Rattle.writer.specs.File.{file, written}
use Rattle.writer.specs.WrittenLaws.{written_unchecked, written_short, written_full, after_full}
use Rattle.writer.specs.declared.Written.{Written}
use Rattle.due.specs.Due.{BelowZero, OneStroke, OneCycle, SeveralReach, LevelLine, at_zero, own, refusals, Due}
use Rattle.due.specs.Cases.{quiet_checks, checks_quiet, Case, no_run, below_zero, one_stroke, one_cycle, given, due_case}
use Rattle.due.specs.declared.Answer.{Answer}
use Rattle.due.specs.declared.Index.{Index}
use Rattle.promises.specs.Demand1.{Passed, IndexExactly, WriteExactly}

-- ---- an index
-- what is told of place 0 alone is told of one place
at_zero_once : (k : ℕ) (P : Type 0) → OnePlace (at_zero k P)
at_zero_once k P p q h j = h.0 ∙ sym j.0

-- it is silent exactly where its condition does not hold
quiet_not : (k : ℕ) {P : Type 0} → Quiet (at_zero k P) → ¬ P
quiet_not k q h = q 0 (refl, h)

not_quiet : (k : ℕ) {P : Type 0} → ¬ P → Quiet (at_zero k P)
not_quiet k n p h = n h.1

module _ (which : Index) (r : Run) where
  abbrev cs : List Condition
  cs = conditions (checks r)

  once : All OnePlace (refusals which r)
  once =
      (all_append OnePlace cs (own which r)).1
      (one_places (checks r), (at_zero_once 15 (BelowZero which r), (at_zero_once 16 (OneStroke which r), (at_zero_once 13 (OneCycle which r), (at_zero_once 12 (SeveralReach which r), (at_zero_once 11 (LevelLine which r), tt))))))

  -- none of the checks has such a number
  others_high : (k : ℕ) → 10 < k → All (Other k) cs
  others_high k h = ((λ e. omega arith), ((λ e. omega arith), ((λ e. omega arith), ((λ e. omega arith), tt))))

  -- the conditions in front of 16, of 13, of 12 and of 11
  abbrev before : List Condition → List Condition
  before more = cs ++ more

  module _ (a : Answer) (d : Due which r a) where
    at_number : (k : ℕ) → a.number ≡ k → FirstOf (refusals which r) (given_at k a.place)
    at_number k e = subst (λ (n : ℕ). FirstOf (refusals which r) (given_at n a.place)) e d.told

    number_at : (k : ℕ) → FirstOf (refusals which r) (given_at k 0) → a.number ≡ k
    number_at k f = ap (λ (g : Given). g.number) (one_first (refusals which r) once d.told f)

    -- a condition behind those of the run and some more
    number_exactly : (k : ℕ) (P : Type 0) (more after : List Condition) → 10 < k → All (Other k) more → All (Other k) after
        → (before more ++ (at_zero k P ∷ after)) ≡ refusals which r
        → (a.number ≡ k) ↔ (Passed r × All Quiet more × P)
    number_exactly k P more after h um ua is =
        let x : (p : ℕ) → FirstOf (before more ++ (at_zero k P ∷ after)) (given_at k p) ↔ (All Quiet (before more) × ((p ≡ 0) × P)) =
        λ p. exactly (before more) (at_zero k P) after p (λ e. omega arith) ((all_append (Other k) cs more).1 (others_high k h, um)) ua
        in (
          λ e.
              let y = (x a.place).0 (subst (λ (l : List Condition). FirstOf l (given_at k a.place)) (sym is) (at_number k e)) in
              let q = (all_append Quiet cs more).0 y.0 in
              (checks_quiet r q.0, q.1, y.1.1),
          λ t. number_at k (subst (λ (l : List Condition). FirstOf l (given_at k 0)) is ((x 0).1 ((all_append Quiet cs more).1 (quiet_checks r t.0, t.1), (refl, t.2)))),
        )

    no_number : (a.number ≡ 0) ↔ (Passed r × All Quiet (own which r))
    no_number =
        let u : All (Other 0) (refusals which r) = ((λ e. omega arith), ((λ e. omega arith), ((λ e. omega arith), ((λ e. omega arith), ((λ e. omega arith), ((λ e. omega arith), ((λ e. omega arith), ((λ e. omega arith), ((λ e. omega arith), tt))))))))) in
        let x = none_exactly (refusals which r) u in (
          λ e.
              let q = (all_append Quiet cs (own which r)).0 (x.0 (subst (λ (g : Given). FirstOf (refusals which r) g) (zero_told u e) d.told)) in
              (checks_quiet r q.0, q.1),
          λ t. number_at 0 (x.1 ((all_append Quiet cs (own which r)).1 (quiet_checks r t.0, t.1))),
        )
      where
        zero_told : All (Other 0) (refusals which r) → a.number ≡ 0 → given_at a.number a.place ≡ accepted
        zero_told u e = zero_first (refusals which r) (given_at a.number a.place) u d.told e

    of_run : ¬ (Passed r) → (a.number ≡ (verdict r).number) × (a.place ≡ (verdict r).place)
    of_run n = go (due_case d)
      where
        go : Case which r a → (a.number ≡ (verdict r).number) × (a.place ≡ (verdict r).place)
        go (no_run _ e) = (ap (λ (b : Answer). b.number) e, ap (λ (b : Answer). b.place) e)
        go (below_zero v _ _) = absurd (n v)
        go (one_stroke v _ _ _) = absurd (n v)
        go (one_cycle v _ _ _ _) = absurd (n v)
        go (given v _ _ _ _) = absurd (n v)

    pub index_exactly : IndexExactly which r a
    index_exactly =
        let c15 = at_zero 15 (BelowZero which r) in
        let c16 = at_zero 16 (OneStroke which r) in
        let c13 = at_zero 13 (OneCycle which r) in
        let c12 = at_zero 12 (SeveralReach which r) in
        let c11 = at_zero 11 (LevelLine which r) in
        let i15 = number_exactly 15 (BelowZero which r) [] (c16 ∷ c13 ∷ c12 ∷ c11 ∷ []) (omega arith) tt ((λ e. omega arith), ((λ e. omega arith), ((λ e. omega arith), ((λ e. omega arith), tt)))) refl in
        let i16 = number_exactly 16 (OneStroke which r) (c15 ∷ []) (c13 ∷ c12 ∷ c11 ∷ []) (omega arith) ((λ e. omega arith), tt) ((λ e. omega arith), ((λ e. omega arith), ((λ e. omega arith), tt))) refl in
        let i13 = number_exactly 13 (OneCycle which r) (c15 ∷ c16 ∷ []) (c12 ∷ c11 ∷ []) (omega arith) ((λ e. omega arith), ((λ e. omega arith), tt)) ((λ e. omega arith), ((λ e. omega arith), tt)) refl in
        let i12 = number_exactly 12 (SeveralReach which r) (c15 ∷ c16 ∷ c13 ∷ []) (c11 ∷ []) (omega arith) ((λ e. omega arith), ((λ e. omega arith), ((λ e. omega arith), tt))) ((λ e. omega arith), tt) refl in
        let i11 = number_exactly 11 (LevelLine which r) (c15 ∷ c16 ∷ c13 ∷ c12 ∷ []) [] (omega arith) ((λ e. omega arith), ((λ e. omega arith), ((λ e. omega arith), ((λ e. omega arith), tt)))) tt refl in
        let i0 = no_number in
        record {
          fifteen = (λ e. let t = i15.0 e in (t.0, t.2), λ t. i15.1 (t.0, tt, t.1));
          sixteen = (λ e. let t = i16.0 e in (t.0, quiet_not 15 t.1.0, t.2), λ t. i16.1 (t.0, (not_quiet 15 t.1, tt), t.2));
          thirteen = (λ e. let t = i13.0 e in (t.0, quiet_not 15 t.1.0, quiet_not 16 t.1.1.0, t.2), λ t. i13.1 (t.0, (not_quiet 15 t.1, (not_quiet 16 t.2, tt)), t.3));
          twelve = (
            λ e. let t = i12.0 e in (t.0, quiet_not 15 t.1.0, quiet_not 16 t.1.1.0, quiet_not 13 t.1.1.1.0, t.2),
            λ t. i12.1 (t.0, (not_quiet 15 t.1, (not_quiet 16 t.2, (not_quiet 13 t.3, tt))), t.4),
          );
          eleven = (
            λ e. let t = i11.0 e in (t.0, quiet_not 15 t.1.0, quiet_not 16 t.1.1.0, quiet_not 13 t.1.1.1.0, quiet_not 12 t.1.1.1.1.0, t.2),
            λ t. i11.1 (t.0, (not_quiet 15 t.1, (not_quiet 16 t.2, (not_quiet 13 t.3, (not_quiet 12 t.4, tt)))), t.5),
          );
          zero = (
            λ e. let t = i0.0 e in (t.0, quiet_not 15 t.1.0, quiet_not 16 t.1.1.0, quiet_not 13 t.1.1.1.0, quiet_not 12 t.1.1.1.1.0, quiet_not 11 t.1.1.1.1.1.0),
            λ t. i0.1 (t.0, (not_quiet 15 t.1, (not_quiet 16 t.2, (not_quiet 13 t.3, (not_quiet 12 t.4, (not_quiet 11 t.5, tt)))))),
          );
          of_run = of_run;
        }

-- ---- a write
pub write_exactly : (r : Run) (buffer : List ℕ) → WriteExactly r buffer
write_exactly r buffer = record { fourteen = (short, λ h. ap (λ (w : Written). w.number) (written_short r buffer h.0 h.1)); zero = (full, λ h. ap (λ (w : Written). w.number) (written_full r buffer h.0 h.1)); of_run = of_run; place = place; len = λ e. let h = full e in ap (λ (w : Written). w.len) (written_full r buffer h.0 h.1); after = λ e. let h = full e in after_full r buffer h.0 h.1 }
  where
    of_run : ¬ (Passed r) → ((written r buffer).number ≡ (verdict r).number) × ((written r buffer).place ≡ (verdict r).place)
    of_run n = let e = written_unchecked r buffer n in (ap (λ (w : Written). w.number) e, ap (λ (w : Written). w.place) e)

    place : Passed r → (written r buffer).place ≡ 0
    place v = go (dec_lt (length buffer) (length (file r)))
      where
        go : Dec (length buffer < length (file r)) → (written r buffer).place ≡ 0
        go (yes h) = ap (λ (w : Written). w.place) (written_short r buffer v h)
        go (no h) = ap (λ (w : Written). w.place) (written_full r buffer v (omega arith))

    -- the check refuses the run with another number, or the buffer's length tells
    passed_by : (k : ℕ) → 10 < k → (written r buffer).number ≡ k → Dec (Passed r) → Passed r
    passed_by k h e (yes v) = v
    passed_by k h e (no n) = let q = (of_run n).0 in absurd (omega (arith, verdict_most r))

    short : (written r buffer).number ≡ 14 → Passed r × (length buffer < length (file r))
    short e = let v = passed_by 14 (omega arith) e (ℕ_discrete (verdict r).number 0) in (v, go v (dec_lt (length buffer) (length (file r))))
      where
        go : Passed r → Dec (length buffer < length (file r)) → length buffer < length (file r)
        go v (yes h) = h
        go v (no h) = let q = ap (λ (w : Written). w.number) (written_full r buffer v (omega arith)) in absurd (omega arith)

    full : (written r buffer).number ≡ 0 → Passed r × (length (file r) ≤ length buffer)
    full e = go (ℕ_discrete (verdict r).number 0) (dec_lt (length buffer) (length (file r)))
      where
        go : Dec (Passed r) → Dec (length buffer < length (file r)) → Passed r × (length (file r) ≤ length buffer)
        go (no n) _ = absurd (n (sym (of_run n).0 ∙ e))
        go (yes v) (yes h) = let q = ap (λ (w : Written). w.number) (written_short r buffer v h) in absurd (omega arith)
        go (yes v) (no h) = (v, omega arith)
