-- What the functions answer of the points of a run is what stands under its index: `SameAnswers` holds of every run that no check refuses.
use Rattle.std.specs.Prelude.{◌≡◌, refl, cond, List, map, ℕ, ◌*◌, ◌<◌, ◌≤◌, T, ltb, ℤ, pos, nat_abs, get_or}
use Rattle.std.proofs.Common.{sym, ap, ◌∙◌, subst, arith, lt-ltb, le-ltb}
use Rattle.std.specs.Prelude as std
use Rattle.std.proofs.Math.Option.{some}
use Rattle.whole.specs.Flags.{cond_yes, cond_no}
use Rattle.exact.specs.Rounding.{Nearest, Told, PercentDue}
use Rattle.exact.proofs.RoundingLaws.{some_nearest}
use Rattle.exact.proofs.RoundingOnce.{one_percent}
use Rattle.run.specs.Checks.{verdict}
use Rattle.run.specs.Checked.{Checked, checked}
use Rattle.run.specs.Places.{rising}
use Rattle.run.specs.WrittenOut.{length_table, table_at}
use Rattle.run.specs.declared.Run.{Run}
use Rattle.groups.specs.Cut.{LimitsOf}
use Rattle.groups.specs.Rounded.{limits_agree, limits_found}
use Rattle.band.specs.Line.{Points, OneValue}
use Rattle.band.specs.Band.{Admitted}
use Rattle.fit.specs.Answer.{BestDue, TerminalDue, ShiftedDue}
use Rattle.fit.specs.Once.{level_single}
use Rattle.fit.specs.declared.Drawn.{Drawn}
use Rattle.fit.specs.declared.Drawn.TheVariants as drawn
use Rattle.pin.specs.Answer.{ZeroDue, FrontDue}
use Rattle.bands.specs.Through.{means, stroke_points, limit_points}
use Rattle.bands.specs.Parts as lines
use Rattle.bands.specs.Parts.{SamePoints}
use Rattle.bands.specs.Transfer.{largest_points, terminal_points}
use Rattle.bands.specs.Limited.{same_limit_points}
use Rattle.bands.specs.Admitted.{admitted_through, admitted}
use Rattle.due.specs.Due.{refused, from_zero, needs_down, scatters, Due}
use Rattle.due.specs.Cases.{several, one_line, Case, no_run, below_zero, one_stroke, one_cycle, given, due_case}
use Rattle.due.specs.DueLaws.{points_not_negative, best_line, many_lines, best_points, many_points, best_zero, many_zero, best_front}
use Rattle.due.specs.Ground.{Answered}
use Rattle.due.specs.GroundLaws.{plainly, cycles_two}
use Rattle.due.specs.declared.Answer.{Answer}
use Rattle.due.specs.declared.Index.{Index}
use Rattle.due.specs.declared.Index.TheVariants as index
use Rattle.promises.specs.Enums.{lined, as_lined, Eleven, Arrays, SameAnswers}
use Rattle.promises.specs.DrawnLaws.{line_is, width_is}

-- what stands under an index is what d is in the paper's table
abbrev StandsUnder : Index → Run → Drawn → Type 0
StandsUnder which r d = (a : Answer) → Due which r a → as_lined d ≡ some (lined a)

number_is : {a : Answer} {k : ℕ} → a ≡ refused k 0 → a.number ≡ k
number_is e = ap (λ (b : Answer). b.number) e

module _ (r : Run) (e : (verdict r).number ≡ 0) where
  c : Checked r
  c = checked r e

  -- 15, 16 and 13 refuse an index only with their number
  answered : {which : Index} {a : Answer} → (T (from_zero which) → ¬ (a.number ≡ 15)) → (T (needs_down which) → ¬ (a.number ≡ 16)) → (T (scatters which) → ¬ (a.number ≡ 13)) → Case which r a → Answered which r
  answered z u s (no_run n _) = absurd (n e)
  answered z u s (below_zero _ b q) = absurd (z b.asked (number_is q))
  answered z u s (one_stroke _ _ o q) = absurd (u o.0 (number_is q))
  answered z u s (one_cycle _ _ _ o q) = absurd (s o.0 (number_is q))
  answered z u s (given v n k o _) = record { fine = v; from_zero = n; strokes = k; cycles = o }

  some_point : 0 < r.m
  some_point = omega (arith, c.m_least)

  -- ---- points that are the same as the means have one value at each input, and are admitted
  module _ {P : Points} (s : SamePoints P (means r)) where
    level : OneValue P
    level i h = let k : i < r.m = omega (arith, s.m) in s.low i k ∙ sym (s.high i k)

    points : Admitted P
    points = admitted (admitted_through c lines.Means) s

  -- ---- the best lines
  independent : (P : Points) → SamePoints P (means r) → (d : Drawn) → BestDue P d → StandsUnder index.Independent r d
  independent P s (drawn.Line f) b a due = line_is (plainly index.Independent refl refl refl e) due b.1.told (best_points s (best_line b.1))
  independent P s (drawn.Several h) b a due = absurd (level_single P (level s) h b)
  independent P s drawn.Improper b a due = absurd (b (points s))

  lh : (P : Points) → SamePoints P (stroke_points r) → (d : Drawn) → BestDue P d → (a : Answer) → Due index.Lh r a → ¬ (a.number ≡ 16) → as_lined d ≡ some (lined a)
  lh P s d b a due both = go d b
    where
      o : Answered index.Lh r
      o = answered (λ t. absurd t) (λ _. both) (λ t. absurd t) (due_case due)

      go : (d : Drawn) → BestDue P d → as_lined d ≡ some (lined a)
      go (drawn.Line f) b = line_is o due b.1.told (best_points s (best_line b.1))
      go (drawn.Several h) b = width_is o due b.1 (many_points s (many_lines b.1))
      go drawn.Improper b = absurd (b (admitted (admitted_through c lines.Strokes) s))

  -- limits that are rounded up are those that the search finds, so the points are the same
  limit_points_admitted : {k : ℕ → ℕ → ℕ} → LimitsOf r k → Answered index.Lhr r → Admitted (limit_points r k)
  limit_points_admitted l o = admitted (admitted_through c lines.Limits) (same_limit_points r (limits_agree r l (limits_found c (cycles_two index.Lhr tt o))))

  lhr : (k : ℕ → ℕ → ℕ) → LimitsOf r k → (P : Points) → SamePoints P (limit_points r k) → (d : Drawn) → BestDue P d → (a : Answer) → Due index.Lhr r a → ¬ (a.number ≡ 16) → ¬ (a.number ≡ 13) → as_lined d ≡ some (lined a)
  lhr k l P s d b a due both more = go d b
    where
      o : Answered index.Lhr r
      o = answered (λ t. absurd t) (λ _. both) (λ _. more) (due_case due)

      go : (d : Drawn) → BestDue P d → as_lined d ≡ some (lined a)
      go (drawn.Line f) b = line_is o due b.1.told (record { k = k; limits = l; holds = best_points s (best_line b.1) })
      go (drawn.Several h) b = width_is o due b.1 (record { k = k; limits = l; holds = many_points s (many_lines b.1) })
      go drawn.Improper b = absurd (b (admitted (limit_points_admitted l o) s))

  -- ---- the terminal line and the shifted one
  terminal : (P : Points) → SamePoints P (means r) → (d : Drawn) → TerminalDue P d → StandsUnder index.Terminal r d
  terminal P s (drawn.Line f) b a due = line_is (plainly index.Terminal refl refl refl e) due b.2.told (terminal_points s some_point b.2.ends, largest_points s b.2.largest)
  terminal P s (drawn.Several h) b a due = absurd b
  terminal P s drawn.Improper b a due = absurd (b (points s) (level s))

  shifted : (P : Points) → SamePoints P (means r) → (d : Drawn) → ShiftedDue P d → StandsUnder index.Shifted r d
  shifted P s (drawn.Line f) b a due =
      line_is (plainly index.Shifted refl refl refl e) due b.2.line.told
      (record { base = b.2.base; terminal = terminal_points s some_point b.2.terminal; best = best_points s (best_line b.2.line) })
  shifted P s (drawn.Several h) b a due = absurd b
  shifted P s drawn.Improper b a due = absurd (b (points s) (level s))

  -- ---- the lines through a fixed point
  zero : (P : Points) → SamePoints P (means r) → (d : Drawn) → ZeroDue P d → (a : Answer) → Due index.Zero r a → ¬ (a.number ≡ 15) → as_lined d ≡ some (lined a)
  zero P s d b a due none = go d b
    where
      o : Answered index.Zero r
      o = answered (λ _. none) (λ t. absurd t) (λ t. absurd t) (due_case due)

      go : (d : Drawn) → ZeroDue P d → as_lined d ≡ some (lined a)
      go (drawn.Line f) b = line_is o due b.3.told (best_zero s (best_line b.3))
      go (drawn.Several h) b = width_is o due b.3 (many_zero s (many_lines b.3))
      go drawn.Improper b = absurd (b (points s) (level s) (points_not_negative P r o.from_zero s))

  front : (P : Points) → SamePoints P (means r) → (d : Drawn) → FrontDue P d → StandsUnder index.Front r d
  front P s (drawn.Line f) b a due = line_is (plainly index.Front refl refl refl e) due b.2.told (best_front s some_point (best_line b.2))
  front P s (drawn.Several h) b a due = absurd b
  front P s drawn.Improper b a due = absurd (b (points s) (level s))

-- ---- arrays with the points of a run
-- f below m, and zero from there on
abbrev below : ℕ → (ℕ → ℤ) → ℕ → ℤ
below m f i = cond (ltb i m) (f i) (pos 0)

abbrev table : ℕ → (ℕ → ℤ) → List ℤ
table m f = map (below m f) (rising 11)

table_eleven : (m : ℕ) (f : ℕ → ℤ) → Eleven m (table m f)
table_eleven m f = (length_table 11 (below m f), λ i h b. table_at 11 (below m f) i (pos 0) b ∙ sym (cond_no (f i) (le-ltb i m h) refl))

table_within : (m : ℕ) (f : ℕ → ℤ) → m ≤ 11 → (i : ℕ) → i < m → get_or (table m f) i (pos 0) ≡ f i
table_within m f most i h = table_at 11 (below m f) i (pos 0) (omega (arith, most)) ∙ sym (cond_yes (pos 0) (lt-ltb i m h) refl)

-- points of no more than 11 inputs stand in such tables
tabled : (P : Points) → P.m ≤ 11 → Arrays P (table P.m P.x) (table P.m P.low) (table P.m P.high)
tabled P most = record {
  inputs = table_eleven P.m P.x;
  lows = table_eleven P.m P.low;
  highs = table_eleven P.m P.high;
  same = record { m = refl; d = refl; x = table_within P.m P.x most; low = table_within P.m P.low most; high = table_within P.m P.high most };
}

-- ---- thousandths
-- those of an answer are its index rounded; where no index stands it is 0/1, to which 0 is nearest
abbrev Rounded : Answer → Type 0
Rounded a = Nearest (100000 * nat_abs a.index.num) a.index.den a.thousandths

nought_nearest : Nearest 0 1 0
nought_nearest = (some_nearest 0 1 (omega arith)).1

rounded : {which : Index} {r : Run} {a : Answer} → Case which r a → Rounded a
rounded (no_run _ e) = subst Rounded (sym e) nought_nearest
rounded (below_zero _ _ e) = subst Rounded (sym e) nought_nearest
rounded (one_stroke _ _ _ e) = subst Rounded (sym e) nought_nearest
rounded (one_cycle _ _ _ _ e) = subst Rounded (sym e) nought_nearest
rounded (given _ _ _ _ (several _ _ _ _ _ e)) = subst Rounded (sym e) nought_nearest
rounded (given _ _ _ _ (one_line _ _ _ _ _ _ s)) = s.thousandths

thousandths : (which : Index) (r : Run) (a : Answer) → Due which r a → (p : std.Option ℕ) → PercentDue a.index p → Told a.index → p ≡ std.Some a.thousandths
thousandths which r a due p d t = one_percent a.index p (std.Some a.thousandths) d (t, rounded (due_case due))

-- ---- together
pub same_answers : (r : Run) → (verdict r).number ≡ 0 → SameAnswers r
same_answers r e = record {
  independent = independent r e;
  terminal = terminal r e;
  shifted = shifted r e;
  zero = zero r e;
  front = front r e;
  lh = lh r e;
  lhr = lhr r e;
  thousandths = λ which a. thousandths which r a;
  lent_means = (_, (_, tabled (means r) (checked r e).m_most));
  lent_strokes = (_, (_, (_, tabled (stroke_points r) (checked r e).m_most)));
  lent_limits = λ k l. (_, (_, (_, tabled (limit_points r k) (checked r e).m_most)));
}
