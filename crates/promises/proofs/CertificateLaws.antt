-- A certificate that passes its tests shows that the answer is the one that is due.
use Rattle.std.specs.Prelude.{◌≡◌, not, ◌&&◌, ◌||◌, [], ◌∷◌, ◌≢◌, ℕ, ◌<◌, ◌≤◌, T, eqb, ℤ, pos}
use Rattle.std.proofs.Common.{⊎_elim, arith, ltb→lt, eqb→eq}
use Rattle.std.specs.Int.Signed.{le_z_yes, clash_ℤ}
use Rattle.std.proofs.Math.Facts.{yes_and, or_yes, T_not, yes_eqb}
use Rattle.whole.specs.Every.{every, every_holds}
use Rattle.run.specs.Checks.{verdict}
use Rattle.run.specs.Checked.{Checked, checked}
use Rattle.run.specs.declared.Run.{Run}
use Rattle.groups.specs.Rounded.{limits_agree, limits_found}
use Rattle.band.specs.Line.{Line, Points, Proper, All, Passing}
use Rattle.band.specs.Candidate.{Candidate, wide, part}
use Rattle.pin.specs.Pair as pair
use Rattle.bands.specs.Through.{means, swing, scatter}
use Rattle.bands.specs.Parts as lines
use Rattle.bands.specs.Transfer.{proper_points}
use Rattle.bands.specs.Limited.{same_limit_points}
use Rattle.bands.specs.Admitted.{proper_means, proper_through}
use Rattle.due.specs.Due.{Best, Independent, Fits, from_zero, BelowZero, needs_down, OneStroke, scatters, OneCycle, Due}
use Rattle.due.specs.Cases.{Given, several, one_line, given, case_due}
use Rattle.due.specs.declared.Answer.{Answer}
use Rattle.due.specs.declared.Index.{Index}
use Rattle.promises.specs.Figures.{Figure}
use Rattle.promises.specs.Tests.{all, single, half, line_of}
use Rattle.promises.specs.TestLaws.{all_hold, alike_by, largest_of_by, stands_by, width_only_by}
use Rattle.promises.specs.LineLaws.{single_by, best_alike, many_alike, many_by, terminal_by, shifted_by}
use Rattle.promises.specs.PinLaws.{pinned_by, pinned_many_by}
use Rattle.promises.specs.LimitLaws.{limits_by}
use Rattle.promises.specs.Certificate.{limits, Shown, far, ends, best, zero, front, swings, varies, lh, lhr, Certificate, zero_several, lh_several, best_through, shows, gives, from_zero_up, certifies}
use Rattle.promises.specs.Certificate as certificate

-- ---- the line and the width of an index
module _ {r : Run} (c : Checked r) (L : Line) where
  -- the independent line has the width of its candidate
  independent_by : (e : Candidate) → T (single (means r) e L) → Independent r L
  independent_by e t = record { w = wide (means r) e; z = part (means r) e; best = single_by (proper_means c) e L t }

  best_by : {P : Points} → Proper P → (e : Candidate) (w z : ℕ) → T (single P e L) → T (all (half P e w z)) → Best All P L w z
  best_by {P} proper e w z s t = best_alike (alike_by (wide P e) (part P e) w z t) (single_by proper e L s)

  through_by : (x v : ℤ) (i j w z : ℕ) → T (all (best_through r x v i j L w z)) → Best (Passing (means r) x v) (means r) L w z
  through_by x v i j w z t =
      let P = means r in
      let (s, (k, _)) = all_hold (best_through r x v i j L w z) t in
      best_alike (alike_by (pair.wide P x v i j) (pair.part P x i j) w z k) (pinned_by (proper_means c) x v i j L s)

  -- scatter has two cycles or more
  abbrev Cycles : Index → Type 0
  Cycles which = T (scatters which) → 2 ≤ r.n

  -- what is shown of an index's line and width is what its rule asks
  pub shows_by : {which : Index} (s : Shown which) (w z : ℕ) → Cycles which → 0 < z → T (all (shows s r L w z)) → Fits which r L w z
  shows_by (far i) w z n h t = terminal_by (proper_means c) L w z i h t
  shows_by (ends i j) w z n h t = shifted_by (proper_means c) L w z i j t
  shows_by (best e) w z n h t = let (s, (k, _)) = all_hold (shows (best e) r L w z) t in best_by (proper_means c) e w z s k
  shows_by (zero i j) w z n h t = through_by (pos 0) (pos 0) i j w z t
  shows_by (front i j) w z n h t = through_by ((means r).x 0) ((means r).low 0) i j w z t
  shows_by (swings i e) w z n h t = let (s, (l, (k, _))) = all_hold (shows (swings i e) r L w z) t in (independent_by e s, largest_of_by r.m (swing r) w i l, eqb→eq z r.n k)
  shows_by (varies i e l) w z n h t =
      let (s, (g, (k, (u, _)))) = all_hold (shows (varies i e l) r L w z) t in
      (independent_by e s, record { k = limits l; limits = limits_by c (limits l) u; holds = largest_of_by r.m (scatter r (limits l)) w i g }, eqb→eq z r.n k)
  shows_by (lh e) w z n h t = let (s, (k, _)) = all_hold (shows (lh e) r L w z) t in best_by (proper_through c lines.Strokes) e w z s k
  shows_by (lhr e l) w z n h t =
      let (s, (k, (u, _))) = all_hold (shows (lhr e l) r L w z) t in
      let found = limits_by c (limits l) u in
      let p = same_limit_points r (limits_agree r (limits_found c (n tt)) found) in
      record { k = limits l; limits = found; holds = best_by (proper_points p (proper_through c lines.Limits)) e w z s k }

-- ---- the answer
pub gives_by : {which : Index} {r : Run} {a : Answer} → Checked r → (T (scatters which) → 2 ≤ r.n) → (c : Certificate which) → T (all (gives c r a)) → Given which r a
gives_by {r = r} {a} k n (certificate.one_line w z s) t =
    let (some, (line, (answer, _))) = all_hold (gives (certificate.one_line w z s) r a) t in
    let h = ltb→lt 0 z some in
    let both = stands_by r (line_of a) w z a answer in
    one_line (line_of a) w z h (shows_by k (line_of a) s w z n h line) both.0 both.1
gives_by {r = r} {a} k n (zero_several w z A B) t =
    let (some, (both, (width, (answer, _)))) = all_hold (gives (zero_several w z A B) r a) t in
    let o = width_only_by w z a answer in
    several w z (ltb→lt 0 z some) (many_alike (alike_by _ _ w z width) (pinned_many_by (proper_means k) (pos 0) (pos 0) A B both)) o.0 o.1
gives_by {r = r} {a} k n (lh_several w z c A B) t =
    let (some, (both, (width, (answer, _)))) = all_hold (gives (lh_several w z c A B) r a) t in
    let o = width_only_by w z a answer in
    several w z (ltb→lt 0 z some) (many_by (proper_through k lines.Strokes) c width A B both) o.0 o.1

-- 15 is not due
not_below : (which : Index) (r : Run) → T (not (from_zero which) || every r.m (from_zero_up r)) → BelowZero which r → ⊥
not_below which r t b =
    ⊎_elim (T_not (from_zero which) b.asked) (λ s. clash_ℤ b.negative (le_z_yes (every_holds r.m (from_zero_up r) s b.at b.within)))
    (or_yes (not (from_zero which)) (every r.m (from_zero_up r)) t)

-- the law: a figure that a certificate certifies is the answer that is due
pub certified : (f : Figure) (c : Certificate f.which) → T (certifies f c) → Due f.which f.run f.answer
certified f c t =
    let r = f.run in
    let (fine, (inputs, (strokes, (cycles, (answer, _))))) = all_hold (eqb (verdict r).number 0 ∷ (not (from_zero f.which) || every r.m (from_zero_up r)) ∷ not (needs_down f.which && eqb r.strokes 1) ∷ not (scatters f.which && eqb r.n 1) ∷ all (gives c r f.answer) ∷ []) t in
    let v : (verdict r).number ≡ 0 = eqb→eq (verdict r).number 0 fine in
    let more : OneCycle f.which r → ⊥ = λ o. T_not (scatters f.which && eqb r.n 1) (yes_and (scatters f.which) (eqb r.n 1) o.0 (yes_eqb o.1)) cycles in
    let back : OneStroke f.which r → ⊥ = λ o. T_not (needs_down f.which && eqb r.strokes 1) (yes_and (needs_down f.which) (eqb r.strokes 1) o.0 (yes_eqb o.1)) strokes in
    let k = checked r v in
    case_due (given v (not_below f.which r inputs) back more (gives_by k (λ s. let e : r.n ≢ 1 = λ e. more (s, e) in omega arith) c answer))
