-- What an answer reports is what is due: its width, and its line.
use Rattle.std.specs.Prelude.{◌≡◌, ℕ, ◌*◌, ◌<◌, ℤ, pos, nat_abs}
use Rattle.std.proofs.Common.{sym, ap, ◌∙◌, subst}
use Rattle.std.proofs.Math.IntN.{*ℤ_comm}
use Rattle.whole.specs.Sign.{NonNeg, positive_nat, nonneg_nat, cancel_le, nat_nonneg}
use Rattle.whole.specs.Size.{size_product}
use Rattle.exact.specs.Value.{Made}
use Rattle.exact.specs.declared.Fraction.{Fraction}
use Rattle.run.specs.Checks.{verdict}
use Rattle.run.specs.declared.Run.{Run}
use Rattle.band.specs.Line.{Line, Points, All, Passing, Zero, Front, Same}
use Rattle.band.specs.Same.{through, same_passing}
use Rattle.fit.specs.Scaled.{Alike}
use Rattle.bands.specs.Through.{means}
use Rattle.due.specs.Due.{Best, Stands, Due}
use Rattle.due.specs.Cases.{several, one_line, Case, no_run, below_zero, one_stroke, one_cycle, given, due_case}
use Rattle.due.specs.DueLaws.{best_same}
use Rattle.due.specs.declared.Answer.{Answer}
use Rattle.due.specs.declared.Index.TheVariants as index
use Rattle.promises.specs.Reported.{Reports}
use Rattle.promises.specs.LineLaws.{best_alike}

-- the width as it is told is the same number
pub made_alike : {w z : ℕ} {f : Fraction} → 0 < z → Made (pos w) z f → Alike w z (nat_abs f.num) f.den
made_alike {w} {z} {f} h m = record { some = h; some' = m.lowest.positive; is = sym (ap nat_abs (m.worth h)) ∙ size_product f.num (pos z) }

pub made_sign : {w z : ℕ} {f : Fraction} → 0 < z → Made (pos w) z f → pos (nat_abs f.num) ≡ f.num
made_sign {w} {z} {f} h m = nat_nonneg (cancel_le (positive_nat h) (subst NonNeg (sym (*ℤ_comm (pos z) f.num ∙ m.worth h)) (nonneg_nat (w * f.den))))

-- the line that is reported is the one that is due, however it is written
pub reported : {r : Run} {L M : Line} {w z : ℕ} {a : Answer} → Stands r L w z a → Reports a M → Same L M
reported {L = L} {M} {a = a} s t = record {
  slope = through L.a a.slope.num M.a _ _ _ (positive_nat s.slope.lowest.positive) (sym (s.slope.worth L.some)) t.slope;
  offset = through L.b a.offset.num M.b _ _ _ (positive_nat s.offset.lowest.positive) (sym (s.offset.worth L.some)) t.offset;
}

-- ---- the line that is reported is the best of its family
module _ {r : Run} {P : Points} {L M : Line} {w z : ℕ} {a : Answer} (some : 0 < z) (s : Stands r L w z a) (t : Reports a M) where
  reported_best : {F : Line → Type 0} → F M → Best F P L w z → Best F P M (nat_abs a.width.num) a.width.den
  reported_best f best = best_alike (made_alike some s.width) (best_same (reported s t) f best)

  reported_passing : (x v : ℤ) → Best (Passing P x v) P L w z → Best (Passing P x v) P M (nat_abs a.width.num) a.width.den
  reported_passing x v best = reported_best (same_passing P x v (reported s t) best.member) best

module _ (r : Run) (e : (verdict r).number ≡ 0) (a : Answer) where
  -- the best of the lines F, as the answer tells its width
  abbrev Told : (F : Line → Type 0) → Line → Type 0
  Told F L = Best F (means r) L (nat_abs a.width.num) a.width.den

  independent_case : Case index.Independent r a → (L : Line) → Reports a L → Told All L
  independent_case (no_run n _) L t = absurd (n e)
  independent_case (below_zero _ b _) L t = absurd b.asked
  independent_case (one_stroke _ _ o _) L t = absurd o.0
  independent_case (one_cycle _ _ _ o _) L t = absurd o.0
  independent_case (given _ _ _ _ (several w z _ m _ _)) L t = absurd m
  independent_case (given _ _ _ _ (one_line M w z some best _ s)) L t = reported_best some s t tt best

  pub the_independent : Due index.Independent r a → (L : Line) → Reports a L → Told All L
  the_independent d = independent_case (due_case d)

  zero_case : Case index.Zero r a → (a.number ≡ 12 → ⊥) → (a.number ≡ 15 → ⊥) → (L : Line) → Reports a L → Told (Zero (means r)) L
  zero_case (no_run n _) many below L t = absurd (n e)
  zero_case (below_zero _ _ q) many below L t = absurd (below (ap (λ (a : Answer). a.number) q))
  zero_case (one_stroke _ _ o _) many below L t = absurd o.0
  zero_case (one_cycle _ _ _ o _) many below L t = absurd o.0
  zero_case (given _ _ _ _ (several w z _ _ _ q)) many below L t = absurd (many (ap (λ (a : Answer). a.number) q))
  zero_case (given _ _ _ _ (one_line M w z some best _ s)) many below L t = reported_passing some s t (pos 0) (pos 0) best

  pub the_zero : Due index.Zero r a → (a.number ≡ 12 → ⊥) → (a.number ≡ 15 → ⊥) → (L : Line) → Reports a L → Told (Zero (means r)) L
  the_zero d = zero_case (due_case d)

  front_case : Case index.Front r a → (L : Line) → Reports a L → Told (Front (means r)) L
  front_case (no_run n _) L t = absurd (n e)
  front_case (below_zero _ b _) L t = absurd b.asked
  front_case (one_stroke _ _ o _) L t = absurd o.0
  front_case (one_cycle _ _ _ o _) L t = absurd o.0
  front_case (given _ _ _ _ (several w z _ m _ _)) L t = absurd m
  front_case (given _ _ _ _ (one_line M w z some best _ s)) L t = reported_passing some s t ((means r).x 0) ((means r).low 0) best

  pub the_front : Due index.Front r a → (L : Line) → Reports a L → Told (Front (means r)) L
  the_front d = front_case (due_case d)
