-- Demand 2 holds.
use Rattle.std.specs.Prelude.{◌≡◌, refl, cond, ◌∷◌, [], ◌⊎◌, ℕ, zero, suc, ◌*◌, ◌-◌, ◌<◌, ◌≤◌, ltb, ℤ, pos, negsuc, nat_abs, ◌+ℤ◌, ◌*ℤ◌}
use Rattle.std.proofs.Common.{sym, ap, ◌∙◌, subst, inl, inr, mul-pos, arith}
use Rattle.std.proofs.Math.IntN.{ℤ_discrete}
use Rattle.whole.specs.Poly.{var, lit, ◌⊕◌, ◌⊗◌}
use Rattle.whole.specs.Ring.{ring}
use Rattle.whole.specs.Sign.{lt_sign, nat_positive}
use Rattle.exact.specs.declared.Fraction.{Fraction}
use Rattle.run.specs.Run.{last_stroke}
use Rattle.run.specs.Checks.{verdict}
use Rattle.run.specs.Checked.{Checked, checked, verdict_fine}
use Rattle.run.specs.declared.Run.{Run}
use Rattle.averages.specs.Averages as averages
use Rattle.averages.specs.Averages.{reach, AveragesDue}
use Rattle.averages.specs.declared.Mean.TheVariants.{Down}
use Rattle.groups.specs.Sums.{total, up_sum}
use Rattle.averages.specs.declared.Averages.{Averages}
use Rattle.band.specs.Line.{Line}
use Rattle.pin.specs.Exists.{front_single}
use Rattle.records.specs.Travel.{trimmed_is}
use Rattle.due.specs.Due.{Fits, span, Stands, Due}
use Rattle.due.specs.Fractions.{made_same}
use Rattle.due.specs.Cases.{Given, several, one_line, Case, no_run, below_zero, one_stroke, one_cycle, given, due_case}
use Rattle.bands.specs.Admitted.{proper_means}
use Rattle.due.specs.declared.Answer.{Answer}
use Rattle.due.specs.declared.Index.{Index}
use Rattle.promises.specs.Reported.{Reports}
use Rattle.promises.specs.ReportedLaws.{the_independent, the_zero, the_front}
use Rattle.promises.proofs.MovedLaws.{made_is, the_shifted}
use Rattle.promises.specs.FileLaws.{written_back, same_records, longest_accepted}
use Rattle.promises.specs.FileBytes.{file_bytes}
use Rattle.promises.specs.EnumLaws.{same_answers}
use Rattle.promises.specs.Within.{within_alike, zeros_alike}
use Rattle.promises.specs.Demand2.{Is, MeansAt, Drawn, Accepted, Flat, Divided, Demand2}

module _ (r : Run) (e : (verdict r).number ≡ 0) where
  c : Checked r
  c = checked r e

  the_means : (a : Averages) → AveragesDue r a → (i : ℕ) → i < r.m → MeansAt r a i
  the_means a (averages.no_run n _) i h = absurd (n e)
  the_means a (averages.told _ _ _ u d b) i h =
      let l : i < 11 = omega (arith, c.m_most) in
      let n : 0 < r.n = c.n_least in
      let t : 0 < 2 * r.n = omega arith in
      record {
        up = made_is n ((u.each i l).mean h);
        down = λ two.
            let j : last_stroke r ≡ 1 = ap (λ (k : ℕ). k - 1) two in
            let reached : reach Down r ≡ r.m = ap (λ (k : ℕ). cond (ltb 1 k) r.m 0) two in
            is_of (ap (λ (s : ℕ). total r s i) j) (made_is n ((d.each i l).mean (omega (arith, reached))));
        no_down = λ one. let none : reach Down r ≡ 0 = ap (λ (k : ℕ). cond (ltb 1 k) r.m 0) one in (d.each i l).beyond (omega (arith, none));
        both = made_is t ((b.each i l).mean h);
        sum_of_both = λ two. ap (λ (k : ℕ). up_sum r i +ℤ total r (k - 1) i) two;
        both_is_up = λ one.
            made_same ((b.each i l).mean h) ((u.each i l).mean h) (λ k. absurd (omega arith)) (λ k. absurd (omega arith))
            (ap (λ (k : ℕ). (up_sum r i +ℤ total r (k - 1) i) *ℤ pos r.n) one ∙ ring (up_sum r i ∷ pos r.n ∷ []) ((var 0 ⊕ var 0) ⊗ var 1) (var 0 ⊗ (lit 2 ⊗ var 1)) tt);
        twice_up = λ one. ap (λ (k : ℕ). up_sum r i +ℤ total r (k - 1) i) one ∙ ring (up_sum r i ∷ []) (var 0 ⊕ var 0) (lit 2 ⊗ var 0) tt;
      }
    where
      is_of : {x y : ℤ} {f : Fraction} → x ≡ y → Is x r.n f → Is y r.n f
      is_of {f = f} q k = subst (λ (z : ℤ). Is z r.n f) q k

  -- the last input is above the first
  span_some : 0 < span r
  span_some = nat_positive (lt_sign ((proper_means c).rise 0 (r.m - 1) (omega (arith, c.m_least)) (omega (arith, c.m_least))))

  output_some : (z : ℤ) → (z ≡ pos 0 → ⊥) → 0 < nat_abs z * span r
  output_some (pos zero) n = absurd (n refl)
  output_some (pos (suc k)) n = mul-pos (omega arith) span_some
  output_some (negsuc k) n = mul-pos (omega arith) span_some

  abbrev drawn_by : {which : Index} {a : Answer} (L : Line) (w z : ℕ) → 0 < z → Fits which r L w z → Stands r L w z a → Drawn which r a
  drawn_by L w z some fits s = record { line = L; w = w; z = z; fits = fits; width = made_is some s.width; slope = made_is L.some s.slope; offset = made_is L.some s.offset }

  -- what an answer with a number k says, where no refusal of the run and neither 15, 16 nor 13 is due
  by_number : {which : Index} {a : Answer} {P : Type 0} (k : ℕ) → Case which r a → a.number ≡ k → k ≤ 12 → (Given which r a → P) → P
  by_number k (no_run n _) number most f = absurd (n e)
  by_number k (below_zero _ _ q) number most f = let z : 15 ≡ k = sym (ap (λ (a : Answer). a.number) q) ∙ number in absurd (omega arith)
  by_number k (one_stroke _ _ _ q) number most f = let z : 16 ≡ k = sym (ap (λ (a : Answer). a.number) q) ∙ number in absurd (omega arith)
  by_number k (one_cycle _ _ _ _ q) number most f = let z : 13 ≡ k = sym (ap (λ (a : Answer). a.number) q) ∙ number in absurd (omega arith)
  by_number k (given _ _ _ _ g) number most f = f g

  the_index : (which : Index) (a : Answer) → Due which r a → a.number ≡ 0 → Accepted which r a
  the_index which a due number = by_number 0 (due_case due) number (omega arith) go
    where
      go : Given which r a → Accepted which r a
      go (several w z _ _ _ q) = let z : ◌≡◌ {A = ℕ} 12 0 = sym (ap (λ (a : Answer). a.number) q) ∙ number in absurd (omega arith)
      go (one_line L w z some fits c s) =
          let out = output_some L.a (λ flat. let z : ◌≡◌ {A = ℕ} 11 0 = sym (c.flat flat) ∙ number in absurd (omega arith)) in
          record { drawn = drawn_by L w z some fits s; output = out; index = made_is (mul-pos some out) s.index; thousandths = s.thousandths }

  the_flat : (which : Index) (a : Answer) → Due which r a → a.number ≡ 11 → Flat which r a
  the_flat which a due number = by_number 11 (due_case due) number (omega arith) go
    where
      go : Given which r a → Flat which r a
      go (several w z _ _ _ q) = let z : ◌≡◌ {A = ℕ} 12 11 = sym (ap (λ (a : Answer). a.number) q) ∙ number in absurd (omega arith)
      go (one_line L w z some fits c s) = record { drawn = drawn_by L w z some fits s; slope = level (ℤ_discrete L.a (pos 0)) }
        where
          level : Dec (L.a ≡ pos 0) → L.a ≡ pos 0
          level (yes d) = d
          level (no d) = let z : ◌≡◌ {A = ℕ} 0 11 = sym (c.sloping d) ∙ number in absurd (omega arith)

  the_divided : (which : Index) (a : Answer) → Due which r a → a.number ≡ 12 → Divided which r a
  the_divided which a due number = by_number 12 (due_case due) number (omega arith) go
    where
      go : Given which r a → Divided which r a
      go (several w z some m u _) = record { w = w; z = z; several = m; width = made_is some u }
      go (one_line L w z some fits c s) = absurd (apart (ℤ_discrete L.a (pos 0)))
        where
          apart : Dec (L.a ≡ pos 0) → ⊥
          apart (yes d) = let z : ◌≡◌ {A = ℕ} 11 12 = sym (c.flat d) ∙ number in omega arith
          apart (no d) = let z : ◌≡◌ {A = ℕ} 0 12 = sym (c.sloping d) ∙ number in omega arith

  -- a line is reported wherever one stands
  the_reported : (which : Index) (a : Answer) → Due which r a → (a.number ≡ 12 → ⊥) → (a.number ≡ 13 → ⊥) → (a.number ≡ 15 → ⊥) → (a.number ≡ 16 → ⊥) → (L : Line) × Reports a L
  the_reported which a due n12 n13 n15 n16 = go (due_case due)
    where
      number : {b : Answer} → a ≡ b → a.number ≡ b.number
      number q = ap (λ (a : Answer). a.number) q

      go : Case which r a → (L : Line) × Reports a L
      go (no_run n _) = absurd (n e)
      go (below_zero _ _ q) = absurd (n15 (number q))
      go (one_stroke _ _ _ q) = absurd (n16 (number q))
      go (one_cycle _ _ _ _ q) = absurd (n13 (number q))
      go (given _ _ _ _ (several w z _ _ _ q)) = absurd (n12 (number q))
      go (given _ _ _ _ (one_line L w z some fits c s)) = (L, record { slope = s.slope.worth L.some; offset = s.offset.worth L.some })

one_or_two : {r : Run} → Checked r → (r.strokes ≡ 1) ⊎ (r.strokes ≡ 2)
one_or_two {r} c = go r.strokes c.strokes_least c.strokes_most
  where
    go : (k : ℕ) → 1 ≤ k → k ≤ 2 → (k ≡ 1) ⊎ (k ≡ 2)
    go zero a b = absurd (omega arith)
    go (suc zero) a b = inl refl
    go (suc (suc zero)) a b = inr refl
    go (suc (suc (suc k))) a b = absurd (omega arith)

pub demand_2 : Demand2
demand_2 = record {
  run = λ r e. record {
    strokes = one_or_two (checked r e);
    averages = the_means r e;
    index = the_index r e;
    flat = the_flat r e;
    divided = the_divided r e;
    independent = the_independent r e;
    shifted = the_shifted r e;
    zero = the_zero r e;
    front = the_front r e;
    front_single = λ w z. front_single (proper_means (checked r e)) (λ i h. refl);
    reports = the_reported r e;
    back = written_back r e;
    same = trimmed_is r (verdict_fine r e);
    bytes = file_bytes r e;
    enums = same_answers r e;
  };
  rewritten = same_records;
  longest = longest_accepted;
  within = within_alike;
  zeros = zeros_alike;
}
