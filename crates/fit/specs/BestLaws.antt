-- What the numbers of `best` tell is the answer that is due: the line that the greatest candidate gives, or its width alone.
use Rattle.std.specs.Prelude.{◌≡◌, ◌∷◌, [], ℕ, ◌*◌, ◌<◌, ◌≤◌, ℤ, pos, nat_abs, ◌+ℤ◌, ◌-ℤ◌, ◌*ℤ◌, ◌≤ℤ◌, ◌<ℤ◌}
use Rattle.std.proofs.Common.{sym, ap, ◌∙◌, subst, arith}
use Rattle.whole.specs.Poly.{var, lit, ◌⊕◌, ◌⊖◌}
use Rattle.whole.specs.Ring.{ring}
use Rattle.whole.specs.Size.{size_product, size_sub}
use Rattle.whole.specs.Machine.{stored, stored_is}
use Rattle.band.specs.Line.{Points, Proper, All}
use Rattle.band.specs.Same.{same_written}
use Rattle.band.specs.Candidate.{Candidate, one, up, down, num, den, Fits, Greatest, wide, part, part_some, num_nonneg}
use Rattle.band.specs.Triple.{up_line, up_within, up_single, down_line, down_within, down_single}
use Rattle.band.specs.Pair.{pair_line, pair_some, pair_within, pair_single}
use Rattle.band.specs.Middle.{several}
use Rattle.band.specs.Least.{least}
use Rattle.band.specs.Band.{most_x, Admitted}
use Rattle.fit.specs.Answer.{TheLine, OnlyWidth}
use Rattle.fit.specs.Parts.{FitParts, Chosen, OverHigh, OverLow, PairParts, WideParts}
use Rattle.fit.specs.Scaled.{Alike, unit_most, alike_written, least_alike, several_alike, the_line}
use Rattle.search.specs.Search.{shown}
use Rattle.search.specs.Over as O
use Rattle.search.specs.SearchSize.{num_size, top_size}
use Rattle.search.specs.SearchLaws.{found}
use Rattle.search.specs.declared.Candidate as S
use Rattle.search.specs.declared.Top.{Top}
use Rattle.fit.specs.declared.Fit.{Fit}
use Rattle.fit.specs.declared.Wide.{Wide}

-- no two inputs are more than 60,000 apart
abbrev pub Near : Points → Type 0
Near P = (i k : ℕ) → i < P.m → k < P.m → nat_abs (P.x k -ℤ P.x i) ≤ 60000

-- a denominator that is told, as the theory has it
told_part : (z : ℤ) (q d : ℕ) → pos q ≡ pos 2 *ℤ z *ℤ pos d → q ≡ 2 * nat_abs z * d
told_part z q d e = ap nat_abs e ∙ size_product (pos 2 *ℤ z) (pos d) ∙ ap (λ (n : ℕ). n * d) (size_product (pos 2) z)

-- two admitted inputs are at most 60,000 apart
pub near : {P : Points} → Admitted P → Near P
near {P} a i k h j = size_sub (P.x k) (P.x i) most_x most_x (a.inputs k j) (a.inputs i h)

module _ {P : Points} (proper : Proper P) (close : Near P) {f : Fit} where
  pub up_best : (i j k : ℕ) → Greatest P (up i j k) → (n : ℤ) → n ≡ num P (up i j k) → OverHigh P i k n (FitParts f) → TheLine All P f
  up_best i j k g n e p =
      let some = part_some proper (up i j k) g.fits in
      let q = told_part (P.x k -ℤ P.x i) f.q P.d p.q_is in
      let c = pos 2 *ℤ (P.x k *ℤ P.high i -ℤ P.x i *ℤ P.high k) in
      the_line p.told (up_line P i j k some) tt (same_written (sym p.a_is) (sym (p.b_is ∙ ap (λ (t : ℤ). c -ℤ t) e)) (sym q)) (up_within proper i j k g some) (least proper (up i j k) g) (up_single proper i j k g)
      (alike_written some (ap nat_abs (sym (p.w_is ∙ e))) (sym q)) (unit_most f.q (nat_abs (P.x k -ℤ P.x i)) P.d q (close i k (omega (arith, g.fits.0, g.fits.1, g.fits.2)) g.fits.2))

  pub down_best : (i j k : ℕ) → Greatest P (down i j k) → (n : ℤ) → n ≡ num P (down i j k) → OverLow P i k n (FitParts f) → TheLine All P f
  down_best i j k g n e p =
      let some = part_some proper (down i j k) g.fits in
      let q = told_part (P.x k -ℤ P.x i) f.q P.d p.q_is in
      let c = pos 2 *ℤ (P.x k *ℤ P.low i -ℤ P.x i *ℤ P.low k) in
      let b : c -ℤ (pos 0 -ℤ n) ≡ c +ℤ num P (down i j k) = ring (c ∷ n ∷ []) (var 0 ⊖ (lit 0 ⊖ var 1)) (var 0 ⊕ var 1) tt ∙ ap (λ (t : ℤ). c +ℤ t) e in
      the_line p.told (down_line P i j k some) tt (same_written (sym p.a_is) (sym (p.b_is ∙ b)) (sym q)) (down_within proper i j k g some) (least proper (down i j k) g) (down_single proper i j k g)
      (alike_written some (ap nat_abs (sym (p.w_is ∙ e))) (sym q)) (unit_most f.q (nat_abs (P.x k -ℤ P.x i)) P.d q (close i k (omega (arith, g.fits.0, g.fits.1, g.fits.2)) g.fits.2))

  pub pair_best : (i j : ℕ) → i < j → j < P.m → Greatest P (one i) → num P (one j) ≡ num P (one i) → PairParts P i j (FitParts f) → TheLine All P f
  pair_best i j ij jm g same p =
      let some = pair_some proper i j ij jm in
      let q = told_part (P.x j -ℤ P.x i) f.q P.d p.q_is in
      let w : nat_abs f.w ≡ nat_abs (num P (one i)) * nat_abs (P.x j -ℤ P.x i) = ap nat_abs p.w_is ∙ size_product (num P (one i)) (P.x j -ℤ P.x i) in
      the_line p.told (pair_line P i j some) tt (same_written (sym p.a_is) (sym p.b_is) (sym q)) (pair_within proper i j ij jm g same some) (least proper (one i) g) (pair_single proper i j ij jm g same)
      (record { some = part_some proper (one i) g.fits; some' = p.told.some; is = ap (λ (n : ℕ). wide P (one i) * n) q ∙ regroup (wide P (one i)) (nat_abs (P.x j -ℤ P.x i)) P.d ∙ sym (ap (λ (n : ℕ). n * part P (one i)) w) }) (unit_most f.q (nat_abs (P.x j -ℤ P.x i)) P.d q (close i j (omega arith) jm))
    where
      regroup : (n s d : ℕ) → n * (2 * s * d) ≡ n * s * (2 * 1 * d)
      regroup n s d = omega arith

-- an input of the same gap is as great
pub greatest_twin : {P : Points} {i j : ℕ} → num P (one i) ≡ num P (one j) → j < P.m → Greatest P (one i) → Greatest P (one j)
greatest_twin {P} e h g = record { fits = h; all = λ c f. subst (λ (n : ℤ). (num P c *ℤ pos 1) ≤ℤ (n *ℤ den P c)) e (g.all c f) }

-- every other candidate is less: several lines
pub several_best : {P : Points} → Admitted P → (i : ℕ) → Greatest P (one i) → ((c : Candidate) → Fits P c → (c ≡ one i → ⊥) → (num P c *ℤ den P (one i)) <ℤ (num P (one i) *ℤ den P c)) → {h : Wide} → WideParts (num P (one i)) P.d h → nat_abs (num P (one i)) ≤ 18540000000000 → OnlyWidth All P h
several_best {P} a i top alone {h} p size =
    let proper = a.proper in
    let q : part P (one i) ≡ h.q = omega (arith, p.q_is) in
    let e : Alike (wide P (one i)) (part P (one i)) (nat_abs h.w) h.q = alike_written (part_some proper (one i) top.fits) (ap nat_abs (sym p.w_is)) q in
    record {
      some = e.some';
      sign = subst (λ (z : ℤ). pos 0 ≤ℤ z) (sym p.w_is) (num_nonneg proper (one i) top);
      width = p.width;
      w_most = omega (arith, ap nat_abs p.w_is);
      q_most = omega (arith, p.q_is, a.unit);
      least = least_alike e (least proper (one i) top);
      several = several_alike e (several proper i top alone);
    }

-- ---- what the search found
module _ {P : Points} {t : Top} (b : O.Greatest P t) {c : S.Candidate} (w : t.which ≡ c) where
  pub found_is : Greatest P (shown c)
  found_is = subst (λ (c : S.Candidate). Greatest P (shown c)) w (found b)

  pub num_is : Admitted P → stored t.num ≡ num P (shown c)
  num_is a = stored_is t.num 18540000000000 (top_size a b.levelled).0 tt ∙ b.levelled.num ∙ ap (λ (c : S.Candidate). num P (shown c)) w

-- the outer inputs of a chord that was found
pub chosen : {P : Points} → Admitted P → (c : Candidate) → Greatest P c → {i j k : ℕ} → (i < j) × (j < k) × (k < P.m) → {n : ℤ} → n ≡ num P c → Chosen P i k n
chosen a c top h {n} e = record {
  admitted = a;
  order = omega (arith, h.0, h.1);
  fits = h.2;
  size = subst (λ (z : ℤ). nat_abs z ≤ 18540000000000) (sym e) (num_size a c top.fits);
  sign = subst (λ (z : ℤ). pos 0 ≤ℤ z) (sym e) (num_nonneg a.proper c top);
}
