-- The points of a checked run are proper, and points that are the same are admitted.
use Rattle.std.specs.Prelude.{◌≡◌, ℕ, zero, suc, ◌<◌, ◌≤◌, ℤ, pos, nat_abs, ◌+ℤ◌, ◌-ℤ◌, ◌<ℤ◌}
use Rattle.std.proofs.Common.{subst, ⊎_elim, eq-or-lt_of_le, arith}
use Rattle.std.specs.Int.Signed.{lt_z, ≤ℤ_refl, <ℤ-≤ℤ_trans}
use Rattle.whole.specs.Flags.{cond_ind}
use Rattle.whole.specs.Sign.{weaken, le_trans}
use Rattle.whole.specs.Size.{size_add, size_sub}
use Rattle.run.specs.Run.{input, last_stroke}
use Rattle.run.specs.Checked.{Checked, first_there, last_there}
use Rattle.run.specs.declared.Run.{Run}
use Rattle.groups.specs.Sums.{up_sum, down_sum}
use Rattle.groups.specs.Search.{limit}
use Rattle.groups.specs.Limit.{total_size, limit_most}
use Rattle.band.specs.Line.{Points, Proper}
use Rattle.band.specs.Band.{most_v, Admitted}
use Rattle.whole.specs.Greater.{smaller, smaller_left, greater_left, greater_size}
use Rattle.bands.specs.Through.{means, two_valued}
use Rattle.bands.specs.Parts.{Through, Means, Strokes, Limits, through, SamePoints}
use Rattle.bands.specs.Transfer.{same_points_sym, proper_points}

-- the two values of LHR
abbrev lower : Run → ℕ → ℤ
lower r i = up_sum r i -ℤ pos (limit r 0 i)

abbrev upper : Run → ℕ → ℤ
upper r i = down_sum r i +ℤ pos (limit r (last_stroke r) i)

-- ---- proper points
module _ {r : Run} (c : Checked r) where
  -- not neighbours alone
  pub rising : (i j : ℕ) → i < j → j < r.m → input r i <ℤ input r j
  rising i zero h k = absurd (omega arith)
  rising i (suc j) h k =
      ⊎_elim
      (λ e. let e' : j ≡ i = omega arith in subst (λ (t : ℕ). input r t <ℤ input r (suc j)) e' (c.rise j k))
      (λ l. <ℤ-≤ℤ_trans (rising i j (omega arith) (omega arith)) (weaken (c.rise j k)))
      (eq-or-lt_of_le h)

  pub proper_means : Proper (means r)
  proper_means = record { two = omega arith; unit = omega arith; rise = rising; order = λ i h. ≤ℤ_refl _ }

  two_proper : (f g : ℕ → ℤ) → Proper (two_valued r f g)
  two_proper f g = record { two = omega arith; unit = omega arith; rise = rising; order = λ i h. le_trans (smaller_left (f i) (g i)) (greater_left (f i) (g i)) }

  pub proper_through : (t : Through) → Proper (through t r)
  proper_through Means = proper_means
  proper_through Strokes = two_proper (up_sum r) (down_sum r)
  proper_through Limits = two_proper (lower r) (upper r)

-- ---- sizes
smaller_size : (a b : ℤ) (n : ℕ) → nat_abs a ≤ n → nat_abs b ≤ n → nat_abs (smaller a b) ≤ n
smaller_size a b n h i = cond_ind (lt_z a b) a b (λ z. nat_abs z ≤ n) (λ t. h) (λ t. i)

module _ {r : Run} (c : Checked r) where
  up_size : (i : ℕ) → i < r.m → nat_abs (up_sum r i) ≤ 10000000
  up_size i h = total_size c 0 i (first_there c) h

  down_size : (i : ℕ) → i < r.m → nat_abs (down_sum r i) ≤ 10000000
  down_size i h = total_size c (last_stroke r) i (last_there c) h

  two_sized : (f g : ℕ → ℤ) → ((i : ℕ) → i < r.m → nat_abs (f i) ≤ most_v) → ((i : ℕ) → i < r.m → nat_abs (g i) ≤ most_v) → Admitted (two_valued r f g)
  two_sized f g hf hg = record {
    proper = two_proper c f g;
    three = c.m_least;
    eleven = c.m_most;
    unit = omega arith;
    inputs = c.inputs;
    lows = λ i h. smaller_size (f i) (g i) most_v (hf i h) (hg i h);
    highs = λ i h. greater_size (f i) (g i) most_v (hf i h) (hg i h);
  }

  pub admitted_through : (t : Through) → Admitted (through t r)
  admitted_through Means =
      let most : (i : ℕ) → i < r.m → nat_abs (up_sum r i +ℤ down_sum r i) ≤ most_v = λ i h. omega (arith, size_add (up_sum r i) (down_sum r i) 10000000 10000000 (up_size i h) (down_size i h)) in
      record { proper = proper_means c; three = c.m_least; eleven = c.m_most; unit = omega arith; inputs = c.inputs; lows = most; highs = most }
  admitted_through Strokes = two_sized (up_sum r) (down_sum r) (λ i h. omega (arith, up_size i h)) (λ i h. omega (arith, down_size i h))
  admitted_through Limits =
      two_sized (lower r) (upper r)
      (λ i h. omega (arith, size_sub (up_sum r i) (pos (limit r 0 i)) 10000000 179690 (up_size i h) (limit_most r 0 i)))
      (λ i h. omega (arith, size_add (down_sum r i) (pos (limit r (last_stroke r) i)) 10000000 179690 (down_size i h) (limit_most r (last_stroke r) i)))

-- ---- points that are the same
pub admitted : {P R : Points} → Admitted R → SamePoints P R → Admitted P
admitted {P} {R} s e =
    let within : (i : ℕ) → i < P.m → i < R.m = λ i h. omega arith in
    record {
      proper = proper_points (same_points_sym e) s.proper;
      three = omega arith;
      eleven = omega arith;
      unit = omega arith;
      inputs = λ i h. rw (e.x i (within i h)) (s.inputs i (within i h));
      lows = λ i h. rw (e.low i (within i h)) (s.lows i (within i h));
      highs = λ i h. rw (e.high i (within i h)) (s.highs i (within i h));
    }
