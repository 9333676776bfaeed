-- The tests of `Admit` say what `Admitted` and `OneValue` say.
use Rattle.std.specs.Prelude.{◌≡◌, refl, Bool, true, false, ◌&&◌, ℕ, zero, suc, ◌-◌, ◌<◌, ◌≤◌, T, leb, ℤ, nat_abs, ◌≤ℤ◌, ◌<ℤ◌}
use Rattle.std.proofs.Common.{sym, ap, subst, ⊎_elim, eq-or-lt_of_le, arith, leb→le, le→leb}
use Rattle.std.specs.Int.Signed.{le_z, lt_z, ≤ℤ_refl}
use Rattle.std.proofs.Math.Facts.{and_yes, yes_and, T_not}
use Rattle.whole.specs.Flags.{yes-T, no-T}
use Rattle.whole.specs.Every.{every, every_holds, every_by}
use Rattle.whole.specs.Between.{between, between_size, size_between}
use Rattle.whole.specs.Sign.{le_antisym}
use Rattle.whole.specs.Balance as B
use Rattle.whole.specs.Balance.{int}
use Rattle.band.specs.Line.{Points, OneValue}
use Rattle.band.specs.Band.{most_x, most_v, most_d, Admitted}
use Rattle.band.specs.Admit.{sized, rises_to, point_ok, admits, level}

-- an input that is not the first rises from the one before it
pub rises_from : (x : ℕ → ℤ) (i : ℕ) → (i ≡ 0 → ⊥) → lt_z (x (i - 1)) (x i) ≡ rises_to x i
rises_from x zero n = absurd (n refl)
rises_from x (suc i) n = let e : suc i - 1 ≡ i = omega arith in ap (λ (j : ℕ). lt_z (x j) (x (suc i))) e

-- ---- inputs that rise step by step rise
module _ (P : Points) where
  steps_rise : ((i : ℕ) → i < P.m → T (rises_to P.x i)) → (i j : ℕ) → i < j → j < P.m → P.x i <ℤ P.x j
  steps_rise up i zero h l = let e : ⊥ = omega arith in absurd e
  steps_rise up i (suc j) h l = ⊎_elim (λ e. subst (λ (k : ℕ). P.x k <ℤ P.x (suc j)) (same e) step) (λ k. B.lt_by (int (P.x i)) (int (P.x (suc j))) (omega (arith, B.lt_of (int (P.x i)) (int (P.x j)) (steps_rise up i j (omega arith) (omega arith)), B.lt_of (int (P.x j)) (int (P.x (suc j))) step))) (eq-or-lt_of_le h)
    where
      step : P.x j <ℤ P.x (suc j)
      step = record { lt = up (suc j) l }

      same : suc i ≡ suc j → j ≡ i
      same e = omega arith

  rise_steps : ((i j : ℕ) → i < j → j < P.m → P.x i <ℤ P.x j) → (i : ℕ) → i < P.m → T (rises_to P.x i)
  rise_steps rise zero h = tt
  rise_steps rise (suc i) h = (rise i (suc i) (omega arith) h).lt

  -- ---- a point that is fine
  pub record Fine (i : ℕ) : Type 0 where
    pub input : nat_abs (P.x i) ≤ most_x
    pub rises : T (rises_to P.x i)
    pub low : nat_abs (P.low i) ≤ most_v
    pub high : nat_abs (P.high i) ≤ most_v
    pub order : P.low i ≤ℤ P.high i

  fine : (i : ℕ) → T (point_ok P i) → Fine i
  fine i t =
      let s = and_yes (between most_x (P.x i) && rises_to P.x i) ((between most_v (P.low i) && between most_v (P.high i)) && le_z (P.low i) (P.high i)) t in
      let a = and_yes (between most_x (P.x i)) (rises_to P.x i) s.0 in
      let b = and_yes (between most_v (P.low i) && between most_v (P.high i)) (le_z (P.low i) (P.high i)) s.1 in
      let v = and_yes (between most_v (P.low i)) (between most_v (P.high i)) b.0 in
      record { input = between_size most_x (P.x i) a.0; rises = a.1; low = between_size most_v (P.low i) v.0; high = between_size most_v (P.high i) v.1; order = record { le = b.1 } }

  point_fine : (i : ℕ) → Fine i → T (point_ok P i)
  point_fine i f =
      yes_and (between most_x (P.x i) && rises_to P.x i) ((between most_v (P.low i) && between most_v (P.high i)) && le_z (P.low i) (P.high i))
      (yes_and (between most_x (P.x i)) (rises_to P.x i) (size_between most_x (P.x i) f.input) f.rises)
      (yes_and (between most_v (P.low i) && between most_v (P.high i)) (le_z (P.low i) (P.high i)) (yes_and (between most_v (P.low i)) (between most_v (P.high i)) (size_between most_v (P.low i) f.low) (size_between most_v (P.high i) f.high)) f.order.le)

-- ---- points
pub admits_admitted : (P : Points) → T (admits P) → Admitted P
admits_admitted P t =
    let s = and_yes (sized P.m P.d) (every P.m (point_ok P)) t in
    let z = and_yes (leb 3 P.m && leb P.m 11) (leb 1 P.d && leb P.d most_d) s.0 in
    let m = and_yes (leb 3 P.m) (leb P.m 11) z.0 in
    let d = and_yes (leb 1 P.d) (leb P.d most_d) z.1 in
    let three : 3 ≤ P.m = leb→le 3 P.m m.0 in
    let unit : 1 ≤ P.d = leb→le 1 P.d d.0 in
    let f : (i : ℕ) → i < P.m → Fine P i = λ i h. fine P i (every_holds P.m (point_ok P) s.1 i h) in
    record {
      proper = record { two = omega arith; unit = omega arith; rise = steps_rise P (λ i h. (f i h).rises); order = λ i h. (f i h).order };
      three = three;
      eleven = leb→le P.m 11 m.1;
      unit = leb→le P.d most_d d.1;
      inputs = λ i h. (f i h).input;
      lows = λ i h. (f i h).low;
      highs = λ i h. (f i h).high;
    }

pub admitted_admits : (P : Points) → Admitted P → T (admits P)
admitted_admits P a =
    yes_and (sized P.m P.d) (every P.m (point_ok P))
    (yes_and (leb 3 P.m && leb P.m 11) (leb 1 P.d && leb P.d most_d)
    (yes_and (leb 3 P.m) (leb P.m 11) (le→leb 3 P.m a.three) (le→leb P.m 11 a.eleven))
    (yes_and (leb 1 P.d) (leb P.d most_d) (le→leb 1 P.d a.proper.unit) (le→leb P.d most_d a.unit)))
    (every_by P.m (point_ok P) (λ i h. point_fine P i (record {
      input = a.inputs i h;
      rises = rise_steps P a.proper.rise i h;
      low = a.lows i h;
      high = a.highs i h;
      order = a.proper.order i h;
    })))

abbrev flat : Points → ℕ → Bool
flat P i = le_z (P.high i) (P.low i)

pub level_levels : (P : Points) → Admitted P → T (level P) → OneValue P
level_levels P a t i h = le_antisym (a.proper.order i h) (record { le = every_holds P.m (flat P) t i h })

pub levels_level : (P : Points) → OneValue P → T (level P)
levels_level P l = every_by P.m (flat P) (λ i h. subst (λ (z : ℤ). T (le_z (P.high i) z)) (sym (l i h)) (≤ℤ_refl (P.high i)).le)

-- ---- both tests
pub drawn_yes : (P : Points) → (admits P && level P) ≡ true → Admitted P × OneValue P
drawn_yes P e =
    let s = and_yes (admits P) (level P) (yes-T e) in
    let a = admits_admitted P s.0 in
    (a, level_levels P a s.1)

pub drawn_no : (P : Points) → (admits P && level P) ≡ false → Admitted P → OneValue P → ⊥
drawn_no P e a l = T_not (admits P && level P) (yes_and (admits P) (level P) (admitted_admits P a) (levels_level P l)) (no-T e)
