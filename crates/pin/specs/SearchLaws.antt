-- What the search reads is of bounded size, and each of its steps keeps what is known; at the end the pair is the greatest. Method.
use Rattle.std.specs.Prelude.{◌≡◌, refl, Bool, true, false, cond, ◌∷◌, [], ℕ, zero, suc, ◌+◌, ◌-◌, ◌<◌, ◌≤◌, ℤ, pos, nat_abs, ◌*ℤ◌, ◌≤ℤ◌, ◌<ℤ◌}
use Rattle.std.proofs.Common.{sym, subst, arith, below_more}
use Rattle.std.specs.Int.Signed.{lt_z, lt_z_yes, lt_z_no, clash_ℤ, ≤ℤ_refl}
use Rattle.whole.specs.Balance as B
use Rattle.whole.specs.Balance.{int}
use Rattle.whole.specs.Flags.{yes-T, no-T}
use Rattle.whole.specs.Machine.{Bounds, sized}
use Rattle.whole.specs.Poly.{var, ◌⊕◌, ◌⊖◌, ◌⊗◌}
use Rattle.whole.specs.Ring.{ring}
use Rattle.whole.specs.Sign.{NonNeg, Positive, le_sign, sign_le, lt_sign, sign_lt, weaken, le_antisym, nonneg_add, nonneg_mul}
use Rattle.whole.specs.Uses.{across}
use Rattle.band.specs.Line.{Points, Proper}
use Rattle.band.specs.Place.{Place, before, same, after, place}
use Rattle.band.specs.Band.{most_x, most_v}
use Rattle.pin.specs.Pair.{ahead, rise, num, den, Fits, AtMost, Beyond}
use Rattle.pin.specs.PairLaws.{den_positive, flipped}
use Rattle.pin.specs.Search.{most_num, most_den, Ready, Start, written, ordered, Paired, Covers, Told, Keeps, Partners, Firsts, Found, OwnDistance}
use Rattle.pin.specs.declared.Pair.{Pair}
use Rattle.pin.specs.declared.Pin.{Pin}

-- ---- what is read of the arrays
module _ {P : Points} {p : Pin} (r : Ready P p) {i : ℕ} (h : i < P.m) where
  pub place_fits : i < 11
  place_fits = omega (arith, h, r.admitted.eleven)

  pub ahead_asked : Bounds (p.x.count ∷ P.x i ∷ []) (most_x ∷ most_x ∷ [])
  ahead_asked = (r.x_most, (r.admitted.inputs i h, tt))

  pub rise_asked : Bounds (p.v.count ∷ P.low i ∷ []) (most_v ∷ most_v ∷ [])
  rise_asked = (r.v_most, (r.admitted.lows i h, tt))

  pub offset_asked : Bounds (p.x.count ∷ p.v.count ∷ P.x i ∷ P.low i ∷ []) (most_x ∷ most_v ∷ most_x ∷ most_v ∷ [])
  offset_asked = (r.x_most, (r.v_most, (r.admitted.inputs i h, (r.admitted.lows i h, tt))))

-- ---- the inputs beyond the fixed point
module _ {P : Points} (proper : Proper P) {x : ℤ} where
  past_first : x ≤ℤ P.x 0 → (k : ℕ) → 0 < k → k < P.m → x <ℤ P.x k
  past_first h k a l = let y = int (P.x 0) in B.lt_by (int x) (int (P.x k)) (omega (arith, B.le_of (int x) y h, B.lt_of y (int (P.x k)) (proper.rise 0 k a l)))

  pub start_first : x <ℤ P.x 0 → Start P x 0
  start_first h = record { most = omega arith; before = λ k l. absurd (omega arith); after = after }
    where
      after : (k : ℕ) → 0 ≤ k → k < P.m → x <ℤ P.x k
      after zero a l = h
      after (suc k) a l = past_first (weaken h) (suc k) (omega arith) l

  pub start_second : Beyond P x → P.x 0 ≤ℤ x → Start P x 1
  start_second beyond h = record {
    most = omega arith;
    before = λ k l. let e : 0 ≡ k = omega arith in subst (λ (n : ℕ). P.x n ≤ℤ x) e h;
    after = λ k a l. past_first (beyond 0 (omega (arith, proper.two))) k a l;
  }

  pub later_fits : {i j : ℕ} → Positive (ahead P x i) → i < j → j < P.m → Fits P x i j
  later_fits {i} {j} s h l =
      let y = int (P.x i) in let z = int (P.x j) in
      record { i_fits = omega arith; j_fits = l; i_ahead = s; j_ahead = lt_sign (B.lt_by (int x) z (omega (arith, B.lt_of (int x) y (sign_lt s), B.lt_of y z (proper.rise i j h l)))) }

pub last_fits : {P : Points} {p : Pin} {n : ℕ} → Ready P p → Start P p.x.count n → Fits P p.x.count (P.m - 1) (P.m - 1)
last_fits {P} r s =
    let three = r.admitted.three in
    let last : P.m - 1 < P.m = omega arith in
    let l = lt_sign (s.after (P.m - 1) (omega (arith, s.most)) last) in
    record { i_fits = last; j_fits = last; i_ahead = l; j_ahead = l }

-- ---- a pair
module _ {P : Points} {p : Pin} (r : Ready P p) where
  abbrev x : ℤ
  x = p.x.count

  abbrev v : ℤ
  v = p.v.count

  abbrev pair : (i j : ℕ) → Pair
  pair i j = written i j (rise P v i) (rise P v j) (ahead P x i) (ahead P x j)

  -- where its fraction is not negative
  straight : {i j : ℕ} → Fits P x i j → NonNeg (num P x v i j) → Told P p i j (pair i j)
  straight {i} {j} f s = record {
    paired = record { fits = f; num_is = refl; den_is = refl; sign = s; num_most = num_most; den_most = den_most };
    covers = record { one = ≤ℤ_refl _; other = other };
  }
    where
      num_most : nat_abs (num P x v i j) ≤ most_num
      num_most = let a = r.admitted in sized (P.low i ∷ P.low j ∷ P.x i ∷ P.x j ∷ x ∷ v ∷ []) (most_v ∷ most_v ∷ most_x ∷ most_x ∷ most_x ∷ most_v ∷ [])
          (a.lows i f.i_fits, (a.lows j f.j_fits, (a.inputs i f.i_fits, (a.inputs j f.j_fits, (r.x_most, (r.v_most, tt))))))
          ((var 0 ⊖ var 5) ⊗ (var 3 ⊖ var 4) ⊖ (var 1 ⊖ var 5) ⊗ (var 2 ⊖ var 4)) most_num tt

      den_most : nat_abs (den P x i j) ≤ most_den
      den_most = let a = r.admitted in sized (P.x i ∷ P.x j ∷ x ∷ []) (most_x ∷ most_x ∷ most_x ∷ []) (a.inputs i f.i_fits, (a.inputs j f.j_fits, (r.x_most, tt))) ((var 0 ⊖ var 2) ⊕ (var 1 ⊖ var 2)) most_den tt

      -- the other order has the opposite numerator
      other : AtMost P x v (num P x v i j) (den P x i j) j i
      other =
          let a = var 0 in let b = var 1 in let s = var 2 in let t = var 3 in
          let n = a ⊗ t ⊖ b ⊗ s in
          sign_le (subst NonNeg (ring (rise P v i ∷ rise P v j ∷ ahead P x i ∷ ahead P x j ∷ []) (n ⊗ (s ⊕ t) ⊕ n ⊗ (s ⊕ t)) (n ⊗ (t ⊕ s) ⊖ (b ⊗ s ⊖ a ⊗ t) ⊗ (s ⊕ t)) tt) (nonneg_add twice twice))
        where
          twice : NonNeg (num P x v i j *ℤ den P x i j)
          twice = nonneg_mul s (weaken (den_positive f))

  pub told_pair : {i j : ℕ} {t : Pair} → Fits P x i j → t ≡ ordered i j (rise P v i) (rise P v j) (ahead P x i) (ahead P x j) → Told P p i j t
  told_pair {i} {j} f e = subst (Told P p i j) (sym e) (by (lt_z a b) refl)
    where
      a : ℤ
      a = rise P v i *ℤ ahead P x j

      b : ℤ
      b = rise P v j *ℤ ahead P x i

      by : (c : Bool) → lt_z a b ≡ c → Told P p i j (cond c (pair j i) (pair i j))
      by true e = let h : a ≤ℤ b = weaken (lt_z_yes (yes-T e)) in let o = straight (flipped f) (le_sign h) in record { paired = o.paired; covers = record { one = o.covers.other; other = o.covers.one } }
      by false e = let h : b ≤ℤ a = lt_z_no (no-T e) in straight f (le_sign h)

-- ---- steps
module _ {P : Points} {p : Pin} where
  rest : {t : Pair} → Paired P p t → Positive t.den
  rest q = subst Positive (sym q.den_is) (den_positive q.fits)

  raised : {o t : Pair} → Paired P p o → Paired P p t → (o.num *ℤ t.den) ≤ℤ (t.num *ℤ o.den) → Keeps P p o t
  raised {o} {t} a b h k l f g = across (num P p.x.count p.v.count k l) (den P p.x.count k l) o.num o.den t.num t.den (den_positive f) (rest a) (rest b) g h

  -- the greater of two
  step : {o n t : Pair} → Paired P p o → Paired P p n → t ≡ cond (lt_z (o.num *ℤ n.den) (n.num *ℤ o.den)) n o → Paired P p t × Keeps P p o t × Keeps P p n t
  step {o} {n} {t} a b e = subst (λ (t : Pair). Paired P p t × Keeps P p o t × Keeps P p n t) (sym e) (by (lt_z (o.num *ℤ n.den) (n.num *ℤ o.den)) refl)
    where
      by : (c : Bool) → lt_z (o.num *ℤ n.den) (n.num *ℤ o.den) ≡ c → Paired P p (cond c n o) × Keeps P p o (cond c n o) × Keeps P p n (cond c n o)
      by true e = (b, raised a b (weaken (lt_z_yes (yes-T e))), λ k l f g. g)
      by false e = (a, (λ k l f g. g), raised b a (lt_z_no (no-T e)))

  covers_kept : {o t : Pair} → Keeps P p o t → {k l : ℕ} → Fits P p.x.count k l → Covers P p o k l → Covers P p t k l
  covers_kept keeps {k} {l} f c = record { one = keeps k l f c.one; other = keeps l k (flipped f) c.other }

  pub both_sizes : {o n : Pair} → Paired P p o → Paired P p n → Bounds (n.num ∷ n.den ∷ o.num ∷ o.den ∷ []) (most_num ∷ most_den ∷ most_num ∷ most_den ∷ [])
  both_sizes a b = (b.num_most, (b.den_most, (a.num_most, (a.den_most, tt))))

  pub partners_none : {o : Pair} → Paired P p o → (i : ℕ) → Partners P p o i (i + 1) o
  partners_none a i = record { paired = a; keeps = λ k l f g. g; all = λ l h g. absurd (omega arith) }

  pub partners_more : Proper P → {o t n u : Pair} {i j : ℕ} → Positive (ahead P p.x.count i) → j < P.m → Partners P p o i j t → Told P p i j n → u ≡ cond (lt_z (t.num *ℤ n.den) (n.num *ℤ t.den)) n t → Partners P p o i (j + 1) u
  partners_more proper {u = u} {i = i} {j = j} s h b n e =
      let w = step b.paired n.paired e in
      record {
        paired = w.0;
        keeps = λ k l f g. w.1 k l f (b.keeps k l f g);
        all = below_more (λ l. i < l → Covers P p u i l) j (λ l g a. covers_kept w.1 (later_fits proper s a (omega arith)) (b.all l g a)) (λ a. covers_kept w.2 (later_fits proper s a h) n.covers);
      }

  pub firsts_none : {n : ℕ} {t : Pair} → Start P p.x.count n → Paired P p t → Firsts P p n t
  firsts_none s a = record { paired = a; all = λ k h l _ f. clash_ℤ (sign_lt f.i_ahead) (s.before k h) }

  pub firsts_more : {t u : Pair} {i : ℕ} → Firsts P p i t → Partners P p t i P.m u → Firsts P p (i + 1) u
  firsts_more {u = u} {i = i} b n = record {
    paired = n.paired;
    all = below_more (λ k. (l : ℕ) → k < l → Fits P p.x.count k l → Covers P p u k l) i (λ k h l a f. covers_kept n.keeps f (b.all k h l a f)) (λ l a f. n.all l f.j_fits a);
  }

  -- every pair was tried in one order, and an input with itself has no fraction above 0
  pub found : {t : Pair} → Firsts P p P.m t → Found P p t
  found {t} b = record { paired = b.paired; top = record { fits = b.paired.fits; all = λ k l f. told k l (go k l f (place k l)) } }
    where
      told : (k l : ℕ) → AtMost P p.x.count p.v.count t.num t.den k l → AtMost P p.x.count p.v.count (num P p.x.count p.v.count t.i t.j) (den P p.x.count t.i t.j) k l
      told k l h = subst (λ (z : ℤ). AtMost P p.x.count p.v.count (num P p.x.count p.v.count t.i t.j) z k l) b.paired.den_is (subst (λ (n : ℤ). AtMost P p.x.count p.v.count n t.den k l) b.paired.num_is h)

      alone : {k : ℕ} → Fits P p.x.count k k → AtMost P p.x.count p.v.count t.num t.den k k
      alone {k} f =
          let u = var 0 in let y = var 1 in let n = var 2 in
          sign_le (subst NonNeg (ring (ahead P p.x.count k ∷ rise P p.v.count k ∷ t.num ∷ t.den ∷ []) (n ⊗ (u ⊕ u)) (n ⊗ (u ⊕ u) ⊖ (y ⊗ u ⊖ y ⊗ u) ⊗ var 3) tt) (nonneg_mul b.paired.sign (weaken (den_positive f))))

      go : (k l : ℕ) → Fits P p.x.count k l → Place k l → AtMost P p.x.count p.v.count t.num t.den k l
      go k l f (before a) = (b.all k f.i_fits l a f).one
      go k l f (same a) = subst (AtMost P p.x.count p.v.count t.num t.den k) (sym a) (alone (subst (Fits P p.x.count k) a f))
      go k l f (after a) = (b.all l f.j_fits k a (flipped f)).other

-- ---- the value at the fixed point's own input
module _ {P : Points} {p : Pin} {n : ℕ} (some : 0 < P.m) (s : Start P p.x.count n) where
  pub own_none : n ≡ 0 → OwnDistance P p (pos 0)
  own_none e = record { own = λ o. clash_ℤ (s.after 0 (omega arith) some) (subst (λ (z : ℤ). P.x 0 ≤ℤ z) o (≤ℤ_refl _)); none = λ _. refl; most = omega arith }

  pub own_some : Beyond P p.x.count → (n ≡ 0 → ⊥) → {w : ℤ} → w ≡ pos (nat_abs (rise P p.v.count 0)) → nat_abs w ≤ 206000000 → OwnDistance P p w
  own_some beyond h e l = record { own = λ _. e; none = λ o. absurd (o (le_antisym (s.before 0 (omega arith)) (beyond 0 some))); most = l }
