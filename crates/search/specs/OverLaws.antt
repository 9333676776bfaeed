-- The loops of the search: what they know at first, and that a turn keeps it. Method.
use Rattle.std.specs.Prelude.{◌≡◌, refl, Bool, true, false, cond, ◌∷◌, [], ℕ, ◌+◌, ◌<◌, ℤ, ◌≤ℤ◌}
use Rattle.std.proofs.Common.{sym, ap, ◌∙◌, subst, arith, below_none, below_more}
use Rattle.std.specs.Int.Signed.{lt_z, lt_z_yes, lt_z_no, ≤ℤ_refl}
use Rattle.whole.specs.Flags.{yes-T, no-T}
use Rattle.whole.specs.Sign.{weaken, le_trans}
use Rattle.whole.specs.Machine.{Bounds}
use Rattle.band.specs.Line.{Points}
use Rattle.band.specs.Candidate.{num, den, Fits, Rising, den_positive, proper_rising}
use Rattle.band.specs.Band.{Admitted}
use Rattle.search.specs.Search.{shown, chord, taken_over, Below}
use Rattle.search.specs.SearchStep.{below_itself, through, carried, kept, beside}
use Rattle.search.specs.SearchSize.{top_size}
use Rattle.search.specs.Over.{Holds, Told, Keeps, Chords, Singles, Peak, HighestChord, Middles, Ends, Starts, Greatest}
use Rattle.search.specs.declared.Candidate.{Candidate}
use Rattle.search.specs.declared.Candidate.TheVariants.{One, Up, Down}
use Rattle.search.specs.declared.Middle.{Middle}
use Rattle.search.specs.declared.Top.{Top}

pub both_sizes : {P : Points} → Admitted P → {o n : Top} → Holds P o → Holds P n → Bounds (o.num ∷ o.den ∷ n.num ∷ n.den ∷ []) (18540000000000 ∷ 60000 ∷ 18540000000000 ∷ 60000 ∷ [])
both_sizes a l r = let s = top_size a l.levelled in let t = top_size a r.levelled in (s.0, (s.1, (t.0, (t.1, tt))))

-- ---- a step
-- what the candidate c comes to, held against the old one
pub record Stepped (P : Points) (c : Candidate) (o t : Top) : Type 0 where
  pub holds : Holds P t
  pub keeps : Keeps P o t
  pub new : Below P c t.which

abbrev pub over : Top → Top → Top
over o n = cond (taken_over o.num o.den n.num n.den n.which) n o

module _ {P : Points} (rising : Rising P) {c : Candidate} {o n : Top} (l : Holds P o) (r : Told P c n) where
  abbrev taken : Bool
  taken = taken_over o.num o.den n.num n.den n.which

  fits : Fits P (shown c)
  fits = subst (λ (c : Candidate). Fits P (shown c)) r.is r.holds.levelled.fits

  told : taken ≡ taken_over (num P (shown o.which)) (den P (shown o.which)) (num P (shown c)) (den P (shown c)) c
  told =
      let p = l.levelled.num in
      let q = l.levelled.den in
      let u = r.holds.levelled.num ∙ ap (λ (c : Candidate). num P (shown c)) r.is in
      let v = r.holds.levelled.den ∙ ap (λ (c : Candidate). den P (shown c)) r.is in
      let w = r.is in
      simp (p, q, u, v, w)

  by : (b : Bool) → taken ≡ b → Stepped P c o (cond b n o)
  by true e = record {
    holds = r.holds;
    keeps = λ d h b. subst (Below P d) (sym r.is) (carried rising b h l.levelled.fits c fits (sym told ∙ e));
    new = subst (Below P c) (sym r.is) (below_itself P c);
  }
  by false e = record { holds = l; keeps = λ d h b. b; new = kept P o.which c (sym told ∙ e) }

  pub stepped : {t : Top} → t ≡ over o n → Stepped P c o t
  stepped e = subst (Stepped P c o) (sym e) (by taken refl)

-- ---- the loops
module _ {P : Points} {o : Top} (l : Holds P o) where
  pub singles_none : Singles P 0 o
  singles_none = record { holds = l; all = below_none (λ i. Below P (One i) o.which) }

  pub middles_none : (i k : ℕ) → Middles P o i k (i + 1) o
  middles_none i k = record { holds = l; keeps = λ c h b. b; all = λ j h g. absurd (omega arith) }

  pub ends_none : (i : ℕ) → Ends P o i (i + 1) o
  ends_none i = record { holds = l; keeps = λ c h b. b; all = λ k h j p q. absurd (omega arith) }

  pub starts_none : Starts P o 0 o
  starts_none = record { holds = l; keeps = λ c h b. b; all = λ i h. absurd (omega arith) }

-- ---- the chords of one kind from i to k
le_same : {a b : ℤ} → a ≡ b → a ≤ℤ b
le_same {a} e = subst (λ (z : ℤ). a ≤ℤ z) e (≤ℤ_refl a)

module _ {P : Points} (c : ℕ → Candidate) {i k : ℕ} where
  pub peak_one : {z : ℤ} → i + 1 < k → z ≡ num P (shown (c (i + 1))) → Peak P c i k (i + 2) (record { j = i + 1; num = z })
  peak_one {z} h e = record {
    from = omega arith;
    to = h;
    is = e;
    all = λ j f g. let q : i + 1 ≡ j = omega arith in subst (λ (j : ℕ). num P (shown (c j)) ≤ℤ z) q (le_same (sym e));
  }

  pub peak_more : {j : ℕ} {t u : Middle} {z : ℤ} → i < j → j < k → Peak P c i k j t → z ≡ num P (shown (c j)) → u ≡ cond (lt_z t.num z) (record { j = j; num = z }) t → Peak P c i k (j + 1) u
  peak_more {j} {t} {z = z} p q s v e = subst (Peak P c i k (j + 1)) (sym e) (by (lt_z t.num z) refl)
    where
      by : (b : Bool) → lt_z t.num z ≡ b → Peak P c i k (j + 1) (cond b (record { j = j; num = z }) t)
      by true f = record {
        from = p;
        to = q;
        is = v;
        all = below_more (λ j. i < j → num P (shown (c j)) ≤ℤ z) j (λ l g h. le_trans (s.all l g h) (weaken (lt_z_yes (yes-T f)))) (λ _. le_same (sym v));
      }
      by false f = record {
        from = s.from;
        to = s.to;
        is = s.is;
        all = below_more (λ j. i < j → num P (shown (c j)) ≤ℤ t.num) j s.all (λ _. le_trans (le_same (sym v)) (lt_z_no (no-T f)));
      }

  -- all of them are below what the highest comes to
  pub all_below : Rising P → ((j : ℕ) → i < j → j < k → Fits P (shown (c j))) → ((j l : ℕ) → den P (shown (c j)) ≡ den P (shown (c l))) → ((j : ℕ) → chord (c j) ≡ true) → {o n u : Top} → (s : HighestChord P c i k n) → Stepped P (c s.j) o u → (j : ℕ) → i < j → j < k → Below P (c j) u.which
  all_below rising fits gap is_chord {u = u} s w j p q =
      let h = subst (λ (z : ℤ). num P (shown (c j)) ≤ℤ z) s.peak.is (s.peak.all j q p) in
      let f = fits j p q in
      through rising (beside P (c j) (c s.j) (den_positive rising (shown (c j)) f) (gap j s.j) (is_chord s.j) h) f (fits s.j s.peak.from s.peak.to) u.which w.holds.levelled.fits (is_chord s.j) w.new

-- chords stay below
chords_kept : {P : Points} {o t : Top} → Keeps P o t → {i j k : ℕ} → i < j → j < k → k < P.m → Chords P i j k o → Chords P i j k t
chords_kept keeps {i} {j} {k} p q r b = record { up = keeps (Up i j k) (p, q, r) b.up; down = keeps (Down i j k) (p, q, r) b.down }

module _ {P : Points} (a : Admitted P) where
  pub singles_more : {i : ℕ} {t n u : Top} → i < P.m → Singles P i t → Told P (One i) n → u ≡ over t n → Singles P (i + 1) u
  singles_more {i} {u = u} h s r e =
      let w = stepped (proper_rising a.proper) s.holds r e in
      record { holds = w.holds; all = below_more (λ i. Below P (One i) u.which) i (λ f g. w.keeps (One f) (omega arith) (s.all f g)) w.new }

  pub middles_more : {o t n u v w : Top} {i j k : ℕ} → (i < j) × (j < k) × (k < P.m) → Middles P o i k j t → Told P (Up i j k) n → u ≡ over t n → Told P (Down i j k) v → w ≡ over u v → Middles P o i k (j + 1) w
  middles_more {o} {t} {n} {u} {v} {w} {i} {j} {k} h s r e r' e' =
      let p = stepped (proper_rising a.proper) s.holds r e in
      let q = stepped (proper_rising a.proper) p.holds r' e' in
      let keeps : Keeps P t w = λ c f b. q.keeps c f (p.keeps c f b) in
      record {
        holds = q.holds;
        keeps = λ c f b. keeps c f (s.keeps c f b);
        all = below_more (λ j. i < j → Chords P i j k w) j (λ l g f. chords_kept keeps f (omega (arith, h.1)) h.2 (s.all l g f)) (λ _. record { up = q.keeps (Up i j k) h p.new; down = q.new });
      }

  -- the highest of each kind, one after the other
  pub middles_all : {o n u v w : Top} {i k : ℕ} → k < P.m → Holds P o → HighestChord P (λ j. Up i j k) i k n → u ≡ over o n → HighestChord P (λ j. Down i j k) i k v → w ≡ over u v → Middles P o i k k w
  middles_all {i = i} {k = k} m l s e r f =
      let rising = proper_rising a.proper in
      let p = stepped rising l s.told e in
      let q = stepped rising p.holds r.told f in
      record {
        holds = q.holds;
        keeps = λ c h b. q.keeps c h (p.keeps c h b);
        all = λ j h g. record {
          up = q.keeps (Up i j k) (g, h, m) (all_below (λ j. Up i j k) rising (λ j g h. (g, h, m)) (λ j l. refl) (λ j. refl) s p j g h);
          down = all_below (λ j. Down i j k) rising (λ j g h. (g, h, m)) (λ j l. refl) (λ j. refl) r q j g h;
        };
      }

  pub ends_more : {o t u : Top} {i k : ℕ} → k < P.m → Ends P o i k t → Middles P t i k k u → Ends P o i (k + 1) u
  ends_more {i = i} {k = k} h s m = record {
    holds = m.holds;
    keeps = λ c f b. m.keeps c f (s.keeps c f b);
    all = below_more (λ k. (j : ℕ) → i < j → j < k → Chords P i j k _) k (λ l g j p q. chords_kept m.keeps p q (omega arith) (s.all l g j p q)) (λ j p q. m.all j q p);
  }

  pub starts_more : {o t u : Top} {i : ℕ} → Starts P o i t → Ends P t i P.m u → Starts P o (i + 1) u
  starts_more {i = i} s e = record {
    holds = e.holds;
    keeps = λ c f b. e.keeps c f (s.keeps c f b);
    all = below_more (λ i. (j k : ℕ) → i < j → j < k → k < P.m → Chords P i j k _) i (λ f g j k p q r. chords_kept e.keeps p q r (s.all f g j k p q r)) (λ j k p q r. e.all k r j p q);
  }

pub most : {P : Points} {o t : Top} → Singles P P.m o → Starts P o P.m t → Greatest P t
most {P} {o} {t} s c = record { levelled = c.holds.levelled; all = each }
  where
    each : (e : Candidate) → Fits P (shown e) → Below P e t.which
    each (One i) h = c.keeps (One i) h (s.all i h)
    each (Up i j k) h = (c.all i (omega (arith, h.0, h.1, h.2)) j k h.0 h.1 h.2).up
    each (Down i j k) h = (c.all i (omega (arith, h.0, h.1, h.2)) j k h.0 h.1 h.2).down
