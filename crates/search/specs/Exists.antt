-- Admitted points have a greatest candidate: the loops of the search, told with no code.
use Rattle.std.specs.Prelude.{◌≡◌, refl, ℕ, zero, suc, ◌+◌, ◌<◌, ◌≤◌}
use Rattle.std.proofs.Common.{subst, ⊎_elim, eq-or-lt_of_le, add-one, arith}
use Rattle.band.specs.Line.{Points}
use Rattle.band.specs.Candidate.{num, den, Fits}
use Rattle.band.specs.Candidate as C
use Rattle.band.specs.Band.{Admitted}
use Rattle.search.specs.Search.{shown}
use Rattle.search.specs.Over.{Greatest, Holds, Told, Singles, Middles, Ends, Starts}
use Rattle.search.specs.OverLaws.{over, singles_none, singles_more, middles_none, middles_more, ends_none, ends_more, starts_none, starts_more, most}
use Rattle.search.specs.SearchLaws.{found}
use Rattle.search.specs.declared.Candidate.{Candidate}
use Rattle.search.specs.declared.Candidate.TheVariants.{One, Up, Down}
use Rattle.search.specs.declared.Top.{Top}

-- what holds at a, and one further from each, holds at n
counted : (Q : ℕ → Type 0) (a n : ℕ) → a ≤ n → Q a → ((k : ℕ) → a ≤ k → k < n → Q k → Q (k + 1)) → Q n
counted Q a zero h q next = let e : a ≡ 0 = omega arith in subst Q e q
counted Q a (suc n) h q next = ⊎_elim (λ e. subst Q e q) (λ l. let m : a ≤ n = omega arith in subst Q (add-one n) (next n m (omega arith) (counted Q a n m q (λ k i j r. next k i (omega arith) r)))) (eq-or-lt_of_le h)

module _ {P : Points} (a : Admitted P) where
  -- a candidate, held with its fraction
  abbrev held : Candidate → Top
  held c = record { which = c; num = num P (shown c); den = den P (shown c) }

  told : (c : Candidate) → Fits P (shown c) → Told P c (held c)
  told c h = record { is = refl; holds = record { levelled = record { fits = h; num = refl; den = refl } } }

  singles : (t : Top) × Singles P P.m t
  singles = counted (λ n. (t : Top) × Singles P n t) 0 P.m (omega arith) (held (One 0), singles_none (told (One 0) (omega (arith, a.three))).holds)
      (λ i _ h s. (over s.0 (held (One i)), singles_more a h s.1 (told (One i) h) refl))

  middles : (o : Top) → Holds P o → (i k : ℕ) → i < k → k < P.m → (t : Top) × Middles P o i k k t
  middles o l i k h m = counted (λ n. (t : Top) × Middles P o i k n t) (i + 1) k (omega arith) (o, middles_none l i k)
      (λ j p q s.
      let g : (i < j) × (j < k) × (k < P.m) = (omega arith, q, m) in
      let u = over s.0 (held (Up i j k)) in
      (over u (held (Down i j k)), middles_more a g s.1 (told (Up i j k) g) refl (told (Down i j k) g) refl))

  ends : (o : Top) → Holds P o → (i : ℕ) → i < P.m → (t : Top) × Ends P o i P.m t
  ends o l i h = counted (λ n. (t : Top) × Ends P o i n t) (i + 1) P.m (omega arith) (o, ends_none l i)
      (λ k p q s. let m = middles s.0 s.1.holds i k (omega arith) q in (m.0, ends_more a q s.1 m.1))

  starts : (o : Top) → Holds P o → (t : Top) × Starts P o P.m t
  starts o l = counted (λ n. (t : Top) × Starts P o n t) 0 P.m (omega arith) (o, starts_none l)
      (λ i _ h s. let e = ends s.0 s.1.holds i h in (e.0, starts_more a s.1 e.1))

  pub some_best : (t : Top) × Greatest P t
  some_best =
      let s = singles in
      let t = starts s.0 s.1.holds in
      (t.0, most s.1 t.1)

  pub some_greatest : (c : C.Candidate) × C.Greatest P c
  some_greatest = (shown some_best.0.which, found some_best.1)
