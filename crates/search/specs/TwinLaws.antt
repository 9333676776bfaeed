-- Two inputs of the same gap: what the search for one finds, and that no other candidate reaches a single input that has none. Method.
use Rattle.std.specs.Prelude.{◌≡◌, refl, Bool, true, false, not, ◌||◌, ◌∷◌, [], ℕ, ◌<◌, T, eqb, ℤ, pos, negsuc, ◌*ℤ◌, ◌≤ℤ◌, ◌<ℤ◌}
use Rattle.std.proofs.Common.{sym, ap, ◌∙◌, subst, ⊎_elim, eqb→eq, SFits, to_z, of_z, to_z-of_z}
use Rattle.std.proofs.Math.Dec.{eqb_refl}
use Rattle.std.specs.Int.{w64}
use Rattle.std.proofs.Math.Facts.{T_not, or_yes}
use Rattle.whole.specs.Flags.{same_test}
use Rattle.whole.specs.Every.{FirstNot}
use Rattle.whole.specs.Poly.{var, lit, ◌⊗◌}
use Rattle.whole.specs.Ring.{ring}
use Rattle.whole.specs.Sign.{le_or_gt, le_antisym}
use Rattle.band.specs.Line.{Points}
use Rattle.band.specs.Candidate.{one, up, down, num, den, Fits}
use Rattle.band.specs.Candidate as C
use Rattle.search.specs.Search.{shown, chord}
use Rattle.search.specs.Over.{Greatest}
use Rattle.search.specs.SearchLaws.{Chord, found, found_alone}
use Rattle.search.specs.Twin.{same_number, apart}
use Rattle.search.specs.declared.Candidate.{Candidate}
use Rattle.search.specs.declared.Candidate.TheVariants.{One}
use Rattle.search.specs.declared.Top.{Top}

-- ---- the test
same_is : (a b : ℤ) → T (same_number a b) → a ≡ b
same_is (pos a) (pos b) t = ap pos (eqb→eq a b t)
same_is (pos a) (negsuc b) t = absurd t
same_is (negsuc a) (pos b) t = absurd t
same_is (negsuc a) (negsuc b) t = ap negsuc (eqb→eq a b t)

is_same : (a b : ℤ) → a ≡ b → T (same_number a b)
is_same a b e = subst (λ (z : ℤ). T (same_number a z)) e (itself a)
  where
    itself : (a : ℤ) → T (same_number a a)
    itself (pos n) = eqb_refl n
    itself (negsuc n) = eqb_refl n

-- the code compares bits
pub same_bits : (p q : ℤ) → SFits w64 p → SFits w64 q → eqb (of_z w64 p) (of_z w64 q) ≡ same_number p q
same_bits p q f g =
    same_test (eqb (of_z w64 p) (of_z w64 q)) (same_number p q)
    (λ t. is_same p q (sym (to_z-of_z f) ∙ ap (to_z w64) (eqb→eq (of_z w64 p) (of_z w64 q) t) ∙ to_z-of_z g))
    (λ t. subst (λ (z : ℤ). T (eqb (of_z w64 p) (of_z w64 z))) (same_is p q t) (eqb_refl (of_z w64 p)))

-- ---- what the search for a twin finds
or_left : (a b : Bool) → T a → T (a || b)
or_left true b t = tt
or_left false b t = absurd t

or_right : (a b : Bool) → T b → T (a || b)
or_right true b t = tt
or_right false b t = t

module _ (P : Points) (i : ℕ) {m j : ℕ} (f : FirstNot m (apart P i) j) where
  pub twin_other : j < m → i ≡ j → ⊥
  twin_other h e = f.fails h (or_left (eqb i j) _ (subst (λ (n : ℕ). T (eqb i n)) e (eqb_refl i)))

  pub twin_same : j < m → num P (one i) ≡ num P (one j)
  twin_same h = go (same_number (num P (one i)) (num P (one j))) refl
    where
      go : (b : Bool) → same_number (num P (one i)) (num P (one j)) ≡ b → num P (one i) ≡ num P (one j)
      go true e = same_is _ _ (subst T (sym e) tt)
      go false e = absurd (f.fails h (or_right (eqb i j) _ (subst (λ (b : Bool). T (not b)) (sym e) tt)))

  pub twin_none : j ≡ m → (k : ℕ) → k < m → (i ≡ k → ⊥) → num P (one k) ≡ num P (one i) → ⊥
  twin_none e k h n s =
      ⊎_elim (λ t. n (eqb→eq i k t)) (λ t. T_not (same_number (num P (one i)) (num P (one k))) (is_same _ _ (sym s)) t)
      (or_yes (eqb i k) (not (same_number (num P (one i)) (num P (one k)))) (f.before k (subst (λ (n : ℕ). k < n) (sym e) h)))

-- a single input that the search found, and that has no twin: every other candidate is less
module _ {P : Points} {t : Top} (b : Greatest P t) (i : ℕ) (w : t.which ≡ One i) (f : FirstNot P.m (apart P i) P.m) where
  abbrev Less : C.Candidate → Candidate → Type 0
  Less e c = (num P e *ℤ den P (shown c)) <ℤ (num P (shown c) *ℤ den P e)

  chord_less : (e : C.Candidate) → Fits P e → Chord e → Less e (One i)
  chord_less e h c = subst (Less e) w (found_alone b (ap chord w) e h c)

  pub alone : (e : C.Candidate) → Fits P e → (e ≡ one i → ⊥) → Less e (One i)
  alone (up j k l) h n = chord_less (up j k l) h tt
  alone (down j k l) h n = chord_less (down j k l) h tt
  alone (one j) h n = ⊎_elim (λ l. absurd (twin_none P i f refl j h (λ e. n (ap one (sym e))) (same l))) (λ l. l) (le_or_gt (num P (one i) *ℤ pos 1) (num P (one j) *ℤ pos 1))
    where
      at_most : C.AtMost P (one j) (one i)
      at_most = subst (λ (c : Candidate). C.AtMost P (one j) (shown c)) w ((found b).all (one j) h)

      once : (z : ℤ) → z *ℤ pos 1 ≡ z
      once z = ring (z ∷ []) (var 0 ⊗ lit 1) (var 0) tt

      same : (num P (one i) *ℤ pos 1) ≤ℤ (num P (one j) *ℤ pos 1) → num P (one j) ≡ num P (one i)
      same l = sym (once (num P (one j))) ∙ le_antisym at_most l ∙ once (num P (one i))
