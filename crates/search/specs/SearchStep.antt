-- A step of the search: what is below the old candidate is below the one that takes its place. Method.
use Rattle.std.specs.Prelude.{◌≡◌, refl, Bool, true, false, ◌∷◌, [], T, ℤ, ◌*ℤ◌, ◌≤ℤ◌, ◌<ℤ◌}
use Rattle.std.proofs.Common.{sym, ◌∙◌, subst, ⊎_elim}
use Rattle.std.specs.Int.Signed.{le_z, le_z_yes, lt_z_yes, lt_z_no, ≤ℤ_refl}
use Rattle.whole.specs.Flags.{yes-T, no-T, T-yes, apart}
use Rattle.whole.specs.Poly.{var, ◌⊕◌, ◌⊖◌, ◌⊗◌}
use Rattle.whole.specs.Ring.{ring}
use Rattle.whole.specs.Sign.{NonNeg, Positive, le_sign, sign_le, lt_sign, sign_lt, weaken, le_or_gt, nonneg_mul, positive_mul, positive_add, cancel_lt}
use Rattle.whole.specs.Uses.{across}
use Rattle.band.specs.Line.{Points}
use Rattle.band.specs.Candidate.{num, den, Fits, AtMost, Rising, den_positive}
use Rattle.search.specs.Search.{shown, chord, taken_over, Below}
use Rattle.search.specs.declared.Candidate.{Candidate}
use Rattle.search.specs.declared.Candidate.TheVariants.{One, Up, Down}

-- ---- what is below
-- a/b is at most c/d, and c/d less than e/f, so a/b is less than e/f
across_lt : (a b c d e f : ℤ) → Positive b → Positive d → Positive f → (a *ℤ d) ≤ℤ (c *ℤ b) → (c *ℤ f) <ℤ (e *ℤ d) → (a *ℤ f) <ℤ (e *ℤ b)
across_lt a b c d e f hb hd hf h i =
    sign_lt (cancel_lt hd (subst Positive
    (ring (a ∷ b ∷ c ∷ d ∷ e ∷ f ∷ []) (var 5 ⊗ (var 2 ⊗ var 1 ⊖ var 0 ⊗ var 3) ⊕ var 1 ⊗ (var 4 ⊗ var 3 ⊖ var 2 ⊗ var 5)) (var 3 ⊗ (var 4 ⊗ var 1 ⊖ var 0 ⊗ var 5)) tt)
    (positive_add (nonneg_mul (weaken hf) (le_sign h)) (positive_mul hb (lt_sign i)))))

not_le : {a b : ℤ} → le_z a b ≡ false → b <ℤ a
not_le {a} {b} e = ⊎_elim (λ h. absurd (apart (sym (T-yes h.le) ∙ e))) (λ h. h) (le_or_gt a b)

pub below_itself : (P : Points) (c : Candidate) → Below P c c
below_itself P c = record { at_most = ≤ℤ_refl _; less = λ t e. absurd (subst T e t) }

-- whether n takes o's place
abbrev over : Points → Candidate → Candidate → Bool
over P o n = taken_over (num P (shown o)) (den P (shown o)) (num P (shown n)) (den P (shown n)) n

module _ {P : Points} (rising : Rising P) {s o : Candidate} (below : Below P s o) (hs : Fits P (shown s)) (ho : Fits P (shown o)) where
  carried_lt : (n : Candidate) → Fits P (shown n) → (num P (shown o) *ℤ den P (shown n)) <ℤ (num P (shown n) *ℤ den P (shown o)) → Below P s n
  carried_lt n hn h =
      let l = across_lt (num P (shown s)) (den P (shown s)) (num P (shown o)) (den P (shown o)) (num P (shown n)) (den P (shown n)) (den_positive rising (shown s) hs) (den_positive rising (shown o) ho) (den_positive rising (shown n) hn) below.at_most h in
      record { at_most = weaken l; less = λ _ _. l }

  carried_le : (n : Candidate) → Fits P (shown n) → chord n ≡ true → AtMost P (shown o) (shown n) → Below P s n
  carried_le n hn q h = record {
    at_most = across (num P (shown s)) (den P (shown s)) (num P (shown o)) (den P (shown o)) (num P (shown n)) (den P (shown n)) (den_positive rising (shown s) hs) (den_positive rising (shown o) ho) (den_positive rising (shown n) hn) below.at_most h;
    less = λ _ e. absurd (apart (sym q ∙ e));
  }

  -- what is below a chord is below what the chord is below
  pub through : (n : Candidate) → Fits P (shown n) → chord o ≡ true → Below P o n → Below P s n
  through n hn q b =
      let ds = den_positive rising (shown s) hs in
      let dd = den_positive rising (shown o) ho in
      let dn = den_positive rising (shown n) hn in
      record {
        at_most = across (num P (shown s)) (den P (shown s)) (num P (shown o)) (den P (shown o)) (num P (shown n)) (den P (shown n)) ds dd dn below.at_most b.at_most;
        less = λ _ e. across_lt (num P (shown s)) (den P (shown s)) (num P (shown o)) (den P (shown o)) (num P (shown n)) (den P (shown n)) ds dd dn below.at_most (b.less (yes-T q) e);
      }

  -- what is below the old one is below the new one that takes its place
  pub carried : (n : Candidate) → Fits P (shown n) → over P o n ≡ true → Below P s n
  carried (One i) hn e = carried_lt (One i) hn (lt_z_yes (yes-T e))
  carried (Up i j k) hn e = carried_le (Up i j k) hn refl (le_z_yes (yes-T e))
  carried (Down i j k) hn e = carried_le (Down i j k) hn refl (le_z_yes (yes-T e))

-- a new one that does not take the old one's place is below it
pub kept : (P : Points) (o n : Candidate) → over P o n ≡ false → Below P n o
kept P o (One i) e = record { at_most = lt_z_no (no-T e); less = λ t. absurd t }
kept P o (Up i j k) e = let l = not_le e in record { at_most = weaken l; less = λ _ _. l }
kept P o (Down i j k) e = let l = not_le e in record { at_most = weaken l; less = λ _ _. l }

-- of two chords with the same denominator the one with the smaller numerator is below the other
pub beside : (P : Points) (c t : Candidate) → Positive (den P (shown c)) → den P (shown c) ≡ den P (shown t) → chord t ≡ true → num P (shown c) ≤ℤ num P (shown t) → Below P c t
beside P c t p e q h = record {
  at_most = subst (λ (z : ℤ). (num P (shown c) *ℤ z) ≤ℤ (num P (shown t) *ℤ den P (shown c))) e (sign_le (subst NonNeg
      (ring (num P (shown c) ∷ num P (shown t) ∷ den P (shown c) ∷ []) (var 2 ⊗ (var 1 ⊖ var 0)) (var 1 ⊗ var 2 ⊖ var 0 ⊗ var 2) tt)
      (nonneg_mul (weaken p) (le_sign h))));
  less = λ _ f. absurd (apart (sym q ∙ f));
}
