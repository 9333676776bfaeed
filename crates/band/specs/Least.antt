-- The greatest candidate gives the least largest deviation of all lines, and candidates alone say whether one line reaches it or several.
use Rattle.std.specs.Prelude.{◌≡◌, ◌∷◌, [], ℕ, ◌<◌, ℤ, pos, ◌-ℤ◌, ◌*ℤ◌, ◌≤ℤ◌}
use Rattle.std.proofs.Common.{sym, ap, ◌∙◌, subst, arith}
use Rattle.std.proofs.Math.Decide.{dec_lt}
use Rattle.std.specs.Int.Signed.{≤ℤ_refl}
use Rattle.whole.specs.Poly.{var, lit, ◌⊖◌}
use Rattle.whole.specs.Ring.{ring}
use Rattle.band.specs.Line.{Line, Points, Proper, OneValue, Within, Least, Single, All}
use Rattle.band.specs.Place.{Place, before, same, after, place}
use Rattle.band.specs.Candidate.{Candidate, one, up, down, num, Fits, AtMost, Greatest, wide, part, part_some}
use Rattle.band.specs.Width.{no_less}
use Rattle.band.specs.Only.{single_up, single_down, single_pair}
use Rattle.band.specs.Triple.{up_line, down_line, up_within, down_within, up_single, down_single}
use Rattle.band.specs.Middle.{middle_reached}

module _ {P : Points} (proper : Proper P) where
  reached : (c : Candidate) → Greatest P c → (L : Line) × Within P L (wide P c) (part P c)
  reached (one i) g = middle_reached proper i g
  reached (up i j k) g = let some = part_some proper (up i j k) g.fits in (up_line P i j k some, up_within proper i j k g some)
  reached (down i j k) g = let some = part_some proper (down i j k) g.fits in (down_line P i j k some, down_within proper i j k g some)

  pub least : (c : Candidate) → Greatest P c → Least All P (wide P c) (part P c)
  least c g =
      let r = reached c g in
      record { some = part_some proper c g.fits; line = r.0; member = tt; reached = r.1; least = λ L w z _ _ W. no_less proper g L w z W }

  -- another candidate that is not less than the input i: then one line alone reaches what i says (and where every other is less, several do: `Middle.several`)
  pub tied : (i : ℕ) → Greatest P (one i) → (e : Candidate) → Fits P e → (e ≡ one i → ⊥) → AtMost P (one i) e → Single All P (wide P (one i)) (part P (one i))
  tied i g (one j) f other h = go (place j i)
    where
      go : Place j i → Single All P (wide P (one i)) (part P (one i))
      go (before l) = single_pair proper g j i l g.fits h (≤ℤ_refl _)
      go (same l) = absurd (other (ap one (sym l)))
      go (after l) = single_pair proper g i j l f (≤ℤ_refl _) h
  tied i g (up a b c) f other h = single_up proper g a b c f h
  tied i g (down a b c) f other h = single_down proper g a b c f h

  -- with one value at each input no two lines reach it: all inputs are equal as candidates
  pub all_single : OneValue P → (c : Candidate) → Greatest P c → Single All P (wide P c) (part P c)
  all_single value (up i j k) g = up_single proper i j k g
  all_single value (down i j k) g = down_single proper i j k g
  all_single value (one i) g = go (dec_lt 0 i)
    where
      none : (j : ℕ) → j < P.m → num P (one j) ≡ pos 0
      none j h = ap (λ (t : ℤ). P.high j -ℤ t) (value j h) ∙ ring (P.high j ∷ []) (var 0 ⊖ var 0) (lit 0) tt

      as_much : (j : ℕ) → j < P.m → AtMost P (one i) (one j)
      as_much j h = subst (λ (t : ℤ). (num P (one i) *ℤ pos 1) ≤ℤ (t *ℤ pos 1)) (none i g.fits ∙ sym (none j h)) (≤ℤ_refl (num P (one i) *ℤ pos 1))

      go : Dec (0 < i) → Single All P (wide P (one i)) (part P (one i))
      go (yes l) = single_pair proper g 0 i l g.fits (as_much 0 (omega (arith, g.fits))) (≤ℤ_refl _)
      go (no l) = single_pair proper g i 1 (omega arith) proper.two (≤ℤ_refl _) (as_much 1 proper.two)
