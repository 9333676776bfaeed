-- Chords of both kinds at once: they run over the outer values, and an inner value lies off them. Method.
use Rattle.std.specs.Prelude.{◌≡◌, refl, List, ◌∷◌, [], ℕ, ◌<◌, ◌≤◌, ℤ, pos, nat_abs, ◌+ℤ◌, ◌-ℤ◌, ◌*ℤ◌, get_or}
use Rattle.std.proofs.Common.{◌∙◌}
use Rattle.whole.specs.Poly.{var, lit, ◌⊕◌, ◌⊖◌, ◌⊗◌}
use Rattle.whole.specs.Ring.{ring}
use Rattle.units.specs.Units.{input_in, part_in}
use Rattle.units.specs.declared.Input.{Input}
use Rattle.units.specs.declared.Part.{Part}
use Rattle.band.specs.Line.{Points}
use Rattle.band.specs.Candidate.{up, down, num, den, Fits, upE, downE}
use Rattle.band.specs.Band.{lent, most_v, Admitted}
use Rattle.search.specs.Search.{shown, Levelled}
use Rattle.search.specs.SearchSize.{told_size}
use Rattle.search.specs.declared.Candidate.{Candidate}
use Rattle.search.specs.declared.Candidate.TheVariants.{Up, Down}
use Rattle.search.specs.declared.Side.{Side}
use Rattle.search.specs.declared.Side.TheVariants.{Above, Beneath}

-- the chord on a side of the value at its middle input
abbrev pub chord_on : Side → (i j k : ℕ) → Candidate
chord_on Above i j k = Up i j k
chord_on Beneath i j k = Down i j k

-- of the outer and the inner values the lowest and the highest
abbrev pub lows_of : Side → (outer inner : List ℤ) → List ℤ
lows_of Above outer inner = inner
lows_of Beneath outer inner = outer

abbrev pub highs_of : Side → (outer inner : List ℤ) → List ℤ
highs_of Above outer inner = outer
highs_of Beneath outer inner = inner

-- the points whose highest values are the outer ones for a chord above, and whose lowest are for one beneath
abbrev pub sided : Side → (m d : ℕ) → (x outer inner : List ℤ) → Points
sided s m d x outer inner = lent m d x (lows_of s outer inner) (highs_of s outer inner)

-- the outer and the inner values are as small as the lowest and the highest
module _ (s : Side) (m d : ℕ) (x outer inner : List ℤ) (a : Admitted (sided s m d x outer inner)) (i : ℕ) (h : i < m) where
  pub outer_size : nat_abs (get_or outer i (pos 0)) ≤ most_v
  outer_size = by s (a.lows i h) (a.highs i h)
    where
      by : (s : Side) → nat_abs (get_or (lows_of s outer inner) i (pos 0)) ≤ most_v → nat_abs (get_or (highs_of s outer inner) i (pos 0)) ≤ most_v → nat_abs (get_or outer i (pos 0)) ≤ most_v
      by Above l u = u
      by Beneath l u = l

  pub inner_size : nat_abs (get_or inner i (pos 0)) ≤ most_v
  inner_size = by s (a.lows i h) (a.highs i h)
    where
      by : (s : Side) → nat_abs (get_or (lows_of s outer inner) i (pos 0)) ≤ most_v → nat_abs (get_or (highs_of s outer inner) i (pos 0)) ≤ most_v → nat_abs (get_or inner i (pos 0)) ≤ most_v
      by Above l u = l
      by Beneath l u = u

module _ {P : Points} (a : Admitted P) (s : Side) {i j k : ℕ} (g : (i < j) × (j < k) × (k < P.m)) {n : ℤ} (e : n ≡ num P (shown (chord_on s i j k))) where
  -- what holds of a chord above and of one beneath holds of a chord on either side
  either : (Q : Candidate → Type 0) (s : Side) → Q (Up i j k) → Q (Down i j k) → Q (chord_on s i j k)
  either Q Above u d = u
  either Q Beneath u d = d

  fits : Fits P (shown (chord_on s i j k))
  fits = either (λ (c : Candidate). Fits P (shown c)) s g g

  pub chord_size : nat_abs n ≤ 18540000000000
  chord_size = told_size a (shown (chord_on s i j k)) fits e

  pub chord_levelled : {d : ℤ} → d ≡ P.x k -ℤ P.x i → Levelled P (chord_on s i j k) n d
  chord_levelled q = record { fits = fits; num = e; den = q ∙ either (λ (c : Candidate). P.x k -ℤ P.x i ≡ den P (shown c)) s refl refl }

-- ---- what stands above the stroke, of the gaps and the rises that the code reads
module _ (m d : ℕ) (x outer inner : List ℤ) (i j k : ℕ) where
  abbrev six : List ℤ
  six = get_or x i (pos 0) ∷ get_or x j (pos 0) ∷ get_or x k (pos 0) ∷ get_or outer i (pos 0) ∷ get_or inner j (pos 0) ∷ get_or outer k (pos 0) ∷ []

  pub bent : {a b c : Input} {u v w : Part} {g l f s n : ℤ} → a ≡ input_in x i → b ≡ input_in x j → c ≡ input_in x k → u ≡ part_in outer i → v ≡ part_in inner j → w ≡ part_in outer k → g ≡ c.count -ℤ a.count → l ≡ b.count -ℤ a.count → f ≡ u.count -ℤ v.count → s ≡ w.count -ℤ u.count → n ≡ g *ℤ f +ℤ l *ℤ s → n ≡ num (lent m d x inner outer) (up i j k)
  bent ea eb ec eu ev ew eg el ef es e =
      e ∙ simp (eg, el, ef, es, ea, eb, ec, eu, ev, ew)
      (ring six ((var 2 ⊖ var 0) ⊗ (var 3 ⊖ var 4) ⊕ (var 1 ⊖ var 0) ⊗ (var 5 ⊖ var 3)) (upE (var 0) (var 1) (var 2) (var 3) (var 4) (var 5)) tt)

  -- a chord lies beneath by what it lies above, with the other sign
  pub turned : pos 0 -ℤ num (lent m d x inner outer) (up i j k) ≡ num (lent m d x outer inner) (down i j k)
  turned = ring six (lit 0 ⊖ upE (var 0) (var 1) (var 2) (var 3) (var 4) (var 5)) (downE (var 0) (var 1) (var 2) (var 3) (var 4) (var 5)) tt
