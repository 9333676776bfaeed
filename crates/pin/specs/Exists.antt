-- There is a pair whose fraction is greatest. So of the lines through the first point no two reach the least width.
use Rattle.std.specs.Prelude.{◌≡◌, refl, ◌⊎◌, ℕ, ◌*◌, ◌-◌, ◌<◌, ℤ, pos, nat_abs, ◌*ℤ◌, ◌≤ℤ◌}
use Rattle.std.proofs.Common.{ap, subst, inl, inr, arith}
use Rattle.std.proofs.Math.Decide.{dec_lt}
use Rattle.std.specs.Int.Signed.{≤ℤ_refl, clash_ℤ}
use Rattle.whole.specs.Ring.{difference_of_eq}
use Rattle.whole.specs.Sign.{Positive, le_or_gt}
use Rattle.whole.specs.Uses.{across}
use Rattle.band.specs.Line.{Points, Proper, OneValue, Front, Least, Single}
use Rattle.band.specs.Highest.{Highest, highest}
use Rattle.band.specs.Same.{width_same}
use Rattle.pin.specs.Pair.{ahead, num, den, Fits, AtMost, Greatest, Beyond, Nearer}
use Rattle.pin.specs.PairLaws.{beyond_first, den_positive, pair_single}
use Rattle.pin.specs.PairLine.{pair_least}
use Rattle.pin.specs.OwnLaws.{last_ahead}

-- an input beyond x in k's place: k itself, where it is one
record Stand (P : Points) (x : ℤ) (k : ℕ) : Type 0 where
  at : ℕ
  fits : at < P.m
  before : Positive (ahead P x at)
  is : k < P.m → Positive (ahead P x k) → at ≡ k

module _ {P : Points} {x : ℤ} (v : ℤ) (proper : Proper P) (beyond : Beyond P x) where
  stand : (k : ℕ) → Stand P x k
  stand k = go (dec_lt k P.m) (le_or_gt (ahead P x k) (pos 0))
    where
      other : (k < P.m → Positive (ahead P x k) → ⊥) → Stand P x k
      other none = record { at = P.m - 1; fits = omega (arith, proper.two); before = last_ahead proper beyond; is = λ h l. absurd (none h l) }

      go : Dec (k < P.m) → (ahead P x k ≤ℤ pos 0) ⊎ Positive (ahead P x k) → Stand P x k
      go (yes h) (inr l) = record { at = k; fits = h; before = l; is = λ _ _. refl }
      go (yes h) (inl l) = other (λ _ s. clash_ℤ s l)
      go (no h) l = other (λ s _. h s)

  pair : (k l : ℕ) → Fits P x (stand k).at (stand l).at
  pair k l = record { i_fits = (stand k).fits; j_fits = (stand l).fits; i_ahead = (stand k).before; j_ahead = (stand l).before }

  abbrev over : (k l : ℕ) → ℤ
  over k l = num P x v (stand k).at (stand l).at

  abbrev under : (k l : ℕ) → ℤ
  under k l = den P x (stand k).at (stand l).at

  -- the best partner of each, and the best of these
  partner : (k : ℕ) → Highest (over k) (under k) P.m
  partner k = highest (over k) (under k) P.m (λ l _. den_positive (pair k l))

  best : Highest (λ k. over k (partner k).at) (λ k. under k (partner k).at) P.m
  best = highest (λ k. over k (partner k).at) (λ k. under k (partner k).at) P.m (λ k _. den_positive (pair k (partner k).at))

  pub some_greatest : (i : ℕ) × (j : ℕ) × Greatest P x v i j
  some_greatest = ((stand s).at, (stand t).at, record { fits = pair s t; all = all })
    where
      s : ℕ
      s = best.at

      t : ℕ
      t = (partner s).at

      all : (k l : ℕ) → Fits P x k l → AtMost P x v (over s t) (under s t) k l
      all k l f =
          let p = (partner k).at in
          let h : (over k l *ℤ under s t) ≤ℤ (over s t *ℤ under k l) =
          across (over k l) (under k l) (over k p) (under k p) (over s t) (under s t) (den_positive (pair k l)) (den_positive (pair k p)) (den_positive (pair s t)) ((partner k).all l (omega (arith, f.j_fits))) (best.all k (omega (arith, f.i_fits))) in
          subst (λ (k : ℕ). AtMost P x v (over s t) (under s t) k l) ((stand k).is f.i_fits f.i_ahead)
          (subst (λ (l : ℕ). AtMost P x v (over s t) (under s t) (stand k).at l) ((stand l).is f.j_fits f.j_ahead) h)

pub front_single : {P : Points} → Proper P → OneValue P → {w z : ℕ} → Least (Front P) P w z → Single (Front P) P w z
front_single {P} proper level {w} {z} given = go (some_greatest v proper beyond)
  where
    x : ℤ
    x = P.x 0

    v : ℤ
    v = P.low 0

    beyond : Beyond P x
    beyond = beyond_first proper (≤ℤ_refl x)

    go : (i : ℕ) × (j : ℕ) × Greatest P x v i j → Single (Front P) P w z
    go (i, j, top) = pair_single proper v top.fits given.some (omega (arith, width_same given (pair_least proper level beyond top nearer)))
      where
        nearer : Nearer P x v i j
        nearer _ = omega (arith, ap (λ (t : ℤ). nat_abs t * nat_abs (den P x i j)) (difference_of_eq v v refl))
