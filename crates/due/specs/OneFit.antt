-- An index of a run has one line and one width, or several lines that reach one width, and never both.
use Rattle.std.specs.Prelude.{◌≡◌, ◌∷◌, [], ℕ, ◌*◌, ℤ, pos, ◌*ℤ◌}
use Rattle.std.proofs.Common.{sym, ap, ◌∙◌, le_antisymm, arith}
use Rattle.whole.specs.Poly.{var, lit, ◌⊗◌}
use Rattle.whole.specs.Ring.{ring}
use Rattle.whole.specs.Sign.{positive_nat, cancel_zero}
use Rattle.run.specs.Checked.{Checked}
use Rattle.run.specs.declared.Run.{Run}
use Rattle.groups.specs.Cut.{WithLimits}
use Rattle.groups.specs.Rounded.{limits_agree}
use Rattle.band.specs.Line.{Line, Points, Same}
use Rattle.band.specs.Same.{exclusive, width_same}
use Rattle.band.specs.Largest.{largest_same}
use Rattle.band.specs.Terminal.{terminal_same}
use Rattle.fit.specs.Scaled.{within_alike, several_alike}
use Rattle.fit.specs.Once.{same_largest}
use Rattle.bands.specs.Through.{LargestOf, scatter}
use Rattle.bands.specs.Limited.{same_limit_points, same_scatter, largest_agree}
use Rattle.bands.specs.Admitted.{proper_means}
use Rattle.due.specs.Due.{Best, Independent, Fits, Many, SeveralFit}
use Rattle.due.specs.DueLaws.{best_points, many_points, best_parallel}
use Rattle.due.specs.declared.Index.{Index}
use Rattle.due.specs.declared.Index.TheVariants as index

-- one line, and one width
pub record OneFit (L M : Line) (w z w' z' : ℕ) : Type 0 where
  pub line : Same L M
  pub width : w * z' ≡ w' * z

best_once : {F : Line → Type 0} {P : Points} {L M : Line} {w z w' z' : ℕ} → Best F P L w z → Best F P M w' z' → OneFit L M w z w' z'
best_once a b =
    let e = width_same b.least a.least in
    record { line = a.single _ _ a.member b.member a.reached (within_alike (record { some = b.least.some; some' = a.least.some; is = e }) b.reached); width = sym e }

largest_once : {m : ℕ} {g : ℕ → ℕ} {w w' : ℕ} → LargestOf m g w → LargestOf m g w' → w ≡ w'
largest_once a b = le_antisymm (omega (arith, a.reached, b.most a.place a.within)) (omega (arith, b.reached, a.most b.place b.within))

-- hysteresis and repeatability
other_once : {r : Run} {L M : Line} {w z w' z' : ℕ} → Independent r L → Independent r M → w ≡ w' → z ≡ r.n → z' ≡ r.n → OneFit L M w z w' z'
other_once a b e p q = let f = p ∙ sym q in record { line = (best_once a.best b.best).line; width = cc (e, f) }

-- k of a group is one number, so the largest is
scatter_once : {r : Run} {w w' : ℕ} → WithLimits r (λ k. LargestOf r.m (scatter r k) w) → WithLimits r (λ k. LargestOf r.m (scatter r k) w') → w ≡ w'
scatter_once {r} a b = largest_once (largest_agree (same_scatter r (limits_agree r a.limits b.limits)) a.holds) b.holds

pub fits_once : (which : Index) {r : Run} → Checked r → {L M : Line} {w z w' z' : ℕ} → Fits which r L w z → Fits which r M w' z' → OneFit L M w z w' z'
fits_once index.Terminal c {L} {M} a b = let e = terminal_same (proper_means c) L M a.0 b.0 in record { line = e; width = largest_same (same_largest e a.1) b.1 }
fits_once index.Shifted c a b = best_once (best_parallel (terminal_same (proper_means c) a.base b.base a.terminal b.terminal) a.best) b.best
fits_once index.Independent c a b = best_once a b
fits_once index.Zero c a b = best_once a b
fits_once index.Front c a b = best_once a b
fits_once index.Hysteresis c a b = other_once a.0 b.0 (largest_once a.1 b.1) a.2 b.2
fits_once index.Repeatability c a b = other_once a.0 b.0 (scatter_once a.1 b.1) a.2 b.2
fits_once index.Lh c a b = best_once a b
fits_once index.Lhr {r} c a b = best_once (best_points (same_limit_points r (limits_agree r a.limits b.limits)) a.holds) b.holds

-- a line of slope zero, written otherwise
pub zero_slope : {L M : Line} → Same L M → L.a ≡ pos 0 → M.a ≡ pos 0
zero_slope {L} {M} s e =
    cancel_zero (positive_nat L.some)
    (ring (pos L.q ∷ M.a ∷ []) (var 0 ⊗ var 1) (var 1 ⊗ var 0) tt ∙ sym s.slope ∙ ap (λ (t : ℤ). t *ℤ pos M.q) e ∙ ring (pos M.q ∷ []) (lit 0 ⊗ var 0) (lit 0) tt)

-- ---- several lines
many_best : {F : Line → Type 0} {P : Points} {L : Line} {w z w' z' : ℕ} → Many F P w z → Best F P L w' z' → ⊥
many_best a b = exclusive b.single (several_alike (record { some = a.least.some; some' = b.least.some; is = width_same a.least b.least }) a.several)

pub not_both : (which : Index) (r : Run) (L : Line) (w z w' z' : ℕ) → SeveralFit which r w z → Fits which r L w' z' → ⊥
not_both index.Terminal r L w z w' z' a b = a
not_both index.Shifted r L w z w' z' a b = a
not_both index.Independent r L w z w' z' a b = a
not_both index.Zero r L w z w' z' a b = many_best a b
not_both index.Front r L w z w' z' a b = a
not_both index.Hysteresis r L w z w' z' a b = a
not_both index.Repeatability r L w z w' z' a b = a
not_both index.Lh r L w z w' z' a b = many_best a b
not_both index.Lhr r L w z w' z' a b = many_best (many_points (same_limit_points r (limits_agree r a.limits b.limits)) a.holds) b.holds

pub several_once : (which : Index) (r : Run) (w z w' z' : ℕ) → SeveralFit which r w z → SeveralFit which r w' z' → w * z' ≡ w' * z
several_once index.Terminal r w z w' z' a b = absurd a
several_once index.Shifted r w z w' z' a b = absurd a
several_once index.Independent r w z w' z' a b = absurd a
several_once index.Zero r w z w' z' a b = width_same a.least b.least
several_once index.Front r w z w' z' a b = absurd a
several_once index.Hysteresis r w z w' z' a b = absurd a
several_once index.Repeatability r w z w' z' a b = absurd a
several_once index.Lh r w z w' z' a b = width_same a.least b.least
several_once index.Lhr r w z w' z' a b = width_same (many_points (same_limit_points r (limits_agree r a.limits b.limits)) a.holds).least b.holds.least
