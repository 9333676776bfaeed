-- The averages that are due of a run that no check refuses are due of every run that is the same within.
use Rattle.std.specs.Prelude.{◌≡◌, cond, List, ℕ, ◌<◌, ltb, ℤ}
use Rattle.std.proofs.Common.{subst, arith}
use Rattle.exact.specs.Value.{Made}
use Rattle.exact.specs.declared.Fraction.{Fraction}
use Rattle.run.specs.Checks.{verdict}
use Rattle.run.specs.declared.Run.{Run}
use Rattle.averages.specs.Averages.{sum, unit, reach, MeanAt, Means, AveragesDue, no_run, told}
use Rattle.averages.specs.Over.{reach_most}
use Rattle.averages.specs.declared.Averages.{Averages}
use Rattle.averages.specs.declared.Mean.{Mean}
use Rattle.averages.specs.declared.Mean.TheVariants.{Up, Down, Both}
use Rattle.promises.specs.Demand2.{SameWithin}
use Rattle.promises.specs.SameSums.{up_same, down_same, both_same}

module _ {r q : Run} (e : SameWithin r q) (some : 0 < q.strokes) where
  sum_same : (which : Mean) (i : ℕ) → i < q.m → sum which r i ≡ sum which q i
  sum_same Up = up_same e some
  sum_same Down = down_same e some
  sum_same Both = both_same e some

  -- as many points have a mean of the one as of the other
  reach_same : (which : Mean) → reach which r ≡ reach which q
  reach_same Up = e.m
  reach_same Down = λ j. cond (ltb 1 (e.strokes j)) (e.m j) 0
  reach_same Both = e.m

  mean_over : (which : Mean) (i : ℕ) {f : Fraction} → MeanAt which r i f → MeanAt which q i f
  mean_over which i {f} a = record { mean = mean; beyond = λ h. a.beyond (omega (arith, reach_same which)) }
    where
      mean : i < reach which q → Made (sum which q i) (unit which q.n) f
      mean h =
          let m : Made (sum which r i) (unit which r.n) f = a.mean (omega (arith, reach_same which)) in
          subst (λ (n : ℕ). Made (sum which q i) (unit which n) f) e.n (subst (λ (z : ℤ). Made z (unit which r.n) f) (sum_same which i (omega (arith, reach_most which q))) m)

  means_over : (which : Mean) {l : List Fraction} → Means which r l → Means which q l
  means_over which a = record { eleven = a.eleven; each = λ i h. mean_over which i (a.each i h) }

  pub averages_over : (verdict r).number ≡ 0 → (verdict q).number ≡ 0 → {a : Averages} → AveragesDue r a → AveragesDue q a
  averages_over v v' (no_run n _) = absurd (n v)
  averages_over v v' (told _ k p u d b) = told v' k p (means_over Up u) (means_over Down d) (means_over Both b)
