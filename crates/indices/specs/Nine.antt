-- What is shown of every index of a run is shown of the answer that is due. Method.
use Rattle.std.specs.Prelude.{◌≡◌, ℕ}
use Rattle.std.proofs.Common.{subst}
use Rattle.run.specs.declared.Run.{Run}
use Rattle.due.specs.Due.{span}
use Rattle.due.specs.Ground.{ShownBy, LineBy, GroundDue}
use Rattle.due.specs.GroundLaws.{ShownDue, Shows, ground_shown, ground_shows}
use Rattle.due.specs.declared.Ground.{Ground}
use Rattle.due.specs.declared.Index.{Index}
use Rattle.due.specs.declared.Index.TheVariants as index
use Rattle.due.specs.declared.Ruled.{Ruled}
use Rattle.due.specs.declared.Shown.{Shown}
use Rattle.indices.specs.declared.Nine.{Nine}

pub record NineDue (r : Run) (q : Nine) : Type 0 where
  pub terminal : ShownDue index.Terminal r q.terminal
  pub shifted : ShownDue index.Shifted r q.shifted
  pub independent : ShownDue index.Independent r q.independent
  pub zero : ShownDue index.Zero r q.zero
  pub front : ShownDue index.Front r q.front
  pub hysteresis : ShownDue index.Hysteresis r q.hysteresis
  pub repeatability : ShownDue index.Repeatability r q.repeatability
  pub lh : ShownDue index.Lh r q.lh
  pub lhr : Shows index.Lhr r q.lhr q.line

-- the span that the code works with is the run's
module _ (which : Index) (r : Run) (g : Ground) {k : ℕ} (due : GroundDue which r g) (e : k ≡ span r) where
  pub shown_due : {s : Shown} → ShownBy g k s → ShownDue which r s
  shown_due {s} p = ground_shown which r g due (subst (λ (n : ℕ). ShownBy g n s) e p)

  pub shows_due : {s : Shown} {l : Ruled} → ShownBy g k s → LineBy g l → Shows which r s l
  shows_due {s} p q = ground_shows which r g due (subst (λ (n : ℕ). ShownBy g n s) e p) q
