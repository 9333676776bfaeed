-- Runs that are the same within have one verdict: each check looks at the sizes, and at the numbers at the points, cycles and strokes.
use Rattle.std.specs.Prelude.{◌≡◌, refl, Bool, false, not, ◌&&◌, ℕ, zero, suc, ◌<◌, ltb, ℤ, pos, ◌-ℤ◌}
use Rattle.std.proofs.Common.{ap, ap₂, ◌∙◌, arith}
use Rattle.std.specs.Int.Signed.{le_z, lt_z}
use Rattle.whole.specs.Every.{every, first_not}
use Rattle.limits.specs.Limits.{fair, in_x, in_y}
use Rattle.limits.specs.declared.Sizes.{Sizes}
use Rattle.table.specs.Table.{accepted, told_or, given}
use Rattle.table.specs.Rows.{found_if}
use Rattle.run.specs.Run.{reading, sizes}
use Rattle.run.specs.Limits.{stroke_in_limits, near_all, stroke_calm, holds, fails_at}
use Rattle.run.specs.Checks.{Verdict, as_verdict, verdict}
use Rattle.run.specs.declared.Run.{Run}
use Rattle.run.specs.declared.Rule.{Rule}
use Rattle.run.specs.declared.Rule.TheVariants.{Limits, Rising, Calm}
use Rattle.whole.specs.Every.{every_same, first_not_same}
use Rattle.promises.specs.Demand2.{SameWithin}

-- the verdict by the sizes, and by where each rule fails first
abbrev told_by : Sizes → (limits rising calm : ℕ) → Verdict
told_by z l u c =
    let m = z.m in as_verdict (told_or 3 (found_if 0 (not (fair z))) (told_or 5 (found_if l (ltb l m)) (told_or 9 (found_if u (ltb u m)) (told_or 10 (found_if c (ltb c m)) accepted))))

-- a size outside its limits is told first
pub sizes_told : (r : Run) → fair (sizes r) ≡ false → verdict r ≡ record { number = 3; place = 0 }
unfolding given
sizes_told r e = rw e

module _ (r q : Run) (e : SameWithin r q) where
  -- what is tested of every reading of a stroke at a point
  each_cycle : (f g : ℕ → Bool) → ((c : ℕ) → c < q.n → f c ≡ g c) → every r.n f ≡ every q.n g
  each_cycle f g h = ap (λ (k : ℕ). every k f) e.n ∙ every_same q.n f g h

  in_limits : (s i : ℕ) → s < q.strokes → i < q.m → stroke_in_limits r s i ≡ stroke_in_limits q s i
  in_limits s i hs hi = each_cycle (λ c. in_y (reading r s c i)) (λ c. in_y (reading q s c i)) (λ c hc. ap in_y (e.readings s c i hs hc hi))

  calm : (s i : ℕ) → s < q.strokes → i < q.m → stroke_calm r s i ≡ stroke_calm q s i
  calm s i hs hi =
      each_cycle (near_all r s i) (near_all q s i) λ b hb.
      each_cycle (λ c. le_z (reading r s b i -ℤ reading r s c i) (pos 10000)) (λ c. le_z (reading q s b i -ℤ reading q s c i) (pos 10000)) λ c hc.
      ap₂ (λ (y z : ℤ). le_z (y -ℤ z) (pos 10000)) (e.readings s b i hs hb hi) (e.readings s c i hs hc hi)

  -- and on each stroke
  each_stroke : (f g : ℕ → Bool) → ((s : ℕ) → s < q.strokes → f s ≡ g s) → every r.strokes f ≡ every q.strokes g
  each_stroke f g h = ap (λ (k : ℕ). every k f) e.strokes ∙ every_same q.strokes f g h

  rule_same : (rule : Rule) (i : ℕ) → i < q.m → holds rule r i ≡ holds rule q i
  rule_same Limits i h = ap₂ ◌&&◌ (ap in_x (e.inputs i h)) (each_stroke (λ s. stroke_in_limits r s i) (λ s. stroke_in_limits q s i) (λ s hs. in_limits s i hs h))
  rule_same Rising zero h = refl
  rule_same Rising (suc i) h = ap₂ lt_z (e.inputs i (omega arith)) (e.inputs (suc i) h)
  rule_same Calm i h = each_stroke (λ s. stroke_calm r s i) (λ s. stroke_calm q s i) (λ s hs. calm s i hs h)

  fails_same : (rule : Rule) → fails_at rule r ≡ fails_at rule q
  fails_same rule = ap (λ (k : ℕ). first_not k (holds rule r)) e.m ∙ first_not_same q.m (holds rule r) (holds rule q) (rule_same rule)

  pub same_verdict : verdict r ≡ verdict q
  unfolding given
  same_verdict = λ j. told_by (record { m = e.m j; n = e.n j; strokes = e.strokes j }) (fails_same Limits j) (fails_same Rising j) (fails_same Calm j)
