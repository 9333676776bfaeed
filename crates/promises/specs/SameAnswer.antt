-- The answer of an index that is due of a run that no check refuses is due of every run that is the same within.
use Rattle.std.specs.Prelude.{◌≡◌, ℕ, ◌*◌, ◌-◌, ◌<◌, ℤ, pos, nat_abs, ◌-ℤ◌, ◌<ℤ◌}
use Rattle.std.proofs.Common.{sym, ap, ap₂, ◌∙◌, subst, arith}
use Rattle.exact.specs.Value.{Made}
use Rattle.run.specs.Run.{input}
use Rattle.run.specs.Checks.{verdict}
use Rattle.run.specs.Checked.{checked, first_there}
use Rattle.run.specs.declared.Run.{Run}
use Rattle.groups.specs.Cut.{WithLimits}
use Rattle.band.specs.Line.{Line}
use Rattle.bands.specs.Through.{means, LargestOf}
use Rattle.bands.specs.Parts.{SamePoints}
use Rattle.bands.specs.Transfer.{largest_points, terminal_points}
use Rattle.bands.specs.Limited.{largest_agree}
use Rattle.due.specs.Due.{Independent, Fits, SeveralFit, BelowZero, OneStroke, OneCycle, span, Stands}
use Rattle.due.specs.DueLaws.{best_points, many_points, best_zero, many_zero, best_front}
use Rattle.due.specs.Cases.{Given, several, one_line, Case, no_run, below_zero, one_stroke, one_cycle, given}
use Rattle.due.specs.declared.Answer.{Answer}
use Rattle.due.specs.declared.Index.{Index}
use Rattle.due.specs.declared.Index.TheVariants as index
use Rattle.promises.specs.Demand2.{SameWithin}
use Rattle.promises.specs.SameSums.{within_sym, limits_over, means_same, strokes_same, limit_points_same, scatter_same, swing_same}

-- ---- lines and widths
module _ {r q : Run} (e : SameWithin r q) (some : 0 < q.m) (one : 0 < q.strokes) where
  there : SamePoints (means r) (means q)
  there = means_same e one

  independent_over : {L : Line} → Independent r L → Independent q L
  independent_over i = record { w = i.w; z = i.z; best = best_points there i.best }

  largest_over : {f g : ℕ → ℕ} {w : ℕ} → ((i : ℕ) → i < q.m → f i ≡ g i) → LargestOf r.m f w → LargestOf q.m g w
  largest_over {f} {w = w} a l = largest_agree a (subst (λ (m : ℕ). LargestOf m f w) e.m l)

  with_limits_over : {P Q : (ℕ → ℕ → ℕ) → Type 0} → ((k : ℕ → ℕ → ℕ) → P k → Q k) → WithLimits r P → WithLimits q Q
  with_limits_over f l = record { k = l.k; limits = limits_over e one l.limits; holds = f l.k l.holds }

  fits_over : (which : Index) (L : Line) (w z : ℕ) → Fits which r L w z → Fits which q L w z
  fits_over index.Terminal L w z f = (terminal_points there some f.0, largest_points there f.1)
  fits_over index.Shifted L w z f = record { base = f.base; terminal = terminal_points there some f.terminal; best = best_points there f.best }
  fits_over index.Independent L w z f = best_points there f
  fits_over index.Zero L w z f = best_zero there f
  fits_over index.Front L w z f = best_front there some f
  fits_over index.Hysteresis L w z f = (independent_over f.0, largest_over (swing_same e one) f.1, f.2 ∙ e.n)
  fits_over index.Repeatability L w z f = (independent_over f.0, with_limits_over (λ k l. largest_over (λ i h. scatter_same e one k i) l) f.1, f.2 ∙ e.n)
  fits_over index.Lh L w z f = best_points (strokes_same e one) f
  fits_over index.Lhr L w z f = with_limits_over (λ k b. best_points (limit_points_same e one k) b) f

  several_over : (which : Index) (w z : ℕ) → SeveralFit which r w z → SeveralFit which q w z
  several_over index.Terminal w z s = s
  several_over index.Shifted w z s = s
  several_over index.Independent w z s = s
  several_over index.Zero w z s = many_zero there s
  several_over index.Front w z s = s
  several_over index.Hysteresis w z s = s
  several_over index.Repeatability w z s = s
  several_over index.Lh w z s = many_points (strokes_same e one) s
  several_over index.Lhr w z s = with_limits_over (λ k m. many_points (limit_points_same e one k) m) s

  -- ---- what stands beside the number
  span_same : span r ≡ span q
  span_same =
      ap (λ (m : ℕ). nat_abs (input r (m - 1) -ℤ input r 0)) e.m
      ∙ ap₂ (λ (x y : ℤ). nat_abs (x -ℤ y)) (e.inputs (q.m - 1) (omega arith)) (e.inputs 0 some)

  stands_over : {L : Line} {w z : ℕ} {a : Answer} → Stands r L w z a → Stands q L w z a
  stands_over {L} {w} {z} {a} s = record {
    width = s.width;
    slope = s.slope;
    offset = s.offset;
    index = subst (λ (k : ℕ). Made (pos (w * L.q)) (z * (nat_abs L.a * k)) a.index) span_same s.index;
    thousandths = s.thousandths;
  }

  given_over : {which : Index} {a : Answer} → Given which r a → Given which q a
  given_over {which} (several w z h m u k) = several w z h (several_over which w z m) u k
  given_over {which} (one_line L w z h f c s) = one_line L w z h (fits_over which L w z f) c (stands_over s)

-- ---- the refusals of an index
below_over : {which : Index} {r q : Run} → SameWithin r q → BelowZero which r → BelowZero which q
below_over {q = q} e b =
    let h : b.at < q.m = omega (arith, b.within, e.m) in
    record { asked = b.asked; at = b.at; within = h; negative = subst (λ (x : ℤ). x <ℤ pos 0) (e.inputs b.at h) b.negative }

cycle_over : (which : Index) {r q : Run} → SameWithin r q → OneCycle which r → OneCycle which q
cycle_over which e o = (o.0, sym e.n ∙ o.1)

stroke_over : (which : Index) {r q : Run} → SameWithin r q → OneStroke which r → OneStroke which q
stroke_over which e o = (o.0, sym e.strokes ∙ o.1)

-- ---- the answer
pub case_over : {r q : Run} → SameWithin r q → (verdict r).number ≡ 0 → (verdict q).number ≡ 0 → {which : Index} {a : Answer} → Case which r a → Case which q a
case_over e v v' (no_run n _) = absurd (n v)
case_over e v v' (below_zero _ b k) = below_zero v' (below_over e b) k
case_over e v v' {which} (one_stroke _ n u k) = one_stroke v' (λ b. n (below_over (within_sym e) b)) (stroke_over which e u) k
case_over e v v' {which} (one_cycle _ n u o k) = one_cycle v' (λ b. n (below_over (within_sym e) b)) (λ s. u (stroke_over which (within_sym e) s)) (cycle_over which e o) k
case_over {q = q} e v v' {which} (given _ n u o g) =
    let c = checked q v' in
    let some : 0 < q.m = omega (arith, c.m_least) in
    given v' (λ b. n (below_over (within_sym e) b)) (λ s. u (stroke_over which (within_sym e) s)) (λ c. o (cycle_over which (within_sym e) c)) (given_over e some (first_there c) g)
