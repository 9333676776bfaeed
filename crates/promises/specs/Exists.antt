-- For each run and index some answer is due.
use Rattle.std.specs.Prelude.{◌≡◌, refl, Bool, true, false, ◌⊎◌, ℕ, ◌*◌, ◌<◌, ◌≤◌, T, ℤ, pos, nat_abs, ◌≤ℤ◌, ◌<ℤ◌}
use Rattle.std.proofs.Common.{inl, inr, arith}
use Rattle.std.proofs.Math.Decide.{ℕ_discrete}
use Rattle.std.proofs.Math.IntN.{ℤ_discrete}
use Rattle.std.specs.Int.Signed.{clash_ℤ}
use Rattle.whole.specs.Sign.{le_or_gt}
use Rattle.exact.proofs.RoundingLaws.{some_nearest}
use Rattle.run.specs.Run.{input}
use Rattle.run.specs.Checks.{verdict}
use Rattle.run.specs.Checked.{Checked, checked}
use Rattle.run.specs.declared.Run.{Run}
use Rattle.groups.specs.Search.{limit}
use Rattle.groups.specs.Rounded.{with_found}
use Rattle.band.specs.Line.{Line, Points}
use Rattle.bands.specs.Through.{LargestOf, swing, scatter}
use Rattle.bands.specs.Parts as lines
use Rattle.due.specs.Due.{Best, Independent, Fits, Many, SeveralFit, refused, only_width, span, Stands, from_zero, BelowZero, needs_down, OneStroke, scatters, OneCycle, Due}
use Rattle.due.specs.Cases.{Counted, Given, several, one_line, no_run, below_zero, one_stroke, one_cycle, given, case_due}
use Rattle.due.specs.DueLaws.{first_negative, below_first, not_negative}
use Rattle.due.specs.declared.Answer.{Answer}
use Rattle.due.specs.declared.Index.{Index}
use Rattle.due.specs.declared.Index.TheVariants as index
use Rattle.exact.specs.Exists.{some_made}
use Rattle.promises.specs.Some.{some_largest}
use Rattle.promises.specs.Lines as L
use Rattle.promises.specs.Lines.{TheBest, Fitted, some_fit, independent}
use Rattle.promises.specs.Pins.{through_origin, through_first}
use Rattle.promises.specs.Ends.{SomeFit, terminal_fit, shifted_fit}

-- ---- an answer with a line
record Number (a : ℤ) : Type 0 where
  number : ℕ
  flat : a ≡ pos 0 → number ≡ 11
  sloping : (a ≡ pos 0 → ⊥) → number ≡ 0

some_number : (a : ℤ) → Number a
some_number a = go (ℤ_discrete a (pos 0))
  where
    go : Dec (a ≡ pos 0) → Number a
    go (yes e) = record { number = 11; flat = λ _. refl; sloping = λ d. absurd (d e) }
    go (no d) = record { number = 0; flat = λ e. absurd (d e); sloping = λ _. refl }

some_stands : (r : Run) (L : Line) (w z : ℕ) → (a : Answer) × Counted L a × Stands r L w z a
some_stands r L w z =
    let number = some_number L.a in
    let width = some_made (pos w) z in
    let slope = some_made L.a L.q in
    let offset = some_made L.b L.q in
    let index = some_made (pos (w * L.q)) (z * (nat_abs L.a * span r)) in
    let percent = some_nearest (100000 * nat_abs index.0.num) index.0.den index.1.lowest.positive in (
      record { number = number.number; place = 0; width = width.0; slope = slope.0; offset = offset.0; index = index.0; thousandths = percent.0 },
      record { flat = number.flat; sloping = number.sloping; place = refl },
      record { width = width.1; slope = slope.1; offset = offset.1; index = index.1; thousandths = percent.1 },
    )

-- ---- an answer for a checked run
abbrev Some : Index → Run → Type 0
Some which r = (a : Answer) × Given which r a

with_line : (which : Index) {r : Run} → SomeFit which r → Some which r
with_line which {r} f = let s = some_stands r f.line f.w f.z in (s.0, one_line f.line f.w f.z f.some f.fits s.1 s.2)

with_width : (which : Index) {r : Run} (w z : ℕ) → 0 < z → SeveralFit which r w z → Some which r
with_width which w z h m = let f = some_made (pos w) z in (only_width f.0, several w z h m f.1 refl)

-- the best line of some points, or several lines that reach its width
module _ (which : Index) {r : Run} {F : Line → Type 0} {P : Points} (fits : (L : Line) (w z : ℕ) → Best F P L w z → Fits which r L w z) where
  with_best : TheBest F P → Some which r
  with_best b = with_line which (record { line = b.line; w = b.w; z = b.z; some = b.some; fits = fits b.line b.w b.z b.best })

  with_fitted : ((w z : ℕ) → Many F P w z → SeveralFit which r w z) → Fitted F P → Some which r
  with_fitted many (L.one_line b) = with_best b
  with_fitted many (L.many w z h m) = with_width which w z h (many w z m)

module _ {r : Run} (c : Checked r) where
  -- the largest of the widths g, with the independent line
  with_other : (which : Index) (g : ℕ → ℕ) → ((L : Line) (w : ℕ) → Independent r L → LargestOf r.m g w → Fits which r L w r.n) → Some which r
  with_other which g fits =
      let b = independent c in
      let l = some_largest r.m (omega (arith, c.m_least)) g in
      with_line which (record { line = b.line; w = l.0; z = r.n; some = c.n_least; fits = fits b.line l.0 (record { w = b.w; z = b.z; best = b.best }) l.1 })

  -- limits are asked for of two cycles or more
  two : (which : Index) → T (scatters which) → (OneCycle which r → ⊥) → 2 ≤ r.n
  two which t more = let n = c.n_least in let e : r.n ≡ 1 → ⊥ = λ e. more (t, e) in omega arith

  some_given : (which : Index) → (BelowZero which r → ⊥) → (OneCycle which r → ⊥) → Some which r
  some_given index.Terminal none more = with_line index.Terminal (terminal_fit c)
  some_given index.Shifted none more = with_line index.Shifted (shifted_fit c)
  some_given index.Independent none more = with_best index.Independent (λ L w z b. b) (independent c)
  some_given index.Zero none more = with_fitted index.Zero (λ L w z b. b) (λ w z m. m) (through_origin c (not_negative none))
  some_given index.Front none more = with_best index.Front (λ L w z b. b) (through_first c)
  some_given index.Hysteresis none more = with_other index.Hysteresis (swing r) (λ L w i l. (i, l, refl))
  some_given index.Repeatability none more = with_other index.Repeatability (scatter r (limit r)) (λ L w i l. (i, with_found c (two index.Repeatability tt more) l, refl))
  some_given index.Lh none more = with_fitted index.Lh (λ L w z b. b) (λ w z m. m) (some_fit c lines.Strokes)
  some_given index.Lhr none more = with_fitted index.Lhr (λ L w z b. with_found c (two index.Lhr tt more) b) (λ w z m. with_found c (two index.Lhr tt more) m) (some_fit c lines.Limits)

-- ---- an answer
asked : (b : Bool) → Dec (T b)
asked false = no (λ t. t)
asked true = yes tt

below : (which : Index) {r : Run} → Checked r → Dec (T (from_zero which)) → Dec (BelowZero which r)
below which c (no n) = no (λ b. n b.asked)
below which {r} c (yes t) = go (le_or_gt (pos 0) (input r 0))
  where
    go : (pos 0 ≤ℤ input r 0) ⊎ (input r 0 <ℤ pos 0) → Dec (BelowZero which r)
    go (inl h) = no (λ b. clash_ℤ (first_negative c b) h)
    go (inr l) = yes (below_first c t l)

once : (which : Index) (r : Run) → Dec (T (scatters which)) → Dec (r.n ≡ 1) → Dec (OneCycle which r)
once which r (no n) _ = no (λ o. n o.0)
once which r (yes t) (yes e) = yes (t, e)
once which r (yes t) (no d) = no (λ o. d o.1)

up_only : (which : Index) (r : Run) → Dec (T (needs_down which)) → Dec (r.strokes ≡ 1) → Dec (OneStroke which r)
up_only which r (no n) _ = no (λ o. n o.0)
up_only which r (yes t) (yes e) = yes (t, e)
up_only which r (yes t) (no d) = no (λ o. d o.1)

pub some_answer : (which : Index) (r : Run) → (a : Answer) × Due which r a
some_answer which r = go (ℕ_discrete (verdict r).number 0)
  where
    accepted : (verdict r).number ≡ 0 → Dec (BelowZero which r) → Dec (OneStroke which r) → Dec (OneCycle which r) → (a : Answer) × Due which r a
    accepted e (yes b) _ _ = (refused 15 0, case_due (below_zero e b refl))
    accepted e (no n) (yes u) _ = (refused 16 0, case_due (one_stroke e n u refl))
    accepted e (no n) (no u) (yes o) = (refused 13 0, case_due (one_cycle e n u o refl))
    accepted e (no n) (no u) (no more) = let g = some_given (checked r e) which n more in (g.0, case_due (given e n u more g.1))

    go : Dec ((verdict r).number ≡ 0) → (a : Answer) × Due which r a
    go (yes e) = accepted e (below which (checked r e) (asked (from_zero which))) (up_only which r (asked (needs_down which)) (ℕ_discrete r.strokes 1)) (once which r (asked (scatters which)) (ℕ_discrete r.n 1))
    go (no n) = (refused (verdict r).number (verdict r).place, case_due (no_run n refl))
