-- Only one answer is due for an index of a run.
use Rattle.std.specs.Prelude.{◌≡◌, ℕ, ◌*◌, ◌<◌, pos, nat_abs}
use Rattle.std.proofs.Common.{sym, ap, ◌∙◌, subst, arith}
use Rattle.std.proofs.Math.IntN.{ℤ_discrete}
use Rattle.whole.specs.Size.{size_product}
use Rattle.exact.specs.Rounding.{Nearest}
use Rattle.exact.proofs.RoundingOnce.{one_nearest}
use Rattle.exact.specs.declared.Fraction.{Fraction}
use Rattle.run.specs.Checked.{Checked, checked}
use Rattle.run.specs.declared.Run.{Run}
use Rattle.band.specs.Line.{Line}
use Rattle.band.specs.Same.{same_sym}
use Rattle.fit.specs.Once.{made_once}
use Rattle.due.specs.Due.{only_width, span, Stands, Due}
use Rattle.due.specs.OneFit.{OneFit, fits_once, zero_slope, not_both, several_once}
use Rattle.due.specs.Cases.{Counted, Given, several, one_line, Case, no_run, below_zero, one_stroke, one_cycle, given, due_case}
use Rattle.due.specs.Fractions.{none_too, made_same}
use Rattle.due.specs.declared.Answer.{Answer}
use Rattle.due.specs.declared.Index.{Index}

-- ---- answers with a line
nearest_once : {f h : Fraction} {s t : ℕ} → f ≡ h → Nearest (100000 * nat_abs f.num) f.den s → Nearest (100000 * nat_abs h.num) h.den t → s ≡ t
nearest_once {s = s} e a b = one_nearest (subst (λ (f : Fraction). Nearest (100000 * nat_abs f.num) f.den s) e a) b

module _ {r : Run} {L M : Line} {w z w' z' : ℕ} {a b : Answer} (some : 0 < z) (some' : 0 < z') (s : OneFit L M w z w' z') (C : Counted L a) (D : Counted M b) (A : Stands r L w z a) (B : Stands r M w' z' b) where
  number_once : Dec (L.a ≡ pos 0) → a.number ≡ b.number
  number_once (yes e) = C.flat e ∙ sym (D.flat (zero_slope s.line e))
  number_once (no d) = C.sloping d ∙ sym (D.sloping (λ e. d (zero_slope (same_sym s.line) e)))

  slopes : nat_abs L.a * M.q ≡ nat_abs M.a * L.q
  slopes = sym (size_product L.a (pos M.q)) ∙ ap nat_abs s.line.slope ∙ size_product M.a (pos L.q)

  crossed : w * L.q * (z' * (nat_abs M.a * span r)) ≡ w' * M.q * (z * (nat_abs L.a * span r))
  crossed = omega (arith, ap (λ (t : ℕ). t * (L.q * nat_abs M.a * span r)) s.width, ap (λ (t : ℕ). w' * z * span r * t) slopes)

  index_once : a.index ≡ b.index
  index_once =
      made_same A.index B.index
      (none_too z z' (nat_abs L.a) (nat_abs M.a) (span r) L.q M.q some L.some slopes)
      (none_too z' z (nat_abs M.a) (nat_abs L.a) (span r) M.q L.q some' M.some (sym slopes))
      (ap pos crossed)

  stands_once : a ≡ b
  stands_once =
      let number = number_once (ℤ_discrete L.a (pos 0)) in
      let place = C.place ∙ sym D.place in
      let width = made_once A.width B.width some some' (ap pos s.width) in
      let slope = made_once A.slope B.slope L.some M.some s.line.slope in
      let offset = made_once A.offset B.offset L.some M.some s.line.offset in
      let thousandths = nearest_once index_once A.thousandths B.thousandths in
      λ i. record { number = number i; place = place i; width = width i; slope = slope i; offset = offset i; index = index_once i; thousandths = thousandths i }

-- ---- one answer
given_once : (which : Index) {r : Run} → Checked r → {a b : Answer} → Given which r a → Given which r b → a ≡ b
given_once which {r} c (several w z some m u e) (several w' z' some' m' v f) = e ∙ ap only_width (made_once u v some some' (ap pos (several_once which r w z w' z' m m'))) ∙ sym f
given_once which {r} c (several w z some m u e) (one_line L w' z' some' f C A) = absurd (not_both which r L w z w' z' m f)
given_once which {r} c (one_line L w z some f C A) (several w' z' some' m u e) = absurd (not_both which r L w' z' w z m f)
given_once which c (one_line L w z some f C A) (one_line M w' z' some' h D B) = stands_once some some' (fits_once which c f h) C D A B

one_case : (which : Index) (r : Run) {a b : Answer} → Case which r a → Case which r b → a ≡ b
one_case which r (no_run h e) (no_run i f) = e ∙ sym f
one_case which r (no_run h e) (below_zero v b f) = absurd (h v)
one_case which r (no_run h e) (one_stroke v n s f) = absurd (h v)
one_case which r (no_run h e) (one_cycle v n s o f) = absurd (h v)
one_case which r (no_run h e) (given v n s o g) = absurd (h v)
one_case which r (below_zero v b e) (no_run h f) = absurd (h v)
one_case which r (below_zero v b e) (below_zero u c f) = e ∙ sym f
one_case which r (below_zero v b e) (one_stroke u n s f) = absurd (n b)
one_case which r (below_zero v b e) (one_cycle u n s o f) = absurd (n b)
one_case which r (below_zero v b e) (given u n s o g) = absurd (n b)
one_case which r (one_stroke v n s e) (no_run h f) = absurd (h v)
one_case which r (one_stroke v n s e) (below_zero u b f) = absurd (n b)
one_case which r (one_stroke v n s e) (one_stroke u k t f) = e ∙ sym f
one_case which r (one_stroke v n s e) (one_cycle u k t p f) = absurd (t s)
one_case which r (one_stroke v n s e) (given u k t p g) = absurd (t s)
one_case which r (one_cycle v n s o e) (no_run h f) = absurd (h v)
one_case which r (one_cycle v n s o e) (below_zero u b f) = absurd (n b)
one_case which r (one_cycle v n s o e) (one_stroke u k t f) = absurd (s t)
one_case which r (one_cycle v n s o e) (one_cycle u k t p f) = e ∙ sym f
one_case which r (one_cycle v n s o e) (given u k t p g) = absurd (p o)
one_case which r (given v n s o g) (no_run h f) = absurd (h v)
one_case which r (given v n s o g) (below_zero u b f) = absurd (n b)
one_case which r (given v n s o g) (one_stroke u k t f) = absurd (s t)
one_case which r (given v n s o g) (one_cycle u k t p f) = absurd (o p)
one_case which r (given v n s o g) (given u k t p h) = given_once which (checked r v) g h

pub one_answer : (which : Index) (r : Run) {a b : Answer} → Due which r a → Due which r b → a ≡ b
one_answer which r d e = one_case which r (due_case d) (due_case e)
