-- What is told of what an index stands on is the answer that is due; and which index neither 15, 16 nor 13 refuses.
use Rattle.std.specs.Prelude.{◌≡◌, refl, false, ℕ, ◌*◌, ◌<◌, ◌≤◌, T, ℤ, pos, nat_abs, ◌*ℤ◌}
use Rattle.std.proofs.Common.{sym, ap, ◌∙◌, subst, ⊎_elim, mul-pos, arith}
use Rattle.whole.specs.Sign.{nat_nonneg}
use Rattle.exact.specs.Value.{Made, nought}
use Rattle.exact.specs.Rounding.{Told}
use Rattle.exact.specs.Exists.{some_made}
use Rattle.run.specs.Checks.{verdict}
use Rattle.run.specs.Checked.{checked}
use Rattle.run.specs.declared.Run.{Run}
use Rattle.due.specs.Due.{refused, only_width, span, Stands, from_zero, needs_down, scatters, Due}
use Rattle.due.specs.Cases.{Counted, Given, several, one_line, below_zero, one_stroke, one_cycle, given, case_due}
use Rattle.due.specs.Fractions.{none_right, made_alike}
use Rattle.due.specs.Ground.{AnswerParts, shown, ruled, Ready, ShownBy, LineBy, AnswerBy, line, Rests, Answered, GroundDue}
use Rattle.due.specs.declared.Answer.{Answer}
use Rattle.due.specs.declared.Based.{Based}
use Rattle.due.specs.declared.Ground.{Ground}
use Rattle.due.specs.declared.Ground.TheVariants as ground
use Rattle.due.specs.declared.Index.{Index}
use Rattle.due.specs.declared.Ruled.{Ruled}
use Rattle.due.specs.declared.Shown.{Shown}

-- z·t is zero where t is
none_left : (z t : ℕ) → t ≡ 0 → z * t ≡ 0
none_left z t e = omega (arith, ap (λ (n : ℕ). z * n) e)

module _ {which : Index} {r : Run} {b : Based} (h : Rests which r b) {a : Answer} (p : AnswerParts b (span r) a) where
  abbrev rise : ℕ
  rise = nat_abs b.a * span r

  num_is : b.num ≡ pos (nat_abs b.num)
  num_is = sym (nat_nonneg h.tellable.sign)

  part_some : 0 < b.unit * b.q
  part_some = mul-pos h.tellable.unit h.tellable.some

  width : Made (pos h.w) h.z a.width
  width =
      made_alike p.width
      (λ e. absurd (omega (arith, part_some)))
      (λ e. absurd (omega (arith, h.some)))
      (ap (λ (n : ℤ). n *ℤ pos h.z) num_is ∙ ap pos (sym h.is))

  index : Made (pos (h.w * b.q)) (h.z * rise) a.index
  index =
      made_alike p.shows.index
      (λ e. none_left h.z rise (none_right b.unit rise h.tellable.unit e))
      (λ e. none_left b.unit rise (none_right h.z rise h.some e))
      (ap (λ (n : ℤ). n *ℤ pos (h.z * rise)) num_is ∙ ap pos crossed)
    where
      crossed : nat_abs b.num * (h.z * rise) ≡ h.w * b.q * (b.unit * rise)
      crossed = omega (arith, ap (λ (n : ℕ). n * rise) h.is)

  stands : Stands r (line b h.tellable.some) h.w h.z a
  stands = record {
    width = width;
    slope = p.line.slope;
    offset = p.line.offset;
    index = index;
    thousandths = p.shows.thousandths;
  }

  counted : Counted (line b h.tellable.some) a
  counted = record { flat = p.shows.flat; sloping = p.shows.sloping; place = p.place }

  pub rests_given : Given which r a
  rests_given = one_line (line b h.tellable.some) h.w h.z h.some h.fits counted stands

-- ---- an index that neither 15, 16 nor 13 refuses
pub plainly : (which : Index) {r : Run} → from_zero which ≡ false → needs_down which ≡ false → scatters which ≡ false → (verdict r).number ≡ 0 → Answered which r
plainly which e u f v = record { fine = v; from_zero = λ h. absurd (subst T e h.asked); strokes = λ h. absurd (subst T u h.0); cycles = λ h. absurd (subst T f h.0) }

-- where limits are asked for, the run has two cycles or more
pub cycles_two : (which : Index) {r : Run} → T (scatters which) → Answered which r → 2 ≤ r.n
cycles_two which {r} t o = let n = (checked r o.fine).n_least in let e : r.n ≡ 1 → ⊥ = λ e. o.cycles (t, e) in omega arith

-- ---- the answer
pub ground_ready : (which : Index) (r : Run) (g : Ground) → GroundDue which r g → Ready g
ground_ready which r (ground.Line b) d = d.1.tellable
ground_ready which r (ground.Several h) d = tt
ground_ready which r (ground.Refused k) d = tt

pub answered_given : {which : Index} {r : Run} {a : Answer} → Answered which r → Given which r a → Due which r a
answered_given o g = case_due (given o.fine o.from_zero o.strokes o.cycles g)

pub ground_answer : (which : Index) (r : Run) (g : Ground) {a : Answer} → GroundDue which r g → AnswerBy g (span r) a → Due which r a
ground_answer which r (ground.Line b) d p = answered_given d.0 (rests_given d.1 p)
ground_answer which r (ground.Several h) {a} d p =
    let w = subst (λ (n : ℤ). Made n h.q a.width) (sym (nat_nonneg d.2)) p.0 in
    answered_given d.0 (several (nat_abs h.w) h.q d.1 d.3 w p.1)
ground_answer which r (ground.Refused k) {a} d p =
    ⊎_elim
    (λ e. case_due (below_zero d.0 e.1 (p ∙ ap (λ (n : ℕ). refused n 0) e.0)))
    (⊎_elim
    (λ e. case_due (one_stroke d.0 e.1 e.2 (p ∙ ap (λ (n : ℕ). refused n 0) e.0)))
    (λ e. case_due (one_cycle d.0 e.1 e.2 e.3 (p ∙ ap (λ (n : ℕ). refused n 0) e.0))))
    d.1

-- and its index may be told in thousandths of one percent
nought_told : Told nought
nought_told = record { sign = record { le = tt }; size = omega arith; den = omega arith }

pub ground_told : (g : Ground) (span : ℕ) (a : Answer) → AnswerBy g span a → Told a.index
ground_told (ground.Line b) span a p = p.shows.told
ground_told (ground.Several h) span a p = subst Told (sym (ap (λ (a : Answer). a.index) p.1)) nought_told
ground_told (ground.Refused k) span a p = subst Told (sym (ap (λ (a : Answer). a.index) p)) nought_told

pub refused_told : (number place : ℕ) (a : Answer) → a ≡ refused number place → Told a.index
refused_told number place a e = subst Told (sym (ap (λ (a : Answer). a.index) e)) nought_told

-- ---- what is shown is shown of the answer that is due
pub record ShownDue (which : Index) (r : Run) (s : Shown) : Type 0 where
  pub answer : Answer
  pub due : Due which r answer
  pub is : s ≡ shown answer

-- and so is its line
pub record Shows (which : Index) (r : Run) (s : Shown) (l : Ruled) : Type 0 where
  pub told : ShownDue which r s
  pub line : l ≡ ruled told.answer

pub ground_shows : (which : Index) (r : Run) (g : Ground) {s : Shown} {l : Ruled} → GroundDue which r g → ShownBy g (span r) s → LineBy g l → Shows which r s l
ground_shows which r (ground.Line b) {s} {l} d p q =
    let w = some_made b.num (b.unit * b.q) in
    let a : Answer = record { number = s.number; place = 0; width = w.0; slope = l.slope; offset = l.offset; index = s.index; thousandths = s.thousandths } in
    record { told = record { answer = a; due = ground_answer which r (ground.Line b) {a = a} d (record { shows = p; line = q; place = refl; width = w.1 }); is = refl }; line = refl }
ground_shows which r (ground.Several h) d p q =
    let w = some_made h.w h.q in
    let a : Answer = only_width w.0 in
    record { told = record { answer = a; due = ground_answer which r (ground.Several h) {a = a} d (w.1, refl); is = p }; line = q }
ground_shows which r (ground.Refused k) d p q = record { told = record { answer = refused k 0; due = ground_answer which r (ground.Refused k) {a = refused k 0} d refl; is = p }; line = q }

-- some line is there, so that nobody who shows none need make one
some_line : (g : Ground) → (l : Ruled) × LineBy g l
some_line (ground.Line b) =
    let s = some_made b.a b.q in
    let o = some_made b.b b.q in
    (record { slope = s.0; offset = o.0 }, record { slope = s.1; offset = o.1 })
some_line (ground.Several h) = (record { slope = nought; offset = nought }, refl)
some_line (ground.Refused k) = (record { slope = nought; offset = nought }, refl)

pub ground_shown : (which : Index) (r : Run) (g : Ground) {s : Shown} → GroundDue which r g → ShownBy g (span r) s → ShownDue which r s
ground_shown which r g d p = (ground_shows which r g d p (some_line g).1).told
