-- Only one answer fits each public statement of this crate; with one value at each input one line is the best; and the shifted line is the terminal line moved.
use Rattle.std.specs.Prelude.{◌≡◌, ℕ, ◌*◌, ◌<◌, ℤ, pos, nat_abs, ◌*ℤ◌, ◌≤ℤ◌}
use Rattle.std.proofs.Common.{sym, ap, ◌∙◌}
use Rattle.whole.specs.Sign.{positive_nat, nat_nonneg}
use Rattle.exact.specs.Value.{Made}
use Rattle.exact.specs.Once.{same_terms}
use Rattle.exact.specs.declared.Fraction.{Fraction}
use Rattle.band.specs.Line.{Line, Points, Proper, OneValue, Parallel, Largest, Same, Terminal}
use Rattle.band.specs.Same.{through, same_sym, same_within, exclusive, width_same}
use Rattle.band.specs.Largest.{largest_same}
use Rattle.band.specs.Least.{least, all_single}
use Rattle.band.specs.Terminal.{terminal_same}
use Rattle.band.specs.Shift.{Range, moved, moved_parallel, moved_within, moved_least, moved_single, shift_wide, shift_part}
use Rattle.fit.specs.Answer.{Told, line_of, TheLine, OnlyWidth, BestDue, TerminalDue, TheShifted, ShiftedDue}
use Rattle.fit.specs.Scaled.{within_alike, several_alike, parallel_same, least_family, single_family}
use Rattle.search.specs.Exists.{some_greatest}
use Rattle.fit.specs.declared.Fit.{Fit}
use Rattle.fit.specs.declared.Wide.{Wide}
use Rattle.fit.specs.declared.Drawn.{Drawn}
use Rattle.fit.specs.declared.Drawn.TheVariants as drawn

-- the three fractions are the same
pub record OneLine (f h : Fit) : Type 0 where
  pub width : f.width ≡ h.width
  pub slope : f.slope ≡ h.slope
  pub offset : f.offset ≡ h.offset

-- two answers are of one variant and have the same fractions
abbrev pub Agree : Drawn → Drawn → Type 0
Agree (drawn.Line f) (drawn.Line h) = OneLine f h
Agree (drawn.Several f) (drawn.Several h) = f.width ≡ h.width
Agree drawn.Improper drawn.Improper = Unit {0}
Agree (drawn.Line f) (drawn.Several h) = ⊥
Agree (drawn.Line f) drawn.Improper = ⊥
Agree (drawn.Several f) (drawn.Line h) = ⊥
Agree (drawn.Several f) drawn.Improper = ⊥
Agree drawn.Improper (drawn.Line h) = ⊥
Agree drawn.Improper (drawn.Several h) = ⊥

-- ---- fractions
pub made_once : {n m : ℤ} {p q : ℕ} {f h : Fraction} → Made n p f → Made m q h → 0 < p → 0 < q → n *ℤ pos q ≡ m *ℤ pos p → f ≡ h
made_once {n} {m} {p} {q} {f} {h} a b hp hq e =
    same_terms a.lowest b.lowest
    (through f.num m h.num (pos q) (pos f.den) (pos h.den) (positive_nat hq) (through f.num n m (pos p) (pos f.den) (pos q) (positive_nat hp) (a.worth hp) e) (sym (b.worth hq)))

-- widths that are not negative
pub wide_once : {n m : ℤ} {p q : ℕ} {f h : Fraction} → Made n p f → Made m q h → 0 < p → 0 < q → pos 0 ≤ℤ n → pos 0 ≤ℤ m → nat_abs n * q ≡ nat_abs m * p → f ≡ h
wide_once {n} {m} {p} {q} a b hp hq hn hm e = made_once a b hp hq (ap (λ (z : ℤ). z *ℤ pos q) (sym (nat_nonneg hn)) ∙ ap pos e ∙ ap (λ (z : ℤ). z *ℤ pos p) (nat_nonneg hm))

-- the line and the width are one
told_once : {f h : Fit} (a : Told f) (b : Told h) → nat_abs f.w * h.q ≡ nat_abs h.w * f.q → Same (line_of f a.some) (line_of h b.some) → OneLine f h
told_once a b e s = record {
  width = wide_once a.width b.width a.some b.some a.sign b.sign e;
  slope = made_once a.slope b.slope a.some b.some s.slope;
  offset = made_once a.offset b.offset a.some b.some s.offset;
}

-- ---- the line of least largest deviation in a family
pub line_once : {F : Line → Type 0} {P : Points} {f h : Fit} → TheLine F P f → TheLine F P h → OneLine f h
line_once {F} {P} {f} {h} a b =
    let e = width_same b.least a.least in
    told_once a.told b.told (sym e) (a.single _ _ a.member b.member a.reached (within_alike (record { some = b.told.some; some' = a.told.some; is = e }) b.reached))

pub not_both : {F : Line → Type 0} {P : Points} {f : Fit} {h : Wide} → TheLine F P f → OnlyWidth F P h → ⊥
not_both a b = exclusive a.single (several_alike (record { some = b.some; some' = a.told.some; is = width_same b.least a.least }) b.several)

-- `best`
pub one_best : (P : Points) (r s : Drawn) → BestDue P r → BestDue P s → Agree r s
one_best P (drawn.Line f) (drawn.Line h) a b = line_once a.1 b.1
one_best P (drawn.Line f) (drawn.Several h) a b = not_both a.1 b.1
one_best P (drawn.Line f) drawn.Improper a b = b a.0
one_best P (drawn.Several f) (drawn.Line h) a b = not_both b.1 a.1
one_best P (drawn.Several f) (drawn.Several h) a b = wide_once a.1.width b.1.width a.1.some b.1.some a.1.sign b.1.sign (width_same a.1.least b.1.least)
one_best P (drawn.Several f) drawn.Improper a b = b a.0
one_best P drawn.Improper (drawn.Line h) a b = a b.0
one_best P drawn.Improper (drawn.Several h) a b = a b.0
one_best P drawn.Improper drawn.Improper a b = tt

-- `terminal`
pub same_largest : {P : Points} {L M : Line} {w z : ℕ} → Same L M → Largest P L w z → Largest P M w z
same_largest e A = record { some = A.some; within = same_within e A.within; least = λ w' z' h W. A.least w' z' h (same_within (same_sym e) W) }

pub one_terminal : (P : Points) (r s : Drawn) → TerminalDue P r → TerminalDue P s → Agree r s
one_terminal P (drawn.Line f) (drawn.Line h) a b =
    let A = a.2 in
    let B = b.2 in
    let e = terminal_same a.0.proper (line_of f A.told.some) (line_of h B.told.some) A.ends B.ends in
    told_once A.told B.told (largest_same (same_largest e A.largest) B.largest) e
one_terminal P (drawn.Line f) drawn.Improper a b = b a.0 a.1
one_terminal P drawn.Improper (drawn.Line h) a b = a b.0 b.1
one_terminal P drawn.Improper drawn.Improper a b = tt
one_terminal P (drawn.Several f) s a b = absurd a
one_terminal P (drawn.Line f) (drawn.Several h) a b = absurd b
one_terminal P drawn.Improper (drawn.Several h) a b = absurd b

-- `shifted`: the best of the terminal line's slope, however that line is written
pub line_along : {P : Points} {f : Fit} → Proper P → TheShifted P f → (T : Line) → Terminal P T → TheLine (Parallel T) P f
line_along {P} {f} proper s T t =
    let e = terminal_same proper s.base T s.terminal t in
    let to = parallel_same e in
    let from = parallel_same (same_sym e) in
    let l = s.line in
    record { told = l.told; member = to (line_of f l.told.some) l.member; reached = l.reached; least = least_family to from l.least; single = single_family to from l.single; unit = l.unit }

pub one_shifted : (P : Points) (r s : Drawn) → ShiftedDue P r → ShiftedDue P s → Agree r s
one_shifted P (drawn.Line f) (drawn.Line h) a b =
    line_once (line_along a.0.proper a.2 b.2.base b.2.terminal) b.2.line
one_shifted P (drawn.Line f) drawn.Improper a b = b a.0 a.1
one_shifted P drawn.Improper (drawn.Line h) a b = a b.0 b.1
one_shifted P drawn.Improper drawn.Improper a b = tt
one_shifted P (drawn.Several f) s a b = absurd a
one_shifted P (drawn.Line f) (drawn.Several h) a b = absurd b
one_shifted P drawn.Improper (drawn.Several h) a b = absurd b

-- ---- one value at each input: never several
pub level_single : (P : Points) → OneValue P → (h : Wide) → BestDue P (drawn.Several h) → ⊥
level_single P level h b =
    let top = some_greatest b.0 in
    let proper = b.0.proper in
    let l = least proper top.0 top.1 in
    exclusive (all_single proper level top.0 top.1) (several_alike (record { some = b.1.some; some' = l.some; is = width_same b.1.least l }) b.1.several)

-- ---- the shifted line and the terminal line T, whose deviations range from lo to hi: the offset is moved by half their sum, and the width is half their difference
pub record Moved (P : Points) (T : Line) (lo hi : ℤ) (some : 0 < 2 * P.d * T.q) (f : Fit) : Type 0 where
  pub told : Told f
  pub line : Same (line_of f told.some) (moved P T lo hi some)
  pub width : nat_abs f.w * shift_part P T ≡ shift_wide lo hi * f.q

pub shifted_moved : {P : Points} {f : Fit} → ShiftedDue P (drawn.Line f) → {T : Line} → Terminal P T → {lo hi : ℤ} → Range P T lo hi → (some : 0 < 2 * P.d * T.q) → Moved P T lo hi some f
shifted_moved {P} {f} due {T} t {lo} {hi} R some =
    let proper = due.0.proper in
    let a = line_along proper due.2 T t in
    let l = moved_least proper R in
    let e = width_same a.least l in
    record {
      told = a.told;
      line = moved_single proper R (line_of f a.told.some) (moved P T lo hi some) a.member (moved_parallel P T lo hi some) (within_alike (record { some = a.told.some; some' = l.some; is = e }) a.reached) (moved_within proper R some);
      width = e;
    }
