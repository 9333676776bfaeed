-- Each figure of the table is the answer that is due.
use Rattle.std.specs.Prelude.{Bool, true, ◌&&◌, List, [], ◌∷◌, T, pos}
use Rattle.std.proofs.Math.Facts.{and_yes}
use Rattle.whole.specs.Every.{every, first_not}
use Rattle.table.specs.Table.{given}
use Rattle.run.specs.Sample.{filled, cycles, written_out}
use Rattle.groups.specs.Sums.{sum_to}
use Rattle.band.specs.Candidate.{one, up, down}
use Rattle.due.specs.Due.{Due}
use Rattle.promises.specs.Figures.{Figure, figures}
use Rattle.promises.specs.Tests.{line, divisor}
use Rattle.promises.specs.Certificate.{Certificate, one_line, zero_several, lh_several, far, ends, best, zero, front, swings, varies, lh, lhr, Limits, certifies}
use Rattle.promises.proofs.CertificateLaws.{certified}

-- P of each
abbrev pub Each : {A : Type 0} → (A → Type 0) → List A → Type 0
Each P [] = Unit {0}
Each P (x ∷ xs) = P x × Each P xs

-- of the paper's run k is 36 at the middle point of the up stroke, and else 0
abbrev pub sample_limits : Limits
sample_limits = record { up = 0 ∷ 36 ∷ 0 ∷ []; down = 0 ∷ 0 ∷ 0 ∷ [] }

-- ---- a certificate for each figure, in the table's order
infixr 20 ◌&◌
abbrev ◌&◌ : {A B : Type 0} → A → B → A × B
a & b = (a, b)

abbrev pub certificates : Each (λ (f : Figure). Certificate f.which) figures
certificates =
    one_line 69 5 (far 3)
    & one_line 97 10 (ends 3 4)
    & one_line 9 1 (best (up 0 3 4))
    & one_line 10 1 (zero 4 3)
    & one_line 72 7 (front 4 3)
    & one_line 206 5 (far 3)
    & one_line 80 3 (best (up 2 3 5))
    & one_line 28 1 (zero 2 3)
    & one_line 137 5 (front 2 3)
    & one_line 6 1 (lh (down 0 1 2))
    & lh_several 6 1 (one 1) (line (pos 10) (pos 2) 1) (line (pos 51) (pos 0) 5)
    & one_line 0 1 (best (up 0 1 2))
    & zero_several 11 1 (line (pos 10) (pos 0) 1) (line (pos 201) (pos 0) 20)
    & one_line 97 1 (far 1)
    & one_line 97 2 (ends 1 0)
    & one_line 97 2 (best (up 0 1 2))
    & one_line 64 1 (zero 2 1)
    & one_line 194 3 (front 2 1)
    & one_line 20 2 (swings 1 (up 0 1 2))
    & one_line 36 2 (varies 1 (up 0 1 2) sample_limits)
    & one_line 52 1 (lh (up 0 1 2))
    & one_line 61 1 (lhr (up 0 1 2) sample_limits)
    & one_line 1 1 (far 1)
    & one_line 3 1 (far 1)
    & one_line 5 1 (far 1)
    & tt

-- ---- the test of the whole table
abbrev all_certified : (fs : List Figure) → Each (λ (f : Figure). Certificate f.which) fs → Bool
all_certified [] cs = true
all_certified (f ∷ fs) cs = certifies f cs.0 && all_certified fs cs.1

-- computed
tested : T (all_certified figures certificates)
unfolding filled cycles written_out sum_to every first_not given divisor
tested = tt

-- ---- what it shows
all_due : (fs : List Figure) (cs : Each (λ (f : Figure). Certificate f.which) fs) → T (all_certified fs cs) → Each (λ (f : Figure). Due f.which f.run f.answer) fs
all_due [] cs t = tt
all_due (f ∷ fs) cs t =
    let s = and_yes (certifies f cs.0) (all_certified fs cs.1) t in
    (certified f cs.0 s.0, all_due fs cs.1 s.1)

pub figures_due : Each (λ (f : Figure). Due f.which f.run f.answer) figures
figures_due = all_due figures certificates tested
