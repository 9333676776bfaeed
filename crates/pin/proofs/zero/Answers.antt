-- `pin::zero` meets its contract: the inputs rise, so none is negative where the first is not.
use mathlib.Core.Path.{◌≡◌, sym, ap, ◌∙◌}
use native.Mathlib.Omega.{arith}
use lib.IntN.{pos}
use lib.ListN.{get_or}
use lib.Signed.{lt_z, lt_z_yes, lt_z_no, clash_ℤ}
use Rattle.whole.specs.Flags.{yes-T, no-T}
use Rattle.units.specs.declared.Input.{Input}
use Rattle.units.specs.Laws.{lt_is}
use Rattle.band.specs.Line.{Points, OneValue}
use Rattle.band.specs.Band.{lent, Admitted}
use Rattle.band.specs.AdmitLaws.{drawn_yes, drawn_no}
use Rattle.pin.specs.PairLaws.{beyond_first}
use Rattle.pin.proofs.zero.Goals.{After-lt, Else-not-is_drawn, Start, then-not-is_drawn-via-then-not-is_drawn, then-not-is_drawn-via-else-not-is_drawn+then-lt}
use Rattle.pin.proofs.zero.Goals as goal

abbrev P : Start → Points
P s = let a = s.args in lent a.m a.d a.x.now a.low.now a.high.now

drawn : (c : Else-not-is_drawn) → let Q = P c.before.before in Admitted Q × OneValue Q
drawn c = drawn_yes (P c.before.before) (sym c.is_drawn.ensures ∙ c.if-not-is_drawn.false)

-- the first input was held against 0
test : (c : After-lt) → lt_z (get_or c.args.x.now 0 (pos 0)) (pos 0) ≡ c.lt.result
test c = sym (c.lt.ensures ∙ lt_is c.input_at.result.count (pos 0) ∙ ap (λ (u : Input). lt_z u.count (pos 0)) c.input_at.ensures)

pub returns-then-not-is_drawn : goal.returns-then-not-is_drawn
returns-then-not-is_drawn c = λ a level h. elim c.then-not-is_drawn.branch [
  | then-not-is_drawn-via-then-not-is_drawn w ↦ drawn_no (P (goal.at.returns-then-not-is_drawn c).Start) (sym c.is_drawn.ensures ∙ w.if-not-is_drawn.true) a level
  | then-not-is_drawn-via-else-not-is_drawn+then-lt w ↦ clash_ℤ (lt_z_yes (yes-T (sym (w.lt.ensures ∙ lt_is w.input_at.result.count (pos 0) ∙ ap (λ (u : Input). lt_z u.count (pos 0)) w.input_at.ensures) ∙ w.if-lt.true))) (h 0 (omega (arith, a.three)))
]

pub zero_of-requires : goal.zero_of-requires
zero_of-requires c =
    let d = drawn (goal.at.zero_of-requires c).Else-not-is_drawn in
    (d.0, d.1, beyond_first d.0.proper (lt_z_no (no-T (test (goal.at.zero_of-requires c).After-lt ∙ c.if-lt.false))))
