-- `pin::start_of` meets its contract: the inputs rise, so all lie beyond the fixed point where the first does, and else all but the first.
use mathlib.Core.Path.{◌≡◌, sym, ap, ◌∙◌}
use lib.IntN.{pos}
use lib.ListN.{get_or}
use lib.Signed.{lt_z, lt_z_yes}
use Rattle.whole.specs.Flags.{yes-T}
use Rattle.units.specs.declared.Input.{Input}
use Rattle.units.specs.Laws.{lt_is}
use Rattle.pin.specs.SearchLaws.{start_first}
use Rattle.pin.proofs.start_of.Goals.{After-lt}
use Rattle.pin.proofs.start_of.Goals as goal

-- what was tested
test : (c : After-lt) → let a = c.args in lt_z a.p.x.count (get_or a.x.now 0 (pos 0)) ≡ c.lt.result
test c = sym (c.lt.ensures ∙ lt_is c.args.p.x.count c.input_at.result.count ∙ ap (λ (u : Input). lt_z c.args.p.x.count u.count) c.input_at.ensures)

pub returns-then-lt : goal.returns-then-lt
returns-then-lt c = start_first c.requires.0.admitted.proper (lt_z_yes (yes-T (test (goal.at.returns-then-lt c).After-lt ∙ c.if-lt.true)))
