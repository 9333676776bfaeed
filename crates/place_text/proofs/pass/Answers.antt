-- `place_text::pass` meets its contract: the step goes by what stands at the place. The number fits, as it is no higher than the place.
use mathlib.Core.Path.{sym, ◌∙◌}
use Rattle.place_text.specs.Walk.{passed_close, passed_record, passed_ends, passed_strange}
use Rattle.place_text.proofs.pass.Goals as goal

pub returns-then-is_close : goal.returns-then-is_close
returns-then-is_close c =
    let a = c.args in
    passed_close a.s.now a.k a.at _ _ (sym c.in-Ok.ensures) c.mark.ensures (sym c.is_close.ensures ∙ c.if-is_close.true)

pub returns-else-is_close : goal.returns-else-is_close
returns-else-is_close c =
    let a = c.args in
    passed_record a.s.now a.k a.at _ _ (sym c.in-Ok.ensures) c.mark.ensures c.requires.1 (sym c.is_close.ensures ∙ c.if-is_close.false)

pub returns-in-Err-Cut : goal.returns-in-Err-Cut
returns-in-Err-Cut c =
    let a = c.args in
    let e = sym (rw c.in-Err-Cut.field-0-is at c.in-Err-Cut.ensures) in
    rw c.behind.ensures (passed_ends a.s.now a.k a.at c.requires.0 e)

pub returns-in-Err-Unknown : goal.returns-in-Err-Unknown
returns-in-Err-Unknown c =
    let a = c.args in
    let e = sym (rw c.in-Err-Unknown.field-0-is at c.in-Err-Unknown.ensures) in
    passed_strange a.s.now a.k a.at c.requires.0 e
