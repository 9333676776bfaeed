-- `due::shown_line` meets its contract: numbers of bounded size, so that each is what was stored.
use Rattle.std.proofs.Common.{◌*◌, ℕ, ℤ, nat_abs, ap, ◌∙◌, subst, rules}
use Rattle.whole.specs.Machine.{stored, stored_is}
use Rattle.exact.specs.Value.{Made}
use Rattle.due.proofs.shown_line.Goals as goal

pub returns : goal.returns
returns c =
    let b = c.args.b in
    let size = c.unsigned_abs.ensures.value ∙ ap nat_abs (stored_is b.a 412000000 c.requires.0.a_most tt) in
    let num = stored_is b.num 184467440737095 c.requires.0.num_most tt in
    record {
      flat = λ e. search rules;
      sloping = λ n. search rules;
      index = subst (λ (z : ℤ). Made z (b.unit * (nat_abs b.a * c.args.span)) c.lowest-index.result) num (subst (λ (n : ℕ). Made (stored b.num) (b.unit * (n * c.args.span)) c.lowest-index.result) size c.lowest-index.ensures.made);
      thousandths = c.percent_of.ensures;
      told = search rules;
    }
