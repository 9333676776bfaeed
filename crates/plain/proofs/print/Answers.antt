-- `plain::print` meets its contract: the lengths are compared before anything is stored.
use mathlib.Core.Path.{ap, ◌∙◌}
use Prim.Native.Nat.{ℕ}
use native.Mathlib.Nat.{zero-add}
use borrow.Author.Tests.{le-ltb}
use lib.ListN.{length}
use Rattle.whole.specs.Stores.{sets_front}
use Rattle.plain.proofs.print.Goals as goal

pub returns : goal.returns
returns c =
    let a = c.args in
    let t = le-ltb (length a.out.now) (length a.s.now) c.if-out-s.false in
    record { answer = simp t (ap (λ (k : ℕ). record { number = 0; len = k }) (c.copy.ensures.0 ∙ zero-add (length a.s.now))); after = simp t (c.copy.ensures.1 ∙ sets_front a.s.now a.out.now c.if-out-s.false) }
