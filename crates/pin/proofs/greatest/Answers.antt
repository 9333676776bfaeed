-- `pin::greatest` meets its contract: before each turn the pairs of the inputs up to i with later ones are tried, and at the end every pair is, in one order.
use mathlib.Core.Path.{◌≡◌, subst}
use Prim.Native.Nat.{ℕ}
use native.Mathlib.Omega.{arith}
use Rattle.band.specs.Band.{lent}
use Rattle.pin.specs.Search.{Firsts}
use Rattle.pin.specs.SearchLaws.{firsts_none, firsts_more, found}
use Rattle.pin.proofs.greatest.Goals as goal

pub loop-i-init : goal.loop-i-init
loop-i-init c = firsts_none c.requires.1 c.pair_of-best.ensures.paired

pub loop-i-preserved : goal.loop-i-preserved
loop-i-preserved c = firsts_more c.loop-i.invariant c.over_partners-best.ensures

pub returns : goal.returns
returns c =
    let l = c.loop-i in
    let a = c.args in
    let e : l.i ≡ a.m = omega (arith, c.requires.1.most, c.requires.0.admitted.three) in
    found (subst (λ (n : ℕ). Firsts (lent a.m a.d a.x.now a.low.now a.high.now) a.p n l.best) e l.invariant)
