-- What the test of limits shows: that the numbers told are the limits of the groups, rounded up.
use Rattle.std.specs.Prelude.{ℕ, T}
use Rattle.std.proofs.Common.{arith}
use Rattle.whole.specs.Every.{every, every_holds}
use Rattle.run.specs.Checked.{Checked, last_there}
use Rattle.run.specs.declared.Run.{Run}
use Rattle.groups.specs.Cut.{LimitsOf}
use Rattle.groups.specs.LimitTest.{smallest, rounded_by}
use Rattle.promises.specs.Tests.{smallests}

pub limits_by : {r : Run} → Checked r → (k : ℕ → ℕ → ℕ) → T (smallests r k) → LimitsOf r k
limits_by {r} c k t s i hs hi =
    let on : ℕ → _ = λ i. every r.strokes (λ s. smallest r s i (k s i)) in
    rounded_by r s i (k s i) (every_holds r.strokes (λ s. smallest r s i (k s i)) (every_holds r.m on t i hi) s (omega (arith, last_there c)))
