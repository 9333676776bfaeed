-- `fit::single` meets its contract: the input that was found is the greatest candidate; where another has its gap the line through both middles is the one, and where none has, every other candidate is less.
use mathlib.Core.Path.{◌≡◌, sym, subst}
use Prim.Native.Nat.{◌<◌, ◌≤◌}
use native.Mathlib.Omega.{arith}
use lib.IntN.{ℤ, nat_abs}
use Rattle.whole.specs.Every.{FirstNot}
use Rattle.whole.specs.Machine.{stored}
use Rattle.band.specs.Line.{Points}
use Rattle.band.specs.Candidate.{one, num, Greatest}
use Rattle.band.specs.Band.{lent}
use Rattle.search.specs.Twin.{apart}
use Rattle.search.specs.SearchSize.{num_size}
use Rattle.search.specs.TwinLaws.{twin_other, twin_same, alone}
use Rattle.fit.specs.Parts.{ReachParts}
use Rattle.fit.specs.Ends.{most_e}
use Rattle.fit.specs.Plot.{line_plotted, several_plotted}
use Rattle.fit.specs.PartsLaws.{tells_parts, tells_wide}
use Rattle.fit.specs.BestLaws.{near, found_is, num_is, pair_best, greatest_twin, several_best}
use Rattle.fit.proofs.single.Goals.{Else-i-j, Else-j-m, Start}
use Rattle.fit.proofs.single.Goals as goal

abbrev points : Start → Points
points s = let a = s.args in lent a.m a.d a.x.now a.low.now a.high.now

greatest : (s : Start) → Greatest (points s) (one s.args.i)
greatest s = found_is s.requires.1 s.requires.2

width : (s : Start) → stored s.args.top.num ≡ num (points s) (one s.args.i)
width s = num_is s.requires.1 s.requires.2 s.requires.0

size : (s : Start) → nat_abs (num (points s) (one s.args.i)) ≤ most_e
size s = num_size s.requires.0 (one s.args.i) (greatest s).fits

-- another input was found
other : (c : Else-j-m) → c.twin-j.result < c.args.m
other c = omega (arith, c.twin-j.ensures.reach, c.if-j-m.false)

below : (c : Else-i-j) → c.twin-j.result < c.args.i
below c =
    let n : c.args.i ≡ c.twin-j.result → ⊥ = twin_other (points c.before.before.before) c.args.i c.twin-j.ensures (other c.before) in
    omega (arith, c.if-i-j.false, n)

pub returns-then-j-m : goal.returns-then-j-m
returns-then-j-m c =
    let m = c.args.m in
    let i = c.args.i in
    let none : FirstNot m (apart (points (goal.at.returns-then-j-m c).Start) i) m = subst (FirstNot m (apart (points (goal.at.returns-then-j-m c).Start) i)) c.if-j-m.true c.twin-j.ensures in
    let p = subst (λ (z : ℤ). ReachParts z c.args.d c.only.result) (width (goal.at.returns-then-j-m c).Start) c.only.ensures in
    several_plotted (λ k t. (c.requires.0, several_best c.requires.0 i (greatest (goal.at.returns-then-j-m c).Start) (alone c.requires.1 i c.requires.2 none) (tells_wide p t) (size (goal.at.returns-then-j-m c).Start)))

pub returns-then-i-j : goal.returns-then-i-j
returns-then-i-j c =
    let i = c.args.i in
    line_plotted (λ f u. (c.requires.0, pair_best c.requires.0.proper (near c.requires.0) i c.twin-j.result c.if-i-j.true (other (goal.at.returns-then-i-j c).Else-j-m) (greatest (goal.at.returns-then-i-j c).Start) (sym (twin_same (points (goal.at.returns-then-i-j c).Start) i c.twin-j.ensures (other (goal.at.returns-then-i-j c).Else-j-m))) (tells_parts c.middles.ensures u)))

pub returns-else-i-j : goal.returns-else-i-j
returns-else-i-j c =
    let i = c.args.i in
    let q = twin_same (points (goal.at.returns-else-i-j c).Start) i c.twin-j.ensures (other (goal.at.returns-else-i-j c).Else-j-m) in
    line_plotted (λ f u. (c.requires.0, pair_best c.requires.0.proper (near c.requires.0) c.twin-j.result i (below (goal.at.returns-else-i-j c).Else-i-j) (greatest (goal.at.returns-else-i-j c).Start).fits (greatest_twin q (other (goal.at.returns-else-i-j c).Else-j-m) (greatest (goal.at.returns-else-i-j c).Start)) q (tells_parts c.middles-else-i-j.ensures u)))
