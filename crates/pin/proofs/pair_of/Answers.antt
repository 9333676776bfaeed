-- `pin::pair_of` meets its contract: the numbers of two inputs are of bounded size, and their fraction is that of the pair.
use mathlib.Core.Path.{ap₂, ◌∙◌}
use borrow.Author.Rules.{rules}
use lib.IntN.{ℤ}
use mir.Facts.{to_z-of_z}
use Rattle.band.specs.Band.{lent}
use Rattle.band.specs.Line.{Points}
use Rattle.whole.specs.Machine.{stored}
use Rattle.pin.specs.Pair.{rise}
use Rattle.pin.specs.Search.{ordered}
use Rattle.pin.specs.SearchLaws.{told_pair}
use mir.Syntax.{w64}
use Rattle.pin.proofs.pair_of.Goals.{Start}
use Rattle.pin.proofs.pair_of.Goals as goal

abbrev P : Start → Points
P s = lent s.args.m s.args.d s.args.x.now s.args.low.now s.args.high.now

pub returns : goal.returns
returns c =
    let p = c.args.p in
    let a_is = to_z-of_z {w = w64} (search rules) ∙ c.rise_of.ensures.value in
    let b_is = to_z-of_z {w = w64} (search rules) ∙ c.rise_of-2.ensures.value in
    let k-is = to_z-of_z {w = w64} (search rules) ∙ c.ahead_of.ensures.value in
    let n_is = to_z-of_z {w = w64} (search rules) ∙ c.ahead_of-2.ensures.value in
    told_pair c.requires.0 c.requires.1
    (c.paired.ensures
    ∙ ap₂ (λ (a b : ℤ). ordered c.args.i c.args.j a b (stored c.ahead_of.result) (stored c.ahead_of-2.result)) a_is b_is
    ∙ ap₂ (ordered c.args.i c.args.j (rise (P (goal.at.returns c).Start) p.v.count c.args.i) (rise (P (goal.at.returns c).Start) p.v.count c.args.j)) k-is n_is)
