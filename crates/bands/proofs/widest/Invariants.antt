-- `bands::widest` meets its contract. The sum kept is the largest of the widths so far.
use Rattle.bands.specs.Lent.{width_in}
use Rattle.bands.specs.BandLaws.{Widest}
use Rattle.bands.proofs.widest.Given as goal

abbrev pub invariant-loop-i : goal.invariant-loop-i
invariant-loop-i l = Widest (width_in l.w l.up l.down) l.m l.i l.s.count
