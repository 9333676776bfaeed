-- The size of a value of one side, by a flag in place of the side. Nothing cites it any more; it stands because what stood stays (docs/DESIGN-PASS.md).
use Rattle.std.specs.Prelude.{◌≡◌, Bool, true, false, cond, List, ℕ, ◌≤◌, ℤ, pos, nat_abs, get_or}
use Rattle.std.proofs.Common.{sym, subst}
use Rattle.units.specs.Units.{part_in}
use Rattle.units.specs.declared.Part.{Part}
use Rattle.band.specs.Band.{most_v}

-- a value of one side is as small as those of both are, whichever are the highest
pub side_size : (b : Bool) (these others : List ℤ) (i : ℕ) {v : Part} → nat_abs (get_or (cond b these others) i (pos 0)) ≤ most_v → nat_abs (get_or (cond b others these) i (pos 0)) ≤ most_v → v ≡ part_in these i → nat_abs v.count ≤ most_v
side_size true these others i h l e = subst (λ (v : Part). nat_abs v.count ≤ most_v) (sym e) h
side_size false these others i h l e = subst (λ (v : Part). nat_abs v.count ≤ most_v) (sym e) l
