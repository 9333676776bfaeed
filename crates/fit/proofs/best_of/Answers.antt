-- `fit::best_of` meets its contract: each arm's line is the one that the greatest candidate, which the search found, gives; a chord's numbers are of bounded size.
use mathlib.Core.Path.{refl}
use mathlib.Core.List.{◌∷◌, []}
use native.Mathlib.Omega.{arith}
use lib.IntN.{pos, nat_abs, ◌-ℤ◌}
use Prim.Native.Nat.{◌≤◌}
use mir.Facts.{to_z-of_z}
use Rattle.whole.specs.Poly.{var, lit, ◌⊖◌}
use Rattle.whole.specs.Machine.{stored, sized, size_fits}
use Rattle.band.specs.Band.{lent}
use Rattle.band.specs.Candidate.{up, down}
use Rattle.fit.specs.Ends.{most_e}
use Rattle.fit.specs.Parts.{Chosen}
use Rattle.fit.specs.Plot.{line_plotted}
use Rattle.fit.specs.PartsLaws.{tells_parts}
use Rattle.fit.specs.BestLaws.{near, found_is, num_is, chosen, up_best, down_best}
use Rattle.fit.specs.ChordLaws.{chord_asks, chord_tells}
use Rattle.fit.proofs.best_of.Goals.{In-Up, In-Down, After-through-in-Down}
use Rattle.fit.proofs.best_of.Goals as goal

over_high : (c : In-Up) → let a = c.args in Chosen (lent a.m a.d a.x.now a.low.now a.high.now) c.in-Up.i c.in-Up.k (stored c.greatest-top.result.num)
over_high c =
    let w = c.in-Up in
    let b = c.greatest-top.ensures in
    let top = found_is b w.is in
    chosen c.requires (up w.i w.field-1 w.k) top top.fits (num_is b w.is c.requires)

over_low : (c : In-Down) → let a = c.args in Chosen (lent a.m a.d a.x.now a.low.now a.high.now) c.in-Down.i c.in-Down.k (stored c.greatest-top.result.num)
over_low c =
    let w = c.in-Down in
    let b = c.greatest-top.ensures in
    let top = found_is b w.is in
    chosen c.requires (down w.i w.field-1 w.k) top top.fits (num_is b w.is c.requires)

-- the opposite of the width
opposite : (c : After-through-in-Down) → nat_abs (pos 0 -ℤ stored c.greatest-top.result.num) ≤ most_e
opposite c = sized (stored c.greatest-top.result.num ∷ []) (most_e ∷ []) ((over_low c.before).size, tt) (lit 0 ⊖ var 0) most_e tt

pub overflow_sub-n : goal.overflow_sub-n
overflow_sub-n c = size_fits _ most_e (opposite c) (omega arith)

pub chord-requires : goal.chord-requires
chord-requires c = let asked = chord_asks (over_high c.before) c.through.ensures {s = stored c.greatest-top.result.num} refl refl (over_high c.before).size in record { bounds = asked.0; over = asked.1 }

pub chord-requires-in-Down : goal.chord-requires-in-Down
chord-requires-in-Down c = let asked = chord_asks (over_low c.before) c.through-in-Down.ensures (to_z-of_z (overflow_sub-n c)) refl (opposite c) in record { bounds = asked.0; over = asked.1 }

pub returns-in-Up : goal.returns-in-Up
returns-in-Up c =
    let w = c.in-Up in
    let a = c.requires in
    let b = c.greatest-top.ensures in
    let p = chord_tells (over_high c.before.before) c.through.ensures refl refl c.chord.ensures in
    line_plotted (λ f t. (a, up_best a.proper (near a) w.i w.field-1 w.k (found_is b w.is) _ (num_is b w.is a) (tells_parts p t)))

pub returns-in-Down : goal.returns-in-Down
returns-in-Down c =
    let w = c.in-Down in
    let a = c.requires in
    let b = c.greatest-top.ensures in
    let p = chord_tells (over_low c.before.before) c.through-in-Down.ensures (to_z-of_z (overflow_sub-n c.before)) refl c.chord-in-Down.ensures in
    line_plotted (λ f t. (a, down_best a.proper (near a) w.i w.field-1 w.k (found_is b w.is) _ (num_is b w.is a) (tells_parts p t)))
