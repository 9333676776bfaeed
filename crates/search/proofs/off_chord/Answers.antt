-- `search::off_chord` meets its contract: three admitted inputs and their values are of bounded size, so what is worked out of them is told as the theory has it, and of a chord beneath with the other sign.
use mathlib.Core.Path.{◌≡◌, ap, ◌∙◌}
use native.Mathlib.Omega.{arith}
use borrow.Author.Rules.{rules}
use lib.IntN.{ℤ, pos, ◌-ℤ◌}
use mir.Facts.{to_z-of_z}
use Rattle.whole.specs.Machine.{stored, size_fits}
use Rattle.band.specs.Candidate.{up, num}
use Rattle.band.specs.Band.{lent}
use Rattle.search.specs.Search.{shown}
use Rattle.search.specs.Sided.{chord_on, sided, chord_size, bent, turned}
use mir.Syntax.{w64}
use Rattle.search.proofs.off_chord.Goals.{After-bend-n, In-Beneath}
use Rattle.search.proofs.off_chord.Goals as goal

-- what is worked out, on whichever side, and its opposite
above : (c : After-bend-n) → stored c.bend-n.result ≡ num (lent c.args.m c.args.d c.args.x.now c.args.inner.now c.args.outer.now) (up c.args.i c.args.j c.args.k)
above c =
    let a = c.args in
    to_z-of_z {w = w64} (search rules)
    ∙ bent a.m a.d a.x.now a.outer.now a.inner.now a.i a.j a.k c.input_at-a.ensures c.input_at-b.ensures c.input_at-c.ensures
    c.part_at-u.ensures c.part_at-v.ensures c.part_at-w.ensures
    (to_z-of_z {w = w64} (search rules) ∙ c.gap.ensures.value) (to_z-of_z {w = w64} (search rules) ∙ c.gap-2.ensures.value)
    (to_z-of_z {w = w64} (search rules) ∙ c.rise.ensures.value) (to_z-of_z {w = w64} (search rules) ∙ c.rise-2.ensures.value) c.bend-n.ensures

beneath : (c : In-Beneath) → let a = c.args in pos 0 -ℤ stored c.bend-n.result ≡ num (sided a.side a.m a.d a.x.now a.outer.now a.inner.now) (shown (chord_on a.side a.i a.j a.k))
beneath c =
    let a = c.args in
    rw c.in-Beneath.is (ap (λ (z : ℤ). pos 0 -ℤ z) (above c.before) ∙ turned a.m a.d a.x.now a.outer.now a.inner.now a.i a.j a.k)

pub overflow_sub-result : goal.overflow_sub-result
overflow_sub-result c = size_fits _ 18540000000000 (chord_size c.requires.0 c.args.side (c.requires.1, c.requires.2, c.requires.3) (beneath c)) (omega arith)

pub returns-in-Above : goal.returns-in-Above
returns-in-Above c = rw c.in-Above.is (above c.before)

pub returns-in-Beneath : goal.returns-in-Beneath
returns-in-Beneath c = to_z-of_z (overflow_sub-result c) ∙ beneath c
