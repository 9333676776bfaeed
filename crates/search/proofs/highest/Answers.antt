-- `search::highest` meets its contract: over the inputs that were passed no chord has a larger numerator than the one that is held, and all have the same gap.
use mathlib.Core.Path.{◌≡◌, sym, ap₂, ◌∙◌, subst}
use Prim.Native.Nat.{ℕ, ◌<◌}
use native.Mathlib.Omega.{arith}
use borrow.Author.Rules.{rules}
use lib.IntN.{ℤ, ◌-ℤ◌}
use mir.Facts.{to_z-of_z}
use Rattle.units.specs.declared.Input.{Input}
use Rattle.whole.specs.Machine.{stored_is}
use Rattle.search.specs.Sided.{chord_on, sided, chord_size, chord_levelled}
use Rattle.search.specs.Over.{Peak}
use Rattle.search.specs.OverLaws.{peak_more}
use Rattle.search.specs.declared.Middle.{Middle}
use mir.Syntax.{w64}
use Rattle.search.proofs.highest.Goals as goal

pub with_middle-t-requires : goal.with_middle-t-requires
with_middle-t-requires c =
    let t = c.loop-j.invariant in (
      chord_size c.requires.0 c.args.side (t.from, omega (arith, t.to), c.requires.2) t.is,
      (chord_size c.requires.0 c.args.side (omega arith, omega arith, c.requires.2) (to_z-of_z {w = w64} (search rules) ∙ c.off_chord-in-loop-j.ensures), tt),
    )

pub loop-j-preserved : goal.loop-j-preserved
loop-j-preserved c =
    let a = c.args in
    peak_more (λ j. chord_on a.side a.i j a.k) (omega arith) (omega arith) c.loop-j.invariant (to_z-of_z {w = w64} (search rules) ∙ c.off_chord-in-loop-j.ensures) c.with_middle-t.ensures

pub returns : goal.returns
returns c =
    let l = c.loop-j in
    let a = c.args in
    let over : ℕ → Middle → Type 0 = λ n t. Peak (sided a.side a.m a.d a.x.now a.outer.now a.inner.now) (λ j. chord_on a.side a.i j a.k) a.i a.k n t in
    let e : l.j ≡ a.k = omega arith in
    let p : over a.k l.t = subst (λ (n : ℕ). over n l.t) e l.invariant in
    let g : (a.i < l.t.j) × (l.t.j < a.k) × (a.k < a.m) = (p.from, p.to, c.requires.2) in
    let w = stored_is l.t.num 18540000000000 (chord_size c.requires.0 a.side g p.is) tt in
    record {
      j = l.t.j;
      told = record {
        is = c.chord_of.ensures;
        holds = record { levelled = rw c.chord_of.ensures (chord_levelled c.requires.0 a.side g (w ∙ p.is) (to_z-of_z {w = w64} (search rules) ∙ c.gap.ensures.value ∙ ap₂ (λ (z a : Input). z.count -ℤ a.count) c.input_at-2.ensures c.input_at.ensures)) };
      };
      peak = subst (λ (z : ℤ). over a.k (record { j = l.t.j; num = z })) (sym w) p;
    }
