-- The terminal line of a run and the shifted one are there, each with its width.
use Rattle.std.specs.Prelude.{refl, ℕ, ◌*◌, ◌<◌, ◌≤◌, ℤ, neg_ℤ}
use Rattle.std.proofs.Common.{ap, arith}
use Rattle.std.proofs.Math.Logic.{inl}
use Rattle.std.proofs.Math.Nat.{mul-pos, mul-le-mul_right}
use Rattle.std.proofs.Math.IntN.{nat_abs}
use Rattle.run.specs.Checked.{Checked}
use Rattle.run.specs.declared.Run.{Run}
use Rattle.band.specs.Line.{Line, Points, Proper, off, Parallel, Terminal}
use Rattle.band.specs.Largest.{largest_by}
use Rattle.band.specs.Terminal.{terminal_line, terminal_some, terminal}
use Rattle.band.specs.Shift.{Range, moved, moved_some, moved_parallel, moved_within, moved_least, moved_single, shift_wide, shift_part}
use Rattle.bands.specs.Through.{means}
use Rattle.due.specs.Due.{Best, Fits}
use Rattle.bands.specs.Admitted.{proper_means}
use Rattle.due.specs.declared.Index.{Index}
use Rattle.due.specs.declared.Index.TheVariants as index
use Rattle.promises.specs.Some.{Top, some_top, turned, some_largest}

-- an index of a run has a line and a width
pub record SomeFit (which : Index) (r : Run) : Type 0 where
  pub line : Line
  pub w : ℕ
  pub z : ℕ
  pub some : 0 < z
  pub fits : Fits which r line w z

module _ {r : Run} (c : Checked r) where
  abbrev pub P : Points
  P = means r

  pub proper : Proper P
  proper = proper_means c

  pub base : Line
  base = terminal_line P (terminal_some proper)

  pub base_terminal : Terminal P base
  unfolding base
  base_terminal = terminal proper (terminal_some proper)

  -- ---- how far the values lie from it
  pub height : ℕ → ℤ
  height i = off P base (P.x i) (P.low i)

  pub terminal_fit : SomeFit index.Terminal r
  unfolding height
  terminal_fit =
      let far = some_largest r.m (omega (arith, c.m_least)) (λ i. nat_abs (height i)) in
      let unit = base.q * P.d in
      let some : 0 < unit = mul-pos base.some proper.unit in
      let within : (i : ℕ) → i < r.m → nat_abs (height i) * unit ≤ far.0 * unit = λ i h. mul-le-mul_right unit (far.1.most i h) in
      record {
        line = base;
        w = far.0;
        z = unit;
        some = some;
        fits = (
          base_terminal,
          largest_by proper some (record { low = within; high = within }) (record { at = far.1.place; fits = far.1.within; far = inl (ap (λ (t : ℕ). t * unit) far.1.reached) }),
        );
      }

  pub highest : Top r.m height
  highest = some_top r.m (omega (arith, c.m_least)) height

  pub lowest : Top r.m (λ i. neg_ℤ (height i))
  lowest = some_top r.m (omega (arith, c.m_least)) (λ i. neg_ℤ (height i))

  abbrev pub lo : ℤ
  lo = height lowest.at

  abbrev pub hi : ℤ
  hi = height highest.at

  pub range : Range P base lo hi
  unfolding height
  range = record {
    from = λ p h. turned (height lowest.at) (height p) (lowest.all p h);
    to = highest.all;
    i = lowest.at;
    i_fits = lowest.fits;
    lowest = refl;
    j = highest.at;
    j_fits = highest.fits;
    highest = refl;
  }

  -- the terminal line moved, which is best of its slope
  abbrev pub shifted : Line
  shifted = moved P base lo hi (moved_some proper base)

  pub shifted_best : Best (Parallel base) P shifted (shift_wide lo hi) (shift_part P base)
  shifted_best = record {
    member = moved_parallel P base lo hi (moved_some proper base);
    reached = moved_within proper range (moved_some proper base);
    least = moved_least proper range;
    single = moved_single proper range;
  }

  pub shifted_fit : SomeFit index.Shifted r
  shifted_fit = record { line = shifted; w = shift_wide lo hi; z = shift_part P base; some = (moved_least proper range).some; fits = record { base = base; terminal = base_terminal; best = shifted_best } }
