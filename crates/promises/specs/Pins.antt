-- The best line of a run's means through a fixed point is there: through the origin, where no input is negative, one line or several that reach the least deviation; through the first point always one.
use Rattle.std.specs.Prelude.{◌≡◌, refl, ℕ, ◌*◌, ◌<◌, ℤ, pos, nat_abs}
use Rattle.std.proofs.Math.Decide.{dec_lt}
use Rattle.std.proofs.Common.{arith}
use Rattle.std.proofs.Math.IntN.{ℤ_discrete}
use Rattle.std.specs.Int.Signed.{≤ℤ_refl}
use Rattle.run.specs.Checked.{Checked}
use Rattle.run.specs.declared.Run.{Run}
use Rattle.band.specs.Line.{Points, Proper, OneValue, Passing, Zero, Front}
use Rattle.band.specs.Same.{exclusive}
use Rattle.pin.specs.Answer.{NoNegative}
use Rattle.pin.specs.Pair.{rise, den, Greatest, Beyond, wide, part, pair_line, Nearer}
use Rattle.pin.specs.PairLaws.{beyond_first, part_some, pair_passing, pair_single}
use Rattle.pin.specs.PairLine.{pair_within, pair_least}
use Rattle.pin.specs.OwnLaws.{own_least, own_several}
use Rattle.pin.specs.Exists.{some_greatest, front_single}
use Rattle.bands.specs.Through.{means}
use Rattle.bands.specs.Admitted.{proper_means}
use Rattle.promises.specs.Lines.{TheBest, Fitted, one_line, many}

-- the line of the greatest pair; where the value at the point itself lies further off, several reach what that says
passing : {P : Points} → Proper P → OneValue P → (x v : ℤ) → Beyond P x → Fitted (Passing P x v) P
passing {P} proper level x v beyond = go (some_greatest v proper beyond)
  where
    go : (i : ℕ) × (j : ℕ) × Greatest P x v i j → Fitted (Passing P x v) P
    go (i, j, top) = by (ℤ_discrete (P.x 0) x) (dec_lt (wide P x v i j) (nat_abs (rise P v 0) * nat_abs (den P x i j)))
      where
        pair : Nearer P x v i j → Fitted (Passing P x v) P
        pair nearer =
            let some = part_some proper top.fits in
            one_line (record {
              line = pair_line P x v i j some;
              w = wide P x v i j;
              z = part P x i j;
              some = some;
              best = record {
                member = pair_passing proper v top.fits some;
                reached = pair_within proper level beyond top nearer some;
                least = pair_least proper level beyond top nearer;
                single = pair_single proper v top.fits some (omega arith);
              };
            })

        by : Dec (P.x 0 ≡ x) → Dec (wide P x v i j < nat_abs (rise P v 0) * nat_abs (den P x i j)) → Fitted (Passing P x v) P
        by (no d) _ = pair (λ e. absurd (d e))
        by (yes e) (no h) = pair (λ _. omega arith)
        by (yes e) (yes h) = many (nat_abs (rise P v 0)) P.d proper.unit (record { least = own_least proper level beyond top (e, h); several = own_several proper level beyond top (e, h) })

module _ {r : Run} (c : Checked r) where
  pub through_origin : NoNegative (means r) → Fitted (Zero (means r)) (means r)
  through_origin none = passing (proper_means c) (λ i h. refl) (pos 0) (pos 0) none

  pub through_first : TheBest (Front (means r)) (means r)
  through_first = go (passing (proper_means c) (λ i h. refl) ((means r).x 0) ((means r).low 0) (beyond_first (proper_means c) (≤ℤ_refl _)))
    where
      go : Fitted (Front (means r)) (means r) → TheBest (Front (means r)) (means r)
      go (one_line b) = b
      go (many w z h m) = absurd (exclusive (front_single (proper_means c) (λ i h. refl) m.least) m.several)
