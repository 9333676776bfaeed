-- Every exact limit is known on both sides, and some line keeps every exact limit point within some width.
use Rattle.std.specs.Prelude.{◌≡◌, ◌⊎◌, ◌∷◌, [], ℕ, ◌<◌, ◌≤◌, ℤ, nat_abs, neg_ℤ, ◌+ℤ◌, ◌-ℤ◌, ◌*ℤ◌}
use Rattle.std.proofs.Common.{sym, subst, arith}
use Rattle.std.proofs.Math.IntN.{pos}
use Rattle.whole.specs.Balance as B
use Rattle.whole.specs.Balance.{int, nat, opp, ◌⊞◌, ◌⊟◌, ◌⊠◌}
use Rattle.whole.specs.Poly.{var, lit, ◌⊕◌, ◌⊖◌, ◌⊗◌}
use Rattle.whole.specs.Ring.{ring}
use Rattle.whole.specs.Size.{size_of, size_neg}
use Rattle.run.specs.Run.{input, last_stroke}
use Rattle.run.specs.Checks.{verdict}
use Rattle.run.specs.Checked.{Checked, checked, first_there, last_there}
use Rattle.run.specs.declared.Run.{Run}
use Rattle.groups.specs.Sums.{total, up_sum, down_sum}
use Rattle.groups.specs.Cut.{Cut, exact_limit}
use Rattle.groups.specs.Limit.{total_size, limit_most}
use Rattle.groups.specs.Rounded.{limits_found}
use Rattle.band.specs.Line.{Line}
use Rattle.promises.specs.Exact.{Near, above, Keeps}
use Rattle.promises.specs.Cuts.{Rounds}
use Rattle.promises.specs.Roots.{exact_cut, limits_round}

-- ---- both sides
pub known : (r : Run) → 2 ≤ r.n → (s i : ℕ) → s < r.strokes → i < r.m → (t : ℤ) (q : ℕ) → 0 < q → (exact_limit r s i).AtMost t q ⊎ (exact_limit r s i).AtLeast t q
known r two s i hs hi = (exact_cut r s i two).known

-- ---- the line at zero: no sum is beyond 10,000,000 and no limit beyond 179,690
abbrev far : ℕ
far = 10179690

near_far : {A : Cut} {k : ℕ} → Rounds A k → k ≤ 179690 → (g : ℤ) → nat_abs g ≤ 10000000 → Near A g 1 (pos far) 1
near_far {A} {k} R h g l =
    let s = size_of g 1 10000000 (omega arith) in
    let above = B.le_of (nat 1 ⊠ int g) (nat 10000000) s.0 in
    let below = B.le_of (nat 1 ⊠ opp (int g)) (nat 10000000) s.1 in
    record {
      top = R.cut.rises (pos k) (pos 1 *ℤ g +ℤ pos far *ℤ pos 1) 1 1 (omega arith) (omega arith) (B.le_by (nat k ⊠ nat 1) ((nat 1 ⊠ int g ⊞ nat far ⊠ nat 1) ⊠ nat 1) (omega arith)) R.up.up;
      bottom = R.cut.under_zero (pos 1 *ℤ g -ℤ pos far *ℤ pos 1) 1 (omega arith) (B.le_by (nat 1 ⊠ int g ⊟ nat far ⊠ nat 1) (nat 0) (omega arith));
    }

level : Line
level = record { a = pos 0; b = pos 0; q = 1; some = omega arith }

module _ (r : Run) (e : (verdict r).number ≡ 0) (two : 2 ≤ r.n) where
  c : Checked r
  c = checked r e

  -- a value lies off the line at zero by itself
  off_level : (v : ℤ) (i : ℕ) → above r level v i ≡ v
  unfolding level
  off_level v i = ring (v ∷ pos r.n ∷ input r i ∷ []) (lit 1 ⊗ var 0 ⊖ var 1 ⊗ (lit 0 ⊗ var 2 ⊕ lit 0)) (var 0) tt

  sized : (s i : ℕ) → s < r.strokes → i < r.m → nat_abs (above r level (total r s i) i) ≤ 10000000
  sized s i hs hi = subst (λ (v : ℤ). nat_abs v ≤ 10000000) (sym (off_level (total r s i) i)) (total_size c s i hs hi)

  near_zero : (s i : ℕ) → s ≤ last_stroke r → i < r.m → (g : ℤ) → nat_abs g ≤ 10000000 → Near (exact_limit r s i) g 1 (pos far) 1
  near_zero s i hs hi g h = near_far (limits_round r two (limits_found c two) s i hs hi) (limit_most r s i) g h

  pub some_kept : (L : Line) × ((w : ℕ) × Keeps r (exact_limit r) L (pos w) 1)
  unfolding level
  some_kept = (
    level,
    (
      far,
      record {
        up = λ i h. near_zero 0 i (omega arith) h (above r level (up_sum r i) i) (sized 0 i (first_there c) h);
        down = λ i h. near_zero (last_stroke r) i (omega arith) h (neg_ℤ (above r level (down_sum r i) i)) (subst (λ (n : ℕ). n ≤ 10000000) (sym (size_neg (above r level (down_sum r i) i))) (sized (last_stroke r) i (last_there c) h));
      },
    ),
  )
