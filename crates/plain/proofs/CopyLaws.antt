-- A law of a list that is copied to a place of another, from the left. Nothing cites it any more; it stands because what stood stays (docs/DESIGN-PASS.md).
use Rattle.std.specs.Prelude.{◌≡◌, List, [], ◌∷◌, ℕ, ◌+◌, ◌<◌, length, take, set, get_or}
use Rattle.std.proofs.Common.{add-one, arith, length-take-le, take-suc}
use Rattle.std.proofs.lemmas.List.Edits.{sets}
use Rattle.whole.specs.Stores.{sets_append}

module _ (l : List ℕ) (at : ℕ) (s : List ℕ) where
  -- l, with the first k elements of s from `at` on
  abbrev pub copied : ℕ → List ℕ
  copied k = sets l at (take k s)

  -- a turn stores one element
  pub copied_more : (k : ℕ) → k < length s → set (copied k) (at + k) (get_or s k 0) ≡ copied (k + 1)
  copied_more k h =
      let e : at + k ≡ at + length (take k s) = omega (arith, length-take-le k s (omega arith)) in
      rw (add-one, take-suc s k 0 h) (sets_append (take k s) (get_or s k 0 ∷ []) l at (at + k) e)
