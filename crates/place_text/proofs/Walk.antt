-- The walk's test, and a last word on a line, as the older forms of the code had them. Nothing cites them any more; they stand because what stood stays (docs/DESIGN-PASS.md).
use Rattle.std.specs.Prelude.{◌≡◌, Bool, ◌&&◌, ltb}
use Rattle.std.proofs.Common.{sym, ◌∙◌, lt-ltb, ltb-true}
use Rattle.std.proofs.Math.Bool.{true, false}
use mathlib.Core.List.{List, [], ◌++◌, append-nil}
use Prim.Native.Nat.{ℕ, ◌<◌}
use Rattle.whole.specs.Flags.{apart}
use Rattle.run.specs.PlaceLaws.{and_true}
use Rattle.plain.proofs.Grown.{Put}
use Rattle.plain.proofs.GrownLaws.{put_is}

-- the walk's test
module _ {more at limit : ℕ} {b : Bool} (e : b ≡ (ltb 0 more && ltb at limit)) where
  pub test_held : b ≡ true → (0 < more) × (at < limit)
  test_held h = let k = and_true (sym e ∙ h) in (ltb-true 0 more k.0, ltb-true at limit k.1)

  pub test_failed : b ≡ false → 0 < more → at < limit → ⊥
  test_failed h m a = apart (sym (e ∙ rw (lt-ltb 0 more m, lt-ltb at limit a)) ∙ h)

-- the last word has nothing behind it
pub put_last : {o p a : List ℕ} {i j : ℕ} → Put o i a p j → Put o i (a ++ []) p j
put_last {a = a} e = put_is (sym (append-nil a)) e
