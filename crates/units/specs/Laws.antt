-- What a comparison of two numbers of one kind comes to.
use Rattle.std.specs.Prelude.{◌≡◌, ℤ}
use Rattle.std.proofs.Common.{rules, is_lt, int_cmp}
use Rattle.std.specs.Int.Signed.{lt_z}

pub lt_is : (a b : ℤ) → is_lt (int_cmp a b) ≡ lt_z a b
lt_is a b = search rules
