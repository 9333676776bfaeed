-- Numbers of four bytes, there and back.
use Rattle.std.specs.Prelude.{◌≡◌, refl, Bool, true, false, cond, [], ◌∷◌, ℕ, ◌+◌, ◌-◌, ◌*◌, ◌/◌, ◌%◌, ◌<◌, ◌≤◌, ltb, ℤ, pos, negsuc, nat_abs}
use Rattle.std.proofs.Common.{arith, lt-ltb, le-ltb}
use Rattle.four_bytes.specs.Word.{word, word_at, signed, bits, word_bytes}

pub signed_bits : (z : ℤ) → nat_abs z < 2147483648 → signed (bits z) ≡ z
signed_bits (pos n) h = simp (lt-ltb n 2147483648 h)
signed_bits (negsuc n) h =
    let low : 2147483648 ≤ 4294967295 - n = omega arith in
    let same : 4294967295 - (4294967295 - n) ≡ n = omega arith in
    simp (le-ltb _ _ low, same)

pub bits_signed : (w : ℕ) → w < 4294967296 → bits (signed w) ≡ w
bits_signed w h = go (ltb w 2147483648)
  where
    go : (low : Bool) → bits (cond low (pos w) (negsuc (4294967295 - w))) ≡ w
    go true = refl
    go false = omega arith

pub bits_less : (z : ℤ) → nat_abs z < 2147483648 → bits z < 4294967296
bits_less (pos n) h = omega arith
bits_less (negsuc n) h = omega arith

pub word_word_bytes : (w : ℕ) → w < 4294967296 → word_at (word_bytes w) 0 ≡ w
word_word_bytes w h = omega arith

module _ (a b c d : ℕ) (a_byte : a < 256) (b_byte : b < 256) (c_byte : c < 256) (d_byte : d < 256) where
  pub word_less : word a b c d < 4294967296
  word_less = omega arith

  pub word_bytes_word : word_bytes (word a b c d) ≡ a ∷ b ∷ c ∷ d ∷ []
  word_bytes_word =
      let e0 : word a b c d % 256 ≡ a = omega arith in
      let q1 : word a b c d / 256 ≡ b + 256 * (c + 256 * d) = omega arith in
      let e1 : word a b c d / 256 % 256 ≡ b = rw q1 (omega arith) in
      let q2 : word a b c d / 65536 ≡ c + 256 * d = omega arith in
      let e2 : word a b c d / 65536 % 256 ≡ c = rw q2 (omega arith) in
      let e3 : word a b c d / 16777216 ≡ d = omega arith in
      cc

  -- the bytes of the number that four bytes mean are those bytes
  pub signed_bytes : word_bytes (bits (signed (word a b c d))) ≡ a ∷ b ∷ c ∷ d ∷ []
  signed_bytes = rw (bits_signed (word a b c d) word_less) word_bytes_word
