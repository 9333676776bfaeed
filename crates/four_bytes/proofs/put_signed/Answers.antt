-- `four_bytes::put_signed` meets its contract: an i32 has the bits of the number, and its bytes are laid where the part of the buffer was.
use Rattle.std.proofs.Common.{◌≡◌, ◌<◌, ◌^◌, ◌-◌, ◌%◌, ◌/◌, ℕ, nat_abs, ℤ, pos, negsuc, sym, ap, ◌∙◌, refl, arith, w32, SFits, of_z, to_z, w64, to_z-of_z}
use Rattle.std.proofs.lemmas.List.Edits.{sets-eq}
use Rattle.std.proofs.lemmas.Slice.{put_mid-paste}
use Rattle.std.specs.Int.{to_le_bytes}
use Rattle.four_bytes.specs.Word.{bits, word_bytes}
use Rattle.four_bytes.proofs.put_signed.Goals as goal

fits : (z : ℤ) → nat_abs z < 2147483648 → SFits w32 z
fits (pos n) h = record { sfits = omega arith }
fits (negsuc n) h = record { sfits = omega arith }

-- 32 bits, of which the fourth byte is what the first three leave
bytes_of : (w n : ℕ) → w ≡ n → n < 2 ^ 32 → to_le_bytes w32 w ≡ word_bytes n
bytes_of w n e h = let l : n / 16777216 % 256 ≡ n / 16777216 = omega arith in rw (e, l)

bytes_are : (z : ℤ) → nat_abs z < 2147483648 → to_le_bytes w32 (of_z w32 z) ≡ word_bytes (bits z)
bytes_are (pos n) h = bytes_of _ n refl (omega arith)
bytes_are (negsuc n) h = bytes_of _ (4294967295 - n) (omega arith) (omega arith)

pub returns : goal.returns
returns c =
    let z = c.args.z in
    let buf = c.args.buf.now in
    let at = c.args.at in
    let v = word_bytes (bits z) in
    let narrow : to_z w32 (of_z w32 (to_z w64 (of_z w64 z))) ≡ z = ap (λ (t : ℤ). to_z w32 (of_z w32 t)) (to_z-of_z c.ranges.z) ∙ to_z-of_z (fits z c.requires.1) in
    let stored = c.copy_from_slice.ensures.after ∙ c.to_le_bytes.ensures ∙ ap (λ (t : ℤ). to_le_bytes w32 (of_z w32 t)) narrow ∙ bytes_are z c.requires.1 in
    put_mid-paste at _ buf _ v 4 stored (omega arith) refl ∙ sym (sets-eq v buf at c.requires.0)
