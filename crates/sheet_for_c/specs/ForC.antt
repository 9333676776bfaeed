-- The sheet of a byte string as a program in C gets it. Definitions; that only one answer fits is in proofs/Once.
use Rattle.std.specs.Prelude.{◌≡◌, List, ◌++◌, ℕ, ◌<◌, ◌≤◌, length, drop}
use Rattle.sheet_text.specs.Sheet.{SheetDue}

-- the sheet of s is put at the front of a lent buffer, what stood behind it stays, and n is its length; where the buffer is too short n is 0, and it stays as it was
pub data Handed (s before after : List ℕ) (n : ℕ) : Type 0 where
  fits : (t : List ℕ) → SheetDue s t → length t ≤ length before → n ≡ length t → after ≡ t ++ drop (length t) before → Handed s before after n
  short : (t : List ℕ) → SheetDue s t → length before < length t → n ≡ 0 → after ≡ before → Handed s before after n
