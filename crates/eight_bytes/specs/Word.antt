-- Eight bytes as a number, low byte first.
use Rattle.std.specs.Prelude.{List, ℕ, ◌+◌, ◌*◌, get_or}

abbrev pub four : (a b c d : ℕ) → ℕ
four a b c d = a + 256 * (b + 256 * (c + 256 * d))

abbrev pub little : List ℕ → ℕ
little b = four (get_or b 0 0) (get_or b 1 0) (get_or b 2 0) (get_or b 3 0) + 4294967296 * four (get_or b 4 0) (get_or b 5 0) (get_or b 6 0) (get_or b 7 0)
