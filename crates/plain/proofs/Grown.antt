-- Bytes that are put into an array of 831 beside its length, as far as there is room: what a page is, said of the two apart. Nothing cites it any more; it stands because what stood stays (docs/DESIGN-PASS.md).
use Rattle.std.specs.Prelude.{◌≡◌, List, ◌++◌, ℕ, ◌≤◌, length, take}
use Rattle.plain.specs.Plain.{longest}

-- bytes are put behind others, as far as there is room
abbrev pub grown : List ℕ → List ℕ → List ℕ
grown t b = take longest (t ++ b)

-- the bytes s are put behind the first `at` bytes of o, which is then p, and r bytes are told
pub record Put (o : List ℕ) (at : ℕ) (s : List ℕ) (p : List ℕ) (r : ℕ) : Type 0 where
  pub is : take r p ≡ grown (take at o) s
  pub long : length p ≡ longest
  pub most : at ≤ longest → r ≤ longest
