-- Printed lines as bytes, so that a sheet may be written down as it looks.
use Rattle.std.specs.Prelude.{List, [], ◌∷◌, ◌++◌, ℕ}
use Prim.Native.Char.{code}
use Prim.Native.String as S
use Prim.Native.String.{String}
use Rattle.plain.specs.Plain.{line_feed}

-- the number of an ASCII character is its byte
abbrev pub ascii : String → List ℕ
ascii S.[] = []
ascii (S.◌∷◌ c s) = code c ∷ ascii s

-- each line with its line feed
abbrev pub printed : List String → List ℕ
printed [] = []
printed (l ∷ ls) = ascii l ++ (line_feed ∷ printed ls)
