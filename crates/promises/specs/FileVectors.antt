-- Two tables of the definitions of files, computed: which kinds may stand where, and under which numbers the end of the close is told.
use Rattle.std.specs.Prelude.{◌≡◌, refl, true, false, List, [], ◌∷◌, ◌++◌, map, ℕ, pos}
use Rattle.std.proofs.Math.Option.{none, some}
use Rattle.run.specs.declared.Run.{Run}
use Rattle.format.specs.Format.{kind_of}
use Rattle.record.specs.Kinds.{opening_kind, single_kind, point_kind, reading_kind, close_kind, run_file}
use Rattle.reader.specs.Meaning.{to_close}
use Rattle.writer.specs.File.{all_bytes, file}
use Rattle.runfile.specs.Witness.{read, opening, points, up, close, small, good, scattered}

-- ---- kinds
-- an opening alone may stand first
pub first_kinds : map (kind_of true run_file) (0 ∷ 1 ∷ 2 ∷ 3 ∷ 4 ∷ 5 ∷ 6 ∷ []) ≡ none ∷ some opening_kind ∷ none ∷ none ∷ none ∷ some single_kind ∷ none ∷ []
unfolding kind_of
first_kinds = refl

-- and of the five no opening may stand later
pub later_kinds : map (kind_of false run_file) (0 ∷ 1 ∷ 2 ∷ 3 ∷ 4 ∷ 5 ∷ 6 ∷ []) ≡ none ∷ none ∷ some point_kind ∷ some reading_kind ∷ some close_kind ∷ none ∷ none ∷ []
unfolding kind_of
later_kinds = refl

-- ---- read up to the close
-- the number, and the end that is told
abbrev told : List ℕ → ℕ × ℕ
told s = let t = to_close s in (t.number, t.end)

-- 9: inputs 0, 0 and 1
abbrev unrisen : Run
unrisen = small (pos 0) (pos 0) (pos 1) (pos 0) (pos 0)

-- the close was reached under 0, 7, 9 and 10. What follows it is not looked at
pub close_reached : map told ((file good ++ close) ∷ (opening ++ points ++ up ++ close) ∷ file unrisen ∷ file scattered ∷ []) ≡ (0, 70) ∷ (7, 46) ∷ (9, 70) ∷ (10, 118) ∷ []
unfolding read all_bytes opening points up close good scattered
close_reached = refl

-- 1: no record behind the opening; 2: a close alone; 3: two points; 4: point 3 of three; 5: an input of 65,536; 6: points once more
abbrev unclosed : List (List ℕ)
unclosed = opening ∷ close ∷ (1 ∷ 2 ∷ 1 ∷ []) ∷ (opening ++ (2 ∷ 3 ∷ 0 ∷ 0 ∷ 0 ∷ 0 ∷ [])) ∷ (opening ++ (2 ∷ 0 ∷ 0 ∷ 0 ∷ 1 ∷ 0 ∷ [])) ∷ (opening ++ points ++ points) ∷ []

-- under these it was not
pub close_unreached : map told unclosed ≡ (1, 0) ∷ (2, 0) ∷ (3, 0) ∷ (4, 0) ∷ (5, 0) ∷ (6, 0) ∷ []
unfolding read opening points close
close_unreached = refl
