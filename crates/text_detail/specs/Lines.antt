-- The method: the records of a text in the order of its lines, each labelled by its line, as the arrays picture them. No public statement rests on this file.
use Rattle.std.specs.Prelude.{◌≡◌, not, List, [], ◌∷◌, ◌++◌, ℕ, ◌<◌, T, ℤ}
use Rattle.units.specs.declared.Input.{Input}
use Rattle.run.specs.Limits.{holds}
use Rattle.run.specs.declared.Rule.TheVariants.{Calm}
use Rattle.records.specs.Record.{Entry, entry, Labelled, at_label, its, sizes_of, closed}
use Rattle.records.specs.Meaning.{fair, run_of}
use Rattle.records.specs.Sound.{clean}
use Rattle.record.specs.declared.Record.{Record}
use Rattle.record.specs.declared.Record.TheVariants.{Point}
use Rattle.record.specs.Kinds.{as_record}
use Rattle.spoken.specs.declared.Said.{Said}
use Rattle.spoken.specs.declared.Said.TheVariants.{Nothing, Item, Unclear}
use Rattle.detail.specs.Detail.{told_where, apart_at}
use Rattle.detail.specs.declared.Detail.{Detail}
use Rattle.detail.specs.Marks.{Marked}
use Rattle.text.specs.Text.{gathered, text}

-- the record of line k, if it has one
abbrev pub item_at : (k : ℕ) → Said → List Labelled
item_at k Nothing = []
item_at k (Item r) = at_label k (as_record r) ∷ []
item_at k Unclear = []

-- what the lines hs, numbered from k on, tell
abbrev pub items : (k : ℕ) → List Said → List Labelled
items k hs = gathered item_at k hs

-- ---- what the functions ensure
-- what line k says is in the arrays too
pub record SaidMarked (h : Said) (k : ℕ) (labels : List ℕ) (y : List ℤ) (labels' : List ℕ) (y' : List ℤ) : Type 0 where
  pub is : (xs : List Labelled) → Marked xs labels y → Marked (xs ++ item_at k h) labels' y'

-- q is the line of the first record at the place of r
pub record LineOf (hs : List Said) (r : Record) (q : ℕ) : Type 0 where
  pub is : (e : Entry) → as_record r ≡ entry e → q ≡ told_where e.place (text hs).records

-- the two lines of readings at point i that lie apart
abbrev pub told_apart : List Said → (point : ℕ) → Detail
told_apart hs i = apart_at (run_of (its (text hs))) (text hs).records i

-- ---- what they ask
-- the text opens with sizes within their limits
pub record FairlyOpened (hs : List Said) : Type 0 where
  pub sized : T (fair (sizes_of (its (text hs))))

-- the records have no fault of their own and close, and the readings at point i lie apart
pub record Scattered (hs : List Said) (i : ℕ) : Type 0 where
  pub no_fault : T (clean [] (its (text hs)))
  pub closes : T (closed (its (text hs)))
  pub of_run : i < (run_of (its (text hs))).m
  pub lie_apart : T (not (holds Calm (run_of (its (text hs))) i))

-- the same of the point whose input a line gives, if it gives one
pub record ScatteredBy (hs : List Said) (h : Said) : Type 0 where
  pub is : (i : ℕ) (x : Input) → h ≡ Item (Point i x) → Scattered hs i
