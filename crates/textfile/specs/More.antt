-- What more is told of a refused text is so (docs/TEXT.md). The statements.
use Rattle.std.specs.Prelude.{◌≡◌, not, ◌⊎◌, List, ℕ, suc, ◌<◌, ◌≤◌, T, pos, ◌-ℤ◌, length}
use Rattle.std.proofs.Math.Option.{some}
use Rattle.std.specs.Int.Signed.{le_z}
use Rattle.units.specs.declared.Input.{Input}
use Rattle.units.specs.declared.Reading.{Reading}
use Rattle.table.specs.Table.{given_at, given}
use Rattle.run.specs.Places.{Place, places}
use Rattle.records.specs.Record.{Sizes, its, sizes_of, entries_of}
use Rattle.record.specs.declared.Record.TheVariants.{Opening, Point, Value}
use Rattle.words.specs.Words.{words}
use Rattle.spoken.specs.Said.{said, nth, odd_word}
use Rattle.spoken.specs.declared.Said.{Said}
use Rattle.spoken.specs.declared.Said.TheVariants.{Item, Unclear}
use Rattle.detail.specs.Detail.{lacking}
use Rattle.detail.specs.Unfilled.{Gap}
use Rattle.detail.specs.declared.Detail.TheVariants.{Word, NoWord, Earlier, Apart}
use Rattle.text.specs.Text.{heard, text, text_refusals}
use Rattle.text_detail.specs.TextDetail.{nth_line, nth_said, body_detail}

-- a text without its byte-order mark is answered with this number, told of line l
abbrev pub Refused : (s : List ℕ) → (number l : ℕ) → Type 0
Refused s number l = given (text_refusals s) ≡ given_at number l

-- 42: the line is not understood. The word told is a word of it, or it ends before that word; the words in front of it fit, since some words that begin with them say a record or nothing; and none that have that word too, behind the same words, do
pub record OddWord (s : List ℕ) (l : ℕ) : Type 0 where
  pub unclear : said (words (nth_line s l)) ≡ Unclear
  pub told : let ws = words (nth_line s l) in
      ((odd_word ws < length ws) × (body_detail s ≡ Word (suc (odd_word ws)))) ⊎ ((odd_word ws ≡ length ws) × (body_detail s ≡ NoWord (suc (odd_word ws))))
  pub fits : let ws = words (nth_line s l) in
      (vs : List (List ℕ)) × ((j : ℕ) → j < odd_word ws → nth vs j ≡ nth ws j) × (odd_word ws ≤ length vs) × ¬ (said vs ≡ Unclear)
  pub why : (vs : List (List ℕ)) → let ws = words (nth_line s l) in odd_word ws < length vs → ((j : ℕ) → j ≤ odd_word ws → nth vs j ≡ nth ws j) → said vs ≡ Unclear

-- 46: two lines open, or they give the same place
pub data Alike : Said → Said → Type 0 where
  both_open : {z y : Sizes} → Alike (Item (Opening z)) (Item (Opening y))
  same_input : {i : ℕ} {x z : Input} → Alike (Item (Point i x)) (Item (Point i z))
  same_reading : {t c i : ℕ} {y z : Reading} → Alike (Item (Value t c i y)) (Item (Value t c i z))

-- the line told is an earlier one that is alike, and none before it is
pub record ToldFirst (s : List ℕ) (l : ℕ) : Type 0 where
  pub first : ℕ
  pub told : body_detail s ≡ Earlier first
  pub counted : 1 ≤ first
  pub earlier : first < l
  pub alike : Alike (nth_said (heard s) first) (nth_said (heard s) l)
  pub none_before : (k : ℕ) → 1 ≤ k → k < first → ¬ (Alike (nth_said (heard s) k) (nth_said (heard s) l))

-- 47: the place told is one of the run that no line gives, and each one before it in travel order some line gives
pub record FirstMissing (s : List ℕ) : Type 0 where
  pub place : Place
  pub told : body_detail s ≡ lacking (some place)
  pub gap : let rs = its (text (heard s)) in Gap (places (sizes_of rs)) (entries_of rs) place

-- 50: the two lines told give readings of one stroke at the point of the line named, the first more than 10,000 above the second
pub record TwoApart (s : List ℕ) (l : ℕ) : Type 0 where
  pub high : ℕ
  pub low : ℕ
  pub stroke : ℕ
  pub higher : ℕ
  pub lower : ℕ
  pub point : ℕ
  pub x : Input
  pub u : Reading
  pub v : Reading
  pub told : body_detail s ≡ Apart high low
  pub counted : (1 ≤ high) × (1 ≤ low)
  pub named : nth_said (heard s) l ≡ Item (Point point x)
  pub high_is : nth_said (heard s) high ≡ Item (Value stroke higher point u)
  pub low_is : nth_said (heard s) low ≡ Item (Value stroke lower point v)
  pub apart : T (not (le_z (u.count -ℤ v.count) (pos 10000)))

-- all of it
pub record MoreTold : Type 0 where
  pub of_42 : (s : List ℕ) (l : ℕ) → Refused s 42 l → OddWord s l
  pub of_46 : (s : List ℕ) (l : ℕ) → Refused s 46 l → ToldFirst s l
  pub of_47 : (s : List ℕ) (l : ℕ) → Refused s 47 l → FirstMissing s
  pub of_50 : (s : List ℕ) (l : ℕ) → Refused s 50 l → TwoApart s l
