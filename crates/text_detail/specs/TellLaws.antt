-- What the functions that look at the arrays tell is told of the text: the line of a record, the place that is missing, the two readings that lie apart.
use Rattle.std.specs.Prelude.{◌≡◌, ◌&&◌, List, [], ℕ, ◌-◌, ◌<◌, ◌≤◌, T, ltb, ℤ, get_or}
use Rattle.std.proofs.Common.{sym, ◌∙◌, ap, ap₂, subst, arith, ne_eqb, lt→ltb}
use Rattle.std.proofs.Math.Facts.{yes_and}
use Rattle.whole.specs.Every.{every_by}
use Rattle.words.specs.Words.{lines}
use Rattle.limits.specs.Limits.{in_y}
use Rattle.limits.specs.Laws.{Fair, sizes_within}
use Rattle.table.specs.Table.{given_at}
use Rattle.run.specs.Run.{reading, sizes, group}
use Rattle.run.specs.Places.{reading_at, places}
use Rattle.run.specs.Laws.{StrokeReady, reading_lent}
use Rattle.records.specs.Record.{Sizes, Entry, its, sizes_of, entries_of, entries, number_at}
use Rattle.records.specs.Meaning.{fair, run_by, run_of}
use Rattle.records.specs.Framed.{run_at}
use Rattle.records.specs.Closed.{clean_fits, closed_there}
use Rattle.record.specs.declared.Record.{Record}
use Rattle.record.specs.Kinds.{as_record}
use Rattle.spoken.specs.Said.{says}
use Rattle.spoken.specs.declared.Said.{Said}
use Rattle.spoken.specs.declared.Said.TheVariants.{Nothing}
use Rattle.intake.specs.Picture.{Room, fair_room}
use Rattle.detail.specs.Detail.{first_lacking, lacking}
use Rattle.detail.specs.Marks.{Marked, LabelOf, Missing, FarApart}
use Rattle.detail.specs.Arrays.{reading_count}
use Rattle.detail.specs.declared.Detail.{Detail}
use Rattle.detail.specs.declared.Detail.TheVariants as D
use Rattle.detail.specs.declared.Detail.TheVariants.{Apart}
use Rattle.text.specs.Text.{heard, text}
use Rattle.typed_text.specs.Method.{Tells}
use Rattle.typed_text.specs.declared.survey.Survey.{Survey}
use Rattle.text_detail.specs.TextDetail.{lacks, detail_at}
use Rattle.text_detail.specs.Lines.{items, LineOf, told_apart, FairlyOpened, Scattered}
use Rattle.text_detail.specs.LineLaws.{said_at, label_text, where_text, entries_text, sizes_text}

-- ---- a line by its number
-- by what `one_less`, `words::line` and `spoken::hear` ensure
pub nth_heard : (s : List ℕ) (line : ℕ) {k : ℕ} {l : List ℕ} {h : Said} → k ≡ line - 1 → l ≡ get_or (lines s) k [] → h ≡ says l → h ≡ get_or (heard s) (line - 1) Nothing
nth_heard s line a b c = c ∙ ap says (b ∙ ap (λ (k : ℕ). get_or (lines s) k []) a) ∙ said_at s (line - 1)

-- what is told of a number that is known
pub detail_by : (s : List ℕ) (line : ℕ) {number k : ℕ} {d : Detail} → number ≡ k → d ≡ detail_at s (given_at k line) → d ≡ detail_at s (given_at number line)
detail_by s line {number} {k} {d} e q = subst (λ (n : ℕ). d ≡ detail_at s (given_at n line)) (sym e) q

-- of any other number nothing is told
pub detail_none : (s : List ℕ) (line : ℕ) {number : ℕ} → (number ≡ 42 → ⊥) → (number ≡ 46 → ⊥) → (number ≡ 47 → ⊥) → (number ≡ 50 → ⊥) → D.Nothing ≡ detail_at s (given_at number line)
detail_none s line {number} a b c d = rw (ne_eqb number 42 a, ne_eqb number 46 b, ne_eqb number 47 c, ne_eqb number 50 d)

-- ---- the line of a record
pub line_told : {hs : List Said} {r : Record} {labels : List ℕ} {y : List ℤ} {q : ℕ} → Marked (items 1 hs) labels y → LabelOf (as_record r) labels q → LineOf hs r q
line_told {hs} {r} {labels} {y} pic l = record { is = λ e same_record. l.is (items 1 hs) y e pic same_record ∙ where_text e.place hs }

-- ---- by what the survey tells
module _ {hs : List Said} {t : Survey} (tells : Tells hs t) where
  sizes_told : t.sizes ≡ sizes_of (its (text hs))
  sizes_told = tells.sizes_is ∙ sizes_text hs

  -- ---- what is missing
  pub sizes_room : FairlyOpened hs → Room t.sizes
  sizes_room f = fair_room t.sizes (subst (λ (z : Sizes). T (fair z)) (sym sizes_told) f.sized)

  pub lacks_told : {labels : List ℕ} {y : List ℤ} {d : Detail} → Marked (items 1 hs) labels y → Missing t.sizes labels d → d ≡ lacks (text hs)
  lacks_told {labels} {y} pic is =
      is.is (items 1 hs) y pic
      ∙ ap₂ (λ (z : Sizes) (es : List Entry). lacking (first_lacking (places z) es)) sizes_told (entries_text hs)

  -- ---- what lies apart
  module _ {i : ℕ} (sc : Scattered hs i) {labels : List ℕ} {y : List ℤ} (pic : Marked (items 1 hs) labels y) where
    fair_sizes : T (fair t.sizes)
    fair_sizes = subst (λ (z : Sizes). T (fair z)) (sym sizes_told) (closed_there (its (text hs)) sc.no_fault sc.closes).0

    most : Fair t.sizes
    most = sizes_within t.sizes fair_sizes

    of_sizes : i < t.sizes.m
    of_sizes = subst (λ (z : Sizes). i < z.m) (sym sizes_told) sc.of_run

    -- the arrays have the readings of the text
    count : (s c : ℕ) → s < 2 → c < t.sizes.n → reading (group t.sizes.n y) s c i ≡ number_at (reading_at s c i) (entries_of (its (text hs)))
    count s c a b =
        reading_lent (sizes (group t.sizes.n y)) [] y s c i
        ∙ reading_count pic s c i a (omega (arith, most.n_most)) (omega (arith, of_sizes, most.m_most))
        ∙ ap (number_at (reading_at s c i)) (entries_text hs)

    stroke : (s : ℕ) → s < 2 → StrokeReady (group t.sizes.n y) s i
    stroke s a = record {
      sized = record { m_most = omega arith; n_most = most.n_most; strokes_most = omega arith };
      stroke = a;
      point = omega (arith, of_sizes, most.m_most);
      limits = every_by t.sizes.n (λ c. in_y (reading (group t.sizes.n y) s c i)) (λ c b.
          subst (λ (v : ℤ). T (in_y v)) (sym (count s c a b)) (clean_fits (its (text hs)) sc.no_fault (reading_at s c i)));
    }

    -- each stroke of the run may be looked at
    pub strokes_fit : (t.sizes.strokes ≤ 2) × ((s : ℕ) → s < t.sizes.strokes → StrokeReady (group t.sizes.n y) s i)
    strokes_fit = (most.strokes_most, λ s a. stroke s (omega (arith, most.strokes_most)))

    -- the run has the readings of the text too
    told_reading : (s c : ℕ) → s < t.sizes.strokes → c < t.sizes.n → reading (run_of (its (text hs))) s c i ≡ number_at (reading_at s c i) (entries (items 1 hs))
    told_reading s c a b =
        let z = t.sizes in
        ap (λ (z : Sizes). reading (run_by z (λ p. number_at p (entries_of (its (text hs))))) s c i) (sym sizes_told)
        ∙ run_at z (λ p. number_at p (entries_of (its (text hs)))) fair_sizes (reading_at s c i)
        (yes_and (ltb s z.strokes) (ltb c z.n && ltb i z.m) (lt→ltb s z.strokes a)
        (yes_and (ltb c z.n) (ltb i z.m) (lt→ltb c z.n b) (lt→ltb i z.m of_sizes)))
        ∙ ap (number_at (reading_at s c i)) (sym (entries_text hs))

    pub apart_told : {d : Detail} → FarApart t.sizes.n t.sizes.strokes i labels y d → d ≡ told_apart hs i
    apart_told f =
        let r = run_of (its (text hs)) in
        f.is (items 1 hs) r pic (ap (λ (z : Sizes). z.n) (sym sizes_told)) (ap (λ (z : Sizes). z.strokes) (sym sizes_told)) sc.lie_apart told_reading
        ∙ ap₂ Apart (label_text _ hs) (label_text _ hs)
