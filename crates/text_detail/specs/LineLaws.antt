-- What the records of a text tell in the order of its lines: the labels, the points and readings, and the sizes of the first opening are those of the text as a recorded thing.
use Rattle.std.specs.Prelude.{◌≡◌, ℕ, suc, ◌+◌, ℤ, length, get_or}
use Rattle.std.proofs.Math.Path.{refl, ap}
use Rattle.std.proofs.Common.{sym, ◌∙◌, subst, add-one}
use Rattle.std.proofs.Math.Bool.{cond}
use mathlib.Core.List.{List, [], ◌∷◌, ◌++◌, append_assoc}
use Rattle.std.proofs.Math.ListN.{get_or-map}
use Rattle.words.specs.Words.{lines, words}
use Rattle.run.specs.Run.{no_sizes}
use Rattle.run.specs.Places.{Place, input_at, reading_at, same, within}
use Rattle.records.specs.Record.{Entry, close, Labelled, at_label, its, unlabelled, sizes_of, entries_of, entries}
use Rattle.record.specs.declared.Record.TheVariants.{Opening, Point, Value, Close}
use Rattle.spoken.specs.Said.{says}
use Rattle.spoken.specs.declared.Said.{Said}
use Rattle.spoken.specs.declared.Said.TheVariants.{Nothing, Item, Unclear}
use Rattle.detail.specs.Detail.{largest, label_at, told_where}
use Rattle.detail.specs.Marks.{Marked}
use Rattle.text.specs.Text.{heard, opening_at, entry_at, gathered, text}
use Rattle.text.specs.RecordLines.{Opens, Enters, opening_brings, entry_brings, gathered_passed}
use Rattle.text_detail.specs.Lines.{item_at, items}

-- what line k says, counted from 0; nothing where there is none
pub said_at : (s : List ℕ) (k : ℕ) → says (get_or (lines s) k []) ≡ get_or (heard s) k Nothing
unfolding words
said_at s k = sym (get_or-map says (lines s) k [])

-- ---- line by line
pub items_end : (k : ℕ) {hs : List Said} → hs ≡ [] → items k hs ≡ []
unfolding gathered
items_end k e = rw e

pub items_next : (k : ℕ) {hs rest : List Said} {h : Said} → hs ≡ h ∷ rest → items k hs ≡ item_at k h ++ items (k + 1) rest
unfolding gathered
items_next k e = rw (e, add-one)

-- ---- openings and the close are at no place
module _ (p : Place) where
  label_opened : (k : ℕ) (hs : List Said) (xs : List Labelled) → label_at p (gathered opening_at k hs ++ xs) ≡ label_at p xs
  unfolding label_at
  label_opened = gathered_passed opening_at Opens opening_brings (label_at p) (λ k h r xs o. rw o.1)

  label_items : (l k : ℕ) (hs : List Said) → label_at p (gathered entry_at k hs ++ (at_label l close ∷ [])) ≡ label_at p (items k hs)
  unfolding gathered label_at
  label_items l k [] = refl
  label_items l k (Nothing ∷ hs) = label_items l (suc k) hs
  label_items l k (Item (Opening z) ∷ hs) = label_items l (suc k) hs
  label_items l k (Item (Point i x) ∷ hs) = ap (λ (q : ℕ). cond (same p (input_at i)) k q) (label_items l (suc k) hs)
  label_items l k (Item (Value s c i y) ∷ hs) = ap (λ (q : ℕ). cond (same p (reading_at s c i)) k q) (label_items l (suc k) hs)
  label_items l k (Item Close ∷ hs) = label_items l (suc k) hs
  label_items l k (Unclear ∷ hs) = label_items l (suc k) hs

  pub label_text : (hs : List Said) → label_at p (items 1 hs) ≡ label_at p (text hs).records
  label_text hs = sym (label_items (length hs) 1 hs) ∙ sym (label_opened 1 hs (gathered entry_at 1 hs ++ (at_label (length hs) close ∷ [])))

  pub where_text : (hs : List Said) → told_where p (items 1 hs) ≡ told_where p (text hs).records
  where_text hs = ap (λ (q : ℕ). cond (within largest p) q 0) (label_text hs)

-- ---- nor is there a point or a reading among them
entries_opened : (k : ℕ) (hs : List Said) (xs : List Labelled) → entries (gathered opening_at k hs ++ xs) ≡ entries xs
unfolding entries_of
entries_opened = gathered_passed opening_at Opens opening_brings entries (λ k h r xs o. rw o.1)

entries_items : (l k : ℕ) (hs : List Said) → entries (gathered entry_at k hs ++ (at_label l close ∷ [])) ≡ entries (items k hs)
unfolding gathered entries_of
entries_items l k [] = refl
entries_items l k (Nothing ∷ hs) = entries_items l (suc k) hs
entries_items l k (Item (Opening z) ∷ hs) = entries_items l (suc k) hs
entries_items l k (Item (Point i x) ∷ hs) = ap (λ (es : List Entry). record { place = input_at i; number = x.count } ∷ es) (entries_items l (suc k) hs)
entries_items l k (Item (Value s c i y) ∷ hs) = ap (λ (es : List Entry). record { place = reading_at s c i; number = y.count } ∷ es) (entries_items l (suc k) hs)
entries_items l k (Item Close ∷ hs) = entries_items l (suc k) hs
entries_items l k (Unclear ∷ hs) = entries_items l (suc k) hs

pub entries_text : (hs : List Said) → entries (items 1 hs) ≡ entries_of (its (text hs))
entries_text hs = sym (entries_items (length hs) 1 hs) ∙ sym (entries_opened 1 hs (gathered entry_at 1 hs ++ (at_label (length hs) close ∷ [])))

-- ---- the sizes are those of the first line that opens
none_sized : (l k : ℕ) (hs : List Said) → sizes_of (unlabelled (gathered entry_at k hs ++ (at_label l close ∷ []))) ≡ no_sizes
unfolding sizes_of
none_sized l k hs = gathered_passed entry_at Enters entry_brings (λ xs. sizes_of (unlabelled xs)) (λ k h r xs e. rw e.1) k hs (at_label l close ∷ [])

sizes_opened : (k : ℕ) (hs : List Said) (xs : List Labelled) → sizes_of (unlabelled xs) ≡ no_sizes
    → sizes_of (unlabelled (gathered opening_at k hs)) ≡ sizes_of (unlabelled (gathered opening_at k hs ++ xs))
unfolding gathered sizes_of
sizes_opened k [] xs e = sym e
sizes_opened k (Nothing ∷ hs) xs e = sizes_opened (suc k) hs xs e
sizes_opened k (Item (Opening z) ∷ hs) xs e = refl
sizes_opened k (Item (Point i x) ∷ hs) xs e = sizes_opened (suc k) hs xs e
sizes_opened k (Item (Value s c i y) ∷ hs) xs e = sizes_opened (suc k) hs xs e
sizes_opened k (Item Close ∷ hs) xs e = sizes_opened (suc k) hs xs e
sizes_opened k (Unclear ∷ hs) xs e = sizes_opened (suc k) hs xs e

pub sizes_text : (hs : List Said) → sizes_of (unlabelled (gathered opening_at 1 hs)) ≡ sizes_of (its (text hs))
sizes_text hs = sizes_opened 1 hs (gathered entry_at 1 hs ++ (at_label (length hs) close ∷ [])) (none_sized (length hs) 1 hs)

-- ---- one line more is marked
pub marked_none : {xs : List Labelled} {labels : List ℕ} {y : List ℤ} → Marked xs labels y → Marked (xs ++ []) labels y
marked_none {xs} {labels} {y} pic = subst (λ (l : List Labelled). Marked l labels y) (sym (plain xs)) pic
  where
    plain : (l : List Labelled) → l ++ [] ≡ l
    plain [] = refl
    plain (x ∷ l) = ap (λ (r : List Labelled). x ∷ r) (plain l)

-- the lines marked so far, and those still to come, are all lines
pub marked_next : {all : List Labelled} (xs : List Labelled) (k : ℕ) {hs rest : List Said} {h : Said} → hs ≡ h ∷ rest → all ≡ xs ++ items k hs
    → all ≡ (xs ++ item_at k h) ++ items (k + 1) rest
marked_next xs k {hs} {rest} {h} e q = q ∙ ap (λ (l : List Labelled). xs ++ l) (items_next k e) ∙ sym (append_assoc xs (item_at k h) (items (k + 1) rest))

-- none is to come
pub marked_all : {all xs : List Labelled} (k : ℕ) {hs : List Said} {labels : List ℕ} {y : List ℤ} → hs ≡ [] → all ≡ xs ++ items k hs → Marked xs labels y → Marked all labels y
marked_all {all} {xs} k {hs} {labels} {y} e q pic =
    subst (λ (l : List Labelled). Marked l labels y) (sym (q ∙ ap (λ (l : List Labelled). xs ++ l) (items_end k e))) (marked_none pic)
