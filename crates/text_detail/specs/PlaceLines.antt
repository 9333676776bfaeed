-- The line of a place: the label told there is the number of the first line that gives it, and that line gives the number told; the line of a point is that of its input.
use Rattle.std.specs.Prelude.{◌≡◌, refl, Bool, true, false, cond, ◌||◌, ℕ, suc, T, ℤ}
use Rattle.std.proofs.Common.{sym, ◌∙◌, ap, subst}
use mathlib.Core.List.{List, [], ◌∷◌, Memᴰ}
use Rattle.whole.specs.Flags.{apart}
use Rattle.units.specs.declared.Input.{Input}
use Rattle.run.specs.Places.{Place, input_at, reading_at, same}
use Rattle.run.specs.PlaceLaws.{same_self, same_equal}
use Rattle.records.specs.Record.{Entry, Record, opening, entry, close, unknown, cut, surplus, Labelled, at_label, its, unlabelled, entries_of, has, number_at}
use Rattle.record.specs.declared.Record.TheVariants.{Opening, Point, Value, Close}
use Rattle.spoken.specs.declared.Said.{Said}
use Rattle.spoken.specs.declared.Said.TheVariants.{Nothing, Item, Unclear}
use Rattle.detail.specs.Detail.{stands_at, label_at}
use Rattle.records.specs.Record.{entries}
use Rattle.text.specs.Text.{gathered, text, gives_point, point_line}
use Rattle.text.specs.Numbered.{Line, line_said, FirstOf, first_of}
use Rattle.text.specs.RecordLines.{Gives, entry_line}
use Rattle.text_detail.specs.TextDetail.{nth_said}
use Rattle.text_detail.specs.Lines.{items}
use Rattle.text_detail.specs.LineLaws.{label_text}

-- ---- the first entry at a place
-- with the label and the number told there
abbrev pub first_at : Place → List Labelled → Entry
first_at p xs = record { place = p; number = number_at p (entries xs) }

-- is one of the records
pub stands_first : (p : Place) (xs : List Labelled) → T (has p (entries xs)) → Memᴰ (at_label (label_at p xs) (entry (first_at p xs))) xs
unfolding label_at number_at has entries_of
stands_first p [] h = absurd h
stands_first p (x ∷ xs) h = go x.it refl h (stands_first p xs)
  where
    go : (r : Record) → x.it ≡ r → T (has p (entries_of (r ∷ unlabelled xs))) → (T (has p (entries xs)) → Memᴰ (at_label (label_at p xs) (entry (first_at p xs))) xs)
        → Memᴰ (at_label (cond (stands_at p r) x.label (label_at p xs)) (entry (record { place = p; number = number_at p (entries_of (r ∷ unlabelled xs)) }))) (x ∷ xs)
    go (opening z) q t later = Memᴰ.tail (later t)
    go (entry e) q t later = here (same p e.place) refl t
      where
        here : (b : Bool) → same p e.place ≡ b → T (b || has p (entries xs))
            → Memᴰ (at_label (cond b x.label (label_at p xs)) (entry (record { place = p; number = cond b e.number (number_at p (entries xs)) }))) (x ∷ xs)
        here true w u =
            let it : entry (record { place = p; number = e.number }) ≡ x.it = ap (λ (r : Place). entry (record { place = r; number = e.number })) (same_equal p e.place w) ∙ sym q in
            Memᴰ.head (ap (at_label x.label) it)
        here false w u = Memᴰ.tail (later u)
    go close q t later = Memᴰ.tail (later t)
    go unknown q t later = Memᴰ.tail (later t)
    go cut q t later = Memᴰ.tail (later t)
    go surplus q t later = Memᴰ.tail (later t)

-- and a line gives it
pub place_line : (hs : List Said) (p : Place) → T (has p (entries_of (its (text hs)))) → Line 1 hs (label_at p (text hs).records) (λ h. Gives h p (number_at p (entries_of (its (text hs)))))
place_line hs p t = let xs = (text hs).records in entry_line hs (at_label (label_at p xs) (entry (first_at p xs))) (first_at p xs) (stands_first p xs t) refl

-- ---- the first line that gives a place
abbrev pub giving : Place → Said → Bool
giving p Nothing = false
giving p (Item (Opening z)) = false
giving p (Item (Point i x)) = same p (input_at i)
giving p (Item (Value s c i y)) = same p (reading_at s c i)
giving p (Item Close) = false
giving p Unclear = false

pub gives_giving : (h : Said) (p : Place) (v : ℤ) → Gives h p v → giving p h ≡ true
gives_giving h (input_at i) v g = ap (giving (input_at i)) g.1 ∙ same_self (input_at i)
gives_giving h (reading_at s c i) v g = ap (giving (reading_at s c i)) g.1 ∙ same_self (reading_at s c i)

pub giving_gives : (p : Place) (h : Said) → giving p h ≡ true → (v : ℤ) × Gives h p v
giving_gives p Nothing e = absurd (apart (sym e))
giving_gives p (Item (Opening z)) e = absurd (apart (sym e))
giving_gives p (Item (Point i x)) e = subst (λ (q : Place). (v : ℤ) × Gives (Item (Point i x)) q v) (sym (same_equal p (input_at i) e)) (x.count, (x, refl, refl))
giving_gives p (Item (Value s c i y)) e = subst (λ (q : Place). (v : ℤ) × Gives (Item (Value s c i y)) q v) (sym (same_equal p (reading_at s c i) e)) (y.count, (y, refl, refl))
giving_gives p (Item Close) e = absurd (apart (sym e))
giving_gives p Unclear e = absurd (apart (sym e))

label_step : (p : Place) (k : ℕ) (h : Said) (hs : List Said) → label_at p (items k (h ∷ hs)) ≡ cond (giving p h) k (label_at p (items (suc k) hs))
unfolding gathered label_at
label_step p k Nothing hs = refl
label_step p k (Item (Opening z)) hs = refl
label_step p k (Item (Point i x)) hs = refl
label_step p k (Item (Value s c i y)) hs = refl
label_step p k (Item Close) hs = refl
label_step p k Unclear hs = refl

pub first_giving : (p : Place) (hs : List Said) → FirstOf (giving p) 1 hs (label_at p (text hs).records)
first_giving p hs = subst (FirstOf (giving p) 1 hs) (label_text p hs) (first_of (λ k gs. label_at p (items k gs)) (giving p) (label_step p) refl 1 hs)

-- ---- the line of a point
point_giving : (i : ℕ) (h : Said) → gives_point i h ≡ giving (input_at i) h
point_giving i Nothing = refl
point_giving i (Item (Opening z)) = refl
point_giving i (Item (Point j x)) = refl
point_giving i (Item (Value s c j y)) = refl
point_giving i (Item Close) = refl
point_giving i Unclear = refl

point_label : (i k : ℕ) (hs : List Said) → point_line k hs i ≡ label_at (input_at i) (items k hs)
unfolding point_line gathered label_at
point_label i k [] = refl
point_label i k (h ∷ hs) = rw (label_step (input_at i) k h hs, point_giving i h, point_label i (suc k) hs)

pub point_said : (hs : List Said) (i : ℕ) → T (has (input_at i) (entries_of (its (text hs)))) → (x : Input) × (nth_said hs (point_line 1 hs i) ≡ Item (Point i x))
point_said hs i t =
    let g = line_said (place_line hs (input_at i) t) in
    (g.0, ap (nth_said hs) (point_label i 1 hs ∙ label_text (input_at i) hs) ∙ g.1)
