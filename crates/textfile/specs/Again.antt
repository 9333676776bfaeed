-- 46: the line told is the first that opens too or gives the same place, and it stands before the line refused.
use Rattle.std.specs.Prelude.{◌≡◌, refl, Bool, true, ◌&&◌, ℕ, ◌+◌, ◌-◌, ◌<◌, T, ltb, ℤ, get_or}
use Rattle.std.proofs.Common.{sym, ◌∙◌, ap, subst, inl, inr, arith, lt-ltb, ltb→lt}
use mathlib.Core.List.Memᴰ
use mathlib.Core.List.{List, ◌++◌, ◌∷◌, Memᴰ}
use Rattle.std.proofs.Math.Facts.{and_yes}
use Rattle.whole.specs.Flags.{apart, cond_yes}
use Rattle.limits.specs.Laws.{Fair, sizes_within}
use Rattle.run.specs.Places.{Place, input_at, reading_at, within}
use Rattle.records.specs.Record.{Sizes, entry, Labelled, at_label, its, sizes_of}
use Rattle.record.specs.declared.Record.TheVariants.{Opening, Point, Value, Close}
use Rattle.spoken.specs.declared.Said.{Said}
use Rattle.spoken.specs.declared.Said.TheVariants.{Nothing, Item, Unclear}
use Rattle.detail.specs.Detail.{largest, label_at, told_where}
use Rattle.detail.specs.Again.{Again, six_again}
use Rattle.detail.specs.declared.Detail.TheVariants.{Earlier}
use Rattle.text.specs.Text.{heard, opens, text}
use Rattle.text.specs.Numbered.{line_counted, line_said, FirstOf, first_opening, not_understood, opens_again}
use Rattle.text.specs.RecordLines.{Gives, entry_line}
use Rattle.text.specs.RecordOrder.{lower_front}
use Rattle.text_detail.specs.TextDetail.{nth_said, opening_line, told_before, detail_at}
use Rattle.text_detail.specs.PlaceLines.{first_at, stands_first, giving, gives_giving, giving_gives, first_giving}
use Rattle.text_detail.specs.Told.{own_known, Told, by_lines, by_none_open, by_records, told_by}
use Rattle.textfile.specs.More.{Refused, Alike, both_open, same_input, same_reading, ToldFirst}

-- ---- lines of a kind
opens_is : (h : Said) → opens h ≡ true → (z : Sizes) × (h ≡ Item (Opening z))
opens_is Nothing e = absurd (apart (sym e))
opens_is (Item (Opening z)) e = (z, refl)
opens_is (Item (Point i x)) e = absurd (apart (sym e))
opens_is (Item (Value s c i y)) e = absurd (apart (sym e))
opens_is (Item Close) e = absurd (apart (sym e))
opens_is Unclear e = absurd (apart (sym e))

-- two that open, and two that give the same place, are alike
opens_alike : (h g : Said) → opens h ≡ true → opens g ≡ true → Alike h g
opens_alike h g a b = rw ((opens_is h a).1, (opens_is g b).1) both_open

gives_alike : (h g : Said) (p : Place) (u v : ℤ) → Gives h p u → Gives g p v → Alike h g
gives_alike h g (input_at i) u v a b = rw (a.1, b.1) same_input
gives_alike h g (reading_at s c i) u v a b = rw (a.1, b.1) same_reading

giving_alike : (p : Place) (h g : Said) → giving p h ≡ true → giving p g ≡ true → Alike h g
giving_alike p h g a b = let u = giving_gives p h a in let v = giving_gives p g b in gives_alike h g p u.0 v.0 u.1 v.1

-- of two that are alike both are of the kind, or neither
alike_opens : (h g : Said) → Alike h g → opens h ≡ opens g
alike_opens h g both_open = refl
alike_opens h g same_input = refl
alike_opens h g same_reading = refl

alike_giving : (p : Place) (h g : Said) → Alike h g → giving p h ≡ giving p g
alike_giving p h g both_open = refl
alike_giving p h g same_input = refl
alike_giving p h g same_reading = refl

-- what is told of a line that gives a place
told_place : (hs : List Said) (h : Said) (p : Place) (v : ℤ) → Gives h p v → told_before hs h ≡ Earlier (told_where p (text hs).records)
told_place hs h (input_at i) v g = ap (told_before hs) g.1
told_place hs h (reading_at s c i) v g = ap (told_before hs) g.1

-- a place of a run is one of the largest
within_most : (z : Sizes) → Fair z → (p : Place) → T (within z p) → within largest p ≡ true
within_most z f (input_at i) w = lt-ltb i 11 (omega (arith, ltb→lt i z.m w, f.m_most))
within_most z f (reading_at s c i) w =
    let u = and_yes (ltb s z.strokes) (ltb c z.n && ltb i z.m) w in
    let v = and_yes (ltb c z.n) (ltb i z.m) u.1 in
    let hs : s < 2 = omega (arith, ltb→lt s z.strokes u.0, f.strokes_most) in
    let hc : c < 10 = omega (arith, ltb→lt c z.n v.0, f.n_most) in
    let hi : i < 11 = omega (arith, ltb→lt i z.m v.1, f.m_most) in
    rw (lt-ltb s 2 hs, lt-ltb c 10 hc, lt-ltb i 11 hi)

module _ (s : List ℕ) (l : ℕ) (e : Refused s 46 l) where
  abbrev hs : List Said
  hs = heard s

  -- the line refused is of a kind, and so is an earlier one: the first of the kind is told
  first_told : (t : Said → Bool) (first : ℕ) → FirstOf t 1 hs first → ((h g : Said) → t h ≡ true → t g ≡ true → Alike h g) → ((h g : Said) → Alike h g → t h ≡ t g)
      → told_before hs (nth_said hs l) ≡ Earlier first → t (nth_said hs l) ≡ true → (j : ℕ) → 1 + j < l → t (get_or hs j Nothing) ≡ true → ToldFirst s l
  first_told t first is both kind told second j before q =
      let f = is j q in
      record {
        first = first;
        told = ap (detail_at s) e ∙ told;
        counted = line_counted f.0;
        earlier = omega (arith, f.1);
        alike = both (nth_said hs first) (nth_said hs l) (line_said f.0) second;
        none_before = λ k low b alike. omega (arith, (is (k - 1) (kind (nth_said hs k) (nth_said hs l) alike ∙ second)).1);
      }

  -- an entry stands where an earlier one does
  first_there : Again (text hs).records l → ToldFirst s l
  first_there a =
      let xs = (text hs).records in
      let d = a.what in
      let p = d.place in
      let z = sizes_of (its (text hs)) in
      let told_is : label_at p xs ≡ told_where p xs = cond_yes 0 (within_most z (sizes_within z a.fair_sizes) p a.inside_whole) refl in
      let among : (y : Labelled) → Memᴰ y (a.before ++ (a.it ∷ a.after)) → Memᴰ y xs = λ y m. subst (λ (ys : List Labelled). Memᴰ y ys) (sym a.stands) m in
      let y = at_label (label_at p a.before) (entry (first_at p a.before)) in
      let m = stands_first p a.before a.earlier in
      let front = entry_line hs y (first_at p a.before) (among y (Memᴰ.append_left (a.it ∷ a.after) m)) refl in
      let lower = lower_front hs a.before a.it a.after a.stands y (first_at p a.before) d m refl a.entry_is in
      let second = line_said (entry_line hs a.it d (among a.it (Memᴰ.append_right a.before (Memᴰ.head refl))) a.entry_is) in
      let here : Gives (nth_said hs l) p d.number = subst (λ (k : ℕ). Gives (nth_said hs k) p d.number) (sym a.label_is) second in
      first_told (giving p) (told_where p xs) (subst (FirstOf (giving p) 1 hs) told_is (first_giving p hs)) (giving_alike p) (alike_giving p)
      (told_place hs (nth_said hs l) p d.number here) (gives_giving (nth_said hs l) p d.number here)
      front.index (omega (arith, front.is, lower, a.label_is)) (gives_giving (get_or hs front.index Nothing) p (first_at p a.before).number front.holds)

  -- by the rows that told it
  first_by : Told hs 46 l → ToldFirst s l
  first_by (by_lines (not_understood n f)) = absurd (omega arith)
  first_by (by_lines (opens_again n f (inl o))) = absurd (apart (sym o))
  first_by (by_lines (opens_again n f (inr b))) =
      let o = line_said f in
      first_told opens (opening_line hs) (first_opening hs) opens_alike alike_opens (ap (told_before hs) (opens_is (nth_said hs l) o).1) o b.0 b.1 b.2
  first_by (by_none_open n) = absurd (omega arith)
  first_by (by_records r) = let w = own_known r 6 refl in first_there (subst (Again (text hs).records) w.2 (six_again (text hs) w.0 w.1))

pub of_46_holds : (s : List ℕ) (l : ℕ) → Refused s 46 l → ToldFirst s l
of_46_holds s l e = first_by s l e (told_by s 46 l (λ q. omega arith) (λ q. omega arith) e)
