-- 42: the word told is the first of a line that is not understood that does not fit. No record of a text is refused with 2, so that 42 is told of such a line only.
use Rattle.std.specs.Prelude.{◌≡◌, refl, Bool, true, false, not, cond, ◌⊎◌, ℕ, suc, ◌-◌, ◌<◌, T, length}
use Rattle.std.proofs.Common.{sym, ◌∙◌, ap, subst, inl, inr, arith, lt-ltb, le-ltb}
use mathlib.Core.List.{List, [], ◌∷◌, ◌++◌, reverse_aux, Memᴰ, head-eq_of_cons-eq, tail-eq_of_cons-eq}
use Rattle.std.proofs.Math.Option.{Option, none, some}
use Rattle.std.proofs.Math.Decide.{dec_lt}
use Rattle.whole.specs.Flags.{apart, cond_yes, cond_no}
use Rattle.words.specs.Words.{words}
use Rattle.table.specs.Table.{Given, given_at, given, First}
use Rattle.records.specs.Record.{Sizes, Entry, Record, opening, entry, close, Labelled, at_label, unlabelled, its, sizes_of, entries_of, closed, empty, has}
use Rattle.records.specs.Meaning.{fair, inside, fits, complete, last_rows, refusals}
use Rattle.records.specs.Sound.{clean}
use Rattle.records.specs.FirstFault.{first_here, fault, FaultAt, in_words}
use Rattle.intake.specs.Faults.{fault_first}
use Rattle.spoken.specs.Said.{said, odd_word}
use Rattle.spoken.specs.OddLaws.{odd_within, said_odd}
use Rattle.spoken.specs.declared.Said.{Said}
use Rattle.spoken.specs.declared.Said.TheVariants.{Nothing, Item, Unclear}
use Rattle.detail.specs.declared.Detail.TheVariants.{Word, NoWord}
use Rattle.text.specs.Text.{heard, unclear, some_opens, opening_at, entry_at, gathered, first_label, text, line_rows}
use Rattle.text.specs.Numbered.{line_said, not_understood, opens_again}
use Rattle.text.specs.RecordLines.{entry_or_close}
use Rattle.typed_text.specs.TableLaws.{lines_silent, opens_once}
use Rattle.text_detail.specs.TextDetail.{nth_line, nth_said, odd, detail_at, body_detail}
use Rattle.text_detail.specs.LineLaws.{said_at}
use Rattle.text_detail.specs.Told.{own_known, Told, by_lines, by_none_open, by_records, told_by}
use Rattle.textfile.specs.More.{Refused, OddWord}
use Rattle.textfile.specs.OddFits.{odd_fits}

-- ---- no record of a text is refused with 2
-- neither an entry nor the close behind other records
entry_behind : (before : List Record) (e : Entry) → empty before ≡ false → fault before (entry e) ≡ some 2 → ⊥
unfolding first_here
entry_behind before e q = rw q (go (closed before) (not (inside (sizes_of before) e)) (not (fits e)) (has e.place (entries_of before)))
  where
    go : (a b c d : Bool) → cond {A = Option ℕ} a (some 8) (cond b (some 4) (cond c (some 5) (cond d (some 6) none))) ≡ some 2 → ⊥
    go true b c d q = let w : ◌≡◌ {A = ℕ} 8 2 = cc in omega arith
    go false true c d q = let w : ◌≡◌ {A = ℕ} 4 2 = cc in omega arith
    go false false true d q = let w : ◌≡◌ {A = ℕ} 5 2 = cc in omega arith
    go false false false true q = let w : ◌≡◌ {A = ℕ} 6 2 = cc in omega arith
    go false false false false q = let w : ◌≡◌ {A = ℕ} 0 1 = cc in omega arith

close_behind : (before : List Record) → empty before ≡ false → fault before close ≡ some 2 → ⊥
unfolding first_here
close_behind before q = rw q (go (closed before) (not (complete (sizes_of before) (entries_of before))))
  where
    go : (a b : Bool) → cond {A = Option ℕ} a (some 8) (cond b (some 7) none) ≡ some 2 → ⊥
    go true b q = let w : ◌≡◌ {A = ℕ} 8 2 = cc in omega arith
    go false true q = let w : ◌≡◌ {A = ℕ} 7 2 = cc in omega arith
    go false false q = let w : ◌≡◌ {A = ℕ} 0 1 = cc in omega arith

-- nor an opening that stands first
opening_first : (z : Sizes) → fault [] (opening z) ≡ some 2 → ⊥
opening_first z e = go (fair z) (sym (fault_first z) ∙ e)
  where
    go : (b : Bool) → cond {A = Option ℕ} b none (some 3) ≡ some 2 → ⊥
    go true q = let w : ◌≡◌ {A = ℕ} 0 1 = cc in omega arith
    go false q = let w : ◌≡◌ {A = ℕ} 3 2 = cc in omega arith

some_before : (rs : List Record) (r : Record) (acc : List Record) → empty (reverse_aux rs (r ∷ acc)) ≡ false
some_before [] r acc = refl
some_before (q ∷ rs) r acc = some_before rs q (r ∷ acc)

-- of a text of which one line opens and no second
text_not_two : (hs : List Said) (l : ℕ) → (given (line_rows false 1 hs)).number ≡ 0 → T (some_opens hs) → First (refusals (text hs)) (given_at 2 l) → ⊥
text_not_two hs l c o f = go ((in_words (text hs) 2 l).0 f)
  where
    xs : List Labelled
    xs = gathered opening_at 1 hs

    rest : List Labelled
    rest = gathered entry_at 1 hs ++ (at_label (length hs) close ∷ [])

    first : Labelled
    first = at_label (first_label xs) (opening (sizes_of (unlabelled xs)))

    stands_so : (text hs).records ≡ first ∷ rest
    stands_so = ap (λ (ys : List Labelled). ys ++ rest) (opens_once 1 hs (lines_silent hs c) o)

    behind : (before : List Record) (it : Labelled) → empty before ≡ false → fault before it.it ≡ some 2 → ((e : Entry) × (it.it ≡ entry e)) ⊎ (it.it ≡ close) → ⊥
    behind before it q w (inl e) = entry_behind before e.0 q (sym (ap (fault before) e.1) ∙ w)
    behind before it q w (inr e) = close_behind before q (sym (ap (fault before) e) ∙ w)

    at : (before : List Labelled) (it : Labelled) (after : List Labelled) → first ∷ rest ≡ before ++ (it ∷ after) → fault (reverse_aux (unlabelled before) []) it.it ≡ some 2 → ⊥
    at [] it after q w = opening_first (sizes_of (unlabelled xs)) (ap (λ (y : Labelled). fault [] y.it) (head-eq_of_cons-eq q) ∙ w)
    at (y ∷ before) it after q w =
        let among : Memᴰ it rest = subst (Memᴰ it) (sym (tail-eq_of_cons-eq q)) (mathlib.Core.List.Memᴰ.append_right before (mathlib.Core.List.Memᴰ.head refl)) in
        behind (reverse_aux (unlabelled (y ∷ before)) []) it (some_before (unlabelled before) y.it []) w (entry_or_close hs it among)

    last : First (last_rows (text hs)) (given_at 2 l) → ⊥
    last (inl h) = let e = h.0 in omega arith
    last (inr (s, inl h)) = let e = h.0 in omega arith
    last (inr (s, inr (s', inl h))) = let e = h.0 in omega arith
    last (inr (s, inr (s', inr h))) = let e = ap (λ (a : Given). a.number) h.1 in omega arith

    go : FaultAt [] (text hs).records 2 l ⊎ (T (clean [] (its (text hs))) × First (last_rows (text hs)) (given_at 2 l)) → ⊥
    go (inl a) = at a.before a.it a.after (sym stands_so ∙ a.stands) a.fault_is
    go (inr a) = last a.1

-- ---- so the line is not understood
unclear_is : (h : Said) → unclear h ≡ true → h ≡ Unclear
unclear_is Nothing e = absurd (apart (sym e))
unclear_is (Item r) e = absurd (apart (sym e))
unclear_is Unclear e = refl

unclear_said : (hs : List Said) (l : ℕ) → Told hs 42 l → nth_said hs l ≡ Unclear
unclear_said hs l (by_lines (not_understood n f)) = unclear_is (nth_said hs l) (line_said f)
unclear_said hs l (by_lines (opens_again n f b)) = absurd (omega arith)
unclear_said hs l (by_none_open n) = absurd (omega arith)
unclear_said hs l (by_records r) = let w = own_known r 2 refl in absurd (text_not_two hs w.0 r.clear r.opened w.1)

pub of_42_holds : (s : List ℕ) (l : ℕ) → Refused s 42 l → OddWord s l
of_42_holds s l e =
    let ws = words (nth_line s l) in
    let u : said ws ≡ Unclear = said_at s (l - 1) ∙ unclear_said (heard s) l (told_by s 42 l (λ q. omega arith) (λ q. omega arith) e) in
    record { unclear = u; told = which (dec_lt (odd_word ws) (length ws)); fits = odd_fits ws; why = λ vs long alike. said_odd ws vs u long alike }
  where
    is : body_detail s ≡ odd (words (nth_line s l))
    is = ap (detail_at s) e

    which : let ws = words (nth_line s l) in Dec (odd_word ws < length ws)
        → ((odd_word ws < length ws) × (body_detail s ≡ Word (suc (odd_word ws)))) ⊎ ((odd_word ws ≡ length ws) × (body_detail s ≡ NoWord (suc (odd_word ws))))
    which (yes h) = let ws = words (nth_line s l) in inl (h, is ∙ sym (cond_yes (NoWord (suc (odd_word ws))) (lt-ltb (odd_word ws) (length ws) h) refl))
    which (no h) =
        let ws = words (nth_line s l) in
        let most = odd_within ws in
        inr (omega arith, is ∙ sym (cond_no (Word (suc (odd_word ws))) (le-ltb (odd_word ws) (length ws) (omega arith)) refl))
