-- Laws of a sheet: its lines are the parts that a text grows by, and it fits a text.
use Rattle.std.specs.Prelude.{◌≡◌, refl, Bool, true, false, cond, List, [], ◌∷◌, ◌++◌, ℕ, ◌+◌, ◌<◌, ltb, ℤ, length, drop}
use Rattle.std.proofs.Common.{sym, ap, ap₂, subst, ◌∙◌, arith, eq-eqb, ne_eqb, ltb-true, ltb-false}
use Rattle.plain.specs.Digits.{digit, decimal}
use Rattle.plain.specs.DigitLaws.{decimal_one}
use Rattle.plain.specs.Plain.{space, line_feed, refused_word, at_word, refused_line, Printed, printed, buffer_after, kept}
use Rattle.plain.specs.KeptLaws.{kept_two, kept_whole}
use Rattle.plain.specs.Most.{fits_refused}
use Rattle.run.specs.Run.{lent}
use Rattle.run.specs.declared.Run.{Run}
use Rattle.reader.specs.Into.{ReadInto, Opening}
use Rattle.reader.specs.Meaning.{meaning}
use Rattle.reader.specs.declared.Answer as meant
use Rattle.reader.specs.declared.Taken.{Taken}
use Rattle.due.specs.declared.Answer.{Answer}
use Rattle.due.specs.declared.Index.{Index}
use Rattle.due.specs.declared.Index.TheVariants as index
use Rattle.sheet_text.specs.Sheet.{head_line, told, index_line, last_line, lines, SheetDue, refused, accepted, PrintDue, fits, short}
use Rattle.sheet_text.specs.Grown.{RunText}
use Rattle.sheet_text.specs.Longest.{fits_lines}

-- ---- what follows a name
pub told_figures : (number : ℕ) (figures : List ℕ) → number ≡ 0 → told number figures ≡ space ∷ (figures ++ (line_feed ∷ []))
told_figures number figures e = simp (eq-eqb number 0 e)

pub told_refused : (number : ℕ) (figures : List ℕ) → (number ≡ 0 → ⊥) → told number figures ≡ space ∷ ((refused_word ++ decimal number) ++ (line_feed ∷ []))
told_refused number figures n = simp (ne_eqb number 0 n)

-- ---- nine answers
module _ (a b c d e f g h i : Answer) where
  abbrev pub answers : Index → Answer
  answers index.Terminal = a
  answers index.Shifted = b
  answers index.Independent = c
  answers index.Zero = d
  answers index.Front = e
  answers index.Hysteresis = f
  answers index.Repeatability = g
  answers index.Lh = h
  answers index.Lhr = i

  pub each : (P : Index → Answer → Type 0) → P index.Terminal a → P index.Shifted b → P index.Independent c → P index.Zero d → P index.Front e → P index.Hysteresis f → P index.Repeatability g → P index.Lh h → P index.Lhr i → (k : Index) → P k (answers k)
  each P p q r s t u v w x index.Terminal = p
  each P p q r s t u v w x index.Shifted = q
  each P p q r s t u v w x index.Independent = r
  each P p q r s t u v w x index.Zero = s
  each P p q r s t u v w x index.Front = t
  each P p q r s t u v w x index.Hysteresis = u
  each P p q r s t u v w x index.Repeatability = v
  each P p q r s t u v w x index.Lh = w
  each P p q r s t u v w x index.Lhr = x

-- eleven lines that are put one behind the other
module _ (m n : ℕ) (A : Index → Answer) where
  abbrev line : Index → List ℕ
  line i = index_line i (A i)

  pub lines_put : (t : List ℕ) {a b c d e f g h i j p : List ℕ}
      → a ≡ kept (t ++ head_line m n)
      → b ≡ kept (a ++ line index.Terminal)
      → c ≡ kept (b ++ line index.Shifted)
      → d ≡ kept (c ++ line index.Independent)
      → e ≡ kept (d ++ line index.Zero)
      → f ≡ kept (e ++ line index.Front)
      → g ≡ kept (f ++ line index.Hysteresis)
      → h ≡ kept (g ++ line index.Repeatability)
      → i ≡ kept (h ++ line index.Lh)
      → j ≡ kept (i ++ line index.Lhr)
      → p ≡ kept (j ++ last_line (A index.Lhr)) → p ≡ kept (t ++ lines m n A)
  lines_put t {a} {b} {c} {d} {e} {f} {g} {h} {i} q₀ q₁ q₂ q₃ q₄ q₅ q₆ q₇ q₈ q₉ q₁₀ =
      kept_two t (head_line m n) _ q₀
      (kept_two a (line index.Terminal) _ q₁
      (kept_two b (line index.Shifted) _ q₂
      (kept_two c (line index.Independent) _ q₃
      (kept_two d (line index.Zero) _ q₄
      (kept_two e (line index.Front) _ q₅
      (kept_two f (line index.Hysteresis) _ q₆
      (kept_two g (line index.Repeatability) _ q₇
      (kept_two h (line index.Lh) _ q₈
      (kept_two i (line index.Lhr) _ q₉ q₁₀)))))))))

-- ---- the sheet of a byte string that was read, on a page that was empty
module _ {s : List ℕ} {x y : List ℤ} {t : Taken} (e : ReadInto s x y t) {l p : List ℕ} (empty : l ≡ []) where
  pub sheet_refused : (t.number ≡ 0 → ⊥) → p ≡ kept (l ++ refused_line t.number t.place) → SheetDue s p
  sheet_refused n f = refused (λ z. n (e.number ∙ z)) (kept_whole empty f (fits_refused t.number t.place) ∙ ap₂ refused_line e.number e.place)

  pub sheet_accepted : t.number ≡ 0 → RunText (lent t.sizes x y) l p → SheetDue s p
  sheet_accepted z f =
      let g = subst (λ (r : Run). RunText r l p) (sym (e.run z)) f in
      let r = (meaning s).run in
      accepted (sym e.number ∙ z) g.answers g.due (kept_whole empty g.is (fits_lines r.m r.n g.answers))

-- ---- the sheet of a byte string that is refused at its opening
pub sheet_unopened : {s : List ℕ} {t : Taken} → Opening s t → (t.number ≡ 0 → ⊥) → SheetDue s (refused_line t.number 0)
sheet_unopened o n =
    let e = o.refuses n in
    refused (λ z. n (sym (ap (λ (a : meant.Answer). a.number) e) ∙ z)) (sym (ap (λ (a : meant.Answer). refused_line a.number a.place) e))

-- "refused ", a digit and " at 0"
pub unopened_line : (number : ℕ) → number < 10 → refused_word ++ ((48 + number) ∷ (at_word ++ (48 ∷ line_feed ∷ []))) ≡ refused_line number 0
unopened_line number h =
    let d : 48 + number ≡ digit number = omega arith in
    let one : (48 + number) ∷ [] ≡ decimal number = ap (λ (k : ℕ). k ∷ []) d ∙ sym (decimal_one number h) in
    ap₂ (λ (a b : List ℕ). refused_word ++ (a ++ (at_word ++ (b ++ (line_feed ∷ []))))) one (sym (decimal_one 0 (omega arith)))

-- ---- a sheet that was printed
pub print_due : {s t before after : List ℕ} {q : Printed} → SheetDue s t → q ≡ printed t before → after ≡ buffer_after t before → PrintDue s before after q
print_due {s} {t} {before} {after} {q} d = go (ltb (length before) (length t)) refl
  where
    go : (b : Bool) → ltb (length before) (length t) ≡ b → q ≡ cond b (record { number = 14; len = 0 }) (record { number = 0; len = length t }) → after ≡ cond b before (t ++ drop (length t) before) → PrintDue s before after q
    go true e = short t d (ltb-true (length before) (length t) e)
    go false e = fits t d (ltb-false (length before) (length t) e)
