-- No sheet has more than 831 bytes: its eleven lines. That the refusal line fits a text is in `plain`, `Most`.
use Rattle.std.specs.Prelude.{List, [], ◌∷◌, ◌++◌, ℕ, suc, ◌+◌, ◌≤◌, eqb, length}
use Rattle.std.proofs.Common.{arith, lit≤}
use Rattle.whole.specs.Flags.{cond_ind}
use Rattle.plain.specs.Digits.{decimal}
use Rattle.plain.specs.Plain.{space, line_feed, refused_word, longest}
use Rattle.plain.specs.Most.{Most, word, after, joined, decimal_most, fraction_most, percent_most}
use Rattle.due.specs.declared.Answer.{Answer}
use Rattle.due.specs.declared.Index.{Index}
use Rattle.due.specs.declared.Index.TheVariants as index
use Rattle.sheet_text.specs.Sheet.{points_word, cycles_word, line_word, name, head_line, told, index_line, last_line, lines}

head_most : (m n : ℕ) → Most (head_line m n) 56
head_most m n = joined (word points_word) (joined (decimal_most m) (joined (word cycles_word) (joined (decimal_most n) (word (line_feed ∷ [])))))

-- figures have room for at least a refusal
told_most : (number : ℕ) {figures : List ℕ} {n : ℕ} → 28 ≤ n → Most figures n → Most (told number figures) (suc (suc n))
told_most number {figures} {n} room h =
    let r : Most (refused_word ++ decimal number) n = record { most = omega (arith, (joined (word refused_word) (decimal_most number)).most) } in
    let f = cond_ind (eqb number 0) figures (refused_word ++ decimal number) (λ (l : List ℕ). Most l n) (λ _. h) (λ _. r) in
    record { most = omega (arith, (after space (joined f (word (line_feed ∷ [])))).most) }

index_most : (i : Index) (a : Answer) → Most (index_line i a) (length (name i) + 69)
index_most i a = joined (word (name i)) (told_most a.number (lit≤ tt) (joined (fraction_most a.index) (after space (percent_most a.thousandths))))

last_most : (a : Answer) → Most (last_line a) 91
last_most a = joined (word line_word) (told_most a.number (lit≤ tt) (joined (fraction_most a.slope) (after space (fraction_most a.offset))))

pub fits_lines : (m n : ℕ) (A : Index → Answer) → length (lines m n A) ≤ longest
fits_lines m n A =
    (joined (head_most m n)
    (joined (line index.Terminal)
    (joined (line index.Shifted)
    (joined (line index.Independent)
    (joined (line index.Zero)
    (joined (line index.Front)
    (joined (line index.Hysteresis)
    (joined (line index.Repeatability)
    (joined (line index.Lh)
    (joined (line index.Lhr) (last_most (A index.Lhr)))))))))))).most
  where
    line : (i : Index) → Most (index_line i (A i)) (length (name i) + 69)
    line i = index_most i (A i)
