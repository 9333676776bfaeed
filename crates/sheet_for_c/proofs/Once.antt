-- What `sheet` prints is handed on, and only one answer fits.
use Rattle.std.specs.Prelude.{◌≡◌, refl, List, ℕ, length, drop, Result, Ok, Err}
use Rattle.std.specs.Result.{result_unwrap_or}
use Rattle.std.proofs.Common.{sym, ap, subst, ◌∙◌, arith, length-drop, length-append}
use Rattle.plain.specs.declared.TooShort.{TooShort}
use Rattle.plain.specs.Plain.{Printed, as_printed}
use Rattle.sheet_text.specs.Sheet.{SheetDue, PrintDue}
use Rattle.sheet_text.specs.Sheet as S
use Rattle.sheet_text.specs.Once.{one_print}
use Rattle.sheet_for_c.specs.ForC.{Handed, fits, short}

-- what `sheet` prints is handed on
pub handed : {s before after : List ℕ} {q : Printed} → PrintDue s before after q → Handed s before after q.len
handed (S.fits t d h e f) = fits t d h (ap (λ (q : Printed). q.len) e) f
handed (S.short t d h e f) = short t d h (ap (λ (q : Printed). q.len) e) f

-- the length that an answer gives, and 0 where it gives none
len_is : (q : Result ℕ TooShort) → (as_printed q).len ≡ result_unwrap_or q 0
len_is (Ok n) = refl
len_is (Err e) = refl

pub handed_len : {s before after : List ℕ} {n : ℕ} (q : Result ℕ TooShort) → PrintDue s before after (as_printed q) → n ≡ result_unwrap_or q 0 → Handed s before after n
handed_len {s} {before} {after} q d e = subst (Handed s before after) (len_is q ∙ sym e) (handed d)

-- the other way, for the number that belongs to it
printed : {s before after : List ℕ} {n : ℕ} → Handed s before after n → (q : Printed) × PrintDue s before after q × (n ≡ q.len)
printed (fits t d h e f) = (record { number = 0; len = length t }, S.fits t d h refl f, e)
printed (short t d h e f) = (record { number = 14; len = 0 }, S.short t d h refl f, e)

-- two lengths and two buffers are one
pub record OneHanded (n m : ℕ) (after behind : List ℕ) : Type 0 where
  pub length_is : n ≡ m
  pub buffer : after ≡ behind

pub one_handed : {s before after behind : List ℕ} {n m : ℕ} → Handed s before after n → Handed s before behind m → OneHanded n m after behind
one_handed a b =
    let p = printed a in
    let q = printed b in
    let one = one_print p.1 q.1 in
    record { length_is = p.2 ∙ ap (λ (q : Printed). q.len) one.answer ∙ sym q.2; buffer = one.buffer }

-- a lent buffer stays as long as it was
pub handed_length : {s before after : List ℕ} {n : ℕ} → Handed s before after n → length after ≡ length before
handed_length {before = before} (fits t d h e f) = ap length f ∙ length-append t (drop (length t) before) ∙ omega (arith, length-drop (length t) before)
handed_length (short t d h e f) = ap length f
