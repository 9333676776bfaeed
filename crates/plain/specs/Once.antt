-- Only one answer fits what is stated of `print`: two that say the same are one.
use Rattle.std.specs.Prelude.{◌≡◌, refl, ℕ, Result, Ok, Err}
use Rattle.std.proofs.Common.{ap, arith}
use Rattle.plain.specs.declared.TooShort.{TooShort}
use Rattle.plain.specs.Plain.{Printed, as_printed}

number_is : {a b : Printed} → a ≡ b → a.number ≡ b.number
number_is e = ap (λ (a : Printed). a.number) e

pub one_answer : (q p : Result ℕ TooShort) → as_printed q ≡ as_printed p → q ≡ p
one_answer (Ok n) (Ok m) e = ap {B = Result ℕ TooShort} (λ (q : Printed). Ok q.len) e
one_answer (Ok n) (Err d) e = absurd (omega (arith, number_is e))
one_answer (Err d) (Ok n) e = absurd (omega (arith, number_is e))
one_answer (Err d) (Err f) e = refl
