-- That a refusal told by its number and its place is one value: so of what `run` and `intake` answer, as of `plain`, only one answer fits (the paper, "How much each promise must say").
use Rattle.std.specs.Prelude.{◌≡◌, refl, [], ◌∷◌, ℕ, get_or, Result, ⊤}
use Rattle.std.proofs.Common.{Ok, Err, ap, ap₂, sym, ◌∙◌}
use Rattle.table.specs.Causes.{number, checked, refused_with}
use Rattle.table.specs.CauseLaws.{not_zero}
use Rattle.table.specs.declared.Cause.{Cause}
use Rattle.table.specs.declared.Cause.TheVariants.{Cut, Unknown, Sizes, Outside, Beyond, Twice, Missing, Behind, Unrisen, Scattered, Flat, Several, OneCycle, Short, Negative, UpOnly}
use Rattle.table.specs.declared.Refusal.{Refusal}
use Rattle.run.specs.Checks.{Verdict, as_verdict}

-- the causes by their numbers, the first under 1
cause_of : ℕ → Cause
cause_of k = get_or (Cut ∷ Cut ∷ Unknown ∷ Sizes ∷ Outside ∷ Beyond ∷ Twice ∷ Missing ∷ Behind ∷ Unrisen ∷ Scattered ∷ Flat ∷ Several ∷ OneCycle ∷ Short ∷ Negative ∷ []) k UpOnly

back : (c : Cause) → cause_of (number c) ≡ c
unfolding cause_of
back Cut = refl
back Unknown = refl
back Sizes = refl
back Outside = refl
back Beyond = refl
back Twice = refl
back Missing = refl
back Behind = refl
back Unrisen = refl
back Scattered = refl
back Flat = refl
back Several = refl
back OneCycle = refl
back Short = refl
back Negative = refl
back UpOnly = refl

pub one_cause : (b c : Cause) → number b ≡ number c → b ≡ c
one_cause b c e = sym (back b) ∙ ap cause_of e ∙ back c

abbrev made : Cause → ℕ → Result ⊤ Refusal
made c p = Err (record { cause = c; place = p })

-- of a run: `run` `check_over` and `shape_over`
pub one_check : (q p : Result ⊤ Refusal) → as_verdict (checked q) ≡ as_verdict (checked p) → q ≡ p
one_check (Ok u) (Ok v) e = refl
one_check (Ok u) (Err b) e = absurd (not_zero b.cause (sym (ap (λ (v : Verdict). v.number) e)))
one_check (Err a) (Ok v) e = absurd (not_zero a.cause (ap (λ (v : Verdict). v.number) e))
one_check (Err a) (Err b) e =
    let c : a.cause ≡ b.cause = one_cause a.cause b.cause (ap (λ (v : Verdict). v.number) e) in
    let p : a.place ≡ b.place = ap (λ (v : Verdict). v.place) e in
    ap₂ made c p

-- of an entry: `intake` `take_point` and `take_reading`
pub one_taken : (q p : Result ⊤ Cause) → refused_with q ≡ refused_with p → q ≡ p
one_taken (Ok u) (Ok v) e = refl
one_taken (Ok u) (Err b) e = absurd (not_zero b (sym e))
one_taken (Err a) (Ok v) e = absurd (not_zero a e)
one_taken (Err a) (Err b) e = ap (λ (c : Cause). Err c) (one_cause a b e)
