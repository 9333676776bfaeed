-- `plain::copy` meets its contract: what is copied is what would be stored one by one.
use Rattle.std.proofs.Common.{◌≡◌, sym, refl, ap, ◌∙◌, ◌++◌, List, ℕ, ◌+◌, ◌-◌, ◌≤◌, length, take, drop, append_assoc, arith}
use Rattle.std.proofs.lemmas.List.Edits.{sets, sets-eq}
use borrow.Rule.Slice.PartMut.{put_mid, Post-is}
use Rattle.plain.proofs.copy.Goals as goal

-- a part that is stored whole
stored : (l s v : List ℕ) (at : ℕ) → at + length s ≤ length l → v ≡ s → put_mid at (at + length s - at) l v ≡ sets l at s
stored l s v at h e =
    ap (λ (v : List ℕ). put_mid at (at + length s - at) l v) e
    ∙ ap (λ (r : List ℕ). take at l ++ (s ++ r)) (Post-is at (at + length s) l (omega arith))
    ∙ sym (append_assoc (take at l) s (drop (at + length s) l))
    ∙ sym (sets-eq s l at h)

pub returns : goal.returns
returns c = (refl, stored c.args.out.now c.args.s.now _ c.args.at c.requires c.copy_from_slice.ensures.after)
