-- `Page::put_bytes` meets its contract: as many bytes as there is room for go behind those that stand there.
use Rattle.std.proofs.Common.{◌≡◌, ap, ◌∙◌, ◌++◌, List, ℕ, ◌+◌, ◌-◌, ◌≤◌, min, length, take, rules, arith, length-take-le}
use Rattle.std.proofs.lemmas.Slice.{take-put_mid}
use borrow.Rule.Slice.PartMut.{put_mid}
use Rattle.plain.specs.Plain.{kept, longest}
use Rattle.plain.specs.KeptLaws.{kept_room}
use Rattle.plain.proofs.Page.put_bytes.Goals as goal

-- a part that is filled, by what there is room for
filled : (o s v : List ℕ) (at room k : ℕ) → length o ≡ longest → at ≤ longest → room ≡ min (longest - at) (length s) → v ≡ take room s
    → take (at + room) (put_mid at k o v) ≡ kept (take at o ++ s)
filled o s v at room k whole h r e =
    take-put_mid at k o v (at + room) (omega (arith, r, ap length e, length-take-le room s (omega arith))) (omega arith)
    ∙ ap (λ (l : List ℕ). take at o ++ l) (e ∙ ap (λ (n : ℕ). take n s) r)
    ∙ kept_room o at whole s h

pub returns : goal.returns
returns c =
    let p = c.self.inside in
    filled p.bytes c.args.s.now _ p.len c.min-room.result _ (search rules) c.self.invariant c.min-room.ensures c.copy_from_slice.ensures.after
    ∙ ap (λ (l : List ℕ). kept (l ++ c.args.s.now)) c.self.view_is
