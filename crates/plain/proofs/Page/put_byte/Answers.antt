-- `Page::put_byte` meets its contract: a full page stays as it is.
use Rattle.std.proofs.Common.{ap, ◌∙◌, sym, ◌∷◌, [], ◌++◌, List, ℕ, rules, arith}
use Rattle.plain.specs.Plain.{kept}
use Rattle.plain.specs.KeptLaws.{kept_one, kept_full}
use Rattle.plain.proofs.Page.put_byte.Goals as goal

pub returns-then-self-lt831 : goal.returns-then-self-lt831
returns-then-self-lt831 c =
    let p = c.self.inside in
    kept_one p.bytes p.len (search rules) c.args.b c.if-self-lt831.true ∙ ap (λ (l : List ℕ). kept (l ++ (c.args.b ∷ []))) c.self.view_is

pub returns-else-self-lt831 : goal.returns-else-self-lt831
returns-else-self-lt831 c =
    let p = c.self.inside in
    sym c.self.view_is ∙ kept_full p.bytes p.len (search rules) (c.args.b ∷ []) (omega (arith, c.self.invariant, c.if-self-lt831.false)) ∙ ap (λ (l : List ℕ). kept (l ++ (c.args.b ∷ []))) c.self.view_is
