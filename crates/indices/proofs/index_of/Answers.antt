-- `indices::index_of` meets its contract: the run is the one that its counts stand for.
use mathlib.Core.Path.{ap₂, subst}
use mathlib.Core.List.{List}
use Rattle.units.specs.declared.Input.{Input}
use Rattle.units.specs.declared.Reading.{Reading}
use Rattle.run.specs.declared.Run.{Run}
use Rattle.due.specs.Due.{Due}
use Rattle.indices.proofs.index_of.Goals as goal

pub returns : goal.returns
returns c =
    let y = c in
    let x = c in
    let s = c in
    let r = s.args.r in
    let e = ap₂ {C = Run} (λ (a : List Input) (b : List Reading). record { m = r.m; n = r.n; strokes = r.strokes; x = a; y = b }) x.inputs_of-x.ensures y.readings_of-y.ensures in
    record { due = subst (λ (r : Run). Due s.args.which r c.index_over.result) e c.index_over.ensures.due; told = c.index_over.ensures.told }
