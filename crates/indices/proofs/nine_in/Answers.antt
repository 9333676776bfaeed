-- `indices::nine_in` meets its contract: each ground is the one that is due, and what is shown of it is shown of the answer that is due.
use mathlib.Core.Path.{◌≡◌, ◌∙◌}
use Rattle.run.specs.Run.{lent}
use Rattle.run.specs.Checked.{Checked}
use Rattle.run.specs.declared.Run.{Run}
use Rattle.due.specs.Due.{span}
use Rattle.due.specs.declared.Index.TheVariants as index
use Rattle.grounds.specs.Basis.{spanned, span_is, meant_checked}
use Rattle.indices.specs.Nine.{shown_due, shows_due}
use Rattle.indices.proofs.nine_in.Goals.{After-span_of-span, Start}
use Rattle.indices.proofs.nine_in.Goals as goal

abbrev run : Start → Run
run s = lent s.args.z s.args.x.now s.args.y.now

-- what every part needs: the run is checked, and its span is told
fine : (s : Start) → Checked (run s)
fine s = meant_checked s.requires.0

span_is_run : (c : After-span_of-span) → c.span_of-span.result ≡ span (run c.before)
span_is_run c = let a = c.args in c.span_of-span.ensures.value ∙ span_is a.z a.x.now a.y.now

pub span_of-span-requires : goal.span_of-span-requires
span_of-span-requires c = let a = c.args in spanned a.z a.x.now a.y.now (fine (goal.at.span_of-span-requires c).Start)

pub returns : goal.returns
returns c =
    let p = c in
    let r = run (goal.at.returns c).Start in
    let e = span_is_run (goal.at.returns c).After-span_of-span in
    let terminal = c in
    let shown1 = c in
    let shifted = c in
    let shown2 = c in
    let independent = c in
    let shown3 = c in
    let zero = c in
    let shown4 = c in
    let front = c in
    let shown5 = c in
    let hysteresis = c in
    let shown6 = c in
    let repeatability = c in
    let shown7 = c in
    let lh = c in
    let shown8 = c in
    let lhr = c in
    let shown9 = c in
    record {
      terminal = shown_due index.Terminal r terminal.terminal.result terminal.terminal.ensures e shown1.shown_of.ensures;
      shifted = shown_due index.Shifted r shifted.shifted.result shifted.shifted.ensures e shown2.shown_of-2.ensures;
      independent = shown_due index.Independent r independent.independent.result independent.independent.ensures e shown3.shown_of-3.ensures;
      zero = shown_due index.Zero r zero.zero.result zero.zero.ensures e shown4.shown_of-4.ensures;
      front = shown_due index.Front r front.front.result front.front.ensures e shown5.shown_of-5.ensures;
      hysteresis = shown_due index.Hysteresis r hysteresis.hysteresis.result hysteresis.hysteresis.ensures e shown6.shown_of-6.ensures;
      repeatability = shown_due index.Repeatability r repeatability.repeatability.result repeatability.repeatability.ensures e shown7.shown_of-7.ensures;
      lh = shown_due index.Lh r lh.lh.result lh.lh.ensures e shown8.shown_of-8.ensures;
      lhr = shows_due index.Lhr r lhr.lhr-last.result lhr.lhr-last.ensures e shown9.shown_of-9.ensures c.ruled_of.ensures;
    }
