-- `Page::put_hex` keeps within the page: the place reached is at most its end.
use Rattle.std.proofs.Common.{◌≤◌}
use Rattle.trial.proofs.page.Page.put_hex.Given as goal

abbrev pub invariant-loop-b : goal.invariant-loop-b
invariant-loop-b l = l.at ≤ 8192
