use Rattle.std.proofs.Common.{◌≡◌, drop}
use Rattle.run_charts.specs.Columns.{with_senders}
use Rattle.run_charts.proofs.columns.add_senders.Given as goal

-- the columns so far, with those of the flights to come
abbrev pub invariant-loop-flight : goal.invariant-loop-flight
invariant-loop-flight l = with_senders (drop l.flight-index l.flights) l.columns.items ≡ with_senders l.flights l.fn.columns.items
