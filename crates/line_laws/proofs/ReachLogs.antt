-- Every store of a run gives a log: that is what holds after each event, said of what a restart would find.
use Rattle.std.proofs.Common.{◌≡◌, ℕ, Option, Some, None, refl}
use Rattle.std.proofs.lemmas.List.Elements.{All-weaker}
use Rattle.broadcast_log.specs.Log.{log_at_rest}
use Rattle.broadcast_log.proofs.ReopenedLogs.{reopens}
use Rattle.node_rules.specs.Memory.{Memory, Node}
use Rattle.line_rules.specs.Further.{beside_at}
use Rattle.line_rules.specs.FurtherRuns.{GiveLogs, GivesLog}
use Rattle.line_rules.specs.Logs.{LogIn}
use Rattle.line_rules.specs.Runs.{Entry}
use Rattle.line_rules.specs.Worlds.{World}
use Rattle.line_rules.proofs.LogSteps.{logged_at}
use Rattle.line_laws.specs.FurtherLines.{HoldsAfter}
use Rattle.line_laws.specs.Reach.{EveryLogIsKept}
use Rattle.line_laws.proofs.FurtherOctets.{every_run_holds}

log_given : (w : World) (number : ℕ) (x : Node) → LogIn (beside_at w number).log x.store.records x.memory → GivesLog (beside_at w number) x
log_given w number x h = by_memory x.memory refl h
  where
    by_memory : (o : Option Memory) → x.memory ≡ o → LogIn (beside_at w number).log x.store.records o → GivesLog (beside_at w number) x
    by_memory None e k = record { log = log_at_rest k.value; opened = reopens k.value x.store.records k.kept; held = rw e tt }
    by_memory (Some m) e k = record {
      log = log_at_rest (beside_at w number).log;
      opened = reopens (beside_at w number).log x.store.records k;
      held = rw e
          refl;
    }

give_logs : (x : Entry) → HoldsAfter x → GiveLogs x
give_logs x h number node there = log_given x.after number node (logged_at x.after.beside x.after.nodes number node h.logs there)

pub every_log : EveryLogIsKept
every_log entries r = All-weaker HoldsAfter GiveLogs give_logs entries (every_run_holds entries r)
