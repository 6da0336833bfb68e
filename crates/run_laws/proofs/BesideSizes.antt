-- The sizes of what stands beside a node's memory, by the histories of checks and scans and by the stored logs.
use Rattle.std.proofs.Common.{◌≡◌, ℕ, ◌+◌, ◌≤◌, List, [], ◌∷◌, ◌++◌, length, map, Option, Some, None, Result, Ok, Err, refl, sym, ap, subst, arith}
use Rattle.std.specs.Prelude.{All, IfSome, take}
use Rattle.std.proofs.lemmas.List.{length-map, length-take}
use Rattle.std.proofs.lemmas.List.Elements.{All-nil, All-cons, All-head, All-tail}
use Rattle.plc_base.specs.Keeper.{Records}
use Rattle.plc_base.specs.declared.keeper.BadStore.{BadStore}
use Rattle.store_tables.specs.SlotTables as slots
use Rattle.store_tables.proofs.OpenedTables.{opened_reads}
use Rattle.neighbour_checks.specs.Laws.{AtMost64}
use Rattle.neighbour_checks.specs.Neighbours.{Neighbours}
use Rattle.broadcast_log.specs.Log.{Log, log_at_rest, log_of, opened}
use Rattle.broadcast_log.specs.NextNumber.{Numbering, numbering_in}
use Rattle.broadcast_log.specs.OriginMarks.{Marks, at_rest, marks}
use Rattle.pan_discovery.specs.Agents.{agents_of}
use Rattle.pan_discovery.specs.History as scanning
use Rattle.node_rules.specs.Memory.{Memory, Node}
use Rattle.line_rules.specs.Further.{beside_at}
use Rattle.line_rules.specs.FurtherRuns.{AreOfHistoryAfter, GiveLogs, GivesLog, IsOfHistory, LogsAlwaysKept, check_history, scan_history}
use Rattle.line_rules.specs.Runs.{Entry}
use Rattle.line_rules.specs.Worlds.{World, node_at}
use Rattle.run_laws.specs.BesideSizes.{IsBesideSized}

-- the agents of a scan are the first 16
few_agents : (history : scanning.History) → length (scanning.after_history history).agents ≤ 16
unfolding scanning.after_history
few_agents history = let e = length-take 16 (agents_of (scanning.agents_since history)) in omega arith

-- a log that records give has at most 32 origins
few_marks : (records : Records) (log : Log) → opened records ≡ Ok log → length log.marks ≤ 32
few_marks records log e = by_limit (numbering_in records) (slots.opened marks records) refl e
  where
    by_limit : (n : Result Numbering BadStore) (t : Result Marks BadStore) → slots.opened marks records ≡ t → log_of n t ≡ Ok log → length log.marks ≤ 32
    by_limit (Err bad) t is e = absurd (cc)
    by_limit (Ok numbering) (Err bad) is e = absurd (cc)
    by_limit (Ok numbering) (Ok table) is e =
        let same : table ≡ log.marks = cc in
        let reading = opened_reads marks records (Ok table) (sym is) in
        subst (λ (t : Marks). length t ≤ 32) same reading.sound.short

-- so has a log at rest
few_at_rest : (log held : Log) → log ≡ log_at_rest held → length log.marks ≤ 32 → length held.marks ≤ 32
few_at_rest log held same few =
    let e : length log.marks ≡ length (map at_rest held.marks) = ap (λ (l : Log). length l.marks) same in
    let n = length-map held.marks at_rest in
    omega arith

few_origins : (held : Log) (x : Node) (log : Log) → opened x.store.records ≡ Ok log → (o : Option Memory) → IfSome o (λ (m : Memory). log ≡ log_at_rest held)
    → IfSome o (λ (m : Memory). length held.marks ≤ 32)
few_origins held x log is None same = tt
few_origins held x log is (Some m) same = few_at_rest log held same (few_marks x.store.records log is)

sized : (at_most : AtMost64) (before : List Entry) (w : World) → IsOfHistory before w → ((number : ℕ) (x : Node) → node_at w number ≡ Some x
    → GivesLog (beside_at w number) x) → IsBesideSized w
sized at_most before w of logs = record {
  neighbours = λ number. subst (λ (s : Neighbours). length s.checks + length s.listed ≤ 64) (sym (of.checks number)) (at_most (check_history number [] before));
  agents = λ number. subst (λ (s : scanning.Scanned). length s.agents ≤ 16) (sym (of.scan number)) (few_agents (scan_history number [] before));
  origins = λ number x there.
      let g = logs number x there in
      few_origins (beside_at w number).log x g.log g.opened x.memory g.held;
}

abbrev IsEntrySized : Entry → Type 0
IsEntrySized x = IsBesideSized x.after

pub all_sized : AtMost64 → (before entries : List Entry) → AreOfHistoryAfter before entries → LogsAlwaysKept entries → All IsEntrySized entries
all_sized at_most before [] of logs = All-nil IsEntrySized
all_sized at_most before (x ∷ xs) of logs =
    All-cons IsEntrySized x xs (sized at_most (before ++ x ∷ []) x.after of.0 (All-head GiveLogs x xs logs))
    (all_sized at_most (before ++ x ∷ []) xs of.1 (All-tail GiveLogs x xs logs))
