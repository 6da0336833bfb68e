-- Every run of the network is safe: its parts are laws of their own.
use Rattle.std.proofs.Common.{◌≤◌, List, [], ◌∷◌, ◌++◌}
use Rattle.std.proofs.lemmas.List.Elements.{All-head, All-tail}
use Rattle.node_rules.specs.Ciphers.{network}
use Rattle.line_rules.specs.Runs.{Entry}
use Rattle.line_rules.specs.SafeRuns.{IsSized, IsAlwaysSized, IsSafeAfter}
use Rattle.line_rules.specs.Worlds.{World, start}
use Rattle.line_laws.specs.Issued.{IsIssuedAfter}
use Rattle.line_laws.specs.Loops.{AreLoopFree}
use Rattle.line_laws.specs.Network.{EveryRunIsSafe}
use Rattle.line_laws.specs.Ups.{UpsAreSentAfter}
use Rattle.line_laws.proofs.KeyedRuns.{only_issued}
use Rattle.line_laws.proofs.FurtherLoops.{every_run as loop_free}
use Rattle.line_laws.proofs.FurtherOctets.{every_flight}
use Rattle.line_laws.proofs.StorableGrants.{network_ranges}
use Rattle.line_laws.proofs.FurtherRestarts.{every_size}
use Rattle.line_laws.proofs.FurtherUps.{every_up}

abbrev EntrySized : Entry → Type 0
EntrySized x = IsSized x.after × (x.trace.happenings.flights ≤ 24)

safe_from : (w : World) (before entries : List Entry) → UpsAreSentAfter before entries → AreLoopFree w entries → IsIssuedAfter before entries
    → IsAlwaysSized entries → IsSafeAfter before entries
safe_from w before [] ups loops keys sized = tt
safe_from w before (x ∷ xs) ups loops keys sized = λ honest.
    let up = ups honest in
    let loop = loops honest in
    let key = keys honest in
    let size = All-head EntrySized x xs sized in (
      record { up = up.0; loops = loop.0; keys = key.0; sizes = size.0; flights = size.1 },
      safe_from x.after (before ++ x ∷ []) xs up.1 loop.2 key.1 (All-tail EntrySized x xs sized),
    )

pub every_safe : EveryRunIsSafe
every_safe entries r =
    safe_from start [] entries (every_up entries r) (loop_free entries r) (only_issued network network_ranges entries r (every_flight entries r))
    (every_size entries r)
