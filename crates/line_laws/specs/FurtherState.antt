-- What holds of runs of the network, before the first forged event: ranges, and keys that stood before they were issued.
use Rattle.std.specs.Prelude.{◌≡◌, false, List, [], ◌∷◌}
use Rattle.node_rules.specs.Ciphers.{network}
use Rattle.line_rules.specs.Agreement.{NodeHasKey}
use Rattle.line_rules.specs.Runs.{Entry, IsLineRun}
use Rattle.line_rules.specs.Worlds.{World, Issued, start}
use Rattle.line_laws.specs.Keyed.{Each}
use Rattle.line_laws.specs.Ranges.{WorldRanged}

-- what every node holds is in its ranges after each event, and what flies is letters in theirs, plain frames and frames of discovery
abbrev pub StayRanged : List Entry → Type 0
StayRanged [] = Unit {0}
StayRanged (x ∷ xs) = x.trace.happenings.forged ≡ false → WorldRanged x.after × StayRanged xs

abbrev pub EveryRunIsRanged : Type 0
EveryRunIsRanged = (entries : List Entry) → IsLineRun network entries → StayRanged entries

-- each key that an event issues stands in the coordinator's ring before it
abbrev pub IssuedStood : World → List Entry → Type 0
IssuedStood w [] = Unit {0}
IssuedStood w (x ∷ xs) =
    Each (λ (i : Issued). NodeHasKey w 0 i.key) x.trace.issued
    × (x.trace.happenings.forged ≡ false → IssuedStood x.after xs)

abbrev pub EveryIssuedKeyStood : Type 0
EveryIssuedKeyStood = (entries : List Entry) → IsLineRun network entries → IssuedStood start entries
