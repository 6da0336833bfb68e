-- What a run hands up was sent, and nothing is handed up twice.
use Rattle.std.specs.Prelude.{◌≡◌, false, List, [], ◌∷◌, ◌++◌, IfSome}
use Rattle.line_rules.specs.Runs.{Entry, sends, ups, IsLineRun}
use Rattle.line_rules.specs.SafeRuns.{WasSent, IsNew}
use Rattle.line_events.specs.declared.happenings.Handed.{Handed}
use Rattle.node_rules.specs.Ciphers.{network}

-- so it is of each event after others, before the first forged one
abbrev pub UpsAreSentAfter : List Entry → List Entry → Type 0
UpsAreSentAfter before [] = Unit {0}
UpsAreSentAfter before (x ∷ xs) =
    x.trace.happenings.forged ≡ false
    → IfSome x.trace.happenings.up (λ (up : Handed). WasSent up (sends before) × IsNew up (ups before))
    × UpsAreSentAfter (before ++ x ∷ []) xs

-- so it is of every run of the network, from its beginning on
abbrev pub EveryDatagramWasSent : Type 0
EveryDatagramWasSent = (entries : List Entry) → IsLineRun network entries → UpsAreSentAfter [] entries
