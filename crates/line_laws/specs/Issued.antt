-- A joined meter holds only keys that were issued to it.
use Rattle.std.specs.Prelude.{◌≡◌, false, List, [], ◌∷◌, ◌++◌}
use Rattle.node_rules.specs.Ciphers.{Ciphers}
use Rattle.line_rules.specs.Runs.{Entry, issued, IsLineRun}
use Rattle.line_rules.specs.SafeRuns.{HasOnlyIssuedKeys}
use Rattle.line_rules.specs.Agreement.{KeysAgree}
use Rattle.line_laws.specs.Owed.{KeepsRanges}
use Rattle.line_laws.specs.Laws.{FlightsAreOctets}

-- after each event before the first forged one, each meter holds only keys that were issued to it up to then
abbrev pub IsIssuedAfter : List Entry → List Entry → Type 0
IsIssuedAfter before [] = Unit {0}
IsIssuedAfter before (x ∷ xs) =
    x.trace.happenings.forged ≡ false
    → HasOnlyIssuedKeys (issued (before ++ x ∷ [])) x.after × IsIssuedAfter (before ++ x ∷ []) xs

-- so it is from the beginning of a run on
abbrev pub OnlyIssuedKeys : Type 0
OnlyIssuedKeys =
    (ciphers : Ciphers) → KeepsRanges ciphers → (entries : List Entry) → IsLineRun ciphers entries
    → FlightsAreOctets entries → IsIssuedAfter [] entries

-- a joining that is done in a run was taken before it, with the same random values
abbrev pub EveryJoiningAgrees : Type 0
EveryJoiningAgrees =
    (ciphers : Ciphers) → KeepsRanges ciphers → (entries : List Entry) → IsLineRun ciphers entries
    → FlightsAreOctets entries → KeysAgree entries
