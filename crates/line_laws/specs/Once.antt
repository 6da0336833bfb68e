-- No sealed frame is accepted twice.
use Rattle.std.specs.Prelude.{◌≡◌, ℕ, false, List, [], ◌∷◌}
use Rattle.plc_base.specs.declared.key.Key.{Key}
use Rattle.node_rules.specs.Ciphers.{Ciphers}
use Rattle.line_rules.specs.Forgery.{AcceptsSealed}
use Rattle.line_rules.specs.Runs.{Entry, IsLineRun}
use Rattle.line_rules.specs.Worlds.{World, start}
use Rattle.line_laws.specs.Owed.{KeepsRanges}
use Rattle.line_laws.specs.Laws.{FlightsAreOctets}

-- # By one node

-- in none of these events does the node of a number accept these octets as a sealed frame
abbrev pub NeverAgain : Ciphers → ℕ → List ℕ → World → List Entry → Type 0
NeverAgain ciphers number octets w [] = Unit {0}
NeverAgain ciphers number octets w (x ∷ xs) =
    ((key : Key) (a : AcceptsSealed ciphers w x.event octets key) → a.number ≡ number → ⊥)
    × NeverAgain ciphers number octets x.after xs

-- once a node accepted octets as a sealed frame, it accepts them never again
abbrev pub AcceptsOnce : Ciphers → World → List Entry → Type 0
AcceptsOnce ciphers w [] = Unit {0}
AcceptsOnce ciphers w (x ∷ xs) =
    ((octets : List ℕ) (key : Key) (a : AcceptsSealed ciphers w x.event octets key)
    → NeverAgain ciphers a.number octets x.after xs) × AcceptsOnce ciphers x.after xs

-- so it is in every run, forged or not, over restarts, failed writes, and changes of keys and of addresses
abbrev pub EveryNodeAcceptsOnce : Type 0
EveryNodeAcceptsOnce =
    (ciphers : Ciphers) → KeepsRanges ciphers → (entries : List Entry) → IsLineRun ciphers entries
    → FlightsAreOctets entries → AcceptsOnce ciphers start entries

-- # By any node

-- before the first forged one, in none of these events does a node accept these octets as a sealed frame to it alone
abbrev pub NobodyAccepts : Ciphers → List ℕ → World → List Entry → Type 0
NobodyAccepts ciphers octets w [] = Unit {0}
NobodyAccepts ciphers octets w (x ∷ xs) =
    ((key : Key) (a : AcceptsSealed ciphers w x.event octets key) → a.to_all ≡ false → ⊥)
    × (x.trace.happenings.forged ≡ false → NobodyAccepts ciphers octets x.after xs)

-- once a node accepted octets as a sealed frame to it alone, no node does so again
abbrev pub AcceptedOnce : Ciphers → World → List Entry → Type 0
AcceptedOnce ciphers w [] = Unit {0}
AcceptedOnce ciphers w (x ∷ xs) =
    x.trace.happenings.forged ≡ false
    → ((octets : List ℕ) (key : Key) (a : AcceptsSealed ciphers w x.event octets key) → a.to_all ≡ false
    → NobodyAccepts ciphers octets x.after xs) × AcceptedOnce ciphers x.after xs

-- so it is in every run before its first forged event
abbrev pub EveryFrameIsAcceptedOnce : Type 0
EveryFrameIsAcceptedOnce =
    (ciphers : Ciphers) → KeepsRanges ciphers → (entries : List Entry) → IsLineRun ciphers entries
    → FlightsAreOctets entries → AcceptedOnce ciphers start entries
