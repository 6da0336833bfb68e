-- The invariant of the network holds along every run, up to its first forged event: whoever steps a world, or reads a history, may rest on it.
use Rattle.std.specs.Prelude.{◌≡◌, ℕ, false, List, [], ◌∷◌, ◌++◌}
use Rattle.node_rules.specs.Ciphers.{network}
use Rattle.line_rules.specs.Runs.{Entry, IsLineRun, issued, sends, takings, ups}
use Rattle.line_rules.specs.Worlds.{Sending}
use Rattle.line_laws.specs.Later.{Holds}

-- the world after each event holds, with the keys that were issued, the sends and the joinings that were taken and what was handed up until then
abbrev pub HoldsAfterEach : (all : List Sending) (home : ℕ → ℕ) (before : List Entry) → List Entry → Type 0
HoldsAfterEach all home before [] = Unit {0}
HoldsAfterEach all home before (x ∷ xs) =
    x.trace.happenings.forged ≡ false
    → Holds (issued (before ++ x ∷ [])) (sends (before ++ x ∷ [])) (takings (before ++ x ∷ [])) all home (ups (before ++ x ∷ [])) x.after
    × HoldsAfterEach all home (before ++ x ∷ []) xs

-- Each node has an address of its own for the whole run, and the world after each event holds with these: addresses, ranks, routes whose next hop
-- has a better rank, counters below the stored limit, and of each octet of a send at most one copy that may still come.
pub record HoldsThroughout (entries : List Entry) : Type 0 where
  pub home : ℕ → ℕ
  pub apart : (i j : ℕ) → home i ≡ home j → i ≡ j
  pub first : home 0 ≡ 0
  pub holds : HoldsAfterEach (sends entries) home [] entries

-- so it is of every run of the network
abbrev pub EveryRunHoldsThroughout : Type 0
EveryRunHoldsThroughout = (entries : List Entry) → IsLineRun network entries → HoldsThroughout entries
