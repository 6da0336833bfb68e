-- Two joinings that are done are two takings, where the coordinator is given no random value twice.
use Rattle.std.specs.Prelude.{◌≡◌, ◌≢◌, ℕ, ◌==◌, List, [], ◌∷◌, ◌++◌, Some, if◌then◌else◌, slice_get}
use Rattle.std.specs.List.{AllPairs}
use Rattle.plc_base.specs.declared.key.RandomOctets.{RandomOctets}
use Rattle.line_events.specs.declared.event.Event.{Event}
use Rattle.line_events.specs.declared.event.Event.TheVariants as events
use Rattle.node_rules.specs.Ciphers.{network}
use Rattle.line_rules.specs.Runs.{Entry, IsLineRun, all_of, one_of, takings}
use Rattle.line_rules.specs.Worlds.{Pairing}

-- the random value that an event gives the coordinator
abbrev pub random_in : Event → List RandomOctets
random_in (events.RandomOctets node value) = if node == 0 then value ∷ [] else []
random_in _ = []

-- the random values that the coordinator is given in a run, in order
abbrev pub randoms_given : List Entry → List RandomOctets
randoms_given [] = []
randoms_given (x ∷ xs) = random_in x.event ++ randoms_given xs

-- no two of them are the same
abbrev pub RandomsDiffer : List Entry → Type 0
RandomsDiffer entries = AllPairs (λ (a b : RandomOctets). a ≢ b) (randoms_given entries)

-- the joinings that the coordinator has done, in order
abbrev pub completions : List Entry → List Pairing
completions entries = all_of (λ d. one_of d.done) entries

-- Two joinings that are done have another RAND_S each, so no taking is that of both.
pub record AreApart (taken : List Pairing) (p q : Pairing) : Type 0 where
  pub values : p.agreed.rand_s ≢ q.agreed.rand_s
  pub takings : (i j : ℕ) → slice_get taken i ≡ Some p → slice_get taken j ≡ Some q → i ≢ j

-- so it is of every run of the network, forged or not
abbrev pub EveryJoiningIsItsOwn : Type 0
EveryJoiningIsItsOwn =
    (entries : List Entry) → IsLineRun network entries → RandomsDiffer entries → AllPairs (AreApart (takings entries)) (completions entries)
