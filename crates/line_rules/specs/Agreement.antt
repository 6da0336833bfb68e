-- Joinings: the coordinator has done only what a meter took, and a meter that is kicked stays out.
use Rattle.std.specs.Prelude.{◌≡◌, ◌⊎◌, ℕ, ◌==◌, Bool, true, false, List, [], ◌∷◌, ◌++◌, All, Option, Some, None, IfSome, slice_get}
use Rattle.plc_base.specs.declared.key.Key.{Key}
use Rattle.plc_base.specs.Grant.{Granted}
use Rattle.line_events.specs.declared.event.Answer.TheVariants as answers
use Rattle.line_events.specs.declared.event.Event.{Event}
use Rattle.line_events.specs.declared.event.Event.TheVariants as events
use Rattle.node_rules.specs.Memory.{Memory, Node}
use Rattle.line_rules.specs.Worlds.{World, node_at, Pairing}
use Rattle.line_rules.specs.Runs.{Entry, takings, NoneForged}

-- # Agreement

-- where a joining is done, the meter took it before with the same random values
pub record WasTaken (done : Pairing) (before : List Pairing) : Type 0 where
  pub place : ℕ
  pub is : slice_get before place ≡ Some done

-- a joining that is done in an event that is not forged was taken before, with the same random values
abbrev pub KeysAgreeAfter : List Entry → List Entry → Type 0
KeysAgreeAfter before [] = Unit {0}
KeysAgreeAfter before (x ∷ xs) =
    x.trace.happenings.forged ≡ false
    → IfSome x.trace.done (λ done. WasTaken done (takings before)) × KeysAgreeAfter (before ++ x ∷ []) xs

-- the same from the beginning of a run
abbrev pub KeysAgree : List Entry → Type 0
KeysAgree entries = KeysAgreeAfter [] entries

-- # Kicked

-- the key stands in a ring
abbrev pub HasKey : Option Memory → Key → Type 0
HasKey None key = ⊥
HasKey (Some m) key = InRing m.station.ring
  where
    InRing : Option Granted → Type 0
    InRing None = ⊥
    InRing (Some g) = (g.key0 ≡ Some key) ⊎ (g.key1 ≡ Some key)

-- the node of a number holds a key
abbrev pub NodeHasKey : World → ℕ → Key → Type 0
NodeHasKey w number key = IfSomeNode (node_at w number)
  where
    IfSomeNode : Option Node → Type 0
    IfSomeNode None = ⊥
    IfSomeNode (Some x) = HasKey x.memory key

-- the key stood in the coordinator's ring in no world of a history
abbrev pub NeverStood : Key → List Entry → Type 0
NeverStood key entries = All (λ (x : Entry). NodeHasKey x.after 0 key → ⊥) entries

-- an entry kicks a meter, and one allows it
abbrev pub is_kick_of : ℕ → Event → Bool
is_kick_of number (events.Kick node) = node == number
is_kick_of number _ = false

-- whether an event allows a meter
abbrev pub is_allow_of : ℕ → Event → Bool
is_allow_of number (events.Allow node) = node == number
is_allow_of number _ = false

-- The entry in which a meter is kicked.
pub record IsKicked (number : ℕ) (x : Entry) : Type 0 where
  pub event : is_kick_of number x.event ≡ true
  pub answer : x.trace.happenings.answer ≡ answers.Kicked

-- no entry allows a meter
abbrev pub NeverAllowed : ℕ → List Entry → Type 0
NeverAllowed number entries = All (λ (x : Entry). is_allow_of number x.event ≡ false) entries

-- A meter that was kicked never has a key that had not stood in the coordinator's ring up to then, as long as it is not allowed again and
-- no event is forged.
abbrev pub KickedStaysOut : List Entry → Type 0
KickedStaysOut entries =
    (number : ℕ) (before after rest : List Entry) (kick : Entry) (key : Key) → entries ≡ before ++ kick ∷ after ++ rest
    → NoneForged (before ++ kick ∷ after)
    → IsKicked number kick → NeverAllowed number after → NeverStood key (before ++ kick ∷ [])
    → All (λ (x : Entry). NodeHasKey x.after number key → ⊥) (before ++ kick ∷ after)
