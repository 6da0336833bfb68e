-- What a node does with a path message that it hears: its own address, the sender's, and the next hop of its valid route to the
-- target of an ask, if it has one.
use Rattle.std.specs.Prelude.{◌≡◌, ◌≤◌, ℕ, ◌+◌, ◌-◌, true, List, [], ◌∷◌, ◌++◌, length, slice_index, position, Option, Some, None, Result, Ok, Err, ◌==◌}
use Rattle.std.specs.Prelude.{if◌then◌else◌}
use Rattle.path_requests.specs.declared.message.PathMessage.{PathMessage}
use Rattle.path_requests.specs.declared.message.PathMessage.TheVariants.{Ask, Tell}
use Rattle.path_requests.specs.declared.step.PathStep.{PathStep}
use Rattle.path_requests.specs.declared.step.PathStep.TheVariants.{Forward, Answer, Done}
use Rattle.path_requests.specs.declared.step.PathRefusal.{PathRefusal}
use Rattle.path_requests.specs.declared.step.PathRefusal.TheVariants.{BadUnit, NoRoute, Revisited, PathLong}
use Rattle.path_requests.specs.Walks.{has, has_at, ends_with, is_walk}
use Rattle.path_requests.specs.Messages.{IsPath}

-- where an ask leads from a node: back to the sender from its target, and else to the next hop
abbrev pub hop : (own from : ℕ) → (next : Option ℕ) → (target : ℕ) → Option ℕ
hop own from next target = if target == own then Some from else next

-- an ask that leads somewhere is answered at its target, and else goes on with the own address added to its walk
abbrev pub ask_led : (own target : ℕ) → List ℕ → Option ℕ → Result PathStep PathRefusal
ask_led own target walk None = Err NoRoute
ask_led own target walk (Some to) =
    if has own walk then Err Revisited
    else (if target == own then Ok (Answer to (Tell (walk ++ own ∷ [])))
    else (if length walk == 15 then Err PathLong
    else Ok (Forward to (Ask target (walk ++ own ∷ [])))))

-- the last address of an ask's walk is the sender's
abbrev pub ask_taken : (own from : ℕ) → (next : Option ℕ) → (target : ℕ) → List ℕ → Result PathStep PathRefusal
ask_taken own from next target walk =
    if ends_with from walk then ask_led own target walk (hop own from next target) else Err BadUnit

-- a tell goes on to the address before the own one, and is done where the own one is the first
abbrev pub tell_led : List ℕ → (place : ℕ) → PathStep
tell_led walk place = if place == 0 then Done walk else Forward (slice_index walk (place - 1)) (Tell walk)

-- the walk of a tell has the own address with the sender's directly after it
abbrev pub tell_taken : (from : ℕ) → List ℕ → (place : Option ℕ) → Result PathStep PathRefusal
tell_taken from walk None = Err BadUnit
tell_taken from walk (Some place) = if has_at (place + 1) from walk then Ok (tell_led walk place) else Err BadUnit

-- what becomes of a message
abbrev pub taken : (own from : ℕ) → (next : Option ℕ) → PathMessage → Result PathStep PathRefusal
taken own from next (Ask target walk) = ask_taken own from next target walk
taken own from next (Tell walk) = tell_taken from walk (position (λ a. a == own) walk)

-- what goes out is a path message, and what is reported a walk of two nodes or more
abbrev pub IsStep : PathStep → Type 0
IsStep (Forward to message) = IsPath message
IsStep (Answer to message) = IsPath message
IsStep (Done walk) = (2 ≤ length walk) × (length walk ≤ 16) × (is_walk walk ≡ true)
