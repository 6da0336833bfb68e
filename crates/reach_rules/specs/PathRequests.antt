-- Path requests: a node asks which way another one is reached, and is answered the nodes that its ask came by. What a node makes of a
-- path message is said by `path_requests`.
use Rattle.std.specs.Prelude.{ℕ, ◌==◌, Bool, List, [], ◌∷◌, Option, Some, None, Result, Ok, Err}
use Rattle.std.specs.Option.{option_map_or}
use Rattle.path_requests.specs.declared.message.PathMessage.{PathMessage}
use Rattle.path_requests.specs.declared.message.PathMessage.TheVariants.{Ask, Tell}
use Rattle.path_requests.specs.declared.step.PathStep.{PathStep}
use Rattle.path_requests.specs.declared.step.PathStep.TheVariants.{Forward, Answer, Done}
use Rattle.path_requests.specs.declared.step.PathRefusal.{PathRefusal}
use Rattle.path_requests.specs.declared.step.PathRefusal.TheVariants as refusals
use Rattle.path_requests.specs.Messages.{path_spelling}
use Rattle.path_requests.specs.Reader.{path_in}
use Rattle.path_requests.specs.PathSteps.{taken}
use Rattle.node_rules.specs.declared.refusal.Dropped.TheVariants.{BadUnit, NoRoute}
use Rattle.node_rules.specs.Memory.{StationMemory, address_of, station_route}
use Rattle.node_rules.specs.Plans.{Plan}
use Rattle.node_rules.specs.Drafts.{StationPlace, Ends, empty_draft, refused, sealed, choose}
use Rattle.reach_rules.specs.declared.heard.CommandHeard.{CommandHeard}
use Rattle.reach_rules.specs.declared.heard.CommandHeard.TheVariants.{Relayed, Answered, Path}
use Rattle.reach_rules.specs.declared.refusal.ReachDropped.{ReachDropped}
use Rattle.reach_rules.specs.declared.refusal.ReachDropped.TheVariants.{Known, Revisited, PathLong}
use Rattle.reach_rules.specs.declared.refusal.AskRefusal.{AskRefusal}
use Rattle.reach_rules.specs.declared.refusal.AskRefusal.TheVariants as asks
use Rattle.reach_rules.specs.ReachingNodes.{Reaching, Commanding, in_reach, reach_ends, drop_it, remembers, adds_local}

-- # Hearing a path message

-- the next hop of the valid route to the target of an ask
abbrev pub next_toward : StationMemory → PathMessage → Option ℕ
next_toward l (Ask target walk) = station_route l target
next_toward l (Tell walk) = None

-- the reasons among those of a drop
abbrev pub path_word : PathRefusal → ReachDropped
path_word refusals.BadUnit = Known BadUnit
path_word refusals.NoRoute = Known NoRoute
path_word refusals.Revisited = Revisited
path_word refusals.PathLong = PathLong

-- a path message goes to a neighbour
abbrev pub send_path : {M : Type 0} → StationPlace M → Reaching M → (to : ℕ) → PathMessage → CommandHeard → Commanding M
send_path h x to message answer =
    sealed (in_reach h) reach_ends x (adds_local to 5 (path_spelling message) (empty_draft x)) answer

-- what becomes of a message: it goes on, is answered, or has come back
abbrev pub follows_path : {M : Type 0} → StationPlace M → Reaching M → Result PathStep PathRefusal → Commanding M
follows_path h x (Err reason) = drop_it x (path_word reason)
follows_path h x (Ok (Forward to message)) = send_path h x to message Relayed
follows_path h x (Ok (Answer to message)) = send_path h x to message Answered
follows_path h x (Ok (Done walk)) = remembers x (Path walk)

-- octets that are no path message are dropped
abbrev pub hear_path_in : {M : Type 0} → StationPlace M → Reaching M → (own from : ℕ) → Option PathMessage → Commanding M
hear_path_in h x own from None = drop_it x (Known BadUnit)
hear_path_in h x own from (Some message) =
    follows_path h x (taken own from (next_toward (h.station x.memory) message) message)

-- a command of code 05, which may not go to all
abbrev pub hear_path : {M : Type 0} → StationPlace M → Reaching M → (own from : ℕ) → (all : Bool) → List ℕ → Commanding M
hear_path h x own from all body = choose all (drop_it x (Known BadUnit)) (hear_path_in h x own from (path_in body))

-- # Asking for a path

-- what a node does to ask for one
abbrev pub Asking : Type 0 → Type 0
Asking M = Plan (Reaching M) (Result (Unit {0}) AskRefusal)

-- how its words say that counters are spent, and that a store write failed
abbrev pub ask_ends : Ends AskRefusal
ask_ends = record { spent = asks.CounterSpent; store = asks.Store }

-- an ask of the own address goes to the next hop of the valid route
abbrev pub asks_by : {M : Type 0} → StationPlace M → Reaching M → (own target : ℕ) → Option ℕ → Asking M
asks_by h x own target None = refused ask_ends x asks.NoRoute
asks_by h x own target (Some hop) =
    sealed (in_reach h) ask_ends x
    (adds_local hop 5 (path_spelling (Ask target (own ∷ []))) (empty_draft x)) tt

-- the way to another node is asked for
abbrev pub asks_from : {M : Type 0} → StationPlace M → Reaching M → (own target : ℕ) → Asking M
asks_from h x own target =
    choose (target == own) (refused ask_ends x asks.ToSelf)
    (asks_by h x own target (station_route (h.station x.memory) target))

-- by a node that is joined
abbrev pub ask_path : {M : Type 0} → StationPlace M → Reaching M → (target : ℕ) → Asking M
ask_path h x target =
    option_map_or (λ own. asks_from h x own target) (address_of (h.station x.memory)) (refused ask_ends x asks.NotJoined)
