-- Acknowledged replies: a route reply that comes is acknowledged to the neighbour that sent it, and one that goes out begins a check of
-- the neighbour that it goes to. The requests of a listed neighbour are not believed. It is after the RREP_ACK of
-- draft-clausen-lln-loadng; what is open and listed is said by `neighbour_checks`.
use Rattle.std.specs.Prelude.{ℕ, Bool, true, false, List, Option, Some, None, Result, is_ok}
use Rattle.std.specs.Option.{option_and_then}
use Rattle.mesh_header.specs.Reader.{unit_in}
use Rattle.loadng_messages.specs.declared.message.Message.{Message}
use Rattle.loadng_messages.specs.declared.message.Message.TheVariants.{Rreq, Rrep, Rerr}
use Rattle.neighbour_checks.specs.Acks.{ack_spelling, ack_in}
use Rattle.neighbour_checks.specs.Neighbours.{Neighbours, is_listed, is_awaited, sent_after, acked_after}
use Rattle.node_rules.specs.Accepted.{Accepted}
use Rattle.node_rules.specs.declared.heard.Path.{Path}
use Rattle.node_rules.specs.declared.heard.Path.TheVariants as paths
use Rattle.node_rules.specs.declared.heard.Reply.{Reply}
use Rattle.node_rules.specs.declared.refusal.Dropped.{Dropped}
use Rattle.node_rules.specs.declared.refusal.Dropped.TheVariants.{BadUnit}
use Rattle.node_rules.specs.declared.refusal.LocalRefusal.{LocalRefusal}
use Rattle.node_rules.specs.Plans.{Plan, within}
use Rattle.node_rules.specs.Drafts.{StationPlace, choose}
use Rattle.node_rules.specs.Replies.{route_message, reply_among}
use Rattle.node_rules.specs.Neighbours.{send_local}
use Rattle.reach_rules.specs.declared.heard.CommandHeard.TheVariants.{Acked}
use Rattle.reach_rules.specs.declared.refusal.ReachDropped.{ReachDropped}
use Rattle.reach_rules.specs.declared.refusal.ReachDropped.TheVariants.{Known, Blacklisted, NotAwaited}
use Rattle.reach_rules.specs.ReachingNodes.{Reaching, ReachHeard, Commanding, with_checks, drop_it, remembers, known_plan, followed_by}

-- the route message that an accepted frame carries, if it carries one
abbrev pub message_of : Accepted → Option Message
message_of got = option_and_then route_message (unit_in got.payload)

-- # Requests of listed neighbours

-- the same as what it asks of its sender: whether that one is listed, where it is a request
abbrev pub asks_unbelieved : Neighbours → ℕ → Option Message → Bool
asks_unbelieved s from None = false
asks_unbelieved s from (Some (Rreq number cost origin dest)) = is_listed s from
asks_unbelieved s from (Some (Rrep number cost origin to)) = false
asks_unbelieved s from (Some (Rerr lost to)) = false

-- whether a frame is a request to all from a listed neighbour
abbrev pub is_unbelieved : Neighbours → Path → Option Message → Bool
is_unbelieved s (paths.Sealed from true key) message = asks_unbelieved s from message
is_unbelieved s (paths.Sealed from false key) message = false
is_unbelieved s (paths.Up from) message = false
is_unbelieved s (paths.Down from) message = false

-- # Acknowledging

-- a reply is acknowledged to a neighbour, unless no counter is left
abbrev pub acknowledges : {M : Type 0} → StationPlace M → (to number origin : ℕ) → M
    → Plan M (Result (Unit {0}) LocalRefusal)
acknowledges h to number origin m =
    within (λ l. h.with_station l m) (λ a. a) (send_local (h.station m) 3 (Some to) (ack_spelling number origin))

-- a message of a neighbour that was taken is acknowledged where it is a reply; what its own rule did stands before
abbrev pub acknowledged_to : {M A : Type 0} → StationPlace M → ℕ → Option Message → Plan M A → Plan M A
acknowledged_to h from None p = p
acknowledged_to h from (Some (Rreq number cost origin dest)) p = p
acknowledged_to h from (Some (Rrep number cost origin to)) p = followed_by p (acknowledges h from number origin)
acknowledged_to h from (Some (Rerr lost to)) p = p

-- a reply comes in a sealed frame to one node, and is taken where that node learns its route or sends it on
abbrev pub acknowledged : {M H : Type 0} → StationPlace M → Path → Option Message → Plan M (Result H Dropped)
    → Plan M (Result H Dropped)
acknowledged h (paths.Sealed from true key) message p = p
acknowledged h (paths.Sealed from false key) message p =
    choose (is_ok p.answer) (acknowledged_to h from message p) p
acknowledged h (paths.Up from) message p = p
acknowledged h (paths.Down from) message p = p

-- # Checks

-- a reply that went out begins a check
abbrev pub checks_after : Neighbours → Option Reply → ℕ → Neighbours
checks_after s None now = s
checks_after s (Some reply) now = sent_after s reply.to reply.number reply.origin now

-- a plan with the check that the reply among these frames begins
abbrev pub with_check : {M A : Type 0} → Option Reply → ℕ → Plan (Reaching M) A → Plan (Reaching M) A
with_check reply now p =
    record p { memory = with_checks (checks_after p.memory.beside.checks reply now) p.memory }

-- A frame that was heard where checks are on: the request of a listed neighbour is dropped before all else; else its own rule is done,
-- by this plan, a reply that came is acknowledged, and one that went out begins a check.
abbrev pub hear_checked : {M H : Type 0} → StationPlace M → Reaching M → Accepted → (now : ℕ)
    → Plan M (Result H Dropped) → Plan (Reaching M) (Result (ReachHeard H) ReachDropped)
hear_checked h x got now p =
    choose (is_unbelieved x.beside.checks got.path (message_of got)) (drop_it x Blacklisted)
    (with_check (reply_among p.frames) now (known_plan x (acknowledged h got.path (message_of got) p)))

-- # Hearing an acknowledgement

-- the acknowledgement of a reply of this number and origin, from the neighbour that the reply went to
abbrev pub ends_check : {M : Type 0} → Reaching M → (from number origin : ℕ) → Commanding M
ends_check x from number origin =
    choose (is_awaited x.beside.checks from number origin)
    (remembers (with_checks (acked_after x.beside.checks from number origin) x) Acked)
    (drop_it x NotAwaited)

-- octets that are no acknowledgement are dropped
abbrev pub hear_acknowledgement_in : {M : Type 0} → Reaching M → (from : ℕ) → Option (ℕ × ℕ) → Commanding M
hear_acknowledgement_in x from None = drop_it x (Known BadUnit)
hear_acknowledgement_in x from (Some (number, origin)) = ends_check x from number origin

-- a command of code 03, which may not go to all
abbrev pub hear_acknowledgement : {M : Type 0} → Reaching M → (from : ℕ) → (all : Bool) → List ℕ → Commanding M
hear_acknowledgement x from all body =
    choose all (drop_it x (Known BadUnit)) (hear_acknowledgement_in x from (ack_in body))
