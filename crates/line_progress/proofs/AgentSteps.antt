-- What an agent does about the messages of a joining, and the coordinator about those that come in commands.
use Rattle.std.proofs.Common.{◌≡◌, ◌<◌, ℕ, true, false, List, [], ◌∷◌, length, Some, None, Ok, Err, refl, ◌∙◌}
use Rattle.std.specs.Prelude.{nat_lt}
use Rattle.std.specs.Option.{option_map, option_map_or}
use Rattle.plc_base.specs.declared.address.Eui.{Eui}
use Rattle.plc_base.specs.declared.key.Key.{Key}
use Rattle.plc_base.specs.declared.key.RandomOctets.{RandomOctets}
use Rattle.plc_base.specs.Grant.{Granted}
use Rattle.group_keys.specs.declared.key_book.BookEntry.{BookEntry}
use Rattle.group_keys.specs.KeyBook as book
use Rattle.joining_messages.specs.declared.message.JoinBody.TheVariants as body
use Rattle.joining_messages.specs.declared.message.JoinMessage.{JoinMessage}
use Rattle.joining_messages.specs.Messages as joining
use Rattle.eap_psk.specs.Sessions.{rand_p_in}
use Rattle.eap_psk.specs.declared.server.Server.{Server}
use Rattle.node_rules.specs.Accepted.{Accepted}
use Rattle.node_rules.specs.declared.heard.CoordinatorHeard.TheVariants as done_heard
use Rattle.node_rules.specs.declared.heard.Heard.TheVariants as station_heard
use Rattle.node_rules.specs.declared.heard.MeterHeard.TheVariants as heard
use Rattle.node_rules.specs.declared.heard.Path.TheVariants as paths
use Rattle.node_rules.specs.declared.heard.Way.TheVariants.{Air, Mesh}
use Rattle.node_rules.specs.declared.refusal.Dropped.TheVariants.{BadUnit, Store}
use Rattle.node_rules.specs.Acceptance.{same_eui}
use Rattle.node_rules.specs.Coordinators as coordinator_rules
use Rattle.node_rules.specs.Coordinators.{allowed_entry, grant_for, session_of, sessions_full, with_book_entry}
use Rattle.node_rules.specs.Drafts.{checked, choose, counters_left, empty_draft, sealing_key}
use Rattle.node_rules.specs.Frames.{Down, Sealed}
use Rattle.node_rules.specs.HearingRules.{dropped, hear, hear_unit_in}
use Rattle.node_rules.specs.JoiningPackets.{first_packet, message, server_agrees, server_for}
use Rattle.node_rules.specs.Memory.{CoordinatorSession, Memory, next_hop}
use Rattle.node_rules.specs.MemoryDrafts.{goes_down, is_commanded, oldest, unread, with_memory_by, with_pair_tags, without_oldest}
use Rattle.node_rules.specs.Meters as meters
use Rattle.node_rules.specs.Plans.{resting}
use Rattle.line_progress.proofs.Commands.{commands_it, letter, none_lacks, sealed_one}
use Rattle.line_progress.proofs.CoordinatorSteps.{accepts_it, challenges_it, grants_it, session_with}
use Rattle.line_progress.proofs.PlainFrames.{got_by, message_is, unit_is}
use Rattle.line_progress.proofs.PlainPlans.{Gives, at, gives_so, unsealed}

-- # What is heard

module _ (own : meters.Identity) (m : Memory) (said : JoinMessage) (fits : joining.IsMessage said) (cost note now : ℕ) where
  -- a message of a meter, in a plain frame up
  is_read : hear m.station (got_by said fits (paths.Up said.eui)) cost note now
      ≡ resting m.station (Ok (station_heard.Joining (Air said.eui) (joining.spelling said))) (Err Store)
  is_read = λ i. hear_unit_in m.station (paths.Up said.eui) (unit_is said fits i) cost note now

  pub hears_from_below : meters.hear_meter own m (got_by said fits (paths.Up said.eui)) cost note now ≡ meters.hear_join own m (Air said.eui) said now
  unfolding resting
  hears_from_below =
      (λ i. meters.heard_by own m now (is_read i) (unread (is_read i).answer)) ∙ (λ i. meters.hear_join_in own m (Air said.eui) (message_is said fits i) now)

  -- one in a command
  module _ (got : Accepted) (origin : ℕ)
      (carried : hear m.station got cost note now ≡ resting m.station (Ok (station_heard.Joining (Mesh origin) (joining.spelling said))) (Err Store)) where
    pub hears_from_above : meters.hear_meter own m got cost note now ≡ meters.hear_join own m (Mesh origin) said now
    unfolding resting
    hears_from_above =
        (λ i. meters.heard_by own m now (carried i) (unread (carried i).answer)) ∙ (λ i. meters.hear_join_in own m (Mesh origin) (message_is said fits i) now)

    pub hears_command : (host : coordinator_rules.CoordinatorIdentity)
        → coordinator_rules.hear_coordinator host m got cost note now ≡ coordinator_rules.hear_join host m (Mesh origin) said.eui said.body now
    unfolding resting choose
    hears_command host =
        (λ i. coordinator_rules.heard_by host m now (carried i) (unread (carried i).answer))
        ∙ (λ i. coordinator_rules.hear_join_in host m (Mesh origin) (message_is said fits i) now)

-- # What an agent carries

module _ (own : meters.Identity) (m : Memory) (g : Granted) (ring : m.station.ring ≡ Some g) (now : ℕ) where
  -- up: a JOIN of its sender goes to the coordinator
  pub carries_up : (key : Key) → sealing_key g ≡ Some key → next_hop m.station 0 ≡ Some 0 → nat_lt (counters_left m.station) 1 ≡ false
      → (from : Eui) (eap : List ℕ) → same_eui from from ≡ true
      → Gives (meters.hear_join own m (Air from) (message from (body.Join eap)) now) heard.Carried
      (Sealed (letter g key 0 0 m.station.counter.next (message from (body.Join eap))) ∷ []) (sealed_one m)
  unfolding choose checked empty_draft
  carries_up key keyed route left from eap mine =
      let said : JoinMessage = message from (body.Join eap) in
      at ((λ i. choose (mine i) (meters.carries_up m said now) (meters.drop_it m BadUnit))
      ∙ (λ i. checked dropped m (none_lacks m 0 0 route said i) (meters.ends m (is_commanded 0 said now (empty_draft m)) heard.Carried)))
      (commands_it m 0 0 route dropped g ring key keyed left said now [] [] [] m refl heard.Carried)

  -- down: what the coordinator says goes to the meter
  carries_down : (said : JoinMessage) → Gives (meters.carries_down m said) heard.Carried (Down g.address said ∷ []) (unsealed m)
  unfolding goes_down empty_draft
  carries_down said =
      gives_so dropped (goes_down g.address said (empty_draft m)) heard.Carried refl m (meters.carries_down m said)
      (λ i. option_map_or (λ own. meters.ends m (goes_down own said (empty_draft m)) heard.Carried) (option_map (λ (g : Granted). g.address) (ring i))
      (meters.drop_it m BadUnit))

  module _ (to : Eui) (other : same_eui to own.eui ≡ false) where
    pub carries_challenge : (eap : List ℕ) → Gives (meters.hear_join own m (Mesh 0) (message to (body.Challenge eap)) now) heard.Carried
        (Down g.address (message to (body.Challenge eap)) ∷ []) (unsealed m)
    unfolding choose
    carries_challenge eap =
        at (λ i. choose (other i) (meters.hear_order own m (body.Challenge eap) now) (meters.carries_down m (message to (body.Challenge eap))))
        (carries_down (message to (body.Challenge eap)))

    pub carries_accept : (identifier : ℕ) → Gives (meters.hear_join own m (Mesh 0) (message to (body.Accept identifier)) now) heard.Carried
        (Down g.address (message to (body.Accept identifier)) ∷ []) (unsealed m)
    unfolding choose
    carries_accept identifier =
        at (λ i. choose (other i) (meters.hear_order own m (body.Accept identifier) now) (meters.carries_down m (message to (body.Accept identifier))))
        (carries_down (message to (body.Accept identifier)))

-- # What the coordinator says in commands

module _ (own : coordinator_rules.CoordinatorIdentity) (m : Memory) (eui : Eui) (now : ℕ) (e : BookEntry) (allows : allowed_entry m eui ≡ Some e)
    (origin hop : ℕ) (route : next_hop m.station origin ≡ Some hop) (g : Granted) (ring : m.station.ring ≡ Some g) (key : Key)
    (keyed : sealing_key g ≡ Some key) (left : nat_lt (counters_left m.station) 1 ≡ false) where
  -- a session of a meter, whose messages go in commands
  abbrev pub session_by : Server → ℕ → CoordinatorSession
  session_by server since = session_with own m (Mesh origin) eui now server since

  pub commands_challenge : sessions_full m eui ≡ false → (value : RandomOctets) → oldest m ≡ Some value
      → Gives (coordinator_rules.hear_join own m (Mesh origin) eui (body.Join []) now) done_heard.Challenged
      (Sealed (letter g key hop origin m.station.counter.next (message eui (body.Challenge (first_packet (server_for eui own.eui value))))) ∷ [])
      (sealed_one (coordinator_rules.with_session (session_by (server_for eui own.eui value) now) (without_oldest m)))
  unfolding with_memory_by empty_draft
  commands_challenge room value given =
      let server : Server = server_for eui own.eui value in
      let said : JoinMessage = message eui (body.Challenge (first_packet server)) in
      at (challenges_it own m (Mesh origin) eui now e allows room value given (none_lacks m origin hop route said))
      (commands_it m origin hop route dropped g ring key keyed left said now [] [] []
      (coordinator_rules.with_session (session_by server now) (without_oldest m)) refl done_heard.Challenged)

  module _ (server : Server) (since : ℕ) (runs : session_of m eui ≡ Some (session_by server since)) (packet : List ℕ) (some : 0 < length packet) where
    pub commands_grant : server.rand_p ≡ None → own.ciphers.second_fault e.psk server packet ≡ None → (rand_p : RandomOctets) → rand_p_in packet ≡ rand_p
        → (grant : Granted) → grant_for m server.eui ≡ Some grant
        → Gives (coordinator_rules.hear_join own m (Mesh origin) eui (body.Join packet) now) (done_heard.Keyed server.eui grant)
        (Sealed (letter g key hop origin m.station.counter.next
        (message server.eui (body.Challenge (own.ciphers.third e.psk server rand_p grant)))) ∷ [])
        (sealed_one (record (coordinator_rules.with_session (session_by (record server { rand_p = Some rand_p }) since) m) {
          book = book.with_entry m.book (book.issued_entry server.eui grant e);
        }))
    unfolding with_pair_tags with_book_entry with_memory_by empty_draft
    commands_grant new fault rand_p names grant grants =
        let said : JoinMessage = message server.eui (body.Challenge (own.ciphers.third e.psk server rand_p grant)) in
        at (grants_it own m (Mesh origin) eui now e allows server since runs packet some new fault rand_p names grant grants
        (none_lacks m origin hop route said))
        (commands_it m origin hop route dropped g ring key keyed left said now _ _ _
        (record (coordinator_rules.with_session (session_by (record server { rand_p = Some rand_p }) since) m) {
          book = book.with_entry m.book (book.issued_entry server.eui grant e);
        }) refl (done_heard.Keyed server.eui grant))

    pub commands_accept : (rand_p : RandomOctets) → server.rand_p ≡ Some rand_p → own.ciphers.fourth_fault e.psk server rand_p packet ≡ None
        → Gives (coordinator_rules.hear_join own m (Mesh origin) eui (body.Join packet) now) (done_heard.Done server.eui (server_agrees server rand_p))
        (Sealed (letter g key hop origin m.station.counter.next (message server.eui (body.Accept 2))) ∷ [])
        (sealed_one (coordinator_rules.without_session server.eui m))
    unfolding with_pair_tags with_memory_by empty_draft
    commands_accept rand_p old fault =
        let said : JoinMessage = message server.eui (body.Accept 2) in
        at (accepts_it own m (Mesh origin) eui now e allows server since runs packet some rand_p old fault (none_lacks m origin hop route said))
        (commands_it m origin hop route dropped g ring key keyed left said now _ _ _ (coordinator_rules.without_session server.eui m) refl
        (done_heard.Done server.eui (server_agrees server rand_p)))
