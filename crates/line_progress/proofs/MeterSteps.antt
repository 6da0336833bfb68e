-- What a meter does in a joining by an agent: it asks, answers the first packet, takes its grant, and notes the acceptance.
use Rattle.std.proofs.Common.{◌≡◌, ℕ, true, false, List, [], ◌∷◌, Option, Some, None, Ok, Err, refl, ◌∙◌}
use Rattle.std.specs.Prelude.{is_some}
use Rattle.std.specs.Option.{option_map, option_map_or}
use Rattle.std.proofs.lemmas.Bool.{eq-eqb}
use Rattle.plc_base.specs.Faults.{◌then◌, ◌when◌, ◌unless◌}
use Rattle.plc_base.specs.declared.key.RandomOctets.{RandomOctets}
use Rattle.plc_base.specs.Grant.{Granted}
use Rattle.joining_messages.specs.declared.message.JoinMessage.{JoinMessage}
use Rattle.joining_messages.specs.declared.message.JoinBody.TheVariants as body
use Rattle.joining_messages.specs.Messages as joining
use Rattle.eap_psk.specs.Faults.{first_fault}
use Rattle.eap_psk.specs.Messages.{granting_text}
use Rattle.eap_psk.specs.Sessions.{agreed_by, identifier_of, peer_for}
use Rattle.eap_psk.specs.Tags.{granting_tag, mac_p_tag, mac_s_tag, success_tag}
use Rattle.eap_psk.specs.declared.peer.Peer.{Peer}
use Rattle.node_rules.specs.declared.heard.Heard.TheVariants as station_heard
use Rattle.node_rules.specs.declared.heard.MeterHeard.TheVariants as heard
use Rattle.node_rules.specs.declared.heard.Path.TheVariants as paths
use Rattle.node_rules.specs.declared.heard.Way.TheVariants.{Near}
use Rattle.node_rules.specs.declared.refusal.Dropped.TheVariants.{BadUnit, NoRandom, NoSession, Store}
use Rattle.node_rules.specs.declared.refusal.JoinRefusal.TheVariants.{AlreadyJoined}
use Rattle.node_rules.specs.Acceptance.{same_eui}
use Rattle.node_rules.specs.Drafts.{Draft, checked, choose, empty_draft, refused, sealing, with_ring}
use Rattle.node_rules.specs.Frames.{Up}
use Rattle.node_rules.specs.HearingRules.{dropped, hear, hear_unit_in}
use Rattle.node_rules.specs.JoiningPackets.{is_first, message}
use Rattle.node_rules.specs.Memory.{ByAgent, Memory, MeterSession}
use Rattle.node_rules.specs.MemoryDrafts.{goes_up, in_memory, oldest, on_station, packet_fault, unread, with_memory_by, with_pair_tags, without_oldest}
use Rattle.node_rules.specs.Meters.{Identity, air_fault, drop_it, has_session, hear_join_in, hear_meter, hear_near, heard_by}
use Rattle.node_rules.specs.Meters.{join, joining_ends, replies, reply, reply_with, same_session_way, take, take_by, take_with, takes, with_session}
use Rattle.node_rules.specs.Plans.{resting}
use Rattle.line_progress.proofs.PlainFrames.{got_by, message_is, unit_is}
use Rattle.line_progress.proofs.PlainPlans.{Gives, gives_at, gives_so, unsealed}

-- # What it hears

module _ (own : Identity) (m : Memory) (agent : ℕ) (said : JoinMessage) (fits : joining.IsMessage said) (mine : same_eui said.eui own.eui ≡ true)
    (cost note now : ℕ) where
  is_read : hear m.station (got_by said fits (paths.Down agent)) cost note now
      ≡ resting m.station (Ok (station_heard.Joining (Near agent) (joining.spelling said))) (Err Store)
  is_read = λ i. hear_unit_in m.station (paths.Down agent) (unit_is said fits i) cost note now

  -- a message from its agent is heard as such
  pub hears_near : hear_meter own m (got_by said fits (paths.Down agent)) cost note now ≡ hear_near own m agent said.body now
  unfolding resting choose
  hears_near =
      (λ i. heard_by own m now (is_read i) (unread (is_read i).answer))
      ∙ (λ i. hear_join_in own m (Near agent) (message_is said fits i) now)
      ∙ (λ i. choose (mine i) (hear_near own m agent said.body now) (drop_it m BadUnit))

-- # Memories

-- a session by an agent runs
abbrev pub session_by : ℕ → Option Peer → ℕ → MeterSession
session_by agent peer since = record { session_way = ByAgent agent; peer = peer; since = since }

-- what it holds when it has asked, when it has answered, and when it has its grant
abbrev pub asked : Memory → (agent now : ℕ) → Memory
asked m agent now = unsealed (with_session (Some (session_by agent None now)) m)

abbrev pub answered : Memory → (agent : ℕ) → Peer → ℕ → Memory
answered m agent peer now = unsealed (with_session (Some (session_by agent (Some peer) now)) (without_oldest m))

abbrev pub joined : Memory → Granted → Memory
joined m grant = unsealed (record (with_session None m) { station = record m.station { ring = Some grant } })

module _ (own : Identity) (m : Memory) (agent now : ℕ) where
  -- # It asks

  pub asks : m.station.ring ≡ None
      → Gives (join own m agent now) tt (Up agent own.eui (message own.eui (body.Join [])) ∷ []) (asked m agent now)
  unfolding choose goes_up with_memory_by empty_draft
  asks alone =
      let d : Draft Memory = goes_up agent own.eui (message own.eui (body.Join []))
      (with_memory_by (with_session (Some (session_by agent None now))) (empty_draft m)) in
      gives_at joining_ends d tt refl (join own m agent now)
      (λ i. choose (is_some (alone i)) (refused joining_ends m AlreadyJoined) (sealing in_memory joining_ends d tt))

  module _ (alone : m.station.ring ≡ None) (peer : Option Peer) (since : ℕ) (runs : m.session ≡ Some (session_by agent peer since)) where
    running : has_session m (ByAgent agent) ≡ true
    running =
        (λ i. option_map_or (λ (s : MeterSession). same_session_way s.session_way (ByAgent agent)) (runs i) false)
        ∙ eq-eqb agent agent refl

    nothing_in_its_way : air_fault m (ByAgent agent) ≡ None
    nothing_in_its_way = λ i. Some BadUnit when is_some (alone i) then Some NoSession unless running i

    -- # It answers the first packet

    module _ (value : RandomOctets) (given : oldest m ≡ Some value) (packet : List ℕ) (first : is_first packet ≡ true) (fault : first_fault packet ≡ None)
        (identifier : ℕ) (numbered : identifier_of packet ≡ identifier) (answers : Peer) (by : peer_for own.eui value packet ≡ answers) where
      abbrev second : JoinMessage
      second = message own.eui (body.Join (own.ciphers.second own.psk identifier answers))

      abbrev answering : Draft Memory
      answering =
          goes_up agent answers.eui second
          (with_pair_tags (mac_p_tag answers.eui answers.id_s answers.rand_s answers.rand_p ∷ []) []
          (with_memory_by (λ n. with_session (Some (session_by agent (Some answers) now)) (without_oldest n)) (empty_draft m)))

      pub answers_first : Gives (hear_near own m agent (body.Challenge packet) now) heard.Replied (Up agent answers.eui second ∷ [])
          (answered m agent answers now)
      unfolding choose checked goes_up with_pair_tags with_memory_by empty_draft
      answers_first =
          gives_so dropped answering heard.Replied refl m (hear_near own m agent (body.Challenge packet) now)
          ((λ i. choose (first i) (reply own m (ByAgent agent) packet now) (take own m (ByAgent agent) packet now))
          ∙ (λ i. checked dropped m (nothing_in_its_way i)
          (option_map_or (λ value. checked dropped m (option_map packet_fault (first_fault packet)) (reply_with own m (ByAgent agent) packet now value))
          (oldest m) (drop_it m NoRandom)))
          ∙ (λ i. option_map_or (λ value. checked dropped m (option_map packet_fault (first_fault packet)) (reply_with own m (ByAgent agent) packet now value))
          (given i) (drop_it m NoRandom))
          ∙ (λ i. checked dropped m (option_map packet_fault (fault i)) (reply_with own m (ByAgent agent) packet now value))
          ∙ (λ i. replies m (ByAgent agent) (by i) (message own.eui (body.Join (own.ciphers.second own.psk (numbered i) (by i)))) now))

  -- # It takes its grant

  module _ (alone : m.station.ring ≡ None) (peer : Peer) (since : ℕ) (runs : m.session ≡ Some (session_by agent (Some peer) since)) (packet : List ℕ)
      (later : is_first packet ≡ false) (fault : own.ciphers.third_fault own.psk peer packet ≡ None) (grant : Granted)
      (grants : own.ciphers.granted own.psk peer packet ≡ Some grant) (identifier : ℕ) (numbered : identifier_of packet ≡ identifier) where
    abbrev fourth : JoinMessage
    fourth = message own.eui (body.Join (own.ciphers.fourth own.psk identifier peer))

    abbrev taking : Draft Memory
    taking =
        goes_up agent peer.eui fourth
        (with_pair_tags (success_tag peer.eui identifier peer.rand_s peer.rand_p ∷ [])
        (mac_s_tag peer.eui peer.id_s peer.rand_p ∷ granting_tag peer.eui identifier peer.rand_s peer.rand_p (granting_text grant) ∷ [])
        (on_station (with_ring (Some grant)) (with_memory_by (with_session None) (empty_draft m))))

    pub takes_grant : Gives (hear_near own m agent (body.Challenge packet) now) (heard.Took (agreed_by peer)) (Up agent peer.eui fourth ∷ []) (joined m grant)
    unfolding choose checked goes_up with_pair_tags on_station with_ring with_memory_by empty_draft
    takes_grant =
        gives_so dropped taking (heard.Took (agreed_by peer)) refl m (hear_near own m agent (body.Challenge packet) now)
        ((λ i. choose (later i) (reply own m (ByAgent agent) packet now) (take own m (ByAgent agent) packet now))
        ∙ (λ i. checked dropped m (nothing_in_its_way alone (Some peer) since runs i)
        (option_map_or (λ (s : MeterSession). take_by own m (ByAgent agent) packet now s.peer) m.session (drop_it m NoSession)))
        ∙ (λ i. option_map_or (λ (s : MeterSession). take_by own m (ByAgent agent) packet now s.peer) (runs i) (drop_it m NoSession))
        ∙ (λ i. checked dropped m (option_map packet_fault (fault i))
        (take_with own m (ByAgent agent) packet now peer (own.ciphers.granted own.psk peer packet)))
        ∙ (λ i. take_with own m (ByAgent agent) packet now peer (grants i))
        ∙ (λ i. takes m (ByAgent agent) peer (numbered i) grant (message own.eui (body.Join (own.ciphers.fourth own.psk (numbered i) peer))) now))

  -- # It notes the acceptance

  pub notes : (identifier : ℕ) → Gives (hear_near own m agent (body.Accept identifier) now) heard.Noted [] (unsealed m)
  unfolding empty_draft
  notes identifier = gives_so dropped (empty_draft m) heard.Noted refl m (hear_near own m agent (body.Accept identifier) now) refl
