-- What a meter and the coordinator of the network say to each other fits a command, and goes to one node.
use Rattle.std.proofs.Common.{◌≡◌, ℕ, ◌≤◌, ◌<◌, length, Option, Some, subst, arith}
use Rattle.std.specs.Prelude.{All, IfSome, position}
use Rattle.plc_base.specs.Fields.{AreOctets}
use Rattle.plc_base.specs.declared.address.Eui.{Eui}
use Rattle.plc_base.specs.declared.key.Key.{Key}
use Rattle.eap_psk.proofs.PacketSizes.{first_fits, second_fits, third_fits, fourth_fits}
use Rattle.eap_psk.specs.Keys.{keys_of}
use Rattle.eap_psk.specs.Sessions.{identifier_of, peer_for, peer_of}
use Rattle.eap_psk.specs.declared.peer.Peer.{Peer}
use Rattle.group_keys.specs.declared.key_book.BookEntry.{BookEntry}
use Rattle.group_keys.specs.KeyBook as book
use Rattle.joining_messages.specs.Messages.{rest_of}
use Rattle.joining_messages.specs.declared.message.JoinBody.TheVariants as body
use Rattle.joining_messages.specs.declared.message.JoinMessage.{JoinMessage}
use Rattle.node_rules.specs.Accepted.{Accepted}
use Rattle.node_rules.specs.Ciphers.{network}
use Rattle.node_rules.specs.Coordinators as coordinators
use Rattle.node_rules.specs.Coordinators.{is_of, session_of}
use Rattle.node_rules.specs.JoiningPackets.{message, command_of, first_packet, server_for}
use Rattle.node_rules.specs.Memory.{Memory, MeterSession, CoordinatorSession}
use Rattle.line_laws.specs.Stores.{IsReadable, IsNamed}
use Rattle.line_laws.proofs.Answered.{booked_low, granted_readable}
use Rattle.line_laws.proofs.CoordinatorForms.{IsReached, AsHeard, AsSession, AsBooked, IsSaidDown, SaysDecline, SaysChallenge, SaysGrant, SaysAccept}
use Rattle.line_laws.proofs.CoordinatorForms.{SaysActivate, SaysKick}
use Rattle.node_rules.specs.OctetLaws.{WayFits}
use Rattle.line_laws.proofs.HeardOctets.{unread_fits}
use Rattle.line_laws.proofs.IssueNodes.{place_is}
use Rattle.line_laws.proofs.Made.{Given}
use Rattle.line_laws.proofs.MeterForms.{OfOther, Second, Fourth}
use Rattle.line_laws.proofs.MeterOctets.{part_short, oldest_speaks}
use Rattle.line_laws.proofs.OctetDrafts.{command_short, PeerSpeaks, SessionSpeaks, ServerSpeaks, MemorySpeaks}
use Rattle.line_laws.proofs.RangeCoordinator.{HasEight, SpeaksWell}
use Rattle.line_laws.proofs.RangeHeard.{SaysShort}
use Rattle.joining_messages.proofs.JoinRanges.{read_fits}
use Rattle.line_laws.proofs.StoreBook.{looked_up, stands}

-- # Packets

command_fits : (join : JoinMessage) → length join.eui.0 ≡ 8 → length (rest_of join.body) ≤ 364 → length (command_of join) ≤ 375
command_fits join eight rest = let short = command_short join eight rest in omega arith

-- # A meter

module _ (eui : Eui) (psk : Key) (eight : length eui.0 ≡ 8) (m : Memory) (h : MemorySpeaks m) where
  pub says_short : SaysShort (record { eui = eui; psk = psk; ciphers = network }) m
  says_short join (OfOther octets other read) = command_fits join (read_fits join octets read).eui (let rest = (read_fits join octets read).rest in omega arith)
  says_short join (Second packet value here) =
      command_fits (message eui (body.Join (network.second psk (identifier_of packet) (peer_for eui value packet)))) eight
      (let fits = second_fits (keys_of psk.0) (identifier_of packet) (peer_for eui value packet) (part_short 6 16 packet) (oldest_speaks m value h here).1
      eight in omega arith)
  says_short join (Fourth packet s peer there has) =
      let p : PeerSpeaks peer = subst (λ (o : Option Peer). IfSome o PeerSpeaks) has
      (subst (λ (o : Option MeterSession). IfSome o SessionSpeaks) there h.session) in
      command_fits (message eui (body.Join (network.fourth psk (identifier_of packet) peer))) eight
      (let fits = fourth_fits (keys_of psk.0) (identifier_of packet) peer p.2 in omega arith)

-- # The coordinator

abbrev pub EntryHasEight : BookEntry → Type 0
EntryHasEight e = HasEight e.eui

-- What the coordinator holds besides.
pub record IsBooked (m : Memory) : Type 0 where
  pub short : length m.book ≤ 999
  pub entries : All EntryHasEight m.book
  pub sessions : All IsNamed m.sessions
  pub ring : IfSome m.station.ring IsReadable

module _ (eui : Eui) (eight : length eui.0 ≡ 8) (m : Memory) (h : MemorySpeaks m) (b : IsBooked m) (g : Given)
    (are : (got : Accepted) → g.got ≡ Some got → AreOctets got.payload) where
  abbrev own : coordinators.CoordinatorIdentity
  own = record { eui = eui; ciphers = network }

  server_at : (meter : Eui) (s : CoordinatorSession) → session_of m meter ≡ Some s → ServerSpeaks s
  server_at meter s there = looked_up ServerSpeaks m.sessions (position (is_of meter) m.sessions) s there h.sessions

  named_at : (meter : Eui) (s : CoordinatorSession) → session_of m meter ≡ Some s → IsNamed s
  named_at meter s there = looked_up IsNamed m.sessions (position (is_of meter) m.sessions) s there b.sessions

  entry_at : (meter : Eui) (e : BookEntry) → book.allowed_one m.book meter ≡ Some e → EntryHasEight e
  entry_at meter e allowed = looked_up EntryHasEight m.book (book.place_of m.book meter) e (stands m.book meter e allowed) b.entries

  reached : (to : ℕ) → IsReached g m to → to < 0xFFFE
  reached to (AsHeard origin got u is un way) = subst WayFits way (unread_fits m.station got g.cost g.note g.now u (are got is) un).1
  reached to (AsSession origin meter s there way) = subst WayFits way (server_at meter s there).3
  reached to (AsBooked meter address booked) = booked_low m.book meter to b.short booked

  short : (join : JoinMessage) → IsSaidDown HasEight own m join → length (command_of join) ≤ 375
  short join (SaysDecline meter known) = command_fits (message meter body.Decline) known (omega arith)
  short join (SaysChallenge meter value known here) = command_fits (message meter (body.Challenge (first_packet (server_for meter eui value)))) known
      (let fits = first_fits 1 value.0 eui.0 (oldest_speaks m value h here).1 eight in omega arith)
  short join (SaysGrant s e meter rand_p granted there allowed is) =
      command_fits (message s.server.eui (body.Challenge (network.third e.psk s.server rand_p granted))) (named_at meter s there).0
      (let readable = granted_readable m.station.ring m.book s.server.eui granted b.ring b.short is in
      let fits = third_fits (keys_of e.psk.0) 2 (peer_of s.server rand_p) granted (server_at meter s there).2 (place_is granted.key0 readable.key0)
      (place_is granted.key1 readable.key1) in
      omega arith)
  short join (SaysAccept s meter there) = command_fits (message s.server.eui (body.Accept 2)) (named_at meter s there).0 (omega arith)
  short join (SaysActivate e meter index allowed) = command_fits (message e.eui (body.Activate index)) (entry_at meter e allowed) (omega arith)
  short join (SaysKick e meter allowed) = command_fits (message e.eui body.Kick) (entry_at meter e allowed) (omega arith)

  pub speaks_well : SpeaksWell own g m
  speaks_well = record { reached = reached; short = short }
