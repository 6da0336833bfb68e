-- What the coordinator makes of a frame, and each order, puts three times at most, before the counter.
use Rattle.std.proofs.Common.{◌≡◌, ℕ, Bool, true, false, List, [], ◌∷◌, Option, Some, None, Result, refl}
use Rattle.std.specs.Prelude.{is_some, ◌&&◌, nat_lt, ◌+◌, if◌then◌else◌}
use Rattle.std.specs.Option.{option_map_or}
use Rattle.plc_base.specs.declared.address.Eui.{Eui}
use Rattle.plc_base.specs.declared.key.Key.{Key}
use Rattle.plc_base.specs.declared.key.RandomOctets.{RandomOctets}
use Rattle.plc_base.specs.Grant.{Granted}
use Rattle.group_keys.specs.declared.key_book.BookEntry.{BookEntry}
use Rattle.group_keys.specs.KeyBook as book
use Rattle.group_keys.specs.KeyRing as ring
use Rattle.joining_messages.specs.declared.message.JoinMessage.{JoinMessage}
use Rattle.joining_messages.specs.declared.message.JoinBody.{JoinBody}
use Rattle.joining_messages.specs.declared.message.JoinBody.TheVariants as body
use Rattle.joining_messages.specs.Reader.{join_in}
use Rattle.eap_psk.specs.declared.server.Server.{Server}
use Rattle.node_rules.specs.Accepted.{Accepted}
use Rattle.node_rules.specs.declared.heard.Heard.{Heard}
use Rattle.node_rules.specs.declared.heard.CoordinatorHeard.{CoordinatorHeard}
use Rattle.node_rules.specs.declared.heard.CoordinatorHeard.TheVariants as heard
use Rattle.node_rules.specs.declared.heard.Way.{Way}
use Rattle.node_rules.specs.declared.heard.Way.TheVariants.{Air, Near, Mesh}
use Rattle.node_rules.specs.declared.refusal.Dropped.{Dropped}
use Rattle.node_rules.specs.declared.refusal.Dropped.TheVariants as drops
use Rattle.node_rules.specs.declared.refusal.CoordinatorRefusal.TheVariants as refusal
use Rattle.node_rules.specs.Memory.{StationMemory, Memory, CoordinatorSession, next_hop}
use Rattle.node_rules.specs.Plans.{Plan}
use Rattle.node_rules.specs.Drafts.{counters_left, Draft, empty_draft, refused, sealing, checked, choose}
use Rattle.node_rules.specs.HearingRules as station_rules
use Rattle.node_rules.specs.HearingRules.{dropped}
use Rattle.node_rules.specs.JoiningPackets.{message, server_for}
use Rattle.eap_psk.specs.Sessions.{rand_p_in}
use Rattle.node_rules.specs.MemoryDrafts.{with_memory_by, is_commanded, in_memory, oldest, Unread, unread}
use Rattle.node_rules.specs.Coordinators.{CoordinatorIdentity, Hearing, drop_it, ends, session_of, allowed_entry, grant_for, declines, challenges, open_session}
use Rattle.node_rules.specs.Coordinators.{join_without_packet, keys_for, take_second, accepts, take_fourth, take_packet, join_with_packet, hear_join}
use Rattle.node_rules.specs.Coordinators.{hear_join_in, heard_by}
use Rattle.node_rules.specs.Coordinators.{hear_coordinator, with_book_entry, changed, Ordering, orders, allow, depot_by, depot, rekey, activate_self}
use Rattle.node_rules.specs.Coordinators.{challenge_by, challenge_at, challenge, allowed_address, activate_by, activate, kick_by, kick, changes, kick_goes}
use Rattle.node_rules.specs.Coordinators.{without_session}
use Rattle.node_rules.proofs.Shapes.{Rests, rests_shape, checked_shape, choose_shape, sealed_shape, sealing_shape, option_shape}
use Rattle.node_rules.proofs.PutCounts.{Does, Began, memory_does, begins, rings, commands_does, remembers, enters, enters_first, quiet_does, ends_does}
use Rattle.node_rules.proofs.HeardPuts.{StationFew, hear_few}
use Rattle.node_rules.proofs.MemoryPuts.{MemoryFew, within_few}

ruleset words = (rests_shape, checked_shape, choose_shape, sealed_shape, sealing_shape, memory_does)

module _ (own : CoordinatorIdentity) (m : Memory) where
  abbrev IsRule : Hearing → Type 0
  IsRule p = MemoryFew dropped m p

  chosen : (test : Bool) (p q : Hearing) → IsRule p → IsRule q → IsRule (choose test p q)
  chosen test p q s t = choose_shape in_memory dropped m Does test p q s t

  passed : (fault : Option Dropped) (p : Hearing) → IsRule p → IsRule (checked dropped m fault p)
  passed fault p s = checked_shape in_memory dropped m Does fault p s

  ended : (d : Draft Memory) (answer : CoordinatorHeard) → Does d → IsRule (ends m d answer)
  ended d answer done = sealed_shape in_memory dropped m Does d answer done

  by_option : {X : Type 0} (f : X → Hearing) (o : Option X) (p : Hearing) → ((y : X) → IsRule (f y)) → IsRule p → IsRule (option_map_or f o p)
  by_option f o p s t = option_shape in_memory dropped m Does f o p s t

  -- # What is heard

  declines_shape : (way : Way) (join : JoinMessage) (now : ℕ) → IsRule (declines m way join now)
  declines_shape (Air eui) join now = search words depth 16
  declines_shape (Near agent) join now = search words depth 16
  declines_shape (Mesh origin) join now = search words depth 16

  challenges_shape : (way : Way) (server : Server) (now : ℕ) → IsRule (challenges m way server now)
  challenges_shape (Air eui) server now = search words depth 16
  challenges_shape (Near agent) server now = search words depth 16
  challenges_shape (Mesh origin) server now = search words depth 16

  open_shape : (way : Way) (eui : Eui) (now : ℕ) → IsRule (open_session own m way eui now)
  open_shape way eui now = passed _ _
      (by_option (λ value. challenges m way (server_for eui own.eui value) now) (oldest m) (drop_it m drops.NoRandom)
      (λ value. challenges_shape way (server_for eui own.eui value) now) (Rests _))

  asked_shape : (way : Way) (eui : Eui) (now : ℕ) → IsRule (join_without_packet own m way eui now)
  asked_shape way eui now = chosen _ _ _ (open_shape way eui now) (declines_shape way _ now)

  keys_shape : (s : CoordinatorSession) (e : BookEntry) (rand_p : RandomOctets) (granted : Granted) (now : ℕ) → IsRule (keys_for own m s e rand_p granted now)
  keys_shape s e rand_p granted now = by_way s.way refl
    where
      by_way : (way : Way) → s.way ≡ way → IsRule (keys_for own m s e rand_p granted now)
      by_way (Air eui) is = rw is (search words depth 16)
      by_way (Near agent) is = rw is (search words depth 16)
      by_way (Mesh origin) is = rw is (search words depth 16)

  second_shape : (s : CoordinatorSession) (e : BookEntry) (packet : List ℕ) (now : ℕ) → IsRule (take_second own m s e packet now)
  second_shape s e packet now = passed _ _
      (by_option (λ granted. keys_for own m s e (rand_p_in packet) granted now) (grant_for m s.server.eui) (drop_it m drops.NotAllowed)
      (λ granted. keys_shape s e _ granted now) (Rests _))

  fourth_shape : (s : CoordinatorSession) (e : BookEntry) (packet : List ℕ) (rand_p : RandomOctets) (now : ℕ) → IsRule (take_fourth own m s e packet rand_p now)
  fourth_shape s e packet rand_p now = passed _ _ (by_way s.way refl)
    where
      by_way : (way : Way) → s.way ≡ way → IsRule (accepts m s rand_p now)
      by_way (Air eui) is = rw is (search words depth 16)
      by_way (Near agent) is = rw is (search words depth 16)
      by_way (Mesh origin) is = rw is (search words depth 16)

  packet_shape : (e : BookEntry) (packet : List ℕ) (now : ℕ) (s : CoordinatorSession) → IsRule (take_packet own m e packet now s)
  packet_shape e packet now s = by_option (λ rand_p. take_fourth own m s e packet rand_p now) s.server.rand_p (take_second own m s e packet now)
      (λ rand_p. fourth_shape s e packet rand_p now) (second_shape s e packet now)

  answered_shape : (eui : Eui) (packet : List ℕ) (now : ℕ) → IsRule (join_with_packet own m eui packet now)
  answered_shape eui packet now = by_option (λ e. option_map_or (take_packet own m e packet now) (session_of m eui) (drop_it m drops.NoSession))
      (allowed_entry m eui) (drop_it m drops.NotAllowed)
      (λ e. by_option (take_packet own m e packet now) (session_of m eui) (drop_it m drops.NoSession) (λ s. packet_shape e packet now s) (Rests _)) (Rests _)

  join_shape : (way : Way) (eui : Eui) (b : JoinBody) (now : ℕ) → IsRule (hear_join own m way eui b now)
  join_shape way eui (body.Join []) now = asked_shape way eui now
  join_shape way eui (body.Join (x ∷ packet)) now = answered_shape eui (x ∷ packet) now
  join_shape way eui _ now = Rests _

  join_in_shape : (way : Way) (join : Option JoinMessage) (now : ℕ) → IsRule (hear_join_in own m way join now)
  join_in_shape way None now = Rests _
  join_in_shape way (Some join) now = chosen _ _ _ (join_shape way join.eui join.body now) (Rests _)

  heard_by_shape : (now : ℕ) (p : Plan StationMemory (Result Heard Dropped)) (u : Option Unread) → StationFew m.station p
      → IsRule (heard_by own m now p u)
  heard_by_shape now p None s = within_few heard.Station m p s
  heard_by_shape now p (Some u) s = join_in_shape u.way (join_in u.body) now

  pub coordinator_few : (got : Accepted) (cost note now : ℕ) → MemoryFew dropped m (hear_coordinator own m got cost note now)
  coordinator_few got cost note now =
      let p = station_rules.hear m.station got cost note now in heard_by_shape now p (unread p.answer) (hear_few m.station got cost note now)

  -- # Orders

  abbrev IsOrder : {A : Type 0} → Ordering A → Type 0
  IsOrder p = MemoryFew orders m p

  by_part : {A X : Type 0} (f : X → Ordering A) (o : Option X) (p : Ordering A) → ((y : X) → IsOrder (f y)) → IsOrder p → IsOrder (option_map_or f o p)
  by_part f o p s t = option_shape in_memory orders m Does f o p s t

  by_choice : {A : Type 0} (test : Bool) (p q : Ordering A) → IsOrder p → IsOrder q → IsOrder (choose test p q)
  by_choice test p q s t = choose_shape in_memory orders m Does test p q s t

  changed_began : (e : BookEntry) → Began 1 (changed m e)
  changed_began e = by_change (changes m e)
    where
      by_change : (b : Bool) → Began 1
          (if b then with_memory_by (without_session e.eui) (with_book_entry e (empty_draft m)) else empty_draft m)
      by_change true = remembers _ _ (enters_first e (empty_draft m) (begins m))
      by_change false = begins m

  kick_goes_does : (to : ℕ) (join : JoinMessage) (d : Draft Memory) → Began 1 d → Does (kick_goes m to join d)
  kick_goes_does to join d f = by_route (is_some (next_hop m.station to) && nat_lt 0 (counters_left m.station))
    where
      by_route : (b : Bool) → Does (if b then is_commanded to join 0 d else d)
      by_route true = commands_does to join 0 d f
      by_route false = quiet_does d f

  pub allow_few : (eui : Eui) (psk : Key) → MemoryFew orders m (allow m eui psk)
  allow_few eui psk =
      let e = book.allowed_entry eui psk (book.entry_for m.book eui) in
      by_choice _ _ _ (sealing_shape in_memory orders m Does (changed m e) (book.place_for m.book eui + 1)
      (quiet_does _ (changed_began e))) (Rests _)

  depot_by_shape : (eui : Eui) (psk : Key) (d : Draft Memory) → Began 1 d
      → MemoryFew orders m (depot_by m eui psk d)
  depot_by_shape eui psk d f = by_part (λ granted. option_map_or
      (λ e. sealing in_memory orders (with_book_entry (book.issued_entry eui granted e) d) granted) (book.allowed_one d.memory.book eui)
      (refused orders m refusal.MetersFull)) (grant_for d.memory eui) (refused orders m refusal.MetersFull)
      (λ granted. by_part (λ e. sealing in_memory orders (with_book_entry (book.issued_entry eui granted e) d) granted) (book.allowed_one d.memory.book eui)
      (refused orders m refusal.MetersFull)
      (λ e. sealing_shape _ _ _ _ _ _
      (ends_does _ (enters 1 (book.issued_entry eui granted e) d f))) (Rests _)) (Rests _)

  pub depot_few : (eui : Eui) (psk : Key) → MemoryFew orders m (depot m eui psk)
  depot_few eui psk =
      let e = book.allowed_entry eui psk (book.entry_for m.book eui) in
      by_choice _ _ _ (depot_by_shape eui psk (changed m e) (changed_began e)) (Rests _)

  pub rekey_few : (index : ℕ) (key : Key) → MemoryFew orders m (rekey m index key)
  rekey_few index key = by_choice _ _ _ (Rests _) (sealing_shape _ _ _ _ _ _ (quiet_does _
      (rings (ring.with_key m.station.ring index key) (empty_draft m) (begins m))))

  pub activate_self_few : (index : ℕ) → MemoryFew orders m (activate_self m index)
  activate_self_few index = by_choice _ _ _ (sealing_shape _ _ _ _ _ _ (quiet_does _
      (rings (ring.with_active m.station.ring index) (empty_draft m) (begins m)))) (Rests _)

  challenge_by_shape : (to now : ℕ) (server : Server) → MemoryFew orders m (challenge_by own.eui m to now server)
  challenge_by_shape to now server = search words depth 16

  challenge_at_shape : (eui : Eui) (now to : ℕ) → MemoryFew orders m (challenge_at own.eui m eui now to)
  challenge_at_shape eui now to = checked_shape _ _ _ _ _ _
      (by_part (λ value. challenge_by own.eui m to now (server_for eui own.eui value)) (oldest m) (refused orders m refusal.NoRandom)
      (λ value. challenge_by_shape to now (server_for eui own.eui value)) (Rests _))

  pub challenge_few : (eui : Eui) (now : ℕ) → MemoryFew orders m (challenge own.eui m eui now)
  challenge_few eui now =
      by_part (challenge_at own.eui m eui now) (allowed_address m eui) (refused orders m refusal.NotAllowed) (λ to. challenge_at_shape eui now to) (Rests _)

  activate_by_shape : (e : BookEntry) (index now to : ℕ) → MemoryFew orders m (activate_by m e index now to)
  activate_by_shape e index now to = search words depth 16

  pub activate_few : (eui : Eui) (index now : ℕ) → MemoryFew orders m (activate m eui index now)
  activate_few eui index now = by_part (λ e. option_map_or (activate_by m e index now) (book.address_of m.book eui) (refused orders m refusal.NotAllowed))
      (allowed_entry m eui) (refused orders m refusal.NotAllowed)
      (λ e. by_part (activate_by m e index now) (book.address_of m.book eui) (refused orders m refusal.NotAllowed) (λ to. activate_by_shape e index now to)
      (Rests _)) (Rests _)

  kick_by_shape : (e : BookEntry) (to : ℕ) → MemoryFew orders m (kick_by m e to)
  kick_by_shape e to = sealing_shape in_memory orders m Does
      (kick_goes m to (message e.eui body.Kick) (with_memory_by (without_session e.eui) (with_book_entry (book.kicked_entry e.eui e) (empty_draft m)))) tt
      (kick_goes_does to _ _ (remembers _ _ (enters_first (book.kicked_entry e.eui e) (empty_draft m) (begins m))))

  pub kick_few : (eui : Eui) → MemoryFew orders m (kick m eui)
  kick_few eui = by_part (λ e. option_map_or (kick_by m e) (book.address_of m.book eui) (refused orders m refusal.NotAllowed)) (allowed_entry m eui)
      (refused orders m refusal.NotAllowed)
      (λ e. by_part (kick_by m e) (book.address_of m.book eui) (refused orders m refusal.NotAllowed) (λ to. kick_by_shape e to) (Rests _)) (Rests _)
