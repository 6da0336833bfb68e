-- A joining message hands up no datagram, whatever its node makes of it.
use Rattle.std.proofs.Common.{◌≡◌, ℕ, Bool, true, false, List, [], ◌∷◌, length, Option, Some, None, Result, Ok, Err, refl}
use Rattle.std.specs.Prelude.{if◌then◌else◌, nat_lt}
use Rattle.std.specs.Option.{option_map_or}
use Rattle.plc_base.specs.declared.address.Eui.{Eui}
use Rattle.plc_base.specs.declared.key.RandomOctets.{RandomOctets}
use Rattle.plc_base.specs.Grant.{Granted}
use Rattle.group_keys.specs.declared.key_book.BookEntry.{BookEntry}
use Rattle.joining_messages.specs.declared.message.JoinMessage.{JoinMessage}
use Rattle.joining_messages.specs.declared.message.JoinBody.{JoinBody}
use Rattle.joining_messages.specs.declared.message.JoinBody.TheVariants as body
use Rattle.eap_psk.specs.declared.peer.Peer.{Peer}
use Rattle.node_rules.specs.declared.heard.MeterHeard.{MeterHeard}
use Rattle.node_rules.specs.declared.heard.MeterHeard.TheVariants as heard
use Rattle.node_rules.specs.declared.heard.CoordinatorHeard.{CoordinatorHeard}
use Rattle.node_rules.specs.declared.heard.CoordinatorHeard.TheVariants as coordinator_heard
use Rattle.node_rules.specs.declared.heard.Way.{Way}
use Rattle.node_rules.specs.declared.heard.Way.TheVariants.{Air, Near, Mesh}
use Rattle.node_rules.specs.declared.refusal.Dropped.{Dropped}
use Rattle.node_rules.specs.Coordinators as coordinator_rules
use Rattle.node_rules.specs.Drafts.{Draft, choose, checked, counters_left, refused, sealed, sealing}
use Rattle.node_rules.specs.HearingRules.{dropped}
use Rattle.node_rules.specs.Memory.{Memory, MeterSession, SessionWay, ByAgent, ByCommand, CoordinatorSession, address_of}
use Rattle.node_rules.specs.MemoryDrafts.{in_memory, oldest}
use Rattle.node_rules.specs.Meters as meters
use Rattle.node_rules.specs.Plans.{Plan, resting}
use Rattle.line_rules.specs.Answers.{Reception, meter_reception, coordinator_reception}

-- Neither answer of a plan hands up a datagram.
pub record IsSilent {H : Type 0} (reads : Result H Dropped → Reception) (p : Plan Memory (Result H Dropped)) : Type 0 where
  pub answer : (reads p.answer).up ≡ None
  pub failed : (reads p.failed).up ≡ None

module _ {H : Type 0} (reads : Result H Dropped → Reception) (none : (reason : Dropped) → (reads (Err reason)).up ≡ None) (m : Memory) where
  refuses : (reason : Dropped) → IsSilent reads (refused dropped m reason)
  unfolding resting
  refuses reason = record { answer = none reason; failed = none _ }

  seals : (d : Draft Memory) (word : H) → (reads (Ok word)).up ≡ None → (spent : Bool)
      → IsSilent reads (if spent then refused dropped m dropped.spent else sealing in_memory dropped d word)
  seals d word e true = refuses _
  seals d word e false = record { answer = e; failed = none _ }

  ends_so : (d : Draft Memory) (word : H) → (reads (Ok word)).up ≡ None → IsSilent reads (sealed in_memory dropped m d word)
  unfolding sealed
  ends_so d word e = seals d word e (nat_lt (counters_left m.station) (length d.units))

  chosen : (t : Bool) (p q : Plan Memory (Result H Dropped)) → IsSilent reads p → IsSilent reads q → IsSilent reads (choose t p q)
  unfolding choose
  chosen true p q one other = one
  chosen false p q one other = other

  checked_so : (o : Option Dropped) (p : Plan Memory (Result H Dropped)) → IsSilent reads p → IsSilent reads (checked dropped m o p)
  unfolding checked
  checked_so None p one = one
  checked_so (Some reason) p one = refuses reason

  either : {X : Type 0} (f : X → Plan Memory (Result H Dropped)) (x : Option X) (p : Plan Memory (Result H Dropped)) → ((y : X) → IsSilent reads (f y))
      → IsSilent reads p → IsSilent reads (option_map_or f x p)
  either f None p s t = t
  either f (Some y) p s t = s y

-- # A meter

drops_none : (reason : Dropped) → (meter_reception (Err reason)).up ≡ None
drops_none reason = refl

module _ (x : meters.Identity) (m : Memory) (now : ℕ) where
  abbrev Silent : meters.Hearing → Type 0
  Silent p = IsSilent meter_reception p

  drops_it : (reason : Dropped) → Silent (meters.drop_it m reason)
  drops_it = refuses meter_reception drops_none m

  ends_by : (d : Draft Memory) (word : MeterHeard) → (meter_reception (Ok word)).up ≡ None → Silent (meters.ends m d word)
  ends_by = ends_so meter_reception drops_none m

  by_check : (o : Option Dropped) (p : meters.Hearing) → Silent p → Silent (checked dropped m o p)
  by_check = checked_so meter_reception drops_none m

  by_choice : (t : Bool) (p q : meters.Hearing) → Silent p → Silent q → Silent (choose t p q)
  by_choice = chosen meter_reception drops_none m

  carries_up : (join : JoinMessage) → Silent (meters.carries_up m join now)
  carries_up join = by_check _ _ (ends_by _ heard.Carried refl)

  carry_up : (from : Eui) (join : JoinMessage) (b : JoinBody) → Silent (meters.carry_up m from join b now)
  carry_up from join (body.Join eap) = by_choice _ _ _ (carries_up join) (drops_it _)
  carry_up from join (body.Challenge eap) = drops_it _
  carry_up from join (body.Accept identifier) = drops_it _
  carry_up from join body.Decline = drops_it _
  carry_up from join body.Kick = drops_it _
  carry_up from join (body.Activate index) = drops_it _

  carries_down : (join : JoinMessage) → Silent (meters.carries_down m join)
  carries_down join = either meter_reception drops_none m _ (address_of m.station) _ (λ own. ends_by _ heard.Carried refl) (drops_it _)

  carry_down : (join : JoinMessage) (b : JoinBody) → Silent (meters.carry_down m join b)
  carry_down join (body.Challenge eap) = carries_down join
  carry_down join (body.Accept identifier) = carries_down join
  carry_down join body.Decline = carries_down join
  carry_down join (body.Join eap) = drops_it _
  carry_down join body.Kick = drops_it _
  carry_down join (body.Activate index) = drops_it _

  replies : (way : SessionWay) (packet : List ℕ) → Silent (meters.reply x m way packet now)
  replies way packet =
      by_check _ _ (either meter_reception drops_none m _ (oldest m) _ (λ value. by_check _ _ (by_check _ _ (ends_by _ heard.Replied refl))) (drops_it _))

  takes_with : (way : SessionWay) (packet : List ℕ) (peer : Peer) (o : Option Granted) → Silent (meters.take_with x m way packet now peer o)
  takes_with way packet peer None = drops_it _
  takes_with way packet peer (Some granted) = by_check _ _ (ends_by _ (heard.Took _) refl)

  takes_by : (way : SessionWay) (packet : List ℕ) (o : Option Peer) → Silent (meters.take_by x m way packet now o)
  takes_by way packet None = drops_it _
  takes_by way packet (Some peer) = by_check _ _ (takes_with way packet peer _)

  takes : (way : SessionWay) (packet : List ℕ) → Silent (meters.take x m way packet now)
  takes way packet =
      by_check _ _ (either meter_reception drops_none m (λ (s : MeterSession). meters.take_by x m way packet now s.peer) m.session _
      (λ s. takes_by way packet s.peer) (drops_it _))

  challenged : (way : SessionWay) (packet : List ℕ) → Silent (meters.challenged x m way packet now)
  challenged way packet = by_choice _ _ _ (replies way packet) (takes way packet)

  declined : (agent : ℕ) → Silent (meters.declined m agent)
  declined agent = by_choice _ _ _ (drops_it _) (by_choice _ _ _ (ends_by _ heard.Declined refl) (drops_it _))

  near : (agent : ℕ) (b : JoinBody) → Silent (meters.hear_near x m agent b now)
  near agent (body.Challenge eap) = challenged (ByAgent agent) eap
  near agent (body.Accept identifier) = ends_by _ heard.Noted refl
  near agent body.Decline = declined agent
  near agent (body.Join eap) = drops_it _
  near agent body.Kick = drops_it _
  near agent (body.Activate index) = drops_it _

  ordered : (b : JoinBody) → Silent (meters.hear_order x m b now)
  ordered (body.Challenge eap) = challenged ByCommand eap
  ordered (body.Accept identifier) = ends_by _ heard.Noted refl
  ordered body.Kick = ends_by _ heard.Left refl
  ordered (body.Activate index) = by_choice _ _ _ (ends_by _ heard.Activated refl) (drops_it _)
  ordered (body.Join eap) = drops_it _
  ordered body.Decline = drops_it _

  joined : (way : Way) (join : JoinMessage) → Silent (meters.hear_join x m way join now)
  joined (Air from) join = carry_up from join join.body
  joined (Near agent) join = by_choice _ _ _ (near agent join.body) (drops_it _)
  joined (Mesh origin) join = by_choice _ _ _ (by_choice _ _ _ (ordered join.body) (carry_down join join.body)) (drops_it _)

  pub meters_are_silent : (way : Way) (o : Option JoinMessage) → Silent (meters.hear_join_in x m way o now)
  meters_are_silent way None = drops_it _
  meters_are_silent way (Some join) = joined way join

-- # The coordinator

coordinator_drops_none : (reason : Dropped) → (coordinator_reception (Err reason)).up ≡ None
coordinator_drops_none reason = refl

module _ (own : coordinator_rules.CoordinatorIdentity) (m : Memory) (now : ℕ) where
  abbrev Still : coordinator_rules.Hearing → Type 0
  Still p = IsSilent coordinator_reception p

  refuses_it : (reason : Dropped) → Still (coordinator_rules.drop_it m reason)
  refuses_it = refuses coordinator_reception coordinator_drops_none m

  done_by : (d : Draft Memory) (word : CoordinatorHeard) → (coordinator_reception (Ok word)).up ≡ None → Still (coordinator_rules.ends m d word)
  done_by = ends_so coordinator_reception coordinator_drops_none m

  if_right : (o : Option Dropped) (p : coordinator_rules.Hearing) → Still p → Still (checked dropped m o p)
  if_right = checked_so coordinator_reception coordinator_drops_none m

  by_test : (t : Bool) (p q : coordinator_rules.Hearing) → Still p → Still q → Still (choose t p q)
  by_test = chosen coordinator_reception coordinator_drops_none m

  opened : (way : Way) (eui : Eui) → Still (coordinator_rules.open_session own m way eui now)
  opened way eui =
      if_right _ _ (either coordinator_reception coordinator_drops_none m _ (oldest m) _
      (λ value. if_right _ _ (done_by _ coordinator_heard.Challenged refl)) (refuses_it _))

  asks : (way : Way) (eui : Eui) → Still (coordinator_rules.join_without_packet own m way eui now)
  asks way eui = by_test _ _ _ (opened way eui) (if_right _ _ (done_by _ coordinator_heard.Declined refl))

  second : (s : CoordinatorSession) (e : BookEntry) (packet : List ℕ) → Still (coordinator_rules.take_second own m s e packet now)
  second s e packet =
      if_right _ _ (either coordinator_reception coordinator_drops_none m _ (coordinator_rules.grant_for m s.server.eui) _
      (λ granted. if_right _ _ (done_by _ (coordinator_heard.Keyed _ _) refl)) (refuses_it _))

  fourth : (s : CoordinatorSession) (e : BookEntry) (packet : List ℕ) (rand_p : RandomOctets)
      → Still (coordinator_rules.take_fourth own m s e packet rand_p now)
  fourth s e packet rand_p = if_right _ _ (if_right _ _ (done_by _ (coordinator_heard.Done _ _) refl))

  packets : (e : BookEntry) (packet : List ℕ) (s : CoordinatorSession) → Still (coordinator_rules.take_packet own m e packet now s)
  packets e packet s =
      either coordinator_reception coordinator_drops_none m _ s.server.rand_p _ (λ rand_p. fourth s e packet rand_p) (second s e packet)

  answers : (eui : Eui) (packet : List ℕ) → Still (coordinator_rules.join_with_packet own m eui packet now)
  answers eui packet =
      either coordinator_reception coordinator_drops_none m _ (coordinator_rules.allowed_entry m eui) _
      (λ e. either coordinator_reception coordinator_drops_none m _ (coordinator_rules.session_of m eui) _ (λ s. packets e packet s) (refuses_it _))
      (refuses_it _)

  hears : (way : Way) (eui : Eui) (b : JoinBody) → Still (coordinator_rules.hear_join own m way eui b now)
  hears way eui (body.Join []) = asks way eui
  hears way eui (body.Join (y ∷ packet)) = answers eui (y ∷ packet)
  hears way eui (body.Challenge eap) = refuses_it _
  hears way eui (body.Accept identifier) = refuses_it _
  hears way eui body.Decline = refuses_it _
  hears way eui body.Kick = refuses_it _
  hears way eui (body.Activate index) = refuses_it _

  pub coordinators_are_silent : (way : Way) (o : Option JoinMessage) → Still (coordinator_rules.hear_join_in own m way o now)
  coordinators_are_silent way None = refuses_it _
  coordinators_are_silent way (Some join) = by_test _ _ _ (hears way join.eui join.body) (refuses_it _)
