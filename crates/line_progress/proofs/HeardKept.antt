-- What a node keeps of all that its station holds, where it hears a joining message, a command for the neighbours, or acknowledges a reply: all
-- of it, but for a meter that hears a KICK.
use Rattle.std.proofs.Common.{◌≡◌, ℕ, Bool, true, false, List, [], ◌∷◌, length, Option, Some, None, Ok, refl}
use Rattle.std.specs.Prelude.{if◌then◌else◌, nat_lt}
use Rattle.plc_base.specs.declared.address.Eui.{Eui}
use Rattle.plc_base.specs.declared.key.RandomOctets.{RandomOctets}
use Rattle.plc_base.specs.declared.tags.PairTag.{PairTag}
use Rattle.plc_base.specs.Grant.{Granted}
use Rattle.group_keys.specs.KeyRing as ring
use Rattle.group_keys.specs.declared.key_book.BookEntry.{BookEntry}
use Rattle.joining_messages.specs.declared.message.JoinMessage.{JoinMessage}
use Rattle.joining_messages.specs.declared.message.JoinBody.{JoinBody}
use Rattle.joining_messages.specs.declared.message.JoinBody.TheVariants as body
use Rattle.eap_psk.specs.declared.peer.Peer.{Peer}
use Rattle.node_rules.specs.declared.heard.MeterHeard.{MeterHeard}
use Rattle.node_rules.specs.declared.heard.MeterHeard.TheVariants as heard
use Rattle.node_rules.specs.declared.heard.CoordinatorHeard.{CoordinatorHeard}
use Rattle.node_rules.specs.declared.heard.CoordinatorHeard.TheVariants as coordinator_heard
use Rattle.node_rules.specs.declared.heard.Way.{Way}
use Rattle.node_rules.specs.declared.heard.Way.TheVariants.{Air, Near, Mesh}
use Rattle.node_rules.specs.declared.refusal.Dropped.{Dropped}
use Rattle.node_rules.specs.Coordinators as coordinator_rules
use Rattle.node_rules.specs.Drafts.{Draft, checked, choose, counters_left, empty_draft, refused, sealing, sealed, with_ring}
use Rattle.node_rules.specs.HearingRules.{dropped}
use Rattle.node_rules.specs.Memory.{Memory, MeterSession, SessionWay, ByAgent, ByCommand, CoordinatorSession, address_of}
use Rattle.node_rules.specs.MemoryDrafts.{goes_down, in_memory, oldest, on_station, with_pair_tags}
use Rattle.node_rules.specs.Meters as meters
use Rattle.line_progress.proofs.HeldKept.{PlanKeeps, DraftKeeps, held_as, begun_memory, refuses_it, ends_it, if_right, by_choice, by_option}
use Rattle.line_progress.proofs.HeldKept.{asked_up, booked, beside_so, ordered}

-- # Words

module _ (m : Memory) where
  tagged : (made opened : List PairTag) (d : Draft Memory) → DraftKeeps in_memory m d → DraftKeeps in_memory m (with_pair_tags made opened d)
  unfolding with_pair_tags
  tagged made opened d k = record { held = k.held }

  asked_down : (own : ℕ) (join : JoinMessage) (d : Draft Memory) → DraftKeeps in_memory m d → DraftKeeps in_memory m (goes_down own join d)
  unfolding goes_down
  asked_down own join d k = record { held = k.held }

  ringed_on : (r : ring.Ring) (d : Draft Memory) → DraftKeeps in_memory m d → DraftKeeps in_memory m (on_station (with_ring r) d)
  unfolding on_station with_ring
  ringed_on r d k = record { held = held_as m.station d.memory.station _ refl refl k.held }

-- # A meter

-- a meter that hears a joining message keeps all that it holds, or it leaves
pub data KeepsOrLeaves (m : Memory) (p : meters.Hearing) : Type 0 where
  KeepsAll : PlanKeeps in_memory m p → KeepsOrLeaves m p
  Leaves : p.answer ≡ Ok heard.Left → KeepsOrLeaves m p

module _ (x : meters.Identity) (m : Memory) (now : ℕ) where
  abbrev Keeping : meters.Hearing → Type 0
  Keeping p = PlanKeeps in_memory m p

  drops_it : (reason : Dropped) → Keeping (meters.drop_it m reason)
  drops_it reason = refuses_it m dropped reason

  ends_by : (d : Draft Memory) (word : MeterHeard) → DraftKeeps in_memory m d → Keeping (meters.ends m d word)
  ends_by d word k = ends_it m dropped d word k

  by_check : (o : Option Dropped) (p : meters.Hearing) → Keeping p → Keeping (checked dropped m o p)
  by_check o p k = if_right m dropped o p k

  by_test : (t : Bool) (p q : meters.Hearing) → Keeping p → Keeping q → Keeping (choose t p q)
  by_test t p q k o = by_choice in_memory m t p q k o

  said : (way : SessionWay) (own : Eui) (join : JoinMessage) (d : Draft Memory) → DraftKeeps in_memory m d
      → DraftKeeps in_memory m (meters.says way own join now d)
  said (ByAgent agent) own join d k = asked_up m agent own join d k
  said ByCommand own join d k = ordered m 0 now join d k

  carries_up : (join : JoinMessage) → Keeping (meters.carries_up m join now)
  carries_up join = by_check _ _ (ends_by _ heard.Carried (ordered m 0 now join _ (begun_memory m)))

  carry_up : (from : Eui) (join : JoinMessage) (b : JoinBody) → Keeping (meters.carry_up m from join b now)
  carry_up from join (body.Join eap) = by_test _ _ _ (carries_up join) (drops_it _)
  carry_up from join (body.Challenge eap) = drops_it _
  carry_up from join (body.Accept identifier) = drops_it _
  carry_up from join body.Decline = drops_it _
  carry_up from join body.Kick = drops_it _
  carry_up from join (body.Activate index) = drops_it _

  carries_down : (join : JoinMessage) → Keeping (meters.carries_down m join)
  carries_down join =
      by_option in_memory m (λ own. meters.ends m (goes_down own join (empty_draft m)) heard.Carried) (address_of m.station) _
      (λ own. ends_by _ heard.Carried (asked_down m own join _ (begun_memory m))) (drops_it _)

  carry_down : (join : JoinMessage) (b : JoinBody) → Keeping (meters.carry_down m join b)
  carry_down join (body.Challenge eap) = carries_down join
  carry_down join (body.Accept identifier) = carries_down join
  carry_down join body.Decline = carries_down join
  carry_down join (body.Join eap) = drops_it _
  carry_down join body.Kick = drops_it _
  carry_down join (body.Activate index) = drops_it _

  replies_with : (way : SessionWay) (packet : List ℕ) (value : RandomOctets) → Keeping (meters.reply_with x m way packet now value)
  replies_with way packet value =
      by_check _ _ (ends_by _ heard.Replied (said way _ _ _ (tagged m _ _ _ (beside_so m _ _ (λ n. refl) (begun_memory m)))))

  replies : (way : SessionWay) (packet : List ℕ) → Keeping (meters.reply x m way packet now)
  replies way packet =
      by_check _ _ (by_option in_memory m _ (oldest m) _ (λ value. by_check _ _ (replies_with way packet value)) (drops_it _))

  takes_with : (way : SessionWay) (packet : List ℕ) (peer : Peer) (o : Option Granted) → Keeping (meters.take_with x m way packet now peer o)
  takes_with way packet peer None = drops_it _
  takes_with way packet peer (Some granted) =
      by_check _ _ (ends_by _ (heard.Took _)
      (said way _ _ _ (tagged m _ _ _ (ringed_on m _ _ (beside_so m _ _ (λ n. refl) (begun_memory m))))))

  takes_by : (way : SessionWay) (packet : List ℕ) (o : Option Peer) → Keeping (meters.take_by x m way packet now o)
  takes_by way packet None = drops_it _
  takes_by way packet (Some peer) = by_check _ _ (takes_with way packet peer _)

  takes : (way : SessionWay) (packet : List ℕ) → Keeping (meters.take x m way packet now)
  takes way packet =
      by_check _ _ (by_option in_memory m (λ (s : MeterSession). meters.take_by x m way packet now s.peer) m.session _
      (λ s. takes_by way packet s.peer) (drops_it _))

  challenged : (way : SessionWay) (packet : List ℕ) → Keeping (meters.challenged x m way packet now)
  challenged way packet = by_test _ _ _ (replies way packet) (takes way packet)

  declined : (agent : ℕ) → Keeping (meters.declined m agent)
  declined agent =
      by_test _ _ _ (drops_it _) (by_test _ _ _ (ends_by _ heard.Declined (beside_so m _ _ (λ n. refl) (begun_memory m))) (drops_it _))

  notes : Keeping (meters.answers m heard.Noted)
  notes = ends_by _ heard.Noted (begun_memory m)

  activates : (index : ℕ) → Keeping (meters.activated m index)
  activates index = by_test _ _ _ (ends_by _ heard.Activated (ringed_on m _ _ (begun_memory m))) (drops_it _)

  near : (agent : ℕ) (b : JoinBody) → Keeping (meters.hear_near x m agent b now)
  near agent (body.Challenge eap) = challenged (ByAgent agent) eap
  near agent (body.Accept identifier) = notes
  near agent body.Decline = declined agent
  near agent (body.Join eap) = drops_it _
  near agent body.Kick = drops_it _
  near agent (body.Activate index) = drops_it _

  -- # A KICK

  by_either : (t : Bool) (p q : meters.Hearing) → KeepsOrLeaves m p → KeepsOrLeaves m q → KeepsOrLeaves m (choose t p q)
  unfolding choose
  by_either true p q k o = k
  by_either false p q k o = o

  kicks : KeepsOrLeaves m (meters.kicked m)
  unfolding sealed
  kicks = by_spent (nat_lt (counters_left m.station) (length (meters.leaves m).units))
    where
      by_spent : (b : Bool) → KeepsOrLeaves m (if b then refused dropped m dropped.spent else sealing in_memory dropped (meters.leaves m) heard.Left)
      by_spent true = KeepsAll (drops_it _)
      by_spent false = Leaves refl

  orders : (b : JoinBody) → KeepsOrLeaves m (meters.hear_order x m b now)
  orders (body.Challenge eap) = KeepsAll (challenged ByCommand eap)
  orders (body.Accept identifier) = KeepsAll notes
  orders body.Kick = kicks
  orders (body.Activate index) = KeepsAll (activates index)
  orders (body.Join eap) = KeepsAll (drops_it _)
  orders body.Decline = KeepsAll (drops_it _)

  joins : (way : Way) (join : JoinMessage) → KeepsOrLeaves m (meters.hear_join x m way join now)
  joins (Air from) join = KeepsAll (carry_up from join join.body)
  joins (Near agent) join = KeepsAll (by_test _ _ _ (near agent join.body) (drops_it _))
  joins (Mesh origin) join =
      by_either _ _ _ (by_either _ _ _ (orders join.body) (KeepsAll (carry_down join join.body))) (KeepsAll (drops_it _))

  pub meters_keep : (way : Way) (o : Option JoinMessage) → KeepsOrLeaves m (meters.hear_join_in x m way o now)
  meters_keep way None = KeepsAll (drops_it _)
  meters_keep way (Some join) = joins way join

-- # The coordinator

module _ (own : coordinator_rules.CoordinatorIdentity) (m : Memory) (now : ℕ) where
  abbrev Keeps : coordinator_rules.Hearing → Type 0
  Keeps p = PlanKeeps in_memory m p

  refuses_so : (reason : Dropped) → Keeps (coordinator_rules.drop_it m reason)
  refuses_so reason = refuses_it m dropped reason

  done_by : (d : Draft Memory) (word : CoordinatorHeard) → DraftKeeps in_memory m d → Keeps (coordinator_rules.ends m d word)
  done_by d word k = ends_it m dropped d word k

  if_so : (o : Option Dropped) (p : coordinator_rules.Hearing) → Keeps p → Keeps (checked dropped m o p)
  if_so o p k = if_right m dropped o p k

  says_so : (way : Way) (join : JoinMessage) (d : Draft Memory) → DraftKeeps in_memory m d → DraftKeeps in_memory m (coordinator_rules.says way join now d)
  says_so (Air eui) join d k = asked_down m 0 join d k
  says_so (Near agent) join d k = k
  says_so (Mesh origin) join d k = ordered m origin now join d k

  opened : (way : Way) (eui : Eui) → Keeps (coordinator_rules.open_session own m way eui now)
  opened way eui =
      if_so _ _ (by_option in_memory m _ (oldest m) _
      (λ value. if_so _ _ (done_by _ coordinator_heard.Challenged (says_so way _ _ (beside_so m _ _ (λ n. refl) (begun_memory m))))) (refuses_so _))

  asks : (way : Way) (eui : Eui) → Keeps (coordinator_rules.join_without_packet own m way eui now)
  asks way eui =
      by_choice in_memory m _ _ _ (opened way eui) (if_so _ _ (done_by _ coordinator_heard.Declined (says_so way _ _ (begun_memory m))))

  second : (s : CoordinatorSession) (e : BookEntry) (packet : List ℕ) → Keeps (coordinator_rules.take_second own m s e packet now)
  second s e packet =
      if_so _ _ (by_option in_memory m _ (coordinator_rules.grant_for m s.server.eui) _
      (λ granted. if_so _ _ (done_by _ (coordinator_heard.Keyed _ _)
      (says_so s.way _ _ (tagged m _ _ _ (booked m _ _ (beside_so m _ _ (λ n. refl) (begun_memory m))))))) (refuses_so _))

  fourth : (s : CoordinatorSession) (e : BookEntry) (packet : List ℕ) (rand_p : RandomOctets)
      → Keeps (coordinator_rules.take_fourth own m s e packet rand_p now)
  fourth s e packet rand_p =
      if_so _ _ (if_so _ _ (done_by _ (coordinator_heard.Done _ _)
      (says_so s.way _ _ (tagged m _ _ _ (beside_so m _ _ (λ n. refl) (begun_memory m))))))

  packets : (e : BookEntry) (packet : List ℕ) (s : CoordinatorSession) → Keeps (coordinator_rules.take_packet own m e packet now s)
  packets e packet s = by_option in_memory m _ s.server.rand_p _ (λ rand_p. fourth s e packet rand_p) (second s e packet)

  answers : (eui : Eui) (packet : List ℕ) → Keeps (coordinator_rules.join_with_packet own m eui packet now)
  answers eui packet =
      by_option in_memory m _ (coordinator_rules.allowed_entry m eui) _
      (λ e. by_option in_memory m _ (coordinator_rules.session_of m eui) _ (λ s. packets e packet s) (refuses_so _)) (refuses_so _)

  hears : (way : Way) (eui : Eui) (b : JoinBody) → Keeps (coordinator_rules.hear_join own m way eui b now)
  hears way eui (body.Join []) = asks way eui
  hears way eui (body.Join (y ∷ packet)) = answers eui (y ∷ packet)
  hears way eui (body.Challenge eap) = refuses_so _
  hears way eui (body.Accept identifier) = refuses_so _
  hears way eui body.Decline = refuses_so _
  hears way eui body.Kick = refuses_so _
  hears way eui (body.Activate index) = refuses_so _

  pub coordinators_keep : (way : Way) (o : Option JoinMessage) → Keeps (coordinator_rules.hear_join_in own m way o now)
  coordinators_keep way None = refuses_so _
  coordinators_keep way (Some join) = by_choice in_memory m _ _ _ (hears way join.eui join.body) (refuses_so _)
