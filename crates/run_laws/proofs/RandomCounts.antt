-- How often the coordinator holds a random value: among those that wait for a session, and among the RAND_S of its sessions. No rule makes it more often, and
-- a joining that is done takes one of them with it.
use Rattle.std.proofs.Common.{◌≡◌, ℕ, zero, suc, ◌+◌, ◌≤◌, Bool, true, false, not, List, [], ◌∷◌, ◌++◌, length, Option, Some, None}
use Rattle.std.proofs.Common.{Result, Ok, refl, sym, ap, ◌∙◌, arith}
use Rattle.std.specs.Prelude.{◌&&◌, ◌==◌, cond, drop, if◌then◌else◌, is_some, nat_lt, position, set, slice_get}
use Rattle.std.specs.List.{filter}
use Rattle.std.specs.Option.{option_and_then, option_map_or}
use Rattle.std.proofs.lemmas.Bool.{eq-eqb}
use Rattle.std.proofs.lemmas.Option.{same_Some}
use Rattle.std.proofs.lemmas.Slice.Eq.{bytes_eq-Decides}
use Rattle.plc_base.specs.Grant.{Granted}
use Rattle.plc_base.specs.declared.address.Eui.{Eui}
use Rattle.plc_base.specs.declared.key.Key.{Key}
use Rattle.plc_base.specs.declared.key.RandomOctets.{RandomOctets}
use Rattle.plc_base.specs.declared.tags.PairTag.{PairTag}
use Rattle.eap_psk.specs.Sessions.{rand_p_in}
use Rattle.eap_psk.specs.declared.server.Server.{Server}
use Rattle.group_keys.specs.KeyBook as book
use Rattle.group_keys.specs.KeyRing as ring
use Rattle.group_keys.specs.declared.key_book.BookEntry.{BookEntry}
use Rattle.joining_messages.specs.Reader.{join_in}
use Rattle.joining_messages.specs.declared.message.JoinBody.{JoinBody}
use Rattle.joining_messages.specs.declared.message.JoinBody.TheVariants as body
use Rattle.joining_messages.specs.declared.message.JoinMessage.{JoinMessage}
use Rattle.line_flights.specs.Flights.{same_rand}
use Rattle.node_rules.specs.Accepted.{Accepted}
use Rattle.node_rules.specs.Calls as calls
use Rattle.node_rules.specs.Coordinators as rules
use Rattle.node_rules.specs.Coordinators.{CoordinatorIdentity, Hearing, allowed_entry, drop_it, grant_for, is_of, opens, says, session_of, with_book_entry}
use Rattle.node_rules.specs.Coordinators.{with_session}
use Rattle.node_rules.specs.Coordinators.{without_session}
use Rattle.node_rules.specs.Drafts.{Draft, Ends, alone, checked, choose, counters_left, empty_draft, refused, sealed, sealing}
use Rattle.node_rules.specs.HearingRules as station_rules
use Rattle.node_rules.specs.HearingRules.{dropped}
use Rattle.node_rules.specs.JoiningPackets.{command_of, message, server_agrees, server_for}
use Rattle.node_rules.specs.Memory.{CoordinatorSession, Memory, StationMemory, address_of, next_hop}
use Rattle.node_rules.specs.MemoryDrafts.{Unread, goes_down, in_memory, is_commanded, oldest, on_station, unread, with_memory_by, with_pair_tags, with_station}
use Rattle.node_rules.specs.MemoryDrafts.{without_oldest}
use Rattle.node_rules.specs.Plans.{Plan, resting}
use Rattle.node_rules.specs.declared.heard.CoordinatorHeard.{CoordinatorHeard}
use Rattle.node_rules.specs.declared.heard.CoordinatorHeard.TheVariants as heard
use Rattle.node_rules.specs.declared.heard.Heard.{Heard}
use Rattle.node_rules.specs.declared.heard.Way.{Way}
use Rattle.node_rules.specs.declared.heard.Way.TheVariants.{Air, Mesh, Near}
use Rattle.node_rules.specs.declared.refusal.CoordinatorRefusal.{CoordinatorRefusal}
use Rattle.node_rules.specs.declared.refusal.CoordinatorRefusal.TheVariants as refusal
use Rattle.node_rules.specs.declared.refusal.Dropped.{Dropped}
use Rattle.node_rules.specs.declared.refusal.Dropped.TheVariants as drops
use Rattle.node_rules.proofs.MemoryDraftShapes.{whole}
use Rattle.line_rules.specs.Answers.{CompletedJoining, coordinator_reception}
use Rattle.line_laws.proofs.HearingForms.{Handed, MadeOf, hear_is}
use Rattle.line_laws.proofs.IssueCoordinator.{done_in}
use Rattle.line_laws.proofs.Made.{Given, RingWord}
use Rattle.line_laws.proofs.Planned.{Ended, Keeps, Planned, Refuses, checked_planned, choose_planned, option_planned, sealed_planned}
use Rattle.line_laws.proofs.ReceivedKeys.{keyed_same}
use Rattle.line_laws.proofs.SizeFold.{session_number}

-- # How often a value is among some

abbrev pub once : RandomOctets → RandomOctets → ℕ
once v x = if same_rand v x then 1 else 0

abbrev pub times : {A : Type 0} → (A → RandomOctets) → RandomOctets → List A → ℕ
times value v [] = 0
times value v (x ∷ xs) = once v (value x) + times value v xs

pub once_self : (v : RandomOctets) → once v v ≡ 1
once_self v = by_test (same_rand v v) ((bytes_eq-Decides v.0 v.0).1 refl)
  where
    by_test : (b : Bool) → b ≡ true → ◌≡◌ {A = ℕ} (if b then 1 else 0) 1
    by_test true e = refl
    by_test false e = absurd (cc (e))

module _ {A : Type 0} (value : A → RandomOctets) (v : RandomOctets) where
  pub times_append : (xs ys : List A) → times value v (xs ++ ys) ≡ times value v xs + times value v ys
  times_append [] ys = omega arith
  times_append (x ∷ xs) ys = let rest = times_append xs ys in omega arith

  -- another one in a place
  set_more : (xs : List A) (place : ℕ) (x : A) → times value v (set xs place x) ≤ times value v xs + once v (value x)
  set_more [] place x = omega arith
  set_more (y ∷ xs) zero x = omega arith
  set_more (y ∷ xs) (suc place) x = let rest = set_more xs place x in omega arith

  -- one with the same value
  set_same : (xs : List A) (place : ℕ) (x y : A) → slice_get xs place ≡ Some x → value y ≡ value x → times value v (set xs place y) ≡ times value v xs
  set_same [] place x y there same = refl
  set_same (z ∷ xs) zero x y there same = ap (λ (r : RandomOctets). once v r + times value v xs) (same ∙ ap value (sym (same_Some z x there)))
  set_same (z ∷ xs) (suc place) x y there same = ap (λ (n : ℕ). once v (value z) + n) (set_same xs place x y there same)

  pub filter_less : (keep : A → Bool) (xs : List A) → times value v (filter keep xs) ≤ times value v xs
  filter_less keep [] = omega arith
  filter_less keep (x ∷ xs) = by_test (keep x) (filter_less keep xs)
    where
      by_test : (b : Bool) → times value v (filter keep xs) ≤ times value v xs
          → times value v (cond b (x ∷ filter keep xs) (filter keep xs)) ≤ once v (value x) + times value v xs
      by_test true rest = omega arith
      by_test false rest = omega arith

  -- without one that is not kept
  filter_drops : (keep : A → Bool) (xs : List A) (place : ℕ) (x : A) → slice_get xs place ≡ Some x → keep x ≡ false
      → once v (value x) + times value v (filter keep xs) ≤ times value v xs
  filter_drops keep [] place x there out = absurd (cc (there))
  filter_drops keep (y ∷ xs) zero x there out =
      by_test (keep y) (ap keep (same_Some y x there) ∙ out) (filter_less keep xs) (ap (λ (z : A). once v (value z)) (same_Some y x there))
    where
      by_test : (b : Bool) → b ≡ false → times value v (filter keep xs) ≤ times value v xs → once v (value y) ≡ once v (value x)
          → once v (value x) + times value v (cond b (y ∷ filter keep xs) (filter keep xs)) ≤ once v (value y) + times value v xs
      by_test true e rest same = absurd (cc (e))
      by_test false e rest same = omega arith
  filter_drops keep (y ∷ xs) (suc place) x there out = by_test (keep y) (filter_drops keep xs place x there out)
    where
      by_test : (b : Bool) → once v (value x) + times value v (filter keep xs) ≤ times value v xs
          → once v (value x) + times value v (cond b (y ∷ filter keep xs) (filter keep xs)) ≤ once v (value y) + times value v xs
      by_test true rest = omega arith
      by_test false rest = omega arith

-- # What the coordinator holds

abbrev pub rand_s_of : CoordinatorSession → RandomOctets
rand_s_of s = s.server.rand_s

abbrev pub as_it_is : RandomOctets → RandomOctets
as_it_is r = r

unfoldable pub weigh : RandomOctets → Memory → ℕ
weigh v m = times as_it_is v m.randoms + times rand_s_of v m.sessions

-- the RAND_S of a joining that is done
abbrev pub done_weight : RandomOctets → Option CompletedJoining → ℕ
done_weight v None = 0
done_weight v (Some c) = once v c.agreed.rand_s

module _ (v : RandomOctets) where
  -- what is not of randoms and sessions does not matter
  pub weigh_same : (m n : Memory) → n.randoms ≡ m.randoms → n.sessions ≡ m.sessions → weigh v n ≡ weigh v m
  unfolding weigh
  weigh_same m n randoms sessions i = times as_it_is v (randoms i) + times rand_s_of v (sessions i)

  -- the oldest value goes into a session
  open_weighs : (m : Memory) (s : CoordinatorSession) → oldest m ≡ Some s.server.rand_s → weigh v (with_session s (without_oldest m)) ≤ weigh v m
  unfolding weigh
  open_weighs m s old = by_place (position (is_of s.server.eui) m.sessions)
    where
      fewer : (rs : List RandomOctets) → slice_get rs 0 ≡ Some s.server.rand_s
          → times as_it_is v (drop 1 rs) + once v s.server.rand_s ≡ times as_it_is v rs
      fewer [] e = absurd (cc (e))
      fewer (r ∷ rs) e = let same : once v r ≡ once v s.server.rand_s = ap (once v) (same_Some r s.server.rand_s e) in omega arith

      by_place : (o : Option ℕ)
          → times as_it_is v (drop 1 m.randoms) + times rand_s_of v (option_map_or (λ place. set m.sessions place s) o (m.sessions ++ s ∷ []))
          ≤ times as_it_is v m.randoms + times rand_s_of v m.sessions
      by_place None =
          let left = fewer m.randoms old in
          let more = times_append rand_s_of v m.sessions (s ∷ []) in
          omega arith
      by_place (Some place) =
          let left = fewer m.randoms old in
          let more = set_more rand_s_of v m.sessions place s in
          omega arith

  -- the place of the session of a meter
  record Place (m : Memory) (eui : Eui) (s : CoordinatorSession) : Type 0 where
    place : ℕ
    found : position (is_of eui) m.sessions ≡ Some place
    there : slice_get m.sessions place ≡ Some s

  place_of : (m : Memory) (eui : Eui) (s : CoordinatorSession) → session_of m eui ≡ Some s → Place m eui s
  place_of m eui s = by_place (position (is_of eui) m.sessions) refl
    where
      by_place : (o : Option ℕ) → position (is_of eui) m.sessions ≡ o → option_and_then (slice_get m.sessions) o ≡ Some s → Place m eui s
      by_place None e h = absurd (cc (h))
      by_place (Some place) e h = record { place = place; found = e; there = h }

  -- a session goes on
  answer_weighs : (m : Memory) (eui : Eui) (s t : CoordinatorSession) → session_of m eui ≡ Some s → t.server.eui ≡ s.server.eui
      → t.server.rand_s ≡ s.server.rand_s → weigh v (with_session t m) ≡ weigh v m
  unfolding weigh
  answer_weighs m eui s t there named same =
      let p = place_of m eui s there in
      let number : book.eui_number t.server.eui ≡ book.eui_number eui = ap book.eui_number named ∙ session_number m eui s there in
      let at : position (is_of t.server.eui) m.sessions ≡ Some p.place =
      ap (λ (n : ℕ). position (λ (z : CoordinatorSession). book.eui_number z.server.eui == n) m.sessions) number ∙ p.found in
      ap (λ (o : Option ℕ). times as_it_is v m.randoms + times rand_s_of v (option_map_or (λ place. set m.sessions place t) o (m.sessions ++ t ∷ []))) at
      ∙ ap (λ (n : ℕ). times as_it_is v m.randoms + n) (set_same rand_s_of v m.sessions p.place s t p.there same)

  -- a session ends
  close_weighs : (m : Memory) (eui : Eui) (s : CoordinatorSession) → session_of m eui ≡ Some s
      → once v s.server.rand_s + weigh v (without_session s.server.eui m) ≤ weigh v m
  unfolding weigh
  close_weighs m eui s there =
      let p = place_of m eui s there in
      let own : not (is_of s.server.eui s) ≡ false = ap not (eq-eqb (book.eui_number s.server.eui) (book.eui_number s.server.eui) refl) in
      let less = filter_drops rand_s_of v (λ z. not (is_of s.server.eui z)) m.sessions p.place s p.there own in
      omega arith

  ends_weigh : (m : Memory) (eui : Eui) → weigh v (without_session eui m) ≤ weigh v m
  unfolding weigh
  ends_weigh m eui = let less = filter_less rand_s_of v (λ z. not (is_of eui z)) m.sessions in omega arith

-- # Drafts

-- What a draft leaves, with a joining that is done in it.
pub record Weighs (v : RandomOctets) (m : Memory) (c : Option CompletedJoining) (d : Draft Memory) : Type 0 where
  pub less : done_weight v c + weigh v d.memory ≤ weigh v m

module _ (v : RandomOctets) (m : Memory) where
  commanded : (c : Option CompletedJoining) (to : ℕ) (join : JoinMessage) (now : ℕ) (d : Draft Memory) → Weighs v m c d
      → Weighs v m c (is_commanded to join now d)
  unfolding is_commanded on_station weigh
  commanded c to join now d h = by_address (address_of d.memory.station) h
    where
      by_address : (o : Option ℕ) → Weighs v m c d
          → Weighs v m c (option_map_or (λ own. on_station (calls.commands own to (command_of join) now) d) o d)
      by_address None h = h
      by_address (Some own) h = record { less = h.less }

  said : (c : Option CompletedJoining) (way : Way) (join : JoinMessage) (now : ℕ) (d : Draft Memory) → Weighs v m c d → Weighs v m c (says way join now d)
  unfolding goes_down
  said c (Air eui) join now d h = record { less = h.less }
  said c (Near agent) join now d h = h
  said c (Mesh origin) join now d h = commanded c origin join now d h

  begun : Weighs v m None (empty_draft m)
  unfolding empty_draft
  begun = record { less = omega arith }

  station_weighs : (d : Draft StationMemory) → Weighs v m None (whole m d)
  unfolding weigh
  station_weighs d = record { less = omega arith }

  opened : (s : CoordinatorSession) → oldest m ≡ Some s.server.rand_s → Weighs v m None (opens s (empty_draft m))
  unfolding empty_draft with_memory_by
  opened s old = let less = open_weighs v m s old in record { less = omega arith }

  entered : (c : Option CompletedJoining) (e : BookEntry) (d : Draft Memory) → Weighs v m c d → Weighs v m c (with_book_entry e d)
  unfolding with_book_entry weigh
  entered c e d h = record { less = h.less }

  tagged : (c : Option CompletedJoining) (made found : List PairTag) (d : Draft Memory) → Weighs v m c d → Weighs v m c (with_pair_tags made found d)
  unfolding with_pair_tags
  tagged c made found d h = record { less = h.less }

  answered : (eui : Eui) (s t : CoordinatorSession) → session_of m eui ≡ Some s → t.server.eui ≡ s.server.eui → t.server.rand_s ≡ s.server.rand_s
      → Weighs v m None (with_memory_by (with_session t) (empty_draft m))
  unfolding empty_draft with_memory_by
  answered eui s t there named same = let equal = answer_weighs v m eui s t there named same in record { less = omega arith }

  closed : (eui : Eui) (s : CoordinatorSession) (c : CompletedJoining) → session_of m eui ≡ Some s → c.agreed.rand_s ≡ s.server.rand_s
      → Weighs v m (Some c) (with_memory_by (without_session s.server.eui) (empty_draft m))
  unfolding empty_draft with_memory_by
  closed eui s c there same =
      let less = close_weighs v m eui s there in let equal : once v c.agreed.rand_s ≡ once v s.server.rand_s = ap (once v) same in record { less = omega arith }

  rung : (word : Draft StationMemory → Draft StationMemory) → Weighs v m None (on_station word (empty_draft m))
  unfolding empty_draft on_station weigh
  rung word = record { less = omega arith }

-- # What it hears

abbrev NoWord : RingWord → Type 0
NoWord w = ⊥

module _ (v : RandomOctets) (own : CoordinatorIdentity) (m : Memory) (g : Given) where
  abbrev WeighsBy : Draft Memory → CoordinatorHeard → Type 0
  WeighsBy d a = Weighs v m (done_in a) d

  abbrev KeepsBy : Memory → CoordinatorHeard → Type 0
  KeepsBy n a = (done_in a ≡ None) × (weigh v n ≡ weigh v m)

  abbrev Is : Hearing → Type 0
  Is p = Planned in_memory dropped m KeepsBy WeighsBy p

  declines_is : (way : Way) (join : JoinMessage) → Is (rules.declines m way join g.now)
  declines_is way join = checked_planned (λ lacks. sealed_planned _ _ (said v m None way join g.now _ (begun v m)))

  challenges_is : (way : Way) (server : Server) → oldest m ≡ Some server.rand_s → Is (rules.challenges m way server g.now)
  challenges_is way server old = checked_planned (λ lacks. sealed_planned _ _
      (said v m None way _ g.now _ (opened v m (record { server = server; way = way; since = g.now }) old)))

  open_is : (way : Way) (eui : Eui) → Is (rules.open_session own m way eui g.now)
  open_is way eui = checked_planned (λ e.
      option_planned (λ value. rules.challenges m way (server_for eui own.eui value) g.now) (oldest m) (drop_it m drops.NoRandom)
      (λ value here. challenges_is way (server_for eui own.eui value) here) (λ none. Refuses _))

  asked_is : (way : Way) (eui : Eui) → Is (rules.join_without_packet own m way eui g.now)
  asked_is way eui = choose_planned (λ allowed. open_is way eui) (λ other. declines_is way _)

  keys_is : (eui : Eui) (s : CoordinatorSession) (e : BookEntry) (rand_p : RandomOctets) (granted : Granted) → session_of m eui ≡ Some s
      → Is (rules.keys_for own m s e rand_p granted g.now)
  keys_is eui s e rand_p granted there = checked_planned (λ lacks. sealed_planned _ _
      (said v m None s.way _ g.now _ (tagged v m None _ _ _ (entered v m None _ _
      (answered v m eui s (record s { server = record s.server { rand_p = Some rand_p } }) there refl refl)))))

  second_is : (eui : Eui) (s : CoordinatorSession) (e : BookEntry) (packet : List ℕ) → session_of m eui ≡ Some s → Is (rules.take_second own m s e packet g.now)
  second_is eui s e packet there = checked_planned (λ right.
      option_planned (λ granted. rules.keys_for own m s e (rand_p_in packet) granted g.now) (grant_for m s.server.eui) (drop_it m drops.NotAllowed)
      (λ granted is. keys_is eui s e _ granted there) (λ none. Refuses _))

  accepts_is : (eui : Eui) (s : CoordinatorSession) (rand_p : RandomOctets) → session_of m eui ≡ Some s → Is (rules.accepts m s rand_p g.now)
  accepts_is eui s rand_p there =
      let c : CompletedJoining = record { eui = s.server.eui; agreed = server_agrees s.server rand_p } in
      checked_planned (λ lacks. sealed_planned _ _
      (said v m (Some c) s.way _ g.now _ (tagged v m (Some c) _ _ _ (closed v m eui s c there refl))))

  packet_is : (eui : Eui) (e : BookEntry) (packet : List ℕ) (s : CoordinatorSession) → session_of m eui ≡ Some s
      → Is (rules.take_packet own m e packet g.now s)
  packet_is eui e packet s there = option_planned (λ rand_p. rules.take_fourth own m s e packet rand_p g.now) s.server.rand_p
      (rules.take_second own m s e packet g.now) (λ rand_p here. checked_planned (λ right. accepts_is eui s rand_p there))
      (λ none. second_is eui s e packet there)

  answered_is : (eui : Eui) (packet : List ℕ) → Is (rules.join_with_packet own m eui packet g.now)
  answered_is eui packet = option_planned (λ e. option_map_or (rules.take_packet own m e packet g.now) (session_of m eui) (drop_it m drops.NoSession))
      (allowed_entry m eui) (drop_it m drops.NotAllowed)
      (λ e allowed. option_planned (rules.take_packet own m e packet g.now) (session_of m eui) (drop_it m drops.NoSession)
      (λ s there. packet_is eui e packet s there) (λ none. Refuses _)) (λ none. Refuses _)

  join_is : (way : Way) (eui : Eui) (b : JoinBody) → Is (rules.hear_join own m way eui b g.now)
  join_is way eui (body.Join []) = asked_is way eui
  join_is way eui (body.Join (x ∷ packet)) = answered_is eui (x ∷ packet)
  join_is way eui _ = Refuses _

  join_in_is : (way : Way) (join : Option JoinMessage) → Is (rules.hear_join_in own m way join g.now)
  join_in_is way None = Refuses _
  join_in_is way (Some join) = choose_planned (λ may. join_is way join.eui join.body) (λ other. Refuses _)

  heard_by_is : (p : Plan StationMemory (Result Heard Dropped)) (u : Option Unread)
      → Planned alone dropped m.station (Handed g m.station) (MadeOf NoWord g m.station) p → Is (rules.heard_by own m g.now p u)
  unfolding resting
  heard_by_is p None (Refuses reason) = Refuses reason
  heard_by_is p None (Keeps n answer k) = Keeps (with_station n m) (heard.Station answer) (refl, weigh_same v m (with_station n m) refl refl)
  heard_by_is p None (Ended d answer done left) = Ended (whole m d) (heard.Station answer) (station_weighs v m d) left
  heard_by_is p (Some u) s = join_in_is u.way (join_in u.body)

  pub hears_weigh : (got : Accepted) → g.got ≡ Some got → Is (rules.hear_coordinator own m got g.cost g.note g.now)
  hears_weigh got is = let p = station_rules.hear m.station got g.cost g.note g.now in heard_by_is p (unread p.answer) (hear_is NoWord g m.station got is)

-- what such a plan leaves, with the joining that it has done
pub plan_weighs : (v : RandomOctets) (m : Memory) (p : Plan Memory (Result CoordinatorHeard Dropped))
    → Planned in_memory dropped m (λ n (a : CoordinatorHeard). (done_in a ≡ None) × (weigh v n ≡ weigh v m)) (λ d a. Weighs v m (done_in a) d) p
    → done_weight v (coordinator_reception p.answer).done + weigh v p.memory ≤ weigh v m
unfolding resting weigh
plan_weighs v m p (Refuses reason) = omega arith
plan_weighs v m p (Keeps n answer k) =
    let none : done_weight v (coordinator_reception (Ok answer)).done ≡ 0 = ap (done_weight v) ((keyed_same answer).1 ∙ k.0) in
    let same = k.1 in
    omega arith
plan_weighs v m p (Ended d answer h left) =
    let same : done_weight v (coordinator_reception (Ok answer)).done ≡ done_weight v (done_in answer) = ap (done_weight v) (keyed_same answer).1 in
    let less = h.less in
    omega arith

-- # Orders

-- What a plan leaves is no more than there was.
pub record Lighter (v : RandomOctets) (m : Memory) {A : Type 0} (p : Plan Memory A) : Type 0 where
  pub less : weigh v p.memory ≤ weigh v m

module _ (v : RandomOctets) (m : Memory) where
  lighter_draft : {H F : Type 0} (ends : Ends F) (d : Draft Memory) (answer : H) → Weighs v m None d → Lighter v m (sealing in_memory ends d answer)
  unfolding weigh
  lighter_draft ends d answer h = let less = h.less in record { less = omega arith }

  refuses_lighter : {F : Type 0} (H : Type 0) (ends : Ends F) (reason : F) → Lighter v m (refused {H = H} ends m reason)
  unfolding resting
  refuses_lighter H ends reason = record { less = omega arith }

  sealed_lighter : {H F : Type 0} (ends : Ends F) (d : Draft Memory) (answer : H) → Weighs v m None d → Lighter v m (sealed in_memory ends m d answer)
  unfolding sealed
  sealed_lighter {H = H} ends d answer h = by_test (nat_lt (counters_left m.station) (length d.units))
    where
      by_test : (b : Bool) → Lighter v m (if b then refused ends m ends.spent else sealing in_memory ends d answer)
      by_test true = refuses_lighter H ends ends.spent
      by_test false = lighter_draft ends d answer h

  pub choose_lighter : {A : Type 0} (b : Bool) (p q : Plan Memory A) → Lighter v m p → Lighter v m q → Lighter v m (choose b p q)
  unfolding choose
  choose_lighter true p q e f = e
  choose_lighter false p q e f = f

  checked_lighter : {H F : Type 0} (ends : Ends F) (fault : Option F) (p : Plan Memory (Result H F)) → Lighter v m p → Lighter v m (checked ends m fault p)
  unfolding checked
  checked_lighter ends None p e = e
  checked_lighter {H = H} ends (Some reason) p e = refuses_lighter H ends reason

  option_lighter : {A X : Type 0} (f : X → Plan Memory A) (o : Option X) (q : Plan Memory A) → ((x : X) → o ≡ Some x → Lighter v m (f x)) → Lighter v m q
      → Lighter v m (option_map_or f o q)
  option_lighter f None q e g = g
  option_lighter f (Some x) q e g = e x refl

  refused_order : (H : Type 0) (reason : CoordinatorRefusal) → Lighter v m (refused {H = H} rules.orders m reason)
  refused_order H reason = refuses_lighter H rules.orders reason

  changed_weighs : (e : BookEntry) → Weighs v m None (rules.changed m e)
  unfolding empty_draft with_book_entry with_memory_by weigh
  changed_weighs e = by_change (rules.changes m e)
    where
      by_change : (b : Bool)
          → Weighs v m None (if b then with_memory_by (without_session e.eui) (with_book_entry e (empty_draft m)) else empty_draft m)
      by_change true = let less = ends_weigh v m e.eui in record { less = omega arith }
      by_change false = record { less = omega arith }

  pub allow_lighter : (eui : Eui) (psk : Key) → Lighter v m (rules.allow m eui psk)
  allow_lighter eui psk = choose_lighter (book.has_room m.book eui) _ _
      (lighter_draft rules.orders _ _ (changed_weighs (book.allowed_entry eui psk (book.entry_for m.book eui)))) (refused_order _ refusal.MetersFull)

  pub depot_lighter : (eui : Eui) (psk : Key) → Lighter v m (rules.depot m eui psk)
  depot_lighter eui psk =
      let d = rules.changed m (book.allowed_entry eui psk (book.entry_for m.book eui)) in
      choose_lighter (book.has_room m.book eui) _ _
      (option_lighter (λ granted. option_map_or (λ e. sealing in_memory rules.orders (with_book_entry (book.issued_entry eui granted e) d) granted)
      (book.allowed_one d.memory.book eui) (refused rules.orders m refusal.MetersFull)) (grant_for d.memory eui) (refused rules.orders m refusal.MetersFull)
      (λ granted is. option_lighter (λ e. sealing in_memory rules.orders (with_book_entry (book.issued_entry eui granted e) d) granted)
      (book.allowed_one d.memory.book eui) (refused rules.orders m refusal.MetersFull)
      (λ e here. lighter_draft rules.orders _ _ (entered v m None (book.issued_entry eui granted e) d
      (changed_weighs (book.allowed_entry eui psk (book.entry_for m.book eui))))) (refused_order _ refusal.MetersFull)) (refused_order _ refusal.MetersFull))
      (refused_order _ refusal.MetersFull)

  pub rekey_lighter : (index : ℕ) (key : Key) → Lighter v m (rules.rekey m index key)
  rekey_lighter index key = choose_lighter (option_map_or (λ (g : Granted). g.active == index) m.station.ring false) _ _
      (refused_order _ refusal.IndexActive) (lighter_draft rules.orders _ _ (rung v m (calls.with_key_at m.station index key)))

  pub turn_lighter : (index : ℕ) → Lighter v m (rules.activate_self m index)
  turn_lighter index = choose_lighter (calls.has_key m.station index) _ _
      (lighter_draft rules.orders _ _ (rung v m (calls.with_active m.station index))) (refused_order _ refusal.NotHeld)

  pub challenge_lighter : (own eui : Eui) (now : ℕ) → Lighter v m (rules.challenge own m eui now)
  challenge_lighter own eui now = option_lighter (rules.challenge_at own m eui now) (rules.allowed_address m eui) _
      (λ to here. checked_lighter rules.orders _ _
      (option_lighter (λ value. rules.challenge_by own m to now (server_for eui own value)) (oldest m) _
      (λ value old. checked_lighter rules.orders _ _ (sealed_lighter rules.orders _ _
      (commanded v m None to _ now _ (opened v m (record { server = server_for eui own value; way = Mesh to; since = now }) old))))
      (refused_order _ refusal.NoRandom))) (refused_order _ refusal.NotAllowed)

  pub activate_lighter : (eui : Eui) (index now : ℕ) → Lighter v m (rules.activate m eui index now)
  activate_lighter eui index now = option_lighter (λ e. option_map_or (rules.activate_by m e index now) (book.address_of m.book eui)
      (refused rules.orders m refusal.NotAllowed)) (allowed_entry m eui) _
      (λ e here. option_lighter (rules.activate_by m e index now) (book.address_of m.book eui) _
      (λ to at. choose_lighter (rules.was_issued m e index) _ _
      (checked_lighter rules.orders _ _ (sealed_lighter rules.orders _ _ (commanded v m None to _ now _ (begun v m))))
      (refused_order _ refusal.NotIssued)) (refused_order _ refusal.NotAllowed)) (refused_order _ refusal.NotAllowed)

  abbrev kicked : BookEntry → Draft Memory
  kicked e = with_memory_by (without_session e.eui) (with_book_entry (book.kicked_entry e.eui e) (empty_draft m))

  kicked_weighs : (e : BookEntry) → Weighs v m None (kicked e)
  unfolding empty_draft with_book_entry with_memory_by weigh
  kicked_weighs e = let less = ends_weigh v m e.eui in record { less = omega arith }

  pub kick_lighter : (eui : Eui) → Lighter v m (rules.kick m eui)
  kick_lighter eui = option_lighter (λ e. option_map_or (rules.kick_by m e) (book.address_of m.book eui) (refused rules.orders m refusal.NotAllowed))
      (allowed_entry m eui) _
      (λ e here. option_lighter (rules.kick_by m e) (book.address_of m.book eui) _
      (λ to at. lighter_draft rules.orders _ _ (by_route e to (is_some (next_hop m.station to) && nat_lt 0 (counters_left m.station))))
      (refused_order _ refusal.NotAllowed)) (refused_order _ refusal.NotAllowed)
    where
      by_route : (e : BookEntry) (to : ℕ) (b : Bool) → Weighs v m None (if b then is_commanded to (message e.eui body.Kick) 0 (kicked e) else kicked e)
      by_route e to true = commanded v m None to (message e.eui body.Kick) 0 (kicked e) (kicked_weighs e)
      by_route e to false = kicked_weighs e
