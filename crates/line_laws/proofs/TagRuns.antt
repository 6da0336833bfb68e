-- The tags of one node's datagrams that are cut into pieces rise over a run.
use Rattle.std.proofs.Common.{◌≡◌, ◌≢◌, ◌⊎◌, inl, inr, ⊎_elim, ℕ, zero, suc, ◌+◌, ◌-◌, ◌≤◌, ◌<◌, Bool, true, false, List, [], ◌∷◌, ◌++◌, length, map, get_or}
use Rattle.std.proofs.Common.{Option, Some, None, Result, Ok, Err, refl, sym, ap, ◌∙◌, subst, append-nil, arith}
use Rattle.std.specs.Prelude.{⊤, All, if◌then◌else◌, is_some, nat_le, nat_lt, slice_get, slice_set}
use Rattle.std.specs.FinMap.{get, insert}
use Rattle.std.specs.Option.{option_map_or}
use Rattle.std.proofs.lemmas.Bool.{cases_eq, ltb-true}
use Rattle.std.proofs.lemmas.List.{length-set, length-map, length-append}
use Rattle.std.proofs.lemmas.List.Elements.{All-nil, All-push, All-weaker}
use Rattle.std.proofs.lemmas.List.Quantifiers.{all_pairs_push}
use Rattle.std.proofs.lemmas.Option.{same_Some}
use Rattle.plc_base.specs.declared.address.Eui.{Eui}
use Rattle.plc_base.specs.declared.keeper.BadStore.{BadStore}
use Rattle.plc_base.specs.declared.key.Key.{Key}
use Rattle.plc_base.specs.Grant.{Granted}
use Rattle.plc_base.specs.Keeper.{Records, Write}
use Rattle.store_tables.proofs.SlotTables.{slice_get-set, slice_get-set_other}
use Rattle.store_tables.proofs.StoreLemmas.{get-insert_other}
use Rattle.node_rules.specs.declared.refusal.RingRefusal.TheVariants as ring_faults
use Rattle.line_events.specs.declared.event.Answer.{Answer}
use Rattle.line_events.specs.declared.event.Answer.TheVariants as answers
use Rattle.line_events.specs.declared.event.Event.{Event}
use Rattle.node_rules.specs.Accepted.{Accepted}
use Rattle.node_rules.specs.declared.heard.SentHow.{SentHow}
use Rattle.node_rules.specs.declared.refusal.CoordinatorRefusal.{CoordinatorRefusal}
use Rattle.node_rules.specs.declared.refusal.CoordinatorRefusal.TheVariants as orders
use Rattle.node_rules.specs.declared.refusal.Dropped.TheVariants as drops
use Rattle.node_rules.specs.declared.refusal.FrameRefusal.{FrameRefusal}
use Rattle.node_rules.specs.declared.refusal.FrameRefusal.TheVariants as frames
use Rattle.node_rules.specs.declared.refusal.SendRefusal.{SendRefusal}
use Rattle.node_rules.specs.declared.refusal.SendRefusal.TheVariants as sends
use Rattle.node_rules.specs.Acceptance.{accept}
use Rattle.node_rules.specs.Calls as calls
use Rattle.node_rules.specs.Ciphers.{Ciphers}
use Rattle.node_rules.specs.Coordinators as coordinator_rules
use Rattle.node_rules.specs.Drafts.{Draft, alone, empty_draft, checked, choose, sealed, sealing, refused, sets_out, seeks, seeks_once, is_awaited}
use Rattle.node_rules.specs.Drafts.{counters_left, with_next_tag, with_own_number, goes, body_goes, waits, tag_after}
use Rattle.node_rules.specs.Frames.{arrived}
use Rattle.node_rules.specs.Memory.{StationMemory, Memory, Role, Coordinator, Meter, Node, Load, Datagram, address_of, next_hop}
use Rattle.node_rules.specs.Laws.{IsWhole, IsCutOff}
use Rattle.node_rules.specs.MemoryDrafts.{with_station}
use Rattle.node_rules.proofs.FailedWrites.{clean}
use Rattle.node_rules.specs.Meters as meters
use Rattle.node_rules.specs.NodeSteps.{NodeStep, acts, stays, left_by, of_station, answering, changing}
use Rattle.node_rules.specs.Plans.{Plan, carry_out, resting}
use Rattle.node_rules.specs.RestartStates.{blank_station, first_grant, remembering, tag_in}
use Rattle.line_rules.specs.Answers.{Reception, sent_word, meter_reception, coordinator_reception}
use Rattle.line_rules.specs.Forgery.{accepting}
use Rattle.line_rules.specs.Runs.{one_of}
use Rattle.line_rules.specs.Steps.{Step, set_up, running_world, world_after, made_node, blank_node, ticked, node_outcome, sending, sent_if, is_taken, tag_of}
use Rattle.line_rules.specs.Steps.{hearing_step, hearing_outcome}
use Rattle.line_rules.specs.Steps.{offered_near, identity, note_by, restarts}
use Rattle.line_rules.specs.Worlds.{World, Sending, node_at, start}
use Rattle.line_laws.specs.Owed.{KeepsRanges}
use Rattle.line_laws.specs.Tags.{TagRises}
use Rattle.line_laws.proofs.CallForms.{send_is}
use Rattle.line_laws.proofs.CustodyEvents.{word_refused, word_taken}
use Rattle.line_laws.proofs.IssueWorlds.{after_here}
use Rattle.line_laws.proofs.Made.{RingWord}
use Rattle.line_laws.proofs.Planned.{planned_failed}
use Rattle.line_laws.proofs.IssueWords.{Each}
use Rattle.line_laws.proofs.NodeCalls.{call_given, send_ok}
use Rattle.line_laws.proofs.Nodes.{NodeOk, acts_ok, node_kept}
use Rattle.line_laws.proofs.NodesOk.{blank_ok}
use Rattle.line_laws.proofs.StoreWords.{tag_reads}
use Rattle.line_laws.proofs.TagPuts.{Away, TagPut, Elsewhere, Next, carried_puts, away_tags, send_tags, random_away, join_away, leave_away, broke_away}
use Rattle.line_laws.proofs.TagPuts.{near_away, counter_put_away, number_put_away, provision_away, accept_away, meter_away, coordinator_away, allow_away}
use Rattle.line_laws.proofs.TagPuts.{depot_away, rekey_away, activate_self_away, challenge_away, activate_away, kick_away}
use Rattle.line_laws.proofs.StepKinds.{IsCall, Gives, Joins, Leaves, Sends, Breaks, Nears, Counts, Numbers, Accepts, Provisions, Depots, Allows, Rekeys, Turns}
use Rattle.line_laws.proofs.StepKinds.{Challenges, Activates, Kicks, preset_call, IsMade, OfCoordinator, OfMeter, IsStep, Fails, Makes, Rests, Shows, Acts}
use Rattle.line_laws.proofs.StepKinds.{BreaksLink, SendsFrom, AllowsMeter, Sets, SetsTwo, Provides, TurnsDown, Hears, Loses, Ticks, Restarts, Cuts}
use Rattle.line_laws.proofs.Worlds.{WorldOk, at_place, within}
pub use Rattle.line_laws.specs.Tags.{IsUnder, TagOf, TagsOk}

-- # What the records of a node give

-- the tag is the old one, or the one after it
pub data TagNow (old : ℕ) (r : Records) : Type 0 where
  Stays : tag_in (get r 4) ≡ Ok old → TagNow old r
  Rises : tag_in (get r 4) ≡ Ok (tag_after old) → TagNow old r

put_now : (old : ℕ) (r : Records) (w : Write) → TagPut old w → TagNow old r → TagNow old (insert r w.slot w.octets)
put_now old r w (Elsewhere ne) (Stays e) = Stays (ap tag_in (get-insert_other r w.slot 4 w.octets (λ k. ne (sym k))) ∙ e)
put_now old r w (Elsewhere ne) (Rises e) = Rises (ap tag_in (get-insert_other r w.slot 4 w.octets (λ k. ne (sym k))) ∙ e)
put_now old r w (Next e) h = subst (λ (x : Write). TagNow old (insert r x.slot x.octets)) (sym e) (Rises (tag_reads r (tag_after old) (omega arith)))

pub put_same : (t : ℕ) (r : Records) (w : Write) → Away w → tag_in (get r 4) ≡ Ok t → tag_in (get (insert r w.slot w.octets) 4) ≡ Ok t
put_same t r w ne e = ap tag_in (get-insert_other r w.slot 4 w.octets (λ k. ne (sym k))) ∙ e

ok_same : (r : Result ℕ BadStore) (a b : ℕ) → r ≡ Ok a → r ≡ Ok b → a ≡ b
ok_same r a b e f = cc

no_some : {A : Type 0} (a : A) → None ≡ Some a → ⊥
no_some a e = cc

-- from one node's records to another's
abbrev pub TagMoves : Node → Node → Type 0
TagMoves x y = (t : ℕ) → tag_in (get x.store.records 4) ≡ Ok t → TagNow t y.store.records

abbrev pub TagStays : Node → Node → Type 0
TagStays x y = (t : ℕ) → tag_in (get x.store.records 4) ≡ Ok t → tag_in (get y.store.records 4) ≡ Ok t

-- a node whose plan leaves the slot alone
pub acts_stays : {A : Type 0} (x : Node) (halted : A) (plan : Memory → Plan Memory A) → ((m : Memory) → Each Away (plan m).puts)
    → TagStays x (acts x halted plan).node
unfolding acts
acts_stays {A = A} x halted plan f t is = by_memory x.memory
  where
    by_memory : (o : Option Memory)
        → tag_in (get (option_map_or (λ m. left_by x (carry_out x.store.records x.store.cut (plan m))) o (stays x halted)).node.store.records 4) ≡ Ok t
    by_memory None = is
    by_memory (Some m) = carried_puts Away (λ w ne. ne) (λ r. tag_in (get r 4) ≡ Ok t) (put_same t) x.store.records x.store.cut (plan m) (f m) is

-- a node that may take a tag
acts_moves : {A : Type 0} (x : Node) (halted : A) (plan : Memory → Plan Memory A) → NodeOk x → ((m : Memory) → Each (TagPut m.station.next_tag) (plan m).puts)
    → TagMoves x (acts x halted plan).node
unfolding acts
acts_moves {A = A} x halted plan ok f t is = by_memory x.memory refl
  where
    by_memory : (o : Option Memory) → x.memory ≡ o
        → TagNow t (option_map_or (λ m. left_by x (carry_out x.store.records x.store.cut (plan m))) o (stays x halted)).node.store.records
    by_memory None e = Stays is
    by_memory (Some m) e =
        let same : m.station.next_tag ≡ t = ok_same (tag_in (get x.store.records 4)) m.station.next_tag t (node_kept x m ok e).station.tag is in
        carried_puts (TagPut t) (λ w ne. Elsewhere ne) (TagNow t) (put_now t) x.store.records x.store.cut (plan m)
        (subst (λ k. Each (TagPut k) (plan m).puts) same (f m)) (Stays is)

-- # A send that is taken

module _ (own to note : ℕ) (load : Load) (now : ℕ) where
  sets_out_tag : (d : Draft StationMemory) → (sets_out own to note load now d).memory.next_tag ≡ d.memory.next_tag
  unfolding waits body_goes seeks_once with_own_number goes
  sets_out_tag d = by_hop (next_hop d.memory to) refl
    where
      by_wait : (b : Bool) → (waits to note load now (if b then d else seeks own to d)).memory.next_tag ≡ d.memory.next_tag
      by_wait true = refl
      by_wait false = refl

      by_hop : (hop : Option ℕ) → next_hop d.memory to ≡ hop → (sets_out own to note load now d).memory.next_tag ≡ d.memory.next_tag
      by_hop None e = rw e (by_wait (is_awaited d.memory to))
      by_hop (Some hop) e = rw e refl

err_ok : {A E : Type 0} (x : E) (a : A) → Err x ≡ Ok a → ⊥
err_ok x a e = cc

sent_tag : (l : StationMemory) (to : ℕ) (datagram : List ℕ) (note now : ℕ) → 375 < length datagram → (h : SentHow)
    → (calls.send l to datagram note now).answer ≡ Ok h → (calls.send l to datagram note now).memory.next_tag ≡ tag_after l.next_tag
unfolding checked sealed resting empty_draft with_next_tag
sent_tag l to datagram note now long h = by_address (address_of l) refl
  where
    long_one : nat_le (length datagram) 375 ≡ false
    long_one = grind (arith)

    begun : (calls.tag_taken datagram (empty_draft l)).memory.next_tag ≡ tag_after l.next_tag
    begun = ap (λ (b : Bool). (if b then empty_draft l else with_next_tag (empty_draft l)).memory.next_tag) long_one

    by_room : (own : ℕ) (b : Bool) → let d : Draft StationMemory = sets_out own to note (Datagram datagram l.next_tag) now
        (calls.tag_taken datagram (empty_draft l)) in
        let p : calls.Sending = (if b then refused calls.sending_ends l calls.sending_ends.spent else sealing alone calls.sending_ends d (calls.how l to)) in
        p.answer ≡ Ok h → p.memory.next_tag ≡ tag_after l.next_tag
    by_room own true e = absurd (err_ok calls.sending_ends.spent h e)
    by_room own false e = sets_out_tag own to note (Datagram datagram l.next_tag) now (calls.tag_taken datagram (empty_draft l)) ∙ begun

    by_fault : (own : ℕ) (fault : Option SendRefusal)
        → let d : Draft StationMemory = sets_out own to note (Datagram datagram l.next_tag) now (calls.tag_taken datagram (empty_draft l)) in
        let p : calls.Sending = checked calls.sending_ends l fault (sealed alone calls.sending_ends l d (calls.how l to)) in p.answer ≡ Ok h
        → p.memory.next_tag ≡ tag_after l.next_tag
    by_fault own (Some reason) e = absurd (err_ok reason h e)
    by_fault own None e = by_room own
        (nat_lt (counters_left l) (length (sets_out own to note (Datagram datagram l.next_tag) now (calls.tag_taken datagram (empty_draft l))).units)) e

    by_address : (o : Option ℕ) → address_of l ≡ o
        → let p : calls.Sending = option_map_or (λ own. calls.send_from l own to datagram note now) o (refused calls.sending_ends l sends.NotJoined) in
        p.answer ≡ Ok h → p.memory.next_tag ≡ tag_after l.next_tag
    by_address None is e = absurd (err_ok sends.NotJoined h e)
    by_address (Some own) is e = by_fault own (calls.send_fault l to datagram) e

-- What a node did whose plan gave this answer.
record Left {A E : Type 0} (x : Node) (plan : Memory → Plan Memory (Result A E)) (h : A) (d : NodeStep (Result A E)) : Type 0 where
  memory : Memory
  there : x.memory ≡ Some memory
  is : (plan memory).answer ≡ Ok h
  left : d.node.memory ≡ Some (plan memory).memory

acts_left : {A E : Type 0} (x : Node) (reason store : E) (plan : Memory → Plan Memory (Result A E)) → ((m : Memory) → (plan m).failed ≡ Err store) → (h : A)
    → (acts x (Err reason) plan).answer ≡ Ok h → Left x plan h (acts x (Err reason) plan)
unfolding acts
acts_left {A = A} {E = E} x reason store plan failed h = by_memory x.memory refl
  where
    by_memory : (o : Option Memory) → x.memory ≡ o
        → let d : NodeStep (Result A E) = option_map_or (λ m. left_by x (carry_out x.store.records x.store.cut (plan m))) o (stays x (Err reason)) in
        d.answer ≡ Ok h → Left x plan h d
    by_memory None there e = absurd (err_ok reason h e)
    by_memory (Some m) there e = ⊎_elim
        (λ (w : IsWhole x.store.records x.store.cut (plan m) (carry_out x.store.records x.store.cut (plan m))).
        record { memory = m; there = there; is = sym w.answer ∙ e; left = w.memory })
        (λ (c : IsCutOff x.store.records x.store.cut (plan m) (carry_out x.store.records x.store.cut (plan m))). absurd
        (err_ok store h (sym (failed m) ∙ sym c.answer ∙ e)))
        (clean x.store.records x.store.cut (plan m))

abbrev AnyWord : RingWord → Type 0
AnyWord w = ⊤

send_failed : (m : Memory) (to : ℕ) (datagram : List ℕ) (note now : ℕ) → (of_station m (calls.send m.station to datagram note now)).failed ≡ Err sends.Store
send_failed m to datagram note now = planned_failed _ (send_is AnyWord (call_given 0 note now) m.station to datagram (λ some short. tt))

-- What a send that is taken does to the tag of its node.
pub record SendTakes (tag : ℕ) (long : Bool) (x y : Node) : Type 0 where
  pub old : tag_in (get x.store.records 4) ≡ Ok tag
  pub new : long ≡ true → tag_in (get y.store.records 4) ≡ Ok (tag_after tag)

send_takes : (x : Node) (to : ℕ) (datagram : List ℕ) (note now : ℕ) → NodeOk x
    → let d : NodeStep (Result SentHow SendRefusal) = acts x (Err sends.Halted) (λ m. of_station m (calls.send m.station to datagram note now)) in (h : SentHow)
    → d.answer ≡ Ok h → SendTakes (tag_of x) (nat_lt 375 (length datagram)) x d.node
send_takes x to datagram note now ok h e =
    let plan : Memory → Plan Memory (Result SentHow SendRefusal) = λ m. of_station m (calls.send m.station to datagram note now) in
    let l = acts_left x sends.Halted sends.Store plan (λ m. send_failed m to datagram note now) h e in
    let did = acts_ok x (Err sends.Halted) plan ok (λ m here kept sized. send_ok x.role m sized to datagram note now) in
    let is : l.memory.station.next_tag ≡ tag_of x = sym (ap (λ (o : Option Memory). option_map_or (λ m. m.station.next_tag) o 0) l.there) in
    record {
      old = (node_kept x l.memory ok l.there).station.tag ∙ ap Ok is;
      new = λ long. (node_kept (acts x (Err sends.Halted) plan).node (plan l.memory).memory did.node l.left).station.tag
          ∙ ap Ok (sent_tag l.memory.station to datagram note now (ltb-true 375 (length datagram) long) h l.is ∙ ap tag_after is);
    }

-- a node of a list with one more
pub at_end : (xs : List Node) (x : Node) (k : ℕ) (y : Node) → slice_get (xs ++ x ∷ []) k ≡ Some y → (slice_get xs k ≡ Some y) ⊎ ((x ≡ y) × (k ≡ length xs))
at_end [] x zero y e = inr (same_Some _ _ e, refl)
at_end [] x (suc k) y e = absurd (no_some y e)
at_end (z ∷ xs) x zero y e = inl e
at_end (z ∷ xs) x (suc k) y e = ⊎_elim (λ (h : slice_get xs k ≡ Some y). inl h) (λ (h : (x ≡ y) × (k ≡ length xs)). inr (h.0, ap suc h.1)) (at_end xs x k y e)

-- # What an event does to the tags of all nodes

-- a node of the world after an event: as before, or a new one
pub data Moved (w : World) (number : ℕ) (y : Node) : Type 0 where
  Was : (x : Node) → node_at w number ≡ Some x → TagMoves x y → Moved w number y
  IsNew : length w.nodes ≤ number → tag_in (get y.store.records 4) ≡ Ok 0 → Moved w number y

abbrev pub AllMoved : World → World → Type 0
AllMoved w v = (number : ℕ) (y : Node) → node_at v number ≡ Some y → Moved w number y

-- What the history has of a send.
pub record Took (w v : World) (s : Sending) : Type 0 where
  pub node : Node
  pub there : node_at w s.from ≡ Some node
  pub takes : (y : Node) → node_at v s.from ≡ Some y → SendTakes s.tag (nat_lt 375 (length s.datagram)) node y

pub record StepTags (w v : World) (sent : Option Sending) : Type 0 where
  pub nodes : AllMoved w v
  pub more : length w.nodes ≤ length v.nodes
  pub took : (s : Sending) → sent ≡ Some s → Took w v s

pub none_took : (w v : World) → (s : Sending) → None ≡ Some s → Took w v s
none_took w v s e = absurd (no_some s e)

abbrev pub Tagged : World → Step → Type 0
Tagged w (Ok r) = StepTags w r.0 r.1.sent
Tagged w (Err fault) = Unit {0}

module _ (ciphers : Ciphers) (w : World) where
  after_moved : {A : Type 0} (u : World) (number : ℕ) (d : NodeStep A) → AllMoved w u → Moved w number d.node → AllMoved w (world_after ciphers u number d)
  unfolding world_after
  after_moved u number d all here k y is = ⊎_elim
      (λ (e : k ≡ number).
      let inside : k < length (slice_set u.nodes number d.node) = within (slice_set u.nodes number d.node) k y is in
      let same : length (slice_set u.nodes number d.node) ≡ length u.nodes = length-set u.nodes number d.node in
      let got : d.node ≡ y = same_Some _ _
      (sym (slice_get-set u.nodes number d.node (omega arith)) ∙ ap (slice_get (slice_set u.nodes number d.node)) (sym e) ∙ is) in
      subst (Moved w k) got (subst (λ n. Moved w n d.node) (sym e) here))
      (λ (ne : k ≢ number). all k y (sym (slice_get-set_other u.nodes number k d.node ne) ∙ is))
      (cases_eq k number)

  after_more : {A : Type 0} (u : World) (number : ℕ) (d : NodeStep A) → length (world_after ciphers u number d).nodes ≡ length u.nodes
  unfolding world_after
  after_more u number d = length-set u.nodes number d.node

  pub same_moved : AllMoved w w
  same_moved k y is = Was y is (λ t e. Stays e)

module _ (ciphers : Ciphers) (fits : KeepsRanges ciphers) (w : World) (ok : WorldOk w) where
  good_at : (number : ℕ) (x : Node) → node_at w number ≡ Some x → NodeOk x
  good_at number x there = at_place NodeOk w.nodes number x there ok.nodes

  -- one node did something, and nothing was sent as a datagram
  pub after_tags : {A : Type 0} (u : World) (number : ℕ) (x : Node) (d : NodeStep A) → AllMoved w u → length u.nodes ≡ length w.nodes
      → node_at w number ≡ Some x
      → TagMoves x d.node → StepTags w (world_after ciphers u number d) None
  after_tags u number x d all same there moves = record {
    nodes = after_moved ciphers w u number d all (Was x there moves);
    more = let m = after_more ciphers w u number d in omega arith;
    took = none_took w (world_after ciphers u number d);
  }

  no_key : Key
  no_key = record { 0 = [] }

  call_puts : (number : ℕ) (x : Node) (A : Type 0) (halted : A) (plan : Memory → Plan Memory A) → IsCall ciphers w number x A halted plan → (m : Memory)
      → Each (TagPut m.station.next_tag) (plan m).puts
  call_puts number x A halts plan (Gives value are) m = away_tags m.station.next_tag _ (random_away m value)
  call_puts number x A halts plan (Joins psk a ne pair to) m = away_tags m.station.next_tag _ (join_away m (identity ciphers x psk) a w.clock)
  call_puts number x A halts plan (Leaves ne) m = away_tags m.station.next_tag _ (leave_away m (identity ciphers x no_key))
  call_puts number x A halts plan (Sends a datagram to are) m = send_tags m a datagram (w.sends + 1) w.clock
  call_puts number x A halts plan (Breaks a to) m = away_tags m.station.next_tag _ (broke_away m a answers.Broken)
  call_puts number x A halts plan (Nears a cost open_is to low) m = away_tags m.station.next_tag _ (near_away m a cost w.clock)
  call_puts number x A halts plan (Counts value open_is low) m =
      away_tags m.station.next_tag (of_station m (calls.preset_counter m.station value)).puts (counter_put_away m value)
  call_puts number x A halts plan (Numbers value open_is low high) m =
      away_tags m.station.next_tag (of_station m (calls.preset_number m.station value)).puts (number_put_away m value)
  call_puts number x A halts plan (Accepts octets event says comes) m = away_tags m.station.next_tag _ (accept_away m x.eui (arrived ciphers octets))
  call_puts number x A halts plan (Provisions psk c g ne pair there is) m = away_tags m.station.next_tag _ (provision_away m g)
  call_puts number x A halts plan (Depots meter y psk first open_is is pair) m =
      away_tags m.station.next_tag _ (depot_away m (record { eui = x.eui; ciphers = ciphers }) 0 y.eui psk)
  call_puts number x A halts plan (Allows meter y psk first is pair) m =
      away_tags m.station.next_tag _ (allow_away m (record { eui = x.eui; ciphers = ciphers }) 0 y.eui psk)
  call_puts number x A halts plan (Rekeys index key first low is) m =
      away_tags m.station.next_tag _ (rekey_away m (record { eui = x.eui; ciphers = ciphers }) 0 index key)
  call_puts number x A halts plan (Turns index first low) m =
      away_tags m.station.next_tag _ (activate_self_away m (record { eui = x.eui; ciphers = ciphers }) 0 index)
  call_puts number x A halts plan (Challenges meter y first is) m =
      away_tags m.station.next_tag _ (challenge_away m (record { eui = x.eui; ciphers = ciphers }) w.clock y.eui)
  call_puts number x A halts plan (Activates meter y index first is low) m =
      away_tags m.station.next_tag _ (activate_away m (record { eui = x.eui; ciphers = ciphers }) w.clock y.eui index)
  call_puts number x A halts plan (Kicks meter y first is) m = away_tags m.station.next_tag _ (kick_away m (record { eui = x.eui; ciphers = ciphers }) 0 y.eui)

  call_moves : (number : ℕ) (x : Node) (A : Type 0) (halted : A) (plan : Memory → Plan Memory A) → node_at w number ≡ Some x
      → IsCall ciphers w number x A halted plan → TagMoves x (acts x halted plan).node
  call_moves number x A halts plan there call = acts_moves x halts plan (good_at number x there) (call_puts number x A halts plan call)

  -- # Octets that come

  pub accepts_stays : (x : Node) (octets : List ℕ) → TagStays x (accepting ciphers x octets).node
  accepts_stays x octets = acts_stays x (Err frames.Halted) (λ m. of_station m (accept m.station x.eui (arrived ciphers octets)))
      (λ m. accept_away m x.eui (arrived ciphers octets))

  hears_stays : (x : Node) (got : Accepted) (cost note now : ℕ) → TagStays x (hearing_step ciphers x got cost note now).node
  hears_stays x got cost note now = by_role x.role refl
    where
      By : Role → Type 0
      By role = TagStays x (hears_as role).node
        where
          hears_as : Role → NodeStep Reception
          hears_as Coordinator = answering coordinator_reception
              (acts x (Err drops.Store) (λ m. coordinator_rules.hear_coordinator (record { eui = x.eui; ciphers = ciphers }) m got cost note now))
          hears_as (Meter psk) = answering meter_reception (acts x (Err drops.Store) (λ m. meters.hear_meter (identity ciphers x psk) m got cost note now))

      by_role : (role : Role) → x.role ≡ role → TagStays x (hearing_step ciphers x got cost note now).node
      by_role Coordinator e = subst By (sym e) (acts_stays x (Err drops.Store)
          (λ m. coordinator_rules.hear_coordinator (record { eui = x.eui; ciphers = ciphers }) m got cost note now)
          (λ m. coordinator_away m (record { eui = x.eui; ciphers = ciphers }) got cost note now))
      by_role (Meter psk) e = subst By (sym e) (acts_stays x (Err drops.Store) (λ m. meters.hear_meter (identity ciphers x psk) m got cost note now)
          (λ m. meter_away m (identity ciphers x psk) got cost note now))

  -- # A node more

  begin_away : (m : Memory) (g : Granted) → Each Away (coordinator_rules.begin m g).puts
  unfolding choose resting
  begin_away m g = by_ring (is_some m.station.ring)
    where
      by_ring : (b : Bool) → Each Away (if b then resting m (Ok tt) (Err ring_faults.Store) else meters.provision m g).puts
      by_ring true = tt
      by_ring false = provision_away m g

  blank_tag : (role : Role) (eui : Eui) → NodeOk (blank_node role eui) → tag_in (get (blank_node role eui).store.records 4) ≡ Ok 0
  blank_tag role eui blank = (node_kept (blank_node role eui) (remembering blank_station []) blank refl).station.tag

  new_tag : (event : Event) (x : Node) → IsMade w event x → tag_in (get x.store.records 4) ≡ Ok 0
  new_tag event x (OfCoordinator eui key none known long) = acts_stays (blank_node Coordinator eui) (Ok tt) (λ m. coordinator_rules.begin m (first_grant key))
      (λ m. begin_away m (first_grant key)) 0 (blank_tag Coordinator eui (blank_ok Coordinator eui tt))
  new_tag event x (OfMeter eui psk some room new known long) = blank_tag (Meter psk) eui (blank_ok (Meter psk) eui long.1)

  made_tags : (event : Event) (x : Node) → IsMade w event x → StepTags w (made_node w x).0 None
  made_tags event x is = record {
    nodes = λ k y there. ⊎_elim (λ (h : slice_get w.nodes k ≡ Some y). Was y h (λ t e. Stays e))
        (λ (h : (x ≡ y) × (k ≡ length w.nodes)). IsNew (let at = h.1 in omega arith)
        (subst (λ (z : Node). tag_in (get z.store.records 4) ≡ Ok 0) h.0 (new_tag event x is))) (at_end w.nodes x k y there);
    more = let longer = length-append w.nodes (x ∷ []) in omega arith;
    took = none_took w (made_node w x).0;
  }

  -- # A send

  sending_tags : (from to : ℕ) (datagram : List ℕ) (x : Node) (a : ℕ) → node_at w from ≡ Some x
      → let d : NodeStep (Result SentHow SendRefusal) = acts x (Err sends.Halted) (λ m. of_station m (calls.send m.station a datagram (w.sends + 1) w.clock)) in
      TagMoves x d.node → Tagged w (Ok (sending ciphers w from to datagram (tag_of x) (answering sent_word d)))
  sending_tags from to datagram x a there moves = by_answer d.answer refl
    where
      d : NodeStep (Result SentHow SendRefusal)
      d = acts x (Err sends.Halted) (λ m. of_station m (calls.send m.station a datagram (w.sends + 1) w.clock))

      after_so : StepTags w (world_after ciphers (running_world w) from (answering sent_word d)) None
      after_so = after_tags (running_world w) from x (answering sent_word d) (same_moved ciphers w) refl there moves

      By : Answer → Type 0
      By answer = Tagged w (Ok (sent_if w from to datagram (tag_of x) (is_taken answer) (node_outcome ciphers w from (answering sent_word d))))

      v : World
      v = record (world_after ciphers (running_world w) from (answering sent_word d))
          { sends = (world_after ciphers (running_world w) from (answering sent_word d)).sends + 1 }

      sent_so : (h : SentHow) → d.answer ≡ Ok h
          → Tagged w (Ok (sent_if w from to datagram (tag_of x) true (node_outcome ciphers w from (answering sent_word d))))
      sent_so h e = record {
        nodes = after_so.nodes;
        more = after_so.more;
        took = λ s is. subst (Took w v) (same_Some (record { from = from; to = to; datagram = datagram; tag = tag_of x }) s is) (record {
          node = x;
          there = there;
          takes = λ y here. subst (SendTakes (tag_of x) (nat_lt 375 (length datagram)) x) (node_is y here)
              (send_takes x a datagram (w.sends + 1) w.clock (good_at from x there) h e);
        });
      }
        where
          node_is : (y : Node) → node_at (world_after ciphers (running_world w) from (answering sent_word d)) from ≡ Some y → d.node ≡ y
          node_is y here = same_Some _ _ (sym (after_here ciphers (running_world w) from x (answering sent_word d) there) ∙ here)

      by_answer : (r : Result SentHow SendRefusal) → d.answer ≡ r → By (sent_word d.answer)
      by_answer (Err reason) e = subst (λ (r : Result SentHow SendRefusal). By (sent_word r)) (sym e)
          (subst (λ (b : Bool). Tagged w (Ok (sent_if w from to datagram (tag_of x) b (node_outcome ciphers w from (answering sent_word d)))))
          (sym (word_refused reason)) after_so)
      by_answer (Ok h) e = subst (λ (r : Result SentHow SendRefusal). By (sent_word r)) (sym e)
          (subst (λ (b : Bool). Tagged w (Ok (sent_if w from to datagram (tag_of x) b (node_outcome ciphers w from (answering sent_word d)))))
          (sym (word_taken h))
          (sent_so h e))

  -- # Every event

  pub event_tags : (event : Event) (s : Step) → IsStep ciphers w event s → Tagged w s
  event_tags event s (Fails e fault) = tt
  event_tags event s (Makes e x is) = made_tags e x is
  event_tags event s (Rests e quiet) = record { nodes = same_moved ciphers w; more = omega arith; took = none_took w (running_world w) }
  event_tags event s (Shows number x) = record { nodes = same_moved ciphers w; more = omega arith; took = none_took w (running_world w) }
  event_tags event s (Acts e number x A halted plan reads there call word asked) =
      after_tags (running_world w) number x (answering reads (acts x halted plan)) (same_moved ciphers w) refl there
      (call_moves number x A halted plan there call)
  event_tags event s (BreaksLink number next x a there call) =
      let plan : Memory → Plan Memory Answer = λ m. changing answers.Broken (with_station (calls.broke a m.station) m) in
      after_tags (running_world w) number x (acts x answers.Halted plan) (same_moved ciphers w) refl there
      (call_moves number x Answer answers.Halted plan there call)
  event_tags event s (SendsFrom from to datagram x a there call target) = sending_tags from to datagram x a there
      (call_moves from x _ (Err sends.Halted) (λ m. of_station m (calls.send m.station a datagram (w.sends + 1) w.clock)) there call)
  event_tags event s (AllowsMeter number y c psk there call meter) = after_tags (running_world w) 0 c
      (acts c (Err orders.Halted) (λ m. coordinator_rules.allow m y.eui psk)) (same_moved ciphers w) refl there
      (call_moves 0 c _ (Err orders.Halted) (λ m. coordinator_rules.allow m y.eui psk) there call)
  event_tags event s (Sets e quiet number x plan there open_is is) = after_tags (set_up w) number x (acts x (Ok tt) (λ m. of_station m (plan m.station)))
      (same_moved ciphers w) refl there
      (call_moves number x _ (Ok tt) (λ m. of_station m (plan m.station)) there (preset_call ciphers w number x plan open_is is))
  event_tags event s (SetsTwo e quiet a b cost x y p q hx hy apart open_is first second fresh near) =
      let one = after_tags (set_up w) a x (offered_near x q cost w.clock) (same_moved ciphers w) refl hx
      (call_moves a x _ (Ok tt) (λ m. of_station m (calls.preset_near m.station q cost w.clock)) hx first) in
      after_tags (world_after ciphers (set_up w) a (offered_near x q cost w.clock)) b y (offered_near y p cost w.clock) one.nodes
      (after_more ciphers w (set_up w) a (offered_near x q cost w.clock)) hy
      (call_moves b y _ (Ok tt) (λ m. of_station m (calls.preset_near m.station p cost w.clock)) hy second)
  event_tags event s (Provides number x c psk g d ne open_is hx hc pair same is) =
      let did : TagMoves c d.node = subst (λ (z : NodeStep (Result Granted CoordinatorRefusal)). TagMoves c z.node) (sym same)
      (λ t e. Stays (acts_stays c (Err orders.Halted) (λ m. coordinator_rules.depot m x.eui psk)
      (λ m. depot_away m (record { eui = c.eui; ciphers = ciphers }) 0 x.eui psk) t e)) in
      let one = after_tags (set_up w) 0 c d (same_moved ciphers w) refl hc did in
      after_tags (world_after ciphers (set_up w) 0 d) number x (acts x (Ok tt) (λ m. meters.provision m g)) one.nodes (after_more ciphers w (set_up w) 0 d) hx
      (λ t e. Stays (acts_stays x (Ok tt) (λ m. meters.provision m g) (λ m. provision_away m g) t e))
  event_tags event s (TurnsDown e number x octets reason d there says comes same is) =
      after_tags (running_world w) number x d (same_moved ciphers w) refl there
      (subst (λ (z : NodeStep (Result Accepted FrameRefusal)). TagMoves x z.node) (sym same) (λ t e. Stays (accepts_stays x octets t e)))
  event_tags event s (Hears e number x octets cost got there says comes low is) =
      let y : Node = (accepting ciphers x octets).node in
      let d : NodeStep Reception = hearing_step ciphers y got cost (note_by w octets got.path) w.clock in
      let one = after_tags (running_world w) number x d (same_moved ciphers w) refl there
      (λ t now. Stays (hears_stays y got cost (note_by w octets got.path) w.clock t (accepts_stays x octets t now))) in
      record { nodes = one.nodes; more = one.more; took = none_took w (hearing_outcome ciphers w number y octets got cost).0 }
  event_tags event s (Loses number f there) = record {
    nodes = same_moved ciphers w;
    more = omega arith;
    took = none_took w (record (running_world w) { flights = slice_set w.flights (number - 1) (record f { lost = true }) });
  }
  event_tags event s (Ticks seconds) = record {
    nodes = ticked_moved;
    more =
        let same : length (map (ticked (w.clock + seconds)) w.nodes) ≡ length w.nodes = length-map w.nodes _ in omega arith;
    took = none_took w (record (running_world w) { clock = w.clock + seconds; nodes = map (ticked (w.clock + seconds)) w.nodes });
  }
    where
      ticked_at : (xs : List Node) (k : ℕ) (y : Node) → slice_get (map (ticked (w.clock + seconds)) xs) k ≡ Some y
          → (x : Node) × (slice_get xs k ≡ Some x) × (ticked (w.clock + seconds) x ≡ y)
      ticked_at [] k y e = absurd (no_some y e)
      ticked_at (x ∷ xs) zero y e = (x, refl, same_Some _ _ e)
      ticked_at (x ∷ xs) (suc k) y e = ticked_at xs k y e

      ticked_moved : AllMoved w (record (running_world w) { clock = w.clock + seconds; nodes = map (ticked (w.clock + seconds)) w.nodes })
      ticked_moved k y there = let p = ticked_at w.nodes k y there in Was p.0 p.1 (subst (TagMoves p.0) p.2 (λ t e. Stays e))
  event_tags event s (Restarts number x there) = after_tags (running_world w) number x (restarts x) (same_moved ciphers w) refl there (λ t e. Stays e)
  event_tags event s (Cuts number nth keeps_new x there) = after_tags (running_world w) number x
      (stays (record x { store = record x.store { cut = Some (record { nth = nth; keeps_new = keeps_new }) } }) answers.Set) (same_moved ciphers w) refl there
      (λ t e. Stays e)

-- # Runs

weaker_under : (number low high : ℕ) → low ≤ high → (sent : List Sending) → All (IsUnder number low) sent → All (IsUnder number high) sent
weaker_under number low high le sent h = All-weaker (IsUnder number low) (IsUnder number high) (λ s f home long. let less = f home long in omega arith) sent h

module _ (w v : World) (sent : List Sending) (k : TagsOk w sent) (few : w.events < 50000) (more : v.events ≡ w.events + 1) where
  -- the nodes of the world after an event, over the sends before it
  moved_tag : (number : ℕ) (y : Node) → Moved w number y → TagOf sent number v.events y
  moved_tag number y (IsNew at is) = record {
    tag = 0;
    is = is;
    few = omega arith;
    under = All-weaker (λ (s : Sending). s.from < length w.nodes) (IsUnder number 0) (λ s h home long. absurd (omega arith)) sent k.homes;
  }
  moved_tag number y (Was x there moves) = by_now (moves o.tag o.is)
    where
      o : TagOf sent number w.events x
      o = k.nodes number x there

      by_now : TagNow o.tag y.store.records → TagOf sent number v.events y
      by_now (Stays e) = record { tag = o.tag; is = e; few = let le = o.few in omega arith; under = o.under }
      by_now (Rises e) =
          let le = o.few in
          let next : tag_after o.tag ≡ o.tag + 1 = omega arith in
          record { tag = o.tag + 1; is = e ∙ ap Ok next; few = omega arith; under = weaker_under number o.tag (o.tag + 1) (omega arith) sent o.under }

  none_sent : StepTags w v None → TagsOk v sent
  none_sent t = record {
    nodes = λ number y there. moved_tag number y (t.nodes number y there);
    homes =
        All-weaker (λ (s : Sending). s.from < length w.nodes) (λ (s : Sending). s.from < length v.nodes) (λ s h. let m = t.more in omega arith) sent k.homes;
    pairs = k.pairs;
  }

  one_sent : (s : Sending) → StepTags w v (Some s) → TagsOk v (sent ++ s ∷ [])
  one_sent s t = record {
    nodes = λ number y there. let o = moved_tag number y (t.nodes number y there) in
        record { tag = o.tag; is = o.is; few = o.few; under = All-push (IsUnder number o.tag) sent s o.under (below number y there o) };
    homes = All-push (λ (z : Sending). z.from < length v.nodes) sent s
        (All-weaker (λ (z : Sending). z.from < length w.nodes) (λ (z : Sending). z.from < length v.nodes) (λ z h. let m = t.more in omega arith) sent k.homes)
        (let m = t.more in let here = within w.nodes s.from took.node took.there in omega arith);
    pairs = all_pairs_push TagRises sent s k.pairs
        (λ i d lt home long_one long. subst (λ n. (get_or sent i d).tag < n) (sym old_is) (old.under i d lt home long_one));
  }
    where
      took : Took w v s
      took = t.took s refl

      old : TagOf sent s.from w.events took.node
      old = k.nodes s.from took.node took.there

      below : (number : ℕ) (y : Node) → node_at v number ≡ Some y → (o : TagOf sent number v.events y) → s.from ≡ number → 375 < length s.datagram
          → s.tag < o.tag
      below number y there o home long =
          let takes = took.takes y (ap (λ n. node_at v n) home ∙ there) in
          let was : s.tag ≡ old.tag = ok_same (tag_in (get took.node.store.records 4)) s.tag old.tag takes.old old.is in
          let le = old.few in
          let now : tag_after s.tag ≡ o.tag = ok_same (tag_in (get y.store.records 4)) (tag_after s.tag) o.tag (takes.new (long_so long)) o.is in
          omega arith
        where
          long_so : 375 < length s.datagram → nat_lt 375 (length s.datagram) ≡ true
          long_so h = grind (arith)

      old_is : s.tag ≡ old.tag
      old_is = by_node (slice_get v.nodes s.from) refl
        where
          no_place : {A : Type 0} (xs : List A) (n : ℕ) → slice_get xs n ≡ None → n < length xs → ⊥
          no_place [] n e lt = omega arith
          no_place (x ∷ xs) zero e lt = cc
          no_place (x ∷ xs) (suc n) e lt = no_place xs n e (omega arith)

          by_node : (o : Option Node) → slice_get v.nodes s.from ≡ o → s.tag ≡ old.tag
          by_node None e = absurd (no_place v.nodes s.from e (let m = t.more in let here = within w.nodes s.from took.node took.there in omega arith))
          by_node (Some y) e = ok_same (tag_in (get took.node.store.records 4)) s.tag old.tag (took.takes y e).old old.is

  pub next_tags : (s : Option Sending) → StepTags w v s → TagsOk v (sent ++ one_of s)
  next_tags None t = subst (TagsOk v) (sym (append-nil sent)) (none_sent t)
  next_tags (Some s) t = one_sent s t

pub start_tags : TagsOk start []
start_tags = record {
  nodes = λ number x e. absurd (no_some x e);
  homes = All-nil (λ (s : Sending). s.from < length start.nodes);
  pairs = λ i j d lt inside. absurd (omega arith);
}
