-- What the coordinator does keeps a meter shut out, but where it allows it.
use Rattle.std.proofs.Common.{◌≡◌, ℕ, ◌≤◌, Bool, true, false, Option, Some, None, Result, Ok, Err, refl, sym, ◌∙◌, subst, arith}
use Rattle.std.specs.Prelude.{if◌then◌else◌, IfSome, is_some, ◌&&◌, nat_lt}
use Rattle.std.specs.Option.{option_map_or}
use Rattle.plc_base.specs.Keeper.{Records}
use Rattle.store_tables.specs.SlotTables as slots
use Rattle.plc_base.specs.declared.address.Eui.{Eui}
use Rattle.plc_base.specs.declared.key.Key.{Key}
use Rattle.group_keys.specs.declared.key_book.BookEntry.{BookEntry}
use Rattle.group_keys.specs.KeyBook as books
use Rattle.joining_messages.specs.declared.message.JoinMessage.{JoinMessage}
use Rattle.joining_messages.specs.declared.message.JoinBody.TheVariants as body
use Rattle.routing_set.specs.declared.rank.Rank.{Rank}
use Rattle.routing_set.specs.RoutingSet as routing
use Rattle.node_rules.specs.Accepted.{Accepted}
use Rattle.node_rules.specs.declared.heard.CoordinatorHeard.TheVariants as coordinator_heard
use Rattle.node_rules.specs.declared.refusal.CoordinatorRefusal.{CoordinatorRefusal}
use Rattle.node_rules.specs.declared.refusal.CoordinatorRefusal.TheVariants as refusal
use Rattle.node_rules.specs.Coordinators as coordinators
use Rattle.node_rules.specs.Coordinators.{with_book_entry, without_session, kick_goes, kick_by, kick, orders, allowed_entry}
use Rattle.node_rules.specs.Drafts.{Draft, Ends, empty_draft, counters_left, refused}
use Rattle.node_rules.specs.HearingRules.{dropped}
use Rattle.node_rules.specs.JoiningPackets.{message}
use Rattle.node_rules.specs.Memory.{Memory, Coordinator, Node, next_hop}
use Rattle.node_rules.specs.MemoryDrafts.{in_memory, with_memory_by, is_commanded}
use Rattle.node_rules.specs.NodeSteps.{acts, stays, left_by}
use Rattle.node_rules.specs.Plans.{Plan, Outcome, carry_out, resting}
use Rattle.line_laws.specs.Sizes.{IsMemorySized}
use Rattle.line_laws.specs.Stores.{HasEui, IsHeld, IsBookKept, IsKept}
use Rattle.line_laws.proofs.AddressBook.{Grown, one_book, plan_grown}
use Rattle.line_laws.proofs.CallForms.{Nothing}
use Rattle.line_laws.proofs.CoordinatorCalls.{heard_euis}
use Rattle.line_laws.proofs.CoordinatorForms.{HandsNothingUp, IsGranted, coordinator_is, allow_is, rekey_is, activate_self_is, challenge_is, activate_is}
use Rattle.line_laws.proofs.CoordinatorForms.{kick_is}
use Rattle.line_laws.proofs.IssueCalls.{CoordinatorWord, coordinator_words, handed_grown}
use Rattle.line_laws.proofs.IssueWords.{commanded_leaves}
use Rattle.line_laws.proofs.KeptMemory.{Leads, Left, carried}
use Rattle.line_laws.proofs.Made.{Given, Offered}
use Rattle.line_laws.proofs.MemoryDraftForms.{AnyAnswer, HandedIn, MadeBy}
use Rattle.line_laws.proofs.NodeCalls.{RoutesFit, heard_given, call_given, heard_offers, call_offers, granted_keys, few_of}
use Rattle.line_laws.proofs.Nodes.{NodeOk, waits_little}
use Rattle.line_laws.proofs.Planned.{Planned, planned_weaker, planned_failed}
use Rattle.line_laws.proofs.ShutBook.{Shut, OfOther, shut_step, kicked_shut}
use Rattle.line_laws.proofs.StoreRanks.{EntryFits}
pub use Rattle.line_laws.specs.Shut.{BookShut}

abbrev AnyPair : Eui → Key → Type 0
AnyPair u psk = Unit {0}

module _ (eui : Eui) where
  pub acts_shut : {A : Type 0} (x : Node) (halted : A) (plan : Memory → Plan Memory A) → NodeOk x → x.role ≡ Coordinator → BookShut eui x
      → ((m : Memory) → IsMemorySized m → Leads (Grown (Shut eui)) m (plan m).puts (plan m).memory) → BookShut eui (acts x halted plan).node
  unfolding acts
  acts_shut {A = A} x halted plan ok role shut f = by_memory x.memory (subst (λ r. Left (IsKept r) x.store.records x.memory) role ok.kept) ok.sized
    where
      by_left : (r : Records) (q : Option Memory) → Left (Grown (Shut eui)) r q → (b : books.Book) → IsBookKept b r → Shut eui b
      by_left r None k b kept = subst (Shut eui) (one_book k.memory.book b r k.kept.kept.book kept) k.kept.grows
      by_left r (Some n) k b kept = subst (Shut eui) (one_book n.book b r k.kept.book kept) k.grows

      by_memory : (q : Option Memory) → Left (IsKept Coordinator) x.store.records q → IfSome q IsMemorySized
          → BookShut eui (option_map_or (λ m. left_by x (carry_out x.store.records x.store.cut (plan m))) q (stays x halted)).node
      by_memory None kept sized = shut
      by_memory (Some m) kept sized =
          let o : Outcome Memory A = carry_out x.store.records x.store.cut (plan m) in
          by_left o.records o.memory (carried (Grown (Shut eui)) x.store.records x.store.cut (plan m) m (record { kept = kept; grows = shut m.book kept.book })
          (f m sized))

  module _ (own : coordinators.CoordinatorIdentity) (m : Memory) (h : IsMemorySized m) where
    plan_shut : {H F : Type 0} (g : Given)
        → ((address : Option ℕ) (by origin : ℕ) (rank : Rank) → Offered g address by origin rank → EntryFits (routing.offered_entry origin rank by g.now))
        → (ends : Ends F) (K : Memory → H → Type 0) (N : H → Type 0)
        → ((n : Memory) (answer : H) → K n answer → (r : Records) → Grown (Shut eui) m r → Grown (Shut eui) n r)
        → (p : Plan Memory (Result H F)) → Planned in_memory ends m K (MadeBy CoordinatorWord (IsGranted m) (OfOther eui) HasEui g m N) p
        → Leads (Grown (Shut eui)) m p.puts p.memory
    plan_shut g offers ends K N beside p s =
        plan_grown (Shut eui) CoordinatorWord (IsGranted m) (OfOther eui) HasEui g m coordinator_words offers (λ u k. k) (λ u psk k. k.0)
        (shut_step eui (IsGranted m) HasEui m) (granted_keys Coordinator m) ends K beside p
        (planned_weaker p (λ n answer k. k) (few_of N m CoordinatorWord (IsGranted m) (OfOther eui) HasEui g) s) (waits_little m h)

    pub hears_shut : (got : Accepted) (cost note now : ℕ) → RoutesFit got → let p = coordinators.hear_coordinator own m got cost note now in
        Leads (Grown (Shut eui)) m p.puts p.memory
    hears_shut got cost note now routes =
        let g = heard_given got cost note now in
        plan_shut g (heard_offers got cost note now routes) dropped (HandedIn coordinator_heard.Station g m) HandsNothingUp (handed_grown (Shut eui) m h g) _
        (coordinator_is CoordinatorWord (OfOther eui) HasEui g own m (λ to there join said. omega arith) got refl (heard_euis m got cost note now routes))

    abbrev Order : {H : Type 0} → Plan Memory (Result H CoordinatorRefusal) → Type 0
    Order p = Leads (Grown (Shut eui)) m p.puts p.memory

    order_shut : {H : Type 0} (now : ℕ) (p : Plan Memory (Result H CoordinatorRefusal))
        → Planned in_memory orders m Nothing (MadeBy CoordinatorWord (IsGranted m) (OfOther eui) HasEui (call_given 0 0 now) m AnyAnswer) p → Order p
    order_shut now p s = plan_shut (call_given 0 0 now) (call_offers 0 0 now) orders Nothing AnyAnswer (λ n answer k. absurd k) p s

    pub allow_shut : (u : Eui) (psk : Key) → HasEui u → OfOther eui u psk → Order (coordinators.allow m u psk)
    allow_shut u psk known pair =
        order_shut 0 _ (allow_is CoordinatorWord (OfOther eui) HasEui (call_given 0 0 0) own m (λ to there join said. omega arith) u psk known pair)

    pub rekey_shut : (index : ℕ) (key : Key) → IsHeld (Some key) → Order (coordinators.rekey m index key)
    rekey_shut index key held =
        order_shut 0 _ (rekey_is CoordinatorWord (OfOther eui) HasEui (call_given 0 0 0) own m (λ to there join said. omega arith) index key held)

    pub activate_self_shut : (index : ℕ) → index ≤ 1 → Order (coordinators.activate_self m index)
    activate_self_shut index low =
        order_shut 0 _ (activate_self_is CoordinatorWord (OfOther eui) HasEui (call_given 0 0 0) own m (λ to there join said. omega arith) index low)

    pub challenge_shut : (u : Eui) (now : ℕ) → HasEui u → Order (coordinators.challenge own.eui m u now)
    challenge_shut u now known =
        order_shut now _ (challenge_is CoordinatorWord (OfOther eui) HasEui (call_given 0 0 now) own m (λ to there join said. omega arith) u known)

    pub activate_shut : (u : Eui) (index now : ℕ) → Order (coordinators.activate m u index now)
    activate_shut u index now =
        order_shut now _ (activate_is CoordinatorWord (OfOther eui) HasEui (call_given 0 0 now) own m (λ to there join said. omega arith) u index)

    pub kick_shut : (u : Eui) → HasEui u → Order (coordinators.kick m u)
    kick_shut u known = order_shut 0 _ (kick_is CoordinatorWord (OfOther eui) HasEui (call_given 0 0 0) own m (λ to there join said. omega arith) u known)

  -- # The kick

  module _ (m : Memory) (table : slots.IsTable books.entries m.book) where
    refused_not : (reason : CoordinatorRefusal) → (refused {H = Unit {0}} orders m reason).answer ≡ Ok tt → ⊥
    unfolding resting
    refused_not reason e = not_ok reason e
      where
        not_ok : (s : CoordinatorRefusal) → (let r : Result (Unit {0}) CoordinatorRefusal = Err s in r ≡ Ok tt) → ⊥
        not_ok s e = cc

    abbrev kicked : BookEntry → Draft Memory
    kicked e = with_memory_by (without_session e.eui) (with_book_entry (books.kicked_entry e.eui e) (empty_draft m))

    kicked_book : (e : BookEntry) → (kicked e).memory.book ≡ books.with_entry m.book (books.kicked_entry e.eui e)
    unfolding empty_draft with_memory_by with_book_entry
    kicked_book e = refl

    goes_book : (e : BookEntry) (to : ℕ) (join : JoinMessage) → (kick_goes m to join (kicked e)).memory.book ≡ (kicked e).memory.book
    goes_book e to join = by_route (is_some (next_hop m.station to) && nat_lt 0 (counters_left m.station))
      where
        by_route : (b : Bool) → (if b then is_commanded to join 0 (kicked e) else kicked e).memory.book ≡ (kicked e).memory.book
        by_route true = (commanded_leaves (λ r. Unit {0}) to join 0 (kicked e)).book
        by_route false = refl

    pub kick_leaves_shut : (kick m eui).answer ≡ Ok tt → Shut eui (kick m eui).memory.book
    kick_leaves_shut = by_entry (allowed_entry m eui) refl
      where
        by_address : (e : BookEntry) → books.allowed_one m.book eui ≡ Some e → (o : Option ℕ)
            → let p : Plan Memory (Result (Unit {0}) CoordinatorRefusal) = option_map_or (kick_by m e) o (refused orders m refusal.NotAllowed) in
            p.answer ≡ Ok tt → Shut eui p.memory.book
        by_address e is None h = absurd (refused_not _ h)
        by_address e is (Some to) h = subst (Shut eui) (sym (goes_book e to (message e.eui body.Kick) ∙ kicked_book e)) (kicked_shut eui m.book e table is)

        by_entry : (o : Option BookEntry) → books.allowed_one m.book eui ≡ o
            → let p : Plan Memory (Result (Unit {0}) CoordinatorRefusal) = option_map_or
            (λ e. option_map_or (kick_by m e) (books.address_of m.book eui) (refused orders m refusal.NotAllowed)) o (refused orders m refusal.NotAllowed) in
            p.answer ≡ Ok tt → Shut eui p.memory.book
        by_entry None is h = absurd (refused_not _ h)
        by_entry (Some e) is h = by_address e is (books.address_of m.book eui) h

-- a kick whose store write failed says so
pub kick_failed : (own : coordinators.CoordinatorIdentity) (m : Memory) (u : Eui) → HasEui u → (coordinators.kick m u).failed ≡ Err refusal.Store
kick_failed own m u known =
    planned_failed (coordinators.kick m u) (kick_is CoordinatorWord AnyPair HasEui (call_given 0 0 0) own m (λ to there join said. omega arith) u known)
