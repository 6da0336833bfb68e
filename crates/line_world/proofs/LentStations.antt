-- What the station of a node does is a step of its node, and the node is sound still.
use Rattle.std.proofs.Common.{◌≡◌, ℕ, List, Option, Some, None, refl, sym, ap, subst, ◌∙◌, arith}
use Rattle.std.specs.Prelude.{IfSome, IfNone, IsSome}
use Rattle.std.specs.Option.{option_map, option_map_or, option_and_then}
use Rattle.std.specs.FinMap.{get}
use Rattle.std.proofs.lemmas.List.Elements.{All-nil}
use Rattle.plc_base.specs.declared.address.Eui.{Eui}
use Rattle.plc_base.specs.declared.out_frame.Out.{Out}
use Rattle.plc_base.specs.Grant.{Granted}
use Rattle.plc_base.specs.declared.keeper.Cut.{Cut}
use Rattle.plc_base.specs.Keeper.{Records, Store}
use Rattle.store_tables.specs.SlotTables.{slot_of}
use Rattle.group_keys.specs.KeyBook as book
use Rattle.group_keys.specs.KeyRing.{ring_at, ring_slot}
use Rattle.routing_set.specs.RoutingSet as routing
use Rattle.node_rules.specs.declared.shown.Shown.{Shown}
use Rattle.node_rules.specs.Acceptance as acceptance
use Rattle.node_rules.specs.Agreement.{Agrees, AgreesWith}
use Rattle.node_rules.specs.Calls as calls
use Rattle.node_rules.specs.CarriedPlans.{Carries, nothing}
use Rattle.node_rules.specs.ComposedPlans.{seen}
use Rattle.node_rules.specs.Frames.{Arrived}
use Rattle.node_rules.specs.Memory.{StationMemory, Memory, Role, Coordinator, Meter}
use Rattle.node_rules.specs.MemoryDrafts.{with_station}
use Rattle.node_rules.specs.NodeSteps.{acts, of_station, stays}
use Rattle.node_rules.specs.Plans.{Plan, resting}
use Rattle.node_rules.specs.ShownNodes.{shown_station, nothing_shown}
use Rattle.node_rules.specs.States.{State}
use Rattle.node_rules.specs.StationSlots.{IsOfStation, WritesOfStation, SameMembership}
use Rattle.node_rules.specs.Tables.{HasShortTables, IsInPlace, OfCoordinator, WritesInPlace}
use Rattle.node_rules.proofs.ComposedPlans.{carries_within}
use Rattle.node_rules.proofs.StationPuts.{stations_write_their_own, writes_keep_membership}
use Rattle.node_rules.proofs.TablePlans.{stations}
use Rattle.coordinator.specs.CoordinatorAgreement.{HasCoordinatorAddress}
use Rattle.line_events.specs.declared.event.Answer.{Answer}
use Rattle.line_events.specs.declared.event.Answer.TheVariants as answers
use Rattle.line_world.specs.Nodes.{node_in, stored_in}
use Rattle.line_world.specs.Soundness.{NodeAgreesWith, IsSound}
use Rattle.line_world.proofs.NodeActs.{Took, took, known_after, tables_after, short_tables, StayedHalted}

-- the node over a station, by the memory beside it
abbrev pub holder : Memory → State StationMemory → State Memory
holder m s = seen (λ l. with_station l m) s

-- what a station does, by the EUI of its node and by what it holds
abbrev pub StationPlan : Type 0 → Type 0
StationPlan A = Eui → StationMemory → Plan StationMemory A

-- the same of the memory of its node
abbrev pub lent : {A : Type 0} → StationPlan A → Eui → Memory → Plan Memory A
lent q e m = of_station m (q e m.station)

-- what is said where a station is halted, and where it runs
abbrev pub StationStayed : {A : Type 0} → State StationMemory → A → A → Out → State StationMemory → Type 0
StationStayed s halted answer out t = IfNone s.memory ((answer ≡ halted) × (out ≡ nothing) × (t ≡ s))

abbrev pub StationCarries : {A : Type 0} → State StationMemory → StationPlan A → A → Out → State StationMemory → Type 0
StationCarries s q answer out t = IfSome s.memory (λ l. Carries s (q s.eui l) answer out t)

-- # The step

pub stays_lent : {A : Type 0} (m : Memory) (s t : State StationMemory) (halted answer : A) (out : Out) → StationStayed s halted answer out t
    → StayedHalted (holder m s) halted answer out (holder m t)
stays_lent {A} m s t halted answer out h = by s.memory h
  where
    by : (o : Option StationMemory) → IfNone o ((answer ≡ halted) × (out ≡ nothing) × (t ≡ s))
        → IfNone (option_map (λ l. with_station l m) o) ((answer ≡ halted) × (out ≡ nothing) × (holder m t ≡ holder m s))
    by None h = (h.0, h.1, ap (λ (k : State StationMemory). holder m k) h.2)
    by (Some l) h = tt

carries_lent : {A : Type 0} (m : Memory) (s t : State StationMemory) (q : StationPlan A) (answer : A) (out : Out) → StationCarries s q answer out t
    → IfSome (holder m s).memory (λ n. Carries (holder m s) (lent q s.eui n) answer out (holder m t))
carries_lent {A} m s t q answer out h = by s.memory h
  where
    by : (o : Option StationMemory) → IfSome o (λ l. Carries s (q s.eui l) answer out t)
        → IfSome (option_map (λ l. with_station l m) o) (λ n. Carries (holder m s) (lent q s.eui n) answer out (holder m t))
    by None c = tt
    by (Some l) c = carries_within (λ k. with_station k m) (λ (a : A). a) (holder m s) s t (q s.eui l) answer out refl refl c

-- The node took the step of its rule.
pub lent_took : {A : Type 0} (role : Role) (m : Memory) (s t : State StationMemory) (halted : A) (q : StationPlan A) (answer : A) (out : Out)
    → IsSome s.store.known_cut
    → StationStayed s halted answer out t → StationCarries s q answer out t
    → Took (acts (node_in role (holder m s)) halted (lent q s.eui)) answer out (node_in role (holder m t))
lent_took role m s t halted q answer out reported stayed carries =
    took role (holder m s) (holder m t) halted (lent q s.eui) answer out reported (stays_lent m s t halted answer out stayed)
    (carries_lent m s t q answer out carries)

-- # What is left

-- Each write of a plan is in place, and is one that a station makes by itself.
pub record IsOwnPlan {A : Type 0} (q : StationPlan A) (e : Eui) : Type 0 where
  pub places : (m : Memory) → HasShortTables m.station → WritesInPlace m.station m.book (lent q e m)
  pub owns : (l : StationMemory) → HasShortTables l → WritesOfStation (q e l)

pub sends_own : (e : Eui) (to : ℕ) (octets : List ℕ) (note now : ℕ) → IsOwnPlan (λ _ l. calls.send l to octets note now) e
sends_own e to octets note now =
    record {
      places = λ m short. (stations m.station m.book short).sends to octets note now;
      owns = λ l short. (stations_write_their_own l short).sends to octets note now;
    }

pub accepts_own : (e : Eui) (a : Option Arrived) → IsOwnPlan (λ own l. acceptance.accept l own a) e
accepts_own e a = record { places = λ m short. (stations m.station m.book short).accepts e a; owns = λ l short. (stations_write_their_own l short).accepts e a }

pub counter_own : (e : Eui) (value : ℕ) → IsOwnPlan (λ _ l. calls.preset_counter l value) e
counter_own e value =
    record { places = λ m short. (stations m.station m.book short).counter value; owns = λ l short. (stations_write_their_own l short).counter value }

pub number_own : (e : Eui) (value : ℕ) → IsOwnPlan (λ _ l. calls.preset_number l value) e
number_own e value =
    record { places = λ m short. (stations m.station m.book short).number value; owns = λ l short. (stations_write_their_own l short).number value }

pub near_own : (e : Eui) (to cost now : ℕ) → IsOwnPlan (λ _ l. calls.preset_near l to cost now) e
near_own e to cost now =
    record { places = λ m short. (stations m.station m.book short).near to cost now; owns = λ l short. (stations_write_their_own l short).near to cost now }

-- what breaks in the memory of a station
abbrev pub breaking : ℕ → Eui → StationMemory → Plan StationMemory Answer
breaking next e l = resting (calls.broke next l) answers.Broken answers.Broken

pub breaks_own : (e : Eui) (next : ℕ) → IsOwnPlan (breaking next) e
unfolding resting
breaks_own e next = record { places = λ m short. All-nil (IsInPlace m.station m.book); owns = λ l short. All-nil IsOfStation }

-- the ring and the book are as they were
membership : {A : Type 0} (role : Role) (m : Memory) (s t : State StationMemory) (halted : A) (q : StationPlan A) (answer : A) (out : Out) → IsOwnPlan q s.eui
    → IsSound role (holder m s)
    → StationStayed s halted answer out t → StationCarries s q answer out t → SameMembership s.store.records t.store.records
membership {A} role m s t halted q answer out own sound stayed carries = by s.memory sound.agrees stayed carries
  where
    by : (o : Option StationMemory) → IfSome (option_map (λ l. with_station l m) o) (λ n. NodeAgreesWith role n s.store.records)
        → IfNone o ((answer ≡ halted) × (out ≡ nothing) × (t ≡ s))
        → IfSome o (λ l. Carries s (q s.eui l) answer out t) → SameMembership s.store.records t.store.records
    by None a h c =
        subst (λ (k : State StationMemory). SameMembership s.store.records k.store.records) (sym h.2) (record { ring = refl; entries = λ slot high. refl })
    by (Some l) a h c =
        writes_keep_membership s.store (q s.eui l).puts c.done t.store (own.owns l (short_tables role (with_station l m) s.store.records a)) c.wrote

-- the address of the ring that a record gives
abbrev home_at : Option (List ℕ) → Option ℕ
home_at o = option_and_then (option_map (λ (g : Granted). g.address)) (ring_at o)

-- the home is as before where the record of the ring is
pub same_home : (old new : Records) → get new ring_slot ≡ get old ring_slot → HasCoordinatorAddress old → HasCoordinatorAddress new
same_home old new same home = ap home_at same ∙ home

home_stays : (role : Role) (old new : Records) → SameMembership old new → OfCoordinator role (HasCoordinatorAddress old)
    → OfCoordinator role (HasCoordinatorAddress new)
home_stays Coordinator old new same home = same_home old new same.ring home
home_stays (Meter psk) old new same home = tt

-- the book is kept where its records are as before
book_stays : (role : Role) (b : book.Book) (old new : Records) → SameMembership old new → OfCoordinator role (book.AgreesWith b old)
    → OfCoordinator role (book.AgreesWith b new)
book_stays Coordinator b old new same kept = record {
  short = kept.short;
  each = λ q inside. ap (option_map (book.entries.read q)) (same.entries (slot_of book.entries q) (omega arith)) ∙ kept.each q inside;
}
book_stays (Meter psk) b old new same kept = tt

agrees_left : {A : Type 0} (role : Role) (m : Memory) (s t : State StationMemory) (halted answer : A) (out : Out)
    → SameMembership s.store.records t.store.records → IsSound role (holder m s)
    → StationStayed s halted answer out t → Agrees t → IfSome (holder m t).memory (λ n. NodeAgreesWith role n t.store.records)
agrees_left {A} role m s t halted answer out same sound stayed agrees = by s.memory refl sound.agrees stayed
  where
    both : OfCoordinator role (book.AgreesWith m.book t.store.records) → (o : Option StationMemory) → IfSome o (λ l. AgreesWith l t.store.records)
        → IfSome (option_map (λ l. with_station l m) o) (λ n. NodeAgreesWith role n t.store.records)
    both kept None a = tt
    both kept (Some l) a = record { station = a; book = kept }

    by : (o : Option StationMemory) → s.memory ≡ o → IfSome (option_map (λ l. with_station l m) o) (λ n. NodeAgreesWith role n s.store.records)
        → IfNone o ((answer ≡ halted) × (out ≡ nothing) × (t ≡ s))
        → IfSome (option_map (λ l. with_station l m) t.memory) (λ n. NodeAgreesWith role n t.store.records)
    by None e a h =
        let none : t.memory ≡ None = ap (λ (k : State StationMemory). k.memory) h.2 ∙ e in
        subst (λ (o : Option StationMemory). IfSome (option_map (λ l. with_station l m) o) (λ n. NodeAgreesWith role n t.store.records)) (sym none) tt
    by (Some l) e a h = both (book_stays role m.book s.store.records t.store.records same a.book) t.memory agrees

-- The node is sound still.
pub lent_sound : {A : Type 0} (role : Role) (m : Memory) (s t : State StationMemory) (halted : A) (q : StationPlan A) (answer : A) (out : Out)
    → IsOwnPlan q s.eui → IsSound role (holder m s)
    → StationStayed s halted answer out t → StationCarries s q answer out t → Agrees t → IsSound role (holder m t)
lent_sound role m s t halted q answer out own sound stayed carries agrees =
    let stays = stays_lent m s t halted answer out stayed in
    let does = carries_lent m s t q answer out carries in
    let same = membership role m s t halted q answer out own sound stayed carries in
    record {
      known_cut = known_after role (holder m s) (holder m t) halted (lent q s.eui) answer out sound stays does;
      tables = tables_after role (holder m s) (holder m t) halted (lent q s.eui) answer out own.places sound stays does;
      home = home_stays role s.store.records t.store.records same sound.home;
      agrees = agrees_left role m s t halted answer out same sound stayed agrees;
    }

-- # A loss of power to come

-- the keeper with this loss of power to come
abbrev cut_in : Store → Cut → Store
cut_in s cut = record s { known_cut = Some (Some cut) }

-- the station over another keeper
abbrev pub over : Store → State StationMemory → State StationMemory
over k s = record s { store = k }

module _ (role : Role) (m : Memory) (u s : State StationMemory) (k new : Store) (cut : Cut) (same : s ≡ u) (kept : k ≡ s.store) (is : new ≡ cut_in k cut) where
  cut_is : over new s ≡ over (cut_in u.store cut) u
  cut_is = ap (λ (n : Store). over n s) (is ∙ ap (λ (n : Store). cut_in n cut) kept) ∙ ap (λ (z : State StationMemory). over (cut_in z.store cut) z) same

  pub cut_took : Took (stays (record (node_in role (holder m u)) { store = record (stored_in u.store) { cut = Some cut } }) answers.Set) answers.Set nothing
      (node_in role (holder m (over new s)))
  cut_took = record { answer_is = refl; out_is = refl; node_is = ap (λ (z : State StationMemory). node_in role (holder m z)) cut_is }

  pub cut_sound : IsSound role (holder m u) → IsSound role (holder m (over new s))
  cut_sound sound =
      subst (λ (z : State StationMemory). IsSound role (holder m z)) (sym cut_is)
      (record { known_cut = (cc); tables = sound.tables; home = sound.home; agrees = sound.agrees })

-- # What is looked up

-- what a station says of what it holds, its node says
pub node_says : {A : Type 0} (m : Memory) (s : State StationMemory) (f : StationMemory → A) (none r : A) → r ≡ option_map_or f s.memory none
    → r ≡ option_map_or (λ (n : Memory). f n.station) (holder m s).memory none
node_says {A} m s f none r h = h ∙ by s.memory
  where
    by : (o : Option StationMemory) → option_map_or f o none ≡ option_map_or (λ (n : Memory). f n.station) (option_map (λ l. with_station l m) o) none
    by None = refl
    by (Some l) = refl

-- a halted station says nothing
pub halted_says : {A : Type 0} (o : Option StationMemory) (f : StationMemory → A) (none : A) → o ≡ None → none ≡ option_map_or f o none
halted_says o f none e = ap (λ (k : Option StationMemory). option_map_or f k none) (sym e)

-- one that runs says it of its routing
pub running_says : {A : Type 0} (o : Option StationMemory) (f : routing.Routing → A) (t : routing.Routing) (none r : A) → IsSome o
    → IfSome o (λ l. t ≡ l.routing) → r ≡ f t
    → r ≡ option_map_or (λ l. f l.routing) o none
running_says None f t none r is h e = absurd (cc)
running_says (Some l) f t none r is h e = e ∙ ap f h

-- what is shown of a station
pub shows : (o : Option StationMemory) (out : Shown) → (o ≡ None → out ≡ nothing_shown) → IfSome o (λ l. out ≡ shown_station l)
    → out ≡ option_map_or shown_station o nothing_shown
shows None out none some = none refl
shows (Some l) out none some = some
