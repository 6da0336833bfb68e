-- A command for the neighbours that comes, and is not forged, is that of a flight, and a node that hears it is as it was.
use Rattle.std.proofs.Common.{⊎_elim, ◌≡◌, ℕ, Bool, true, false, List, Option, Some, None, Result, Ok, Err, refl, sym, ap, ◌∙◌, subst}
use Rattle.std.specs.Prelude.{◌==◌, ◌&&◌, ◌||◌, not, All, if◌then◌else◌, slice_get}
use Rattle.std.specs.Option.{option_map_or}
use Rattle.std.proofs.lemmas.Bool.{eqb-true}
use Rattle.std.proofs.lemmas.Option.{same_Some, none-some}
use Rattle.plc_base.specs.declared.address.Eui.{Eui}
use Rattle.plc_base.specs.declared.key.Key.{Key}
use Rattle.plc_base.specs.declared.address.TheConstants.{PAN}
use Rattle.plc_base.specs.Fields.{AreOctets}
use Rattle.mac_frames.specs.declared.head.MacHead.{MacHead}
use Rattle.mac_frames.specs.declared.head.MacHead.TheVariants as heads
use Rattle.mesh_header.specs.declared.unit.Unit.{Unit as MeshUnit}
use Rattle.mesh_header.specs.declared.unit.Unit.TheVariants as units
use Rattle.mesh_header.specs.Reader.{unit_in}
use Rattle.node_rules.specs.Accepted.{Accepted}
use Rattle.node_rules.specs.declared.heard.Heard.TheVariants as heard_words
use Rattle.node_rules.specs.declared.heard.Path.{Path}
use Rattle.node_rules.specs.declared.heard.Path.TheVariants as paths
use Rattle.node_rules.specs.declared.refusal.Dropped.TheVariants as drops
use Rattle.node_rules.specs.declared.refusal.FrameRefusal.{FrameRefusal}
use Rattle.node_rules.specs.declared.refusal.FrameRefusal.TheVariants as frames
use Rattle.node_rules.specs.Acceptance.{Accepting, accept, accept_head, is_for_me, is_own, marking, refuse}
use Rattle.node_rules.specs.Ciphers.{Ciphers, network}
use Rattle.node_rules.specs.Coordinators as coordinator_rules
use Rattle.node_rules.specs.Drafts.{choose as choose_plan}
use Rattle.node_rules.specs.Frames.{Arrived, arrived, to_all}
use Rattle.node_rules.specs.HearingRules.{Hearing, hear, hear_sealed, drop_it, hear_unit_in}
use Rattle.node_rules.specs.Memory.{StationMemory, Memory, Node, Role, Coordinator, Meter, address_of}
use Rattle.node_rules.specs.MemoryDrafts.{unread}
use Rattle.node_rules.specs.Meters as meters
use Rattle.node_rules.specs.NodeSteps.{NodeStep, acts, answering, left_by, of_station, stays}
use Rattle.node_rules.specs.Plans.{Plan, carry_out, resting}
use Rattle.node_rules.specs.Laws.{IsWhole, IsCutOff}
use Rattle.node_rules.proofs.FailedWrites.{clean}
use Rattle.reach_rules.specs.FurtherReceptions.{NeighbourCommand, command_of, command_on, command_with}
use Rattle.line_rules.specs.Answers.{Reception, coordinator_reception, meter_reception}
use Rattle.line_rules.specs.Forgery.{accepting}
use Rattle.line_rules.specs.Steps.{forged_by, hearing_step, identity}
use Rattle.line_rules.specs.Worlds.{World, Flight}
use Rattle.line_laws.proofs.Answered.{acts_answered}
use Rattle.line_laws.proofs.CoordinatorCalls.{accept_failed}
use Rattle.line_laws.proofs.CustodyDeliver.{flown}
use Rattle.line_laws.proofs.FlightsSay.{FlightSays}
use Rattle.line_laws.proofs.LetterAccepts.{to_of}
use Rattle.line_laws.proofs.StorableGrants.{network_ranges}
use Rattle.line_laws.proofs.ReachSteps.{after_accepting, heard_node}
use Rattle.line_laws.proofs.StoreMarks.{Accepts, IsAdmitted, IsPlain, Turned, Plain, Marked, accept_is}
use Rattle.line_laws.proofs.Worlds.{at_place}

-- # What a plan left

-- A node that is not halted has carried its plan out.
pub record LeftBy {A : Type 0} (x : Node) (plan : Memory → Plan Memory A) (n : Memory) : Type 0 where
  pub memory : Memory
  pub there : x.memory ≡ Some memory
  pub left : (plan memory).memory ≡ n

pub acts_left : {A : Type 0} (x : Node) (halted : A) (plan : Memory → Plan Memory A) (n : Memory) → (acts x halted plan).node.memory ≡ Some n → LeftBy x plan n
unfolding acts
acts_left {A} x halted plan n = by_memory x.memory refl
  where
    by_outcome : (m : Memory) → x.memory ≡ Some m → (carry_out x.store.records x.store.cut (plan m)).memory ≡ Some n → LeftBy x plan n
    by_outcome m there e = ⊎_elim
        (λ (w : IsWhole x.store.records x.store.cut (plan m) (carry_out x.store.records x.store.cut (plan m))). record
        { memory = m; there = there; left = same_Some _ _ (sym w.memory ∙ e) })
        (λ (c : IsCutOff x.store.records x.store.cut (plan m) (carry_out x.store.records x.store.cut (plan m))). absurd (none-some n (sym c.memory ∙ e)))
        (clean x.store.records x.store.cut (plan m))

    by_memory : (o : Option Memory) → x.memory ≡ o → (option_map_or (λ m. left_by x (carry_out x.store.records x.store.cut (plan m))) o
        (stays x halted)).node.memory ≡ Some n → LeftBy x plan n
    by_memory None there e = absurd (none-some n (sym there ∙ e))
    by_memory (Some m) there e = by_outcome m there e

-- # Accepting and hearing leave the address

accept_address : (l : StationMemory) (own : Eui) (a : Option Arrived) → address_of (accept l own a).memory ≡ address_of l
unfolding resting marking
accept_address l own a = by_form _ (accept_is l own a)
  where
    by_form : (p : Accepting) → Accepts l a p → address_of p.memory ≡ address_of l
    by_form p (Turned reason) = refl
    by_form p (Plain got plain) = refl
    by_form p (Marked from counter got x) = refl

-- a station changes nothing of a command
station_leaves : (l : StationMemory) (got : Accepted) (cost note now : ℕ) (c : NeighbourCommand) → command_of got ≡ Some c
    → ((hear l got cost note now).memory ≡ l) × (unread (hear l got cost note now).answer ≡ None)
unfolding resting choose_plan
station_leaves l got cost note now c e = by_path got.path (unit_in got.payload) e
  where
    Leaves : Hearing → Type 0
    Leaves p = (p.memory ≡ l) × (unread p.answer ≡ None)

    by_code : (own from : ℕ) (all : Bool) (code : ℕ) (body : List ℕ) (s t : Bool) (m p : Hearing)
        → (if s then None else (if t then None else Some (record { from = from; to_all = all; code = code; body = body }))) ≡ Some c
        → Leaves (if s then m else (if t then p else resting l (Ok (heard_words.Local from all code body)) (Err drops.Store)))
    by_code own from all code body true t m p is = absurd (cc (is))
    by_code own from all code body false true m p is = absurd (cc (is))
    by_code own from all code body false false m p is = (refl, refl)

    by_address : (o : Option ℕ) (from : ℕ) (all : Bool) (unit : MeshUnit) → command_with from all (Some unit) ≡ Some c
        → Leaves (option_map_or (λ a. hear_sealed l a from all unit cost note now) o (drop_it l drops.BadUnit))
    by_address None from all unit is = (refl, refl)
    by_address (Some own) from all (units.Local code body) is = by_code own from all code body (code == 1) (code == 2) _ _ is
    by_address (Some own) from all (units.Whole mesh octets) is = absurd (cc (is))
    by_address (Some own) from all (units.Part mesh piece) is = absurd (cc (is))
    by_address (Some own) from all (units.Carried mesh body) is = absurd (cc (is))

    by_path : (p : Path) (o : Option MeshUnit) → command_on p o ≡ Some c → Leaves (hear_unit_in l p o cost note now)
    by_path p None is = (refl, refl)
    by_path (paths.Sealed from all key) (Some unit) is = by_address (address_of l) from all unit is
    by_path (paths.Up from) (Some unit) is = absurd (cc (is))
    by_path (paths.Down from) (Some unit) is = absurd (cc (is))

-- The node that accepted it had this address.
pub record HadAddress (x : Node) (address : Option ℕ) : Type 0 where
  pub memory : Memory
  pub there : x.memory ≡ Some memory
  pub same : address ≡ address_of memory.station

module _ (ciphers : Ciphers) (x : Node) (got : Accepted) (cost note now : ℕ) (c : NeighbourCommand) (e : command_of got ≡ Some c) where
  abbrev hears_as : Role → NodeStep Reception
  hears_as Coordinator = answering coordinator_reception (acts x (Err drops.Store)
      (λ m. coordinator_rules.hear_coordinator (record { eui = x.eui; ciphers = ciphers }) m got cost note now))
  hears_as (Meter psk) = answering meter_reception (acts x (Err drops.Store) (λ m. meters.hear_meter (identity ciphers x psk) m got cost note now))

  by_role : (r : Role) (n : Memory) → (hears_as r).node.memory ≡ Some n → HadAddress x (address_of n.station)
  by_role Coordinator n here =
      let own : coordinator_rules.CoordinatorIdentity = record { eui = x.eui; ciphers = ciphers } in
      let l = acts_left x (Err drops.Store) (λ m. coordinator_rules.hear_coordinator own m got cost note now) n here in
      let s = station_leaves l.memory.station got cost note now c e in
      let stays : (coordinator_rules.hear_coordinator own l.memory got cost note now).memory.station ≡ l.memory.station =
      subst (λ o. (coordinator_rules.heard_by own l.memory now (hear l.memory.station got cost note now) o).memory.station ≡ l.memory.station) (sym s.1) s.0 in
      record { memory = l.memory; there = l.there; same = ap (λ (m : Memory). address_of m.station) (sym l.left) ∙ ap address_of stays }
  by_role (Meter psk) n here =
      let l = acts_left x (Err drops.Store) (λ m. meters.hear_meter (identity ciphers x psk) m got cost note now) n here in
      let s = station_leaves l.memory.station got cost note now c e in
      let stays : (meters.hear_meter (identity ciphers x psk) l.memory got cost note now).memory.station ≡ l.memory.station =
      subst (λ o. (meters.heard_by (identity ciphers x psk) l.memory now (hear l.memory.station got cost note now) o).memory.station ≡ l.memory.station)
      (sym s.1) s.0 in
      record { memory = l.memory; there = l.there; same = ap (λ (m : Memory). address_of m.station) (sym l.left) ∙ ap address_of stays }

  pub hears_leaves : (n : Memory) → (hearing_step ciphers x got cost note now).node.memory ≡ Some n → HadAddress x (address_of n.station)
  hears_leaves n here = by_role x.role n here

-- the address of a node that has heard a command is the one at which it accepted it
pub address_stays : (ciphers : Ciphers) (w : World) (x : Node) (octets : List ℕ) (got : Accepted) (cost : ℕ) (c : NeighbourCommand) → command_of got ≡ Some c
    → (n : Memory) → (heard_node ciphers w x octets got cost).node.memory ≡ Some n → HadAddress x (address_of n.station)
address_stays ciphers w x octets got cost c e n here =
    let h = hears_leaves ciphers (after_accepting ciphers x octets) got cost _ w.clock c e n here in
    let l = acts_left x (Err frames.Halted) (λ m. of_station m (accept m.station x.eui (arrived ciphers octets))) h.memory h.there in
    record {
      memory = l.memory;
      there = l.there;
      same = h.same ∙ ap (λ (m : Memory). address_of m.station) (sym l.left) ∙ accept_address l.memory.station x.eui
          (arrived ciphers octets);
    }

-- # What came

-- A command came in a flight, to all or to the own address.
pub record CommandCame (w : World) (x : Node) (octets : List ℕ) (c : NeighbourCommand) : Type 0 where
  pub memory : Memory
  pub there : x.memory ≡ Some memory
  pub frame : Arrived
  pub arrives : arrived network octets ≡ Some frame
  pub key : Key
  pub payload : List ℕ
  pub opened : frame.opened key ≡ Some payload
  pub read : unit_in payload ≡ Some (units.Local c.code c.body)
  pub all : c.to_all ≡ (to_of frame.head == to_all)
  pub own : c.to_all ≡ false → address_of memory.station ≡ Some (to_of frame.head)
  pub place : ℕ
  pub flight : Flight
  pub flew : slice_get w.flights place ≡ Some flight
  pub octets_are : flight.octets ≡ octets
  pub key_is : flight.key ≡ Some key

-- what is said of every flight is said of the command
pub command_says : (P : ℕ → MeshUnit → Type 0) (w : World) (x : Node) (octets : List ℕ) (c : NeighbourCommand) (came : CommandCame w x octets c)
    → All (FlightSays P) w.flights → P (to_of came.frame.head) (units.Local c.code c.body)
command_says P w x octets c came all =
    let f : FlightSays P came.flight = at_place (FlightSays P) w.flights came.place came.flight came.flew all in
    f.says came.key came.frame came.payload (units.Local c.code c.body) came.key_is (ap (arrived network) came.octets_are ∙ came.arrives) came.opened came.read

-- which unit and path a command has
record IsCarried (path : Path) (payload : List ℕ) (c : NeighbourCommand) (key : Key) : Type 0 where
  path_is : path ≡ paths.Sealed c.from c.to_all key
  unit_is : unit_in payload ≡ Some (units.Local c.code c.body)

carried : (from : ℕ) (all : Bool) (key : Key) (payload : List ℕ) (c : NeighbourCommand) → command_on (paths.Sealed from all key) (unit_in payload) ≡ Some c
    → IsCarried (paths.Sealed from all key) payload c key
carried from all key payload c = by_unit (unit_in payload) refl
  where
    by_code : (code : ℕ) (body : List ℕ) (s t : Bool) → unit_in payload ≡ Some (units.Local code body)
        → (if s then None else (if t then None else Some (record { from = from; to_all = all; code = code; body = body }))) ≡ Some c
        → IsCarried (paths.Sealed from all key) payload c key
    by_code code body true t u is = absurd (cc (is))
    by_code code body false true u is = absurd (cc (is))
    by_code code body false false u is = subst (λ (d : NeighbourCommand). IsCarried (paths.Sealed from all key) payload d key) (same_Some _ _ is)
        (record { path_is = refl; unit_is = u })

    by_unit : (o : Option MeshUnit) → unit_in payload ≡ o → command_with from all o ≡ Some c → IsCarried (paths.Sealed from all key) payload c key
    by_unit None u is = absurd (cc (is))
    by_unit (Some (units.Local code body)) u is = by_code code body (code == 1) (code == 2) u is
    by_unit (Some (units.Whole mesh octets)) u is = absurd (cc (is))
    by_unit (Some (units.Part mesh piece)) u is = absurd (cc (is))
    by_unit (Some (units.Carried mesh body)) u is = absurd (cc (is))

own_is : (l : StationMemory) (to : ℕ) → is_own l to ≡ true → address_of l ≡ Some to
own_is l to = by_address (address_of l)
  where
    by_address : (o : Option ℕ) → option_map_or (λ own. own == to) o false ≡ true → o ≡ Some to
    by_address None e = absurd (cc (e))
    by_address (Some own) e = ap Some (eqb-true own to e)

-- a frame to one node that is for this one goes to its address
to_one : (l : StationMemory) (own : Eui) (head : MacHead) (ack : Bool) (seq pan to from counter index : ℕ)
    → head ≡ heads.Sealed ack seq pan to from counter index → is_for_me l own head ≡ true → (to == to_all) ≡ false → address_of l ≡ Some to
to_one l own head ack seq pan to from counter index is for_me one = own_is l to
    (by_tests (pan == PAN) (is_own l to) (to == to_all) (not (is_own l from)) (subst (λ h. is_for_me l own h ≡ true) is for_me) one)
  where
    by_tests : (p o a n : Bool) → (p && ((o || a) && n)) ≡ true → a ≡ false → o ≡ true
    by_tests false o a n e f = absurd (cc (e))
    by_tests true true a n e f = refl
    by_tests true false true n e f = absurd (cc (f))
    by_tests true false false n e f = absurd (cc (e))

-- what is accepted is for this node
for_this : (l : StationMemory) (own : Eui) (a : Arrived) (got : Accepted) → (accept l own (Some a)).answer ≡ Ok got → is_for_me l own a.head ≡ true
unfolding resting
for_this l own a got = by_test (is_for_me l own a.head)
  where
    by_test : (t : Bool) → (if t then accept_head l a a.head else refuse l frames.NotForMe).answer ≡ Ok got → t ≡ true
    by_test true e = refl
    by_test false e = absurd (cc (e))

module _ (w : World) (x : Node) (octets : List ℕ) (got : Accepted) (c : NeighbourCommand) (e : command_of got ≡ Some c)
    (honest : forged_by w octets got.path ≡ false) where
  admitted_came : (m : Memory) → x.memory ≡ Some m → (accept m.station x.eui (arrived network octets)).answer ≡ Ok got → (from counter : ℕ)
      → IsAdmitted m.station (arrived network octets) from counter got → CommandCame w x octets c
  admitted_came m there answer from counter a =
      let path : got.path ≡ paths.Sealed from (a.to == to_all) a.key = ap (λ (g : Accepted). g.path) a.got_is in
      let payload : got.payload ≡ a.payload = ap (λ (g : Accepted). g.payload) a.got_is in
      let k : IsCarried (paths.Sealed from (a.to == to_all) a.key) a.payload c a.key = carried from (a.to == to_all) a.key a.payload c
      (subst (λ (g : Accepted). command_of g ≡ Some c) a.got_is e) in
      let f = flown w.flights octets a.key (ap (forged_by w octets) (sym path) ∙ honest) in
      let to : to_of a.frame.head ≡ a.to = ap to_of a.head.3 in
      let all : c.to_all ≡ (a.to == to_all) = sym (ap all_in k.path_is) in
      record {
        memory = m;
        there = there;
        frame = a.frame;
        arrives = a.is;
        key = a.key;
        payload = a.payload;
        opened = a.opened;
        read = k.unit_is;
        all = all ∙ ap (λ n. n == to_all) (sym to);
        own = λ one. to_one m.station x.eui a.frame.head a.head.0 a.head.1 a.head.2 a.to from counter a.index a.head.3
            (for_this m.station x.eui a.frame got (ap (λ o. (accept m.station x.eui o).answer) (sym a.is) ∙ answer)) (sym all ∙ one) ∙ ap Some (sym to);
        place = f.place;
        flight = f.flight;
        flew = f.there;
        octets_are = f.octets_are;
        key_is = f.key_is;
      }
    where
      all_in : Path → Bool
      all_in (paths.Sealed by all key) = all
      all_in (paths.Up by) = false
      all_in (paths.Down by) = false

  accepted_came : (m : Memory) → x.memory ≡ Some m → (p : Accepting) → p ≡ accept m.station x.eui (arrived network octets)
      → Accepts m.station (arrived network octets) p → p.answer ≡ Ok got → CommandCame w x octets c
  unfolding resting marking
  accepted_came m there p is (Turned reason) answer = absurd (cc (answer))
  accepted_came m there p is (Plain g plain) answer = let same : g ≡ got = cc in absurd
      (none_plain got.path (unit_in got.payload) (subst (λ (h : Accepted). IsPlain h.path) same plain.path) e)
    where
      none_plain : (path : Path) (o : Option MeshUnit) → IsPlain path → command_on path o ≡ Some c → ⊥
      none_plain (paths.Sealed by all key) o h is = absurd h
      none_plain (paths.Up by) o h is = cc (is)
      none_plain (paths.Down by) o h is = cc (is)
  accepted_came m there p is (Marked from counter g a) answer =
      let same : g ≡ got = cc in
      admitted_came m there (ap (λ (q : Accepting). q.answer) (sym is) ∙ answer) from counter
      (subst (IsAdmitted m.station (arrived network octets) from counter) same a)

  pub command_came : (accepting network x octets).answer ≡ Ok got → AreOctets octets → CommandCame w x octets c
  command_came is are =
      let plan : Memory → Plan Memory (Result Accepted FrameRefusal) = λ m. of_station m (accept m.station x.eui (arrived network octets)) in
      let a = acts_answered x frames.Halted frames.Store plan (λ m. accept_failed network network_ranges octets are m.station _
      (accept_is m.station x.eui (arrived network octets))) got is in
      accepted_came a.memory a.there _ refl (accept_is a.memory.station x.eui (arrived network octets)) a.is
