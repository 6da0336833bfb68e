-- Whether a command goes out at once, of what the station says of routes and room.
use Rattle.std.proofs.Common.{◌≡◌, ℕ, Bool, true, false, Option, Some, None, Result, Ok, Err, refl, sym, ap, ◌∙◌, arith}
use Rattle.std.specs.Prelude.{◌&&◌, nat_lt, is_some}
use Rattle.std.specs.Option.{option_map, option_and_then}
use Rattle.std.proofs.lemmas.Bool.Decides.{nat_tests}
use Rattle.plc_base.specs.Faults.{◌when◌}
use Rattle.plc_base.specs.Grant.{Granted}
use Rattle.group_keys.specs.KeyRing.{Ring}
use Rattle.routing_set.specs.RoutingSet.{held}
use Rattle.node_rules.specs.declared.refusal.SendRefusal.{SendRefusal}
use Rattle.node_rules.specs.declared.refusal.SendRefusal.TheVariants.{CounterSpent}
use Rattle.node_rules.specs.declared.refusal.CoordinatorRefusal.{CoordinatorRefusal}
use Rattle.node_rules.specs.Memory.{StationMemory, address_of, next_hop}
use Rattle.node_rules.specs.Drafts.{Lack, OfRoom, OfNumbers, lack, counters_left}
use Rattle.node_rules.specs.Calls as calls
use Rattle.node_rules.specs.Neighbours.{valid_route}
use Rattle.node_rules.specs.Calls.{command_fault}
use Rattle.node_rules.specs.ComposedPlans.{HasRoom}
use Rattle.node_rules.specs.Coordinators.{orders, lacking}
use Rattle.node_rules.proofs.ComposedPlans.{room_fault_as, has_room}
use Rattle.plc_station.specs.Rooms.{room_answer}
use Rattle.coordinator.specs.OrderAnswers.{order_refusal}

both : (a b : Bool) → (a && b) ≡ true → (a ≡ true) × (b ≡ true)
both true true e = (refl, refl)
both true false e = cc
both false b e = cc

some_left : (n : ℕ) → nat_lt 0 n ≡ true → nat_lt n 1 ≡ false
some_left n e = grind (arith, nat_tests)

none_left : (n : ℕ) → nat_lt n 1 ≡ true → false ≡ nat_lt 0 n
none_left n e = grind (arith, nat_tests)

one_left : (n : ℕ) → nat_lt n 1 ≡ false → true ≡ nat_lt 0 n
one_left n e = grind (arith, nat_tests)

module _ (l : StationMemory) (to : ℕ) where
  -- by a route, with a counter, each command has room
  pub reached_room : (octets : ℕ) → (is_some (next_hop l to) && nat_lt 0 (counters_left l)) ≡ true → HasRoom l to octets
  unfolding lack
  reached_room octets e =
      let b = both (is_some (next_hop l to)) (nat_lt 0 (counters_left l)) e in
      record { lacks = rw (b.0) refl; left = rw (b.0) (some_left (counters_left l) b.1) }

  pub no_route : address_of l ≡ Some 0 → None ≡ valid_route l to → false ≡ (is_some (next_hop l to) && nat_lt 0 (counters_left l))
  no_route home none = by (λ hop. (hop, (held l.routing to).cost)) l.ring (next_hop l to) home none
    where
      by : (f : ℕ → ℕ × ℕ) (r : Ring) (hop : Option ℕ) → option_map (λ (g : Granted). g.address) r ≡ Some 0
          → ◌≡◌ {A = Option (ℕ × ℕ)} None (option_map f (option_and_then (λ _. hop) r))
          → false ≡ (is_some hop && nat_lt 0 (counters_left l))
      by f None hop h n = absurd (cc)
      by f (Some g) None h n = refl
      by f (Some g) (Some x) h n = absurd (cc)

  pub route : (x : ℕ × ℕ) → address_of l ≡ Some 0 → Some x ≡ valid_route l to → is_some (next_hop l to) ≡ true
  route x home some = by (λ hop. (hop, (held l.routing to).cost)) l.ring (next_hop l to) home some
    where
      by : (f : ℕ → ℕ × ℕ) (r : Ring) (hop : Option ℕ) → option_map (λ (g : Granted). g.address) r ≡ Some 0
          → Some x ≡ option_map f (option_and_then (λ _. hop) r) → is_some hop ≡ true
      by f None hop h n = absurd (cc)
      by f (Some g) None h n = absurd (cc)
      by f (Some g) (Some y) h n = refl

  -- what the station says of the room, where it has an address
  pub at_home : (octets : ℕ) → address_of l ≡ Some 0 → calls.room l to octets ≡ calls.room_fault l to octets
  at_home octets home = rw home refl

  by_route : (octets : ℕ) → is_some (next_hop l to) ≡ true → calls.room_fault l to octets ≡ (Some CounterSpent when nat_lt (counters_left l) 1)
  unfolding lack
  by_route octets hop = rw hop refl

  is_few : (few : Bool) (reason : SendRefusal) → ◌≡◌ {A = Result (Unit {0}) SendRefusal} (Err reason) (room_answer (Some CounterSpent when few)) → few ≡ true
  is_few true reason h = refl
  is_few false reason h = absurd (cc)

  is_enough : (few : Bool) (u : Unit {0}) → ◌≡◌ {A = Result (Unit {0}) SendRefusal} (Ok u) (room_answer (Some CounterSpent when few)) → few ≡ false
  is_enough true u h = absurd (cc)
  is_enough false u h = refl

  pub no_counter : (x : ℕ × ℕ) (octets : ℕ) (reason : SendRefusal) → address_of l ≡ Some 0 → Some x ≡ valid_route l to
      → Err reason ≡ room_answer (calls.room l to octets)
      → false ≡ (is_some (next_hop l to) && nat_lt 0 (counters_left l))
  no_counter x octets reason home some room =
      let hop = route x home some in
      let few = is_few (nat_lt (counters_left l) 1) reason (room ∙ ap room_answer (at_home octets home ∙ by_route octets hop)) in
      none_left (counters_left l) few ∙ ap (λ (b : Bool). b && nat_lt 0 (counters_left l)) (sym hop)

  pub reached : (x : ℕ × ℕ) (octets : ℕ) (u : Unit {0}) → address_of l ≡ Some 0 → Some x ≡ valid_route l to → Ok u ≡ room_answer (calls.room l to octets)
      → true ≡ (is_some (next_hop l to) && nat_lt 0 (counters_left l))
  reached x octets u home some room =
      let hop = route x home some in
      let few = is_enough (nat_lt (counters_left l) 1) u (room ∙ ap room_answer (at_home octets home ∙ by_route octets hop)) in
      one_left (counters_left l) few ∙ ap (λ (b : Bool). b && nat_lt 0 (counters_left l)) (sym hop)

  -- # Room for a command

  same_lack : (x : Lack) → order_refusal (calls.lacking x) ≡ lacking x
  same_lack OfRoom = refl
  same_lack OfNumbers = refl

  is_none : (o : Option SendRefusal) (u : Unit {0}) → ◌≡◌ {A = Result (Unit {0}) SendRefusal} (Ok u) (room_answer o) → o ≡ None
  is_none None u h = refl
  is_none (Some x) u h = absurd (cc)

  pub is_some_of : (o : Option SendRefusal) (reason : SendRefusal) → ◌≡◌ {A = Result (Unit {0}) SendRefusal} (Err reason) (room_answer o) → o ≡ Some reason
  is_some_of None reason h = absurd (cc)
  is_some_of (Some x) reason h = cc

  pub command_room : (octets : ℕ) (u : Unit {0}) → address_of l ≡ Some 0 → Ok u ≡ room_answer (calls.room l to octets) → HasRoom l to octets
  command_room octets u home room = has_room to octets l (sym (at_home octets home) ∙ is_none (calls.room l to octets) u room)

  pub command_lacks : (octets : ℕ) (reason : SendRefusal) (said : CoordinatorRefusal) → address_of l ≡ Some 0
      → Err reason ≡ room_answer (calls.room l to octets) → said ≡ order_refusal reason
      → command_fault orders lacking l to octets ≡ Some said
  command_lacks octets reason said home room is =
      sym (room_fault_as to octets orders lacking order_refusal l same_lack refl)
      ∙ ap (option_map order_refusal) (sym (at_home octets home) ∙ is_some_of (calls.room l to octets) reason room) ∙ ap Some (sym is)
