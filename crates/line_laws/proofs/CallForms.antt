-- How the plans of accepting, sending, and of the workshop are made.
use Rattle.std.proofs.Common.{◌≡◌, ℕ, ◌+◌, ◌≤◌, ◌<◌, Bool, true, false, List, [], ◌∷◌, ◌++◌, Option, Some, None, length, refl, ◌∙◌, arith}
use Rattle.std.specs.Prelude.{◌==◌, ◌||◌, if◌then◌else◌, nat_lt, nat_le, not}
use Rattle.std.specs.Option.{option_map}
use Rattle.std.proofs.lemmas.Bool.{ltb-false, eqb-false, or_parts}
use Rattle.plc_base.specs.Faults.{◌then◌, ◌when◌}
use Rattle.plc_base.specs.declared.key.Key.{Key}
use Rattle.plc_base.specs.declared.key.RandomOctets.{RandomOctets}
use Rattle.plc_base.specs.Grant.{Granted}
use Rattle.plc_base.specs.declared.address.Eui.{Eui}
use Rattle.routing_set.specs.RoutingSet as routing
use Rattle.node_rules.specs.declared.refusal.SendRefusal.TheVariants as sends
use Rattle.node_rules.specs.declared.refusal.PresetFault.TheVariants as presets
use Rattle.node_rules.specs.Memory.{StationMemory, Memory, Datagram, address_of, next_hop}
use Rattle.node_rules.specs.Acceptance.{is_own}
use Rattle.node_rules.specs.Drafts.{Draft, Lack, alone, empty_draft, with_rank, with_ring, with_next_tag, lack, refused}
use Rattle.node_rules.specs.Calls.{sending_ends, lacking, tag_taken, send_fault, send_from, send, ringing_ends, install, presetting_ends, near_rank}
use Rattle.node_rules.specs.Calls.{preset_fault, preset_near}
use Rattle.node_rules.specs.MemoryDrafts.{in_memory, with_memory_by, given_ends, give_random}
use Rattle.node_rules.proofs.Sizes.{pending, load_bound}
use Rattle.node_rules.proofs.Words.{IsDone, Fits, begun_fits, tagged_fits, sets_out_fits, remembered_fits, quiet_done}
use Rattle.line_laws.proofs.Planned.{Planned, Refuses, checked_planned, choose_planned, sealed_planned, option_planned, sealing_planned}
use Rattle.line_laws.proofs.Made.{RingWord, Carry, IsAlone, Alone, Install, Given, ByItself, RankFits, TakesTag, Made, Starts, Ranks, Tags, Rings, Installs}
use Rattle.line_laws.proofs.MadeIn.{MadeIn, Begins, Remembers, Gives}
use Rattle.line_laws.proofs.SetsOut.{LacksNothing, lacks_nothing, sets_out_made}
use Rattle.line_laws.proofs.MemoryDraftForms.{AnyAnswer, MadeBy}

-- At most 24 units and plain frames, where what waits is at most 21 units.
pub record Few {M : Type 0} (l : StationMemory) (d : Draft M) : Type 0 where
  pub few : pending l ≤ 21 → length d.units + length d.plain ≤ 24

-- What the tests of a send say.
pub record SendPasses (l : StationMemory) (to : ℕ) (datagram : List ℕ) : Type 0 where
  pub some : 0 < length datagram
  pub short : length datagram ≤ 1280
  pub other : is_own l to ≡ false
  pub lacks : LacksNothing l to (length datagram)

pub send_passes : (l : StationMemory) (to : ℕ) (datagram : List ℕ) → send_fault l to datagram ≡ None → SendPasses l to datagram
send_passes l to datagram = by_tests ((length datagram == 0) || nat_lt 1280 (length datagram)) (is_own l to) (lack l to (length datagram)) refl refl refl
  where
    some_of : (n : ℕ) → (n == 0) ≡ false → 0 < n
    some_of n e = omega (arith, eqb-false _ _ e)

    by_tests : (a b : Bool) (c : Option Lack) → ((length datagram == 0) || nat_lt 1280 (length datagram)) ≡ a → is_own l to ≡ b
        → lack l to (length datagram) ≡ c
        → (Some sends.BadSize when a then Some sends.ToSelf when b then option_map lacking c) ≡ None → SendPasses l to datagram
    by_tests true b c ea eb ec e = absurd (cc)
    by_tests false true c ea eb ec e = absurd (cc)
    by_tests false false (Some x) ea eb ec e = absurd (cc)
    by_tests false false None ea eb ec e =
        let parts = or_parts _ _ ea in
        record { some = some_of (length datagram) parts.0; short = ltb-false _ _ parts.1; other = eb; lacks = lacks_nothing l to (length datagram) ec }

-- What the tests of a neighbour say.
near_fits : (l : StationMemory) (to cost now : ℕ) → preset_fault l to cost now ≡ None → RankFits l.routing to (near_rank cost) now
near_fits l to cost now = by_tests (routing.is_better l.routing to (near_rank cost)) (routing.is_full l.routing to now) refl refl
  where
    by_tests : (a b : Bool) → routing.is_better l.routing to (near_rank cost) ≡ a → routing.is_full l.routing to now ≡ b
        → (Some presets.NotBetter when not a then Some presets.RoutesFull when b) ≡ None → RankFits l.routing to (near_rank cost) now
    by_tests true false ea eb e = record { better = ea; room = eb }
    by_tests false b ea eb e = absurd (cc)
    by_tests true true ea eb e = absurd (cc)

abbrev pub Nothing : {M H : Type 0} → M → H → Type 0
Nothing n answer = ⊥

module _ (W : RingWord → Type 0) (g : Given) (l : StationMemory) where
  abbrev pub MadeFew : {H : Type 0} → Draft StationMemory → H → Type 0
  MadeFew d said = Made W g (empty_draft l) d × Few l d

  abbrev alone_station : StationMemory
  alone_station = record l { waiting = [] }

  alone_few : (d : Draft StationMemory) → Fits alone_station 4 3 d → Few l d
  alone_few d f = let n = f.count in record { few = λ h. omega arith }

  tag_fits : (octets : List ℕ) → Fits alone_station 0 2 (tag_taken octets (empty_draft l))
  tag_fits octets = by_size (nat_le (length octets) 375)
    where
      by_size : (b : Bool) → Fits alone_station 0 2 (if b then empty_draft l else with_next_tag (empty_draft l))
      by_size true = begun_fits alone_station 2 l
      by_size false = tagged_fits alone_station (empty_draft l) (begun_fits alone_station 1 l)

  takes_tag : (to : ℕ) (octets : List ℕ) → W (Carry to g.note (Datagram octets l.next_tag)) → TakesTag W (empty_draft l) (empty_draft l)
  unfolding empty_draft
  takes_tag to octets carried = record { to = to; note = g.note; datagram = octets; carries = carried; same = refl }

  tag_made : (to : ℕ) (octets : List ℕ) → W (Carry to g.note (Datagram octets l.next_tag)) → Made W g (empty_draft l) (tag_taken octets (empty_draft l))
  tag_made to octets carried = by_size (nat_le (length octets) 375)
    where
      by_size : (b : Bool) → Made W g (empty_draft l) (if b then empty_draft l else with_next_tag (empty_draft l))
      by_size true = Starts
      by_size false = Tags (empty_draft l) Starts (takes_tag to octets carried)

  -- the tag does not matter to what a body lacks, nor to the address
  tag_same : (octets : List ℕ) (to size : ℕ) → LacksNothing l to size
      → LacksNothing (tag_taken octets (empty_draft l)).memory to size × (address_of (tag_taken octets (empty_draft l)).memory ≡ address_of l)
  unfolding empty_draft with_next_tag next_hop
  tag_same octets to size f = by_size (nat_le (length octets) 375)
    where
      by_size : (b : Bool) → let d : Draft StationMemory = (if b then empty_draft l else with_next_tag (empty_draft l)) in
          LacksNothing d.memory to size × (address_of d.memory ≡ address_of l)
      by_size true = (f, refl)
      by_size false = (record { room = f.room; number = f.number }, refl)

  -- a tag alone was taken
  tag_alone : (octets : List ℕ) (note : ℕ) → IsAlone (empty_draft l) (tag_taken octets (empty_draft l)) note
  unfolding empty_draft with_next_tag
  tag_alone octets note = by_size (nat_le (length octets) 375)
    where
      by_size : (b : Bool) → IsAlone (empty_draft l) (if b then empty_draft l else with_next_tag (empty_draft l)) note
      by_size true = Alone note refl tt
      by_size false = Alone note refl tt

  from_is : (own to : ℕ) (datagram : List ℕ) → (0 < length datagram → length datagram ≤ 1280 → W (Carry to g.note (Datagram datagram l.next_tag)))
      → address_of l ≡ Some own → Planned alone sending_ends l Nothing MadeFew (send_from l own to datagram g.note g.now)
  from_is own to datagram carried here = checked_planned (λ e.
      let p = send_passes l to datagram e in
      let same = tag_same datagram to (length datagram) p.lacks in
      sealed_planned _ _ (
        sets_out_made (empty_draft l) own to g.note (Datagram datagram l.next_tag) g.now (tag_taken datagram (empty_draft l))
            (tag_made to datagram (carried p.some p.short)) (same.1 ∙ here) same.0 p.short (carried p.some p.short) (tag_alone datagram g.note),
        alone_few _ (sets_out_fits alone_station 4 own to g.note (Datagram datagram l.next_tag) g.now (tag_taken datagram (empty_draft l)) (omega arith)
            (load_bound (Datagram datagram l.next_tag) p.short).1 (tag_fits datagram)),
      ))

  pub send_is : (to : ℕ) (datagram : List ℕ) → (0 < length datagram → length datagram ≤ 1280 → W (Carry to g.note (Datagram datagram l.next_tag)))
      → Planned alone sending_ends l Nothing MadeFew (send l to datagram g.note g.now)
  send_is to datagram carried = option_planned (λ own. send_from l own to datagram g.note g.now) (address_of l) (refused sending_ends l sends.NotJoined)
      (λ own here. from_is own to datagram carried here) (λ none. Refuses _)

  installs_made : (granted : Granted) → W (Install granted) → Made W g (empty_draft l) (with_ring (Some granted) (empty_draft l))
  installs_made granted w = Rings (Some granted) (empty_draft l) Starts (Installs granted w)

  installs_none : (granted : Granted) → ((with_ring (Some granted) (empty_draft l)).units ≡ []) × Few l (with_ring (Some granted) (empty_draft l))
  unfolding empty_draft with_ring
  installs_none granted = (refl, record { few = λ h. omega arith })

  pub install_is : (granted : Granted) → W (Install granted) → Planned alone ringing_ends l Nothing MadeFew (install l granted)
  install_is granted w =
      let none = installs_none granted in
      sealing_planned (with_ring (Some granted) (empty_draft l)) tt (installs_made granted w, none.1) (rw none.0 (omega arith))

  near_made : (to : ℕ) → g.near ≡ Some to → RankFits l.routing to (near_rank g.cost) g.now
      → Made W g (empty_draft l) (with_rank to (near_rank g.cost) to g.now (empty_draft l))
  unfolding empty_draft
  near_made to none fits = Ranks to to (near_rank g.cost) (empty_draft l) Starts (ByItself none) fits

  near_none : (to : ℕ) → ((with_rank to (near_rank g.cost) to g.now (empty_draft l)).units ≡ [])
      × Few l (with_rank to (near_rank g.cost) to g.now (empty_draft l))
  unfolding empty_draft with_rank
  near_none to = (refl, record { few = λ h. omega arith })

  pub near_is : (to : ℕ) → g.near ≡ Some to → Planned alone presetting_ends l Nothing MadeFew (preset_near l to g.cost g.now)
  near_is to still = checked_planned (λ e.
      let none = near_none to in
      sealing_planned (with_rank to (near_rank g.cost) to g.now (empty_draft l)) tt (near_made to still (near_fits l to g.cost g.now e), none.1)
      (rw none.0 (omega arith)))

module _ (W : RingWord → Type 0) (L : Granted → Type 0) (P : Eui → Key → Type 0) (E : Eui → Type 0) (g : Given) (m : Memory) where
  gives : RandomOctets → Draft Memory
  gives value = with_memory_by (λ n. record n { randoms = n.randoms ++ value ∷ [] }) (empty_draft m)

  gives_made : (value : RandomOctets) → nat_lt 7 (length m.randoms) ≡ false → MadeIn W L P E g m (gives value)
  unfolding empty_draft gives
  gives_made value room = Remembers (λ n. record n { randoms = n.randoms ++ value ∷ [] }) (empty_draft m) Begins (Gives value room)

  gives_none : (value : RandomOctets) → ((gives value).units ≡ []) × IsDone m.station (gives value)
  unfolding empty_draft with_memory_by gives
  gives_none value = (
    refl,
    quiet_done m.station _
        (remembered_fits m.station (λ n. record n { randoms = n.randoms ++ value ∷ [] }) (empty_draft m) (begun_fits m.station 1 m)),
  )

  pub random_is : (value : RandomOctets) → Planned in_memory given_ends m Nothing (MadeBy W L P E g m AnyAnswer) (give_random m value)
  unfolding gives
  random_is value = choose_planned (λ full. Refuses _)
      (λ room. let none = gives_none value in sealing_planned (gives value) tt (gives_made value room, none.1, tt) (rw none.0 (omega arith)))
