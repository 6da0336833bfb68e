-- How a body that sets out, and a command, are made.
use Rattle.std.proofs.Common.{◌≡◌, ℕ, Bool, true, false, List, [], ◌∷◌, Option, Some, None, length, refl, ◌∙◌, ◌++◌, arith}
use Rattle.std.specs.Prelude.{if◌then◌else◌, is_some}
use Rattle.std.specs.Option.{option_map_or}
use Rattle.plc_base.specs.Faults.{◌then◌, ◌when◌}
use Rattle.plc_base.specs.declared.key.Key.{Key}
use Rattle.plc_base.specs.declared.address.Eui.{Eui}
use Rattle.plc_base.specs.Grant.{Granted}
use Rattle.joining_messages.specs.declared.message.JoinMessage.{JoinMessage}
use Rattle.node_rules.specs.Memory.{StationMemory, Load, Command, Memory, load_octets, address_of, next_hop}
use Rattle.node_rules.specs.Drafts.{Draft, UnsealedUnit, OfRoom, OfNumbers, with_own_number, goes, no_room, numbers_spent, is_awaited, lack, seeks, seeks_once}
use Rattle.node_rules.specs.Drafts.{sets_out}
use Rattle.node_rules.specs.MemoryDrafts.{on_station, station_part, is_commanded}
use Rattle.node_rules.specs.JoiningPackets.{command_of}
use Rattle.node_rules.specs.Laws.{IsShort}
use Rattle.line_laws.proofs.Made.{RingWord, Carry, Given, AreUnnoted, IsAlone, Unnoted, Alone, Made, Starts, Numbers, Goes, Sends, Waits, Seeks}
use Rattle.line_laws.proofs.MadeIn.{unheard, MadeIn, OnStation}

-- Nothing is lacked: there is a route, or room for a body that waits and, unless one waits for the address already, an own number.
pub record LacksNothing (l : StationMemory) (to octets : ℕ) : Type 0 where
  pub room : next_hop l to ≡ None → no_room l octets ≡ false
  pub number : next_hop l to ≡ None → is_awaited l to ≡ false → numbers_spent l ≡ false

pub lacks_nothing : (l : StationMemory) (to octets : ℕ) → lack l to octets ≡ None → LacksNothing l to octets
unfolding lack
lacks_nothing l to octets = by_hop (next_hop l to) (no_room l octets) (is_awaited l to) (numbers_spent l) refl refl refl refl
  where
    by_hop : (hop : Option ℕ) (a b c : Bool) → next_hop l to ≡ hop → no_room l octets ≡ a → is_awaited l to ≡ b → numbers_spent l ≡ c
        → (if is_some hop then None else (Some OfRoom when a then Some OfNumbers when (if b then false else c))) ≡ None → LacksNothing l to octets
    by_hop (Some hop) a b c eh ea eb ec e = record { room = λ none. absurd (cc); number = λ none. absurd (cc) }
    by_hop None true b c eh ea eb ec e = absurd (cc)
    by_hop None false true c eh ea eb ec e = record { room = λ _. ea; number = λ _ k. absurd (cc) }
    by_hop None false false true eh ea eb ec e = absurd (cc)
    by_hop None false false false eh ea eb ec e = record { room = λ _. ea; number = λ _ _. ec }

-- what waits, and whether a route is there, are as before
sought_same : (own dest to octets : ℕ) (d : Draft StationMemory)
    → (next_hop (seeks_once own dest d).memory to ≡ next_hop d.memory to) × (no_room (seeks_once own dest d).memory octets ≡ no_room d.memory octets)
unfolding seeks_once with_own_number goes next_hop
sought_same own dest to octets d = by_wait (is_awaited d.memory dest)
  where
    by_wait : (b : Bool) → let e : Draft StationMemory = (if b then d else seeks own dest d) in
        (next_hop e.memory to ≡ next_hop d.memory to) × (no_room e.memory octets ≡ no_room d.memory octets)
    by_wait true = (refl, refl)
    by_wait false = (refl, refl)

-- one more without a note
unnoted_more : (us : List UnsealedUnit) (o : UnsealedUnit) → AreUnnoted us → o.note ≡ 0 → AreUnnoted (us ++ o ∷ [])
unnoted_more [] o h e = (e, tt)
unnoted_more (u ∷ us) o h e = (h.0, unnoted_more us o h.1 e)

-- a request has no note, and what waits stays
sought_alone : (s : Draft StationMemory) (own dest note : ℕ) (d : Draft StationMemory) → IsAlone s d note → IsAlone s (seeks_once own dest d) note
unfolding seeks_once with_own_number goes
sought_alone s own dest note d Unnoted = Unnoted
sought_alone s own dest note d (Alone n same none) = by_wait (is_awaited d.memory dest)
  where
    by_wait : (b : Bool) → IsAlone s (if b then d else seeks own dest d) note
    by_wait true = Alone note same none
    by_wait false = Alone note same (unnoted_more d.units _ none refl)

module _ {W : RingWord → Type 0} {g : Given} where
  -- the request, unless something waits for the address
  seeks_made : (s : Draft StationMemory) (own dest note : ℕ) (load : Load) (d : Draft StationMemory) → Made W g s d → address_of d.memory ≡ Some own
      → (is_awaited d.memory dest ≡ false → numbers_spent d.memory ≡ false)
      → W (Carry dest note load) → Made W g s (seeks_once own dest d)
  unfolding seeks_once with_own_number
  seeks_made s own dest note load d made here left carried = by_wait (is_awaited d.memory dest) refl
    where
      by_wait : (b : Bool) → is_awaited d.memory dest ≡ b → Made W g s (if b then d else seeks own dest d)
      by_wait true e = made
      by_wait false e = Goes _ _ _ _ (Numbers d made (left e)) (Seeks own dest _ note load here refl (omega arith) carried) Unnoted

  pub sets_out_made : (s : Draft StationMemory) (own to note : ℕ) (load : Load) (now : ℕ) (d : Draft StationMemory) → Made W g s d
      → address_of d.memory ≡ Some own
      → LacksNothing d.memory to (length (load_octets load)) → IsShort load → W (Carry to note load) → IsAlone s d note
      → Made W g s (sets_out own to note load now d)
  sets_out_made s own to note load now d made here fits short carried alone = by_hop (next_hop d.memory to) refl
    where
      by_hop : (hop : Option ℕ) → next_hop d.memory to ≡ hop → Made W g s (sets_out own to note load now d)
      by_hop None e =
          let same = sought_same own to to (length (load_octets load)) d in
          rw e (Waits to note load now _ (seeks_made s own to note load d made here (fits.number e) carried) (same.0 ∙ e) (same.1 ∙ fits.room e) short carried
          (sought_alone s own to note d alone))
      by_hop (Some hop) e = rw e (Sends own hop to note load d made here e short carried alone)

-- a command that sets out, later in a joining
pub commanded_made : {W : RingWord → Type 0} {g : Given} {L : Granted → Type 0} {P : Eui → Key → Type 0} {E : Eui → Type 0} {m : Memory} (to : ℕ)
    (message : JoinMessage) (now : ℕ) (d : Draft Memory)
    → MadeIn W L P E g m d → LacksNothing d.memory.station to (length (command_of message)) → W (Carry to 0 (Command (command_of message)))
    → MadeIn W L P E g m (is_commanded to message now d)
unfolding is_commanded
commanded_made {W = W} {g = g} {L = L} {P = P} {E = E} {m = m} to message now d made fits carried = by_address (address_of d.memory.station) refl
  where
    by_address : (own : Option ℕ) → address_of d.memory.station ≡ own
        → MadeIn W L P E g m (option_map_or (λ own. on_station (sets_out own to 0 (Command (command_of message)) now) d) own d)
    by_address None e = made
    by_address (Some own) e = OnStation (sets_out own to 0 (Command (command_of message)) now) d made
        (sets_out_made {W = W} {g = unheard g} (station_part d) own to 0 (Command (command_of message)) now (station_part d) Starts e fits tt carried Unnoted)
