-- The frames of a plan are letters in their ranges, and plain frames; and so are the flights that they become.
use Rattle.std.proofs.Common.{◌≡◌, ℕ, ◌+◌, ◌-◌, ◌≤◌, List, [], ◌∷◌, ◌++◌, length, Option, Some, None, refl, sym, subst, arith}
use Rattle.std.specs.Prelude.{All, IfSome}
use Rattle.std.specs.Option.{option_map_or}
use Rattle.std.proofs.lemmas.Option.{same_Some}
use Rattle.std.proofs.lemmas.List.Elements.{All-nil, All-cons, All-head, All-tail, All-append, All-map, All-push, All-weaker}
use Rattle.plc_base.specs.declared.address.Eui.{Eui}
use Rattle.plc_base.specs.declared.key.Key.{Key}
use Rattle.plc_base.specs.Grant.{Granted}
use Rattle.group_keys.specs.KeyRing as ring
use Rattle.node_rules.specs.Ciphers.{Ciphers}
use Rattle.node_rules.specs.Frames.{Sent, Sealed, Up, Down, spelled}
use Rattle.node_rules.specs.Memory.{StationMemory, Memory}
use Rattle.node_rules.specs.Drafts.{Draft, UnsealedUnit, empty_draft, sealed_units, sealed_by, sealing_key, with_rank, with_own_number, with_next_tag}
use Rattle.node_rules.specs.Drafts.{with_ring}
use Rattle.node_rules.specs.Drafts.{with_routing_by, goes, body_goes, waits, leave}
use Rattle.node_rules.specs.MemoryDrafts.{on_station, station_part, with_memory_by, with_pair_tags, goes_up, goes_down}
use Rattle.node_rules.specs.Coordinators.{with_book_entry}
use Rattle.node_rules.specs.NodeSteps.{NodeStep}
use Rattle.line_rules.specs.Steps.{flight_by, flights_of}
use Rattle.line_laws.specs.Stores.{IsReadable}
use Rattle.line_laws.specs.SealedUnits.{GoesUp, GoesDown, IsFlight, AreFlights}
use Rattle.line_laws.specs.Ranges.{IsStationRanged, IsOut}
use Rattle.line_laws.proofs.Made.{RingWord, Given, Made, Starts, Ranks, Numbers, Tags as TagsOn, Rings, Idles, Loses, Goes, Sends, Waits, Leaves}
use Rattle.line_laws.proofs.NodeCalls.{no_some}
use Rattle.line_laws.proofs.MadeIn.{unheard, MadeIn, Begins, Station, OnStation, Remembers, Tags, Enters, Up as UpIn, Down as DownIn}
use Rattle.line_laws.proofs.StorePlans.{beside_station_of}
use Rattle.line_laws.proofs.RangeFold.{InRange, made_ranged}
pub use Rattle.line_laws.specs.SealedUnits.{IsPlainFrame, IsSent}

plain_sent : (f : Sent) → IsPlainFrame f → IsSent f
plain_sent (Sealed l) h = absurd h
plain_sent (Up agent from message) h = tt
plain_sent (Down from message) h = tt

-- # Letters

sealed_units_fit : (g : Granted) (key : Key) (first : ℕ) (units : List UnsealedUnit) → IsReadable g → length units ≤ 4294967295 - first → All IsOut units
    → All IsSent (sealed_units g key first units)
sealed_units_fit g key first [] fits left all = All-nil IsSent
sealed_units_fit g key first (o ∷ rest) fits left all =
    let out = All-head IsOut o rest all in
    All-cons IsSent _ _ (record {
      to = out.to;
      from = fits.address;
      counter = omega arith;
      index = fits.grant.index;
      unit = out.unit;
      route = out.route;
      one = out.one;
    })
    (sealed_units_fit g key (first + 1) rest fits (omega arith) (All-tail IsOut o rest all))

pub sealed_fit : (r : ring.Ring) (first : ℕ) (units : List UnsealedUnit) → IfSome r IsReadable → length units ≤ 4294967295 - first → All IsOut units
    → All IsSent (sealed_by r first units)
sealed_fit None first units fits left all = All-nil IsSent
sealed_fit (Some g) first units fits left all = by_key (sealing_key g)
  where
    by_key : (key : Option Key) → All IsSent (option_map_or (λ k. sealed_units g k first units) key [])
    by_key None = All-nil IsSent
    by_key (Some key) = sealed_units_fit g key first units fits left all

-- # Over all of the memory

-- What is being done over all of the memory is in its ranges, and its plain frames are plain.
pub record IsRangedIn (d : Draft Memory) : Type 0 where
  pub station : IsStationRanged d.memory.station
  pub units : All IsOut d.units
  pub plain : All IsPlainFrame d.plain

module _ (W : RingWord → Type 0) (g : Given) where
  -- words of the line send no plain frame
  pub made_plain : (s d : Draft StationMemory) → Made W g s d → d.plain ≡ s.plain
  unfolding with_rank with_own_number with_next_tag with_ring with_routing_by goes body_goes waits leave
  made_plain s d Starts = refl
  made_plain s d (Ranks by origin rank e made o fits) = made_plain s e made
  made_plain s d (Numbers e made left) = made_plain s e made
  made_plain s d (TagsOn e made first) = made_plain s e made
  made_plain s d (Rings x e made change) = made_plain s e made
  made_plain s d (Idles e made) = made_plain s e made
  made_plain s d (Loses lost by e made) = made_plain s e made
  made_plain s d (Goes to unit note e made said alone) = made_plain s e made
  made_plain s d (Sends own hop to note load e made here there short carried alone) = made_plain s e made
  made_plain s d (Waits to note load now e made none room short carried alone) = made_plain s e made
  made_plain s d (Leaves own dest hop rank e made here o) = made_plain s e made

  -- nothing is heard
  unheard_range : InRange W g → InRange W (unheard g)
  unheard_range known = record {
    comes = λ by all u c. absurd (no_some _ c.is);
    came_so = λ by all m t. absurd (no_some _ t.came.is);
    near = λ by e. absurd (no_some _ e);
    carries = known.carries;
    words = known.words;
  }

module _ (W : RingWord → Type 0) (g : Given) (known : InRange W g) where
  pub made_in_ranged : (L : Granted → Type 0) (P : Eui → Key → Type 0) (E : Eui → Type 0) (m : Memory) (d : Draft Memory) → MadeIn W L P E g m d
      → IsStationRanged m.station → IsRangedIn d
  unfolding empty_draft on_station with_memory_by with_pair_tags with_book_entry goes_up goes_down
  made_in_ranged L P E m d Begins h = record { station = h; units = All-nil IsOut; plain = All-nil IsPlainFrame }
  made_in_ranged L P E m d (Station e made) h =
      let r = made_ranged W g (empty_draft m.station) known h e made (All-nil IsOut) in
      record { station = r.station; units = r.units; plain = rw (made_plain W g (empty_draft m.station) e made) (All-nil IsPlainFrame) }
  made_in_ranged L P E m d (OnStation word e made step) h =
      let r = made_in_ranged L P E m e made h in
      let x = made_ranged W (unheard g) (station_part e) (unheard_range W g known) r.station (word (station_part e)) step r.units in
      record { station = x.station; units = x.units; plain = rw (made_plain W (unheard g) (station_part e) (word (station_part e)) step) r.plain }
  made_in_ranged L P E m d (Remembers change e made beside) h =
      let r = made_in_ranged L P E m e made h in
      record { station = subst IsStationRanged (sym (beside_station_of E e.memory (change e.memory) beside)) r.station; units = r.units; plain = r.plain }
  made_in_ranged L P E m d (Tags made opened e x) h = let r = made_in_ranged L P E m e x h in record { station = r.station; units = r.units; plain = r.plain }
  made_in_ranged L P E m d (Enters x e made change) h =
      let r = made_in_ranged L P E m e made h in record { station = r.station; units = r.units; plain = r.plain }
  made_in_ranged L P E m d (UpIn agent own message e made) h =
      let r = made_in_ranged L P E m e made h in
      record { station = r.station; units = r.units; plain = All-push IsPlainFrame e.plain (Up agent own message) r.plain tt }
  made_in_ranged L P E m d (DownIn own message e made) h =
      let r = made_in_ranged L P E m e made h in
      record { station = r.station; units = r.units; plain = All-push IsPlainFrame e.plain (Down own message) r.plain tt }

-- the frames of a doing that is carried to its end
pub frames_fit : (d : Draft Memory) → IsRangedIn d → length d.units ≤ 4294967295 - d.memory.station.counter.next
    → All IsSent (d.plain ++ sealed_by d.memory.station.ring d.memory.station.counter.next d.units)
frames_fit d r left = All-append IsSent d.plain _ (All-weaker IsPlainFrame IsSent plain_sent d.plain r.plain)
    (sealed_fit d.memory.station.ring d.memory.station.counter.next d.units r.station.ring left r.units)

-- # Flights

flight_fits : (ciphers : Ciphers) (number : ℕ) (f : Sent) → IsSent f → IsFlight ciphers (flight_by number (spelled ciphers f))
unfolding spelled
flight_fits ciphers number (Sealed l) h =
    record { sealed = λ key e. record { sealed_unit = l; fits = h; key_is = same_Some l.key key e; octets = refl; note = refl }; plain = λ e. absurd (cc) }
flight_fits ciphers number (Up agent from message) h = record { sealed = λ key e. absurd (cc); plain = λ e. (GoesUp agent from message refl, refl) }
flight_fits ciphers number (Down from message) h = record { sealed = λ key e. absurd (cc); plain = λ e. (GoesDown from message refl, refl) }

-- what a node sends flies as it was spelled
pub flights_fit : {A : Type 0} (ciphers : Ciphers) (number : ℕ) (d : NodeStep A) → All IsSent d.frames → AreFlights ciphers (flights_of ciphers number d)
flights_fit ciphers number d all = All-map (IsFlight ciphers) (λ frame. flight_by number (spelled ciphers frame)) d.frames
    (All-weaker IsSent (λ f. IsFlight ciphers (flight_by number (spelled ciphers f))) (flight_fits ciphers number) d.frames all)
