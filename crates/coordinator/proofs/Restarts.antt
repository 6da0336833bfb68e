-- What a restart gives, of what its station and its book give.
use Rattle.std.proofs.Common.{◌≡◌, [], Option, Some, None, Result, Ok, Err, refl, sym, ap, subst, ◌∙◌}
use Rattle.std.specs.Prelude.{IfSome}
use Rattle.std.specs.Option.{option_map, option_and_then}
use Rattle.plc_base.specs.Keeper.{Records}
use Rattle.store_tables.specs.SlotTables as slots
use Rattle.plc_base.specs.declared.keeper.BadStore.{BadStore}
use Rattle.plc_base.specs.Grant.{Granted}
use Rattle.group_keys.specs.KeyBook as book
use Rattle.node_rules.specs.Agreement.{AgreesWith}
use Rattle.coordinator.specs.CoordinatorAgreement.{CoordinatorAgreesWith, HasCoordinatorAddress}
use Rattle.node_rules.specs.Memory.{StationMemory, Memory, Coordinator}
use Rattle.node_rules.specs.RestartStates.{station_of, memory_of, reading, remembering}
use Rattle.plc_station.specs.StationViews as stations
use Rattle.coordinator.specs.CoordinatorStates.{memory_in}
use Rattle.coordinator.specs.ReadAnswers.{if_read, read_answer}

module _ (records : Records) where
  read_by : Result StationMemory BadStore → Result book.Book BadStore → Result Memory BadStore
  read_by o b = reading o (λ l. reading b (λ k. Ok (remembering l k)))

  -- the station has no reading
  pub station_bad : (bad : BadStore) → Err bad ≡ stations.read_answer (station_of records) → memory_of Coordinator records ≡ Err bad
  unfolding read_by
  station_bad bad is = by_station (station_of records) is
    where
      by_station : (o : Result StationMemory BadStore) → Err bad ≡ stations.read_answer o → read_by o (slots.opened book.entries records) ≡ Err bad
      by_station (Ok l) h = absurd (cc)
      by_station (Err b) h = cc

  -- the book has no reading
  pub book_bad : (bad : BadStore) (u : Unit {0}) → Ok u ≡ stations.read_answer (station_of records) → Err bad ≡ slots.opened book.entries records
      → memory_of Coordinator records ≡ Err bad
  unfolding read_by
  book_bad bad u is h = by_station (station_of records) is
    where
      by_station : (o : Result StationMemory BadStore) → Ok u ≡ stations.read_answer o → read_by o (slots.opened book.entries records) ≡ Err bad
      by_station (Ok l) s = ap (read_by (Ok l)) (sym h)
      by_station (Err b) s = absurd (cc)

  -- both have one
  pub both_read : (b : book.Book) (u : Unit {0}) → Ok u ≡ stations.read_answer (station_of records) → Ok b ≡ slots.opened book.entries records
      → Ok tt ≡ read_answer (memory_of Coordinator records)
  unfolding read_by
  both_read b u is h = by_station (station_of records) is
    where
      by_station : (o : Result StationMemory BadStore) → Ok u ≡ stations.read_answer o → Ok tt ≡ read_answer (read_by o (slots.opened book.entries records))
      by_station (Ok l) s = ap (λ k. read_answer (read_by (Ok l) k)) h
      by_station (Err c) s = absurd (cc)

  pub memory_read : (b : book.Book) → Ok b ≡ slots.opened book.entries records
      → option_map (memory_in [] [] b) (stations.if_read (station_of records)) ≡ if_read (memory_of Coordinator records)
  unfolding read_by
  memory_read b h = by_station (station_of records)
    where
      by_station : (o : Result StationMemory BadStore)
          → option_map (memory_in [] [] b) (stations.if_read o) ≡ if_read (read_by o (slots.opened book.entries records))
      by_station (Ok l) = ap (λ k. if_read (read_by (Ok l) k)) h
      by_station (Err c) = refl

  -- the address that the records give is the coordinator's
  pub restarted_holds : (b : book.Book) (o : Option StationMemory) → IfSome o (λ l. AgreesWith l records) → book.AgreesWith b records
      → HasCoordinatorAddress records
      → IfSome (option_map (memory_in [] [] b) o) (λ m. CoordinatorAgreesWith m records)
  restarted_holds b None a kept home = tt
  restarted_holds b (Some l) a kept home = record {
    station = a;
    book = kept;
    home = ap (option_and_then (option_map (λ (g : Granted). g.address))) (sym a.ring.stored) ∙ home;
  }

  -- a station whose store has no reading holds nothing
  pub unread_holds : (bad : BadStore) (o : Option StationMemory) (f : StationMemory → Memory) (P : Memory → Type 0)
      → Err bad ≡ stations.read_answer (station_of records)
      → o ≡ stations.if_read (station_of records) → IfSome (option_map f o) P
  unread_holds bad o f P is e = subst (λ (k : Option StationMemory). IfSome (option_map f k) P) (sym e) (by_station (station_of records) is)
    where
      by_station : (r : Result StationMemory BadStore) → Err bad ≡ stations.read_answer r → IfSome (option_map f (stations.if_read r)) P
      by_station (Ok l) s = absurd (cc)
      by_station (Err b) s = tt
