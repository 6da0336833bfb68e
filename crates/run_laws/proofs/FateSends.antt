-- What becomes of a datagram in the event that sends it.
use Rattle.std.proofs.Common.{◌≡◌, ℕ, ◌+◌, ◌<◌, List, [], ◌∷◌, ◌++◌, length, Option, Some, None, refl, sym, ap, ◌∙◌, subst, arith}
use Rattle.std.specs.Prelude.{AllPairs, IfSome, map}
use Rattle.std.specs.Option.{option_map, option_and_then}
use Rattle.std.proofs.lemmas.Bool.Decides.{nat_tests}
use Rattle.std.proofs.lemmas.Option.{none-some, same_Some}
use Rattle.plc_base.specs.Grant.{Granted}
use Rattle.group_keys.specs.KeyRing as ring
use Rattle.mesh_header.specs.Grammar.{IsUnit}
use Rattle.fragment_buffers.specs.Loads.{Load, UnsealedUnit, all_go, units_of}
use Rattle.node_rules.specs.Ciphers.{network}
use Rattle.node_rules.specs.Drafts.{sealed_by}
use Rattle.node_rules.specs.Frames.{Sent, spelled}
use Rattle.node_rules.specs.Memory.{StationMemory, Memory, Node, Body, Datagram, address_of, node_address}
use Rattle.line_rules.specs.Runs.{Entry}
use Rattle.line_rules.specs.Steps.{flight_by}
use Rattle.line_rules.specs.Worlds.{World, Sending}
use Rattle.line_laws.specs.Custody.{below, content_is}
use Rattle.line_laws.specs.Ranges.{HasRoomInFrames, IsStationRanged, NodeRanged}
use Rattle.line_laws.specs.Stores.{IsReadable}
use Rattle.line_laws.specs.Tags.{TagRises}
use Rattle.line_progress.specs.Lists.{Among, Here}
use Rattle.line_progress.specs.SendFates.{Flew, NotTaken, SendEventFate, SendFlew, Stayed}
use Rattle.line_progress.proofs.EventReports.{sends_fly}
use Rattle.line_laws.proofs.Worlds.{at_place}
use Rattle.line_progress.proofs.BodyFates.{among_back}
use Rattle.line_progress.proofs.EventFates.{among_mapped}
use Rattle.run_laws.proofs.Datagrams.{have_keys, station_there}
use Rattle.run_laws.specs.DatagramFates.{Fate, Waits}
use Rattle.run_laws.proofs.FateEvents.{Known, if_some}
use Rattle.run_laws.proofs.FateFlown.{Ahead, flies_on, sealed_by_in, unit_fits}
use Rattle.run_laws.proofs.FateLists.{covers_all}

is_below : (i size : ℕ) → i < size → below i size ≡ 1
is_below i size lt = grind (arith, nat_tests)

-- The ring of a station that has an address.
record Joined (l : StationMemory) (a : ℕ) : Type 0 where
  granted : Granted
  ring : l.ring ≡ Some granted
  is : granted.address ≡ a

joined : (l : StationMemory) (a : ℕ) → address_of l ≡ Some a → Joined l a
joined l a e = by_ring l.ring refl e
  where
    by_ring : (o : ring.Ring) → l.ring ≡ o → option_map (λ (g : Granted). g.address) o ≡ Some a → Joined l a
    by_ring None r e = absurd (none-some a e)
    by_ring (Some g) r e = record { granted = g; ring = r; is = same_Some g.address a e }

address_low : (l : StationMemory) → IsStationRanged l → (a : ℕ) → address_of l ≡ Some a → a < 0xFFFE
address_low l fits a e =
    let j = joined l a e in
    subst (λ b. b < 0xFFFE) j.is (if_some IsReadable l.ring j.granted fits.ring j.ring).address

target_low : (y : Node) → NodeRanged y → (a : ℕ) → node_address y ≡ Some a → a < 0xFFFE
target_low y fits a e = by_memory y.memory fits e
  where
    by_memory : (o : Option Memory) → IfSome o (λ (m : Memory). IsStationRanged m.station)
        → option_and_then (λ (m : Memory). address_of m.station) o ≡ Some a → a < 0xFFFE
    by_memory None h e = absurd (none-some a e)
    by_memory (Some m) h e = address_low m.station h a e

module _ (home : ℕ → ℕ) (apart : (i j : ℕ) → home i ≡ home j → i ≡ j) (all : List Sending) (rises : AllPairs TagRises all)
    (before : List Entry) (w : World) (x : Entry) (k : Known home all before w x) (a : Ahead before w) (n i : ℕ) where
  pub sent_now : (s : Sending) → x.trace.sent ≡ Some s → w.sends + 1 ≡ n → i < length s.datagram → Fate n i (before ++ x ∷ []) x.after
  sent_now s sent number lt = by_fate h.fate
    where
      h : SendFlew network w x.event s (x.after, x.trace)
      h = if_some (λ (z : Sending). SendFlew network w x.event z (x.after, x.trace)) x.trace.sent s
          (sends_fly network w x.after x.event x.trace k.step) sent

      l : StationMemory
      l = h.memory.station

      fits : IsStationRanged h.memory.station
      fits = if_some (λ (m : Memory). IsStationRanged m.station) h.node.memory h.memory
          (at_place NodeRanged w.nodes s.from h.node h.there k.holds.ranged.nodes) h.runs

      target : h.address < 0xFFFE
      target = target_low h.target (at_place NodeRanged w.nodes s.to h.target h.is_target k.holds.ranged.nodes) h.address h.has_address

      by_fate : SendEventFate network w s.from h.address s.datagram h.memory.station (x.after, x.trace) → Fate n i (before ++ x ∷ []) x.after
      by_fate (Flew own hop short here route answer flights) =
          let load : Load = Datagram s.datagram h.memory.station.next_tag in
          let room : HasRoomInFrames load = (omega arith, short, fits.tag) in
          let j = joined h.memory.station own here in
          let key = have_keys w k.holds.line.nodes s.from h.memory.station (station_there w s.from h.node h.memory h.there h.runs) j.granted j.ring in
          let u = covers_all own h.address i load (is_below i (length s.datagram) lt) in
          let o : UnsealedUnit = record { to = hop; unit = u.unit; note = w.sends + 1 } in
          let out : Among o (all_go hop (w.sends + 1) (units_of own h.address load)) =
          among_mapped (λ unit. record { to = hop; unit = unit; note = w.sends + 1 }) u.unit (units_of own h.address load) u.among in
          let sealed = sealed_by_in h.memory.station.ring j.granted key.0 h.memory.station.counter.next
          (all_go hop (w.sends + 1) (units_of own h.address load)) o j.ring key.1 out in
          let unit : IsUnit u.unit = unit_fits own h.address (address_low h.memory.station fits own here) target load room i u in
          flies_on home apart all rises before w x k a n i s.from sealed.sealed
          (map (λ (frame : Sent). flight_by s.from (spelled network frame)) (sealed_by h.memory.station.ring h.memory.station.counter.next
          (all_go hop (w.sends + 1) (units_of own h.address load))))
          flights
          (among_mapped (λ (frame : Sent). flight_by s.from (spelled network frame)) _ (sealed_by h.memory.station.ring h.memory.station.counter.next
          (all_go hop (w.sends + 1) (units_of own h.address load))) sealed.among)
          (subst IsUnit (sym sealed.unit) unit) (sealed.note ∙ number) (ap (content_is i) sealed.unit ∙ u.octet)
      by_fate (Stayed now answer at waiting) =
          let body : Body = record { to = h.address; note = w.sends + 1; since = w.clock; load = Datagram s.datagram h.memory.station.next_tag } in
          Waits s.from (record {
            station = now;
            there = at;
            body = body;
            waits = subst (Among body) (sym waiting) (among_back body h.memory.station.waiting (body ∷ []) (Here []));
            note = number;
            octet = is_below i (length s.datagram) lt;
          })
      by_fate (NotTaken refused flights same) = let taken = h.taken in absurd (cc)
