-- Blocks one after the other, as loops write them.
use Rattle.std.proofs.Common.{◌≡◌, ◌≤◌, ◌<◌, ℕ, zero, suc, Bool, true, ◌+◌, ◌-◌, List, [], ◌∷◌, ◌++◌, length, drop, Option, Some, refl, sym, ap, subst, ◌∙◌}
use Rattle.std.proofs.Common.{arith, get_or}
use Rattle.plc_base.specs.declared.address.Eui.{Eui}
use Rattle.pcapng.specs.Blocks.{Block}
use Rattle.line_script.specs.declared.report.Totals.{Totals}
use Rattle.line_record.specs.declared.recorded.RecordedEvent.{RecordedEvent}
use Rattle.line_record.specs.declared.recorded.RecordedFlight.{RecordedFlight}
use Rattle.line_record.specs.RunRecords.{numbered}
use Rattle.line_capture.specs.declared.place.Place.{Place}
use Rattle.line_capture.specs.FateValues.{FateValue}
use Rattle.line_capture.specs.Captures.{Adds, Run, blocks, delivered_notes, delivered_packets, event_packets, flights_packets, flown_notes, flown_packets}
use Rattle.line_capture.specs.Captures.{heard_packet, heard_packets, injected_notes, injected_packets, interface_of, interfaces_from, packets, packets_from}
use Rattle.line_capture.specs.Captures.{section, sent_packet, where_some}
use Rattle.line_capture.specs.Fates.{fates_of}
use Rattle.line_capture.specs.Places.{place_after, start, time_at}
use Rattle.line_capture.proofs.AddedBlocks.{adds_none, adds_then}
use Rattle.line_capture.proofs.Lists.{next, past}

-- # Nodes

interfaces_step : (tap : Bool) (n : ℕ) (xs : List Eui) (i : ℕ) (d : Eui) → i < length xs
    → interfaces_from tap n (drop i xs) ≡ interface_of tap n (get_or xs i d) ∷ interfaces_from tap (n + 1) (drop (suc i) xs)
interfaces_step tap n [] i d h = absurd (omega (arith, h))
interfaces_step tap n (x ∷ xs) zero d h = refl
interfaces_step tap n (x ∷ xs) (suc i) d h = interfaces_step tap n xs i d (omega (arith, h))

-- one node more
pub node_added : (old middle new : List ℕ) (tap : Bool) (n : ℕ) (xs : List Eui) (d : Eui) → n < length xs
    → Adds old middle (interface_of tap n (get_or xs n d) ∷ []) → Adds middle new (interfaces_from tap (n + 1) (drop (n + 1) xs))
    → Adds old new (interfaces_from tap n (drop n xs))
node_added old middle new tap n xs d h a b =
    let e = interfaces_step tap n xs n d h ∙ ap (λ (j : ℕ). interface_of tap n (get_or xs n d) ∷ interfaces_from tap (n + 1) (drop j xs)) (next n) in
    subst (λ (t : List Block). Adds old new t) (sym e) (adds_then old middle new (interface_of tap n (get_or xs n d) ∷ []) _ a b)

pub no_node : (old : List ℕ) (tap : Bool) (n : ℕ) (xs : List Eui) → length xs ≤ n → Adds old old (interfaces_from tap n (drop n xs))
no_node old tap n xs h = subst (λ (t : List Eui). Adds old old (interfaces_from tap n t)) (sym (past xs n h)) (adds_none old)

-- # Flights of an event

flights_step : (tap : Bool) (run : Run) (fates : List FateValue) (p : Place) (e : RecordedEvent) (nth left k : ℕ) → left ≡ suc k
    → flights_packets tap run fates p e nth left ≡ flown_packets tap run fates p e nth ++ flights_packets tap run fates p e (nth + 1) k
flights_step tap run fates p e nth left k h = ap (λ (j : ℕ). flights_packets tap run fates p e nth j) h

-- one flight more
pub flight_added : (old middle new : List ℕ) (tap after : Bool) (run : Run) (fates : List FateValue) (p : Place) (e : RecordedEvent) (nth count : ℕ)
    → nth < count
    → after ≡ tap → Adds old middle (flown_packets tap run fates p e nth)
    → Adds middle new (flights_packets after run fates p e (nth + 1) (count - (nth + 1))) → Adds old new (flights_packets tap run fates p e nth (count - nth))
flight_added old middle new tap after run fates p e nth count h t a b =
    subst (λ (bs : List Block). Adds old new bs) (sym (flights_step tap run fates p e nth (count - nth) (count - (nth + 1)) (omega (arith, h))))
    (adds_then old middle new (flown_packets tap run fates p e nth) (flights_packets tap run fates p e (nth + 1) (count - (nth + 1))) a
    (subst (λ (b : Bool). Adds middle new (flights_packets b run fates p e (nth + 1) (count - (nth + 1)))) t b))

pub all_flights : (old new : List ℕ) (tap : Bool) (run : Run) (fates : List FateValue) (p : Place) (e : RecordedEvent) (count : ℕ)
    → Adds old new (flights_packets tap run fates p e 0 (count - 0)) → Adds old new (flights_packets tap run fates p e 0 count)
all_flights old new tap run fates p e count h =
    let all : count - 0 ≡ count = omega arith in
    subst (λ (k : ℕ). Adds old new (flights_packets tap run fates p e 0 k)) all h

pub no_flight : (old : List ℕ) (tap : Bool) (run : Run) (fates : List FateValue) (p : Place) (e : RecordedEvent) (nth count : ℕ) → count ≤ nth
    → Adds old old (flights_packets tap run fates p e nth (count - nth))
no_flight old tap run fates p e nth count h =
    let none : 0 ≡ count - nth = omega (arith, h) in
    subst (λ (k : ℕ). Adds old old (flights_packets tap run fates p e nth k)) none (adds_none old)

-- a flight whose frame and fate are there
pub flown_added : (old new : List ℕ) (tap : Bool) (run : Run) (fates : List FateValue) (p : Place) (e : RecordedEvent) (nth : ℕ) (recorded : RecordedFlight)
    (octets : List ℕ) (fate : FateValue) → Some recorded ≡ numbered run.flights (p.flight + nth) → Some octets ≡ numbered run.octets (p.flight + nth)
    → Some fate ≡ numbered fates (p.flight + nth)
    → Adds old new (sent_packet tap recorded.from (time_at p e.act + 1 + nth) octets (flown_notes p.number e (p.flight + nth) recorded.note fate) ∷ [])
    → Adds old new (flown_packets tap run fates p e nth)
flown_added old new tap run fates p e nth recorded octets fate f g h a =
    subst (λ (bs : List Block). Adds old new bs) (
    ap (λ (o : Option FateValue). where_some o (λ x. sent_packet tap recorded.from (time_at p e.act + 1 + nth) octets
    (flown_notes p.number e (p.flight + nth) recorded.note x) ∷ [])) h
    ∙ ap (λ (o : Option (List ℕ)). where_some o (λ y. where_some (numbered fates (p.flight + nth)) (λ x. sent_packet tap recorded.from
    (time_at p e.act + 1 + nth) y (flown_notes p.number e (p.flight + nth) recorded.note x) ∷ []))) g
    ∙ ap (λ (o : Option RecordedFlight). where_some o (λ z. where_some (numbered run.octets (p.flight + nth)) (λ y.
    where_some (numbered fates (p.flight + nth)) (λ x. sent_packet tap z.from (time_at p e.act + 1 + nth) y
    (flown_notes p.number e (p.flight + nth) z.note x) ∷ [])))) f
    ) a

-- # Events

packets_step : (tap : Bool) (run : Run) (fates : List FateValue) (p : Place) (es : List RecordedEvent) (i : ℕ) (d : RecordedEvent) → i < length es
    → packets_from tap run fates p (drop i es)
    ≡ event_packets tap run fates p (get_or es i d) ++ packets_from tap run fates (place_after (get_or es i d) p) (drop (suc i) es)
packets_step tap run fates p [] i d h = absurd (omega (arith, h))
packets_step tap run fates p (x ∷ es) zero d h = refl
packets_step tap run fates p (x ∷ es) (suc i) d h = packets_step tap run fates p es i d (omega (arith, h))

-- one event more
pub event_added : (old middle new : List ℕ) (tap after : Bool) (run : Run) (fates : List FateValue) (p q : Place) (es : List RecordedEvent) (i : ℕ)
    (d : RecordedEvent) → i < length es → after ≡ tap → q ≡ place_after (get_or es i d) p → Adds old middle (event_packets tap run fates p (get_or es i d))
    → Adds middle new (packets_from after run fates q (drop (i + 1) es)) → Adds old new (packets_from tap run fates p (drop i es))
event_added old middle new tap after run fates p q es i d h t f a b =
    let x : RecordedEvent = get_or es i d in
    let e = packets_step tap run fates p es i d h
    ∙ ap (λ (j : ℕ). event_packets tap run fates p x ++ packets_from tap run fates (place_after x p) (drop j es)) (next i) in
    subst (λ (t : List Block). Adds old new t) (sym e)
    (adds_then old middle new (event_packets tap run fates p x) (packets_from tap run fates (place_after x p) (drop (i + 1) es)) a
    (subst (λ (b : Bool). Adds middle new (packets_from b run fates (place_after x p) (drop (i + 1) es))) t
    (subst (λ (r : Place). Adds middle new (packets_from after run fates r (drop (i + 1) es))) f b)))

pub no_event : (old : List ℕ) (tap : Bool) (run : Run) (fates : List FateValue) (p : Place) (es : List RecordedEvent) (i : ℕ) → length es ≤ i
    → Adds old old (packets_from tap run fates p (drop i es))
no_event old tap run fates p es i h = subst (λ (t : List RecordedEvent). Adds old old (packets_from tap run fates p t)) (sym (past es i h)) (adds_none old)

-- what is heard at an event, and its flights
pub event_whole : (old middle new : List ℕ) (tap after : Bool) (run : Run) (fates : List FateValue) (p : Place) (e : RecordedEvent) → after ≡ tap
    → Adds old middle (heard_packets tap run p e e.act) → Adds middle new (flights_packets after run fates p e 0 e.flights)
    → Adds old new (event_packets tap run fates p e)
event_whole old middle new tap after run fates p e t a b =
    adds_then old middle new (heard_packets tap run p e e.act) (flights_packets tap run fates p e 0 e.flights) a
    (subst (λ (b : Bool). Adds middle new (flights_packets b run fates p e 0 e.flights)) t b)

-- # What is heard

-- octets that no node sent, where they are there
pub injected_added : (old new : List ℕ) (tap : Bool) (run : Run) (p : Place) (e : RecordedEvent) (node cost : ℕ) (octets : List ℕ)
    → Some octets ≡ numbered run.injected (p.injected + 1)
    → Adds old new (heard_packet tap node (time_at p e.act) octets cost (injected_notes p.number e cost) ∷ [])
    → Adds old new (injected_packets tap run p e node cost)
injected_added old new tap run p e node cost octets f a =
    subst (λ (o : Option (List ℕ)). Adds old new (where_some o (λ y. heard_packet tap node (time_at p e.act) y cost (injected_notes p.number e cost) ∷ []))) f a

-- a flight whose frame is there
pub delivered_added : (old new : List ℕ) (tap : Bool) (run : Run) (p : Place) (e : RecordedEvent) (flight node cost : ℕ) (recorded : RecordedFlight)
    (octets : List ℕ) → tap ≡ true → Some recorded ≡ numbered run.flights flight → Some octets ≡ numbered run.octets flight
    → Adds old new (heard_packet tap node (time_at p e.act) octets cost (delivered_notes p.number e flight recorded.from cost) ∷ [])
    → Adds old new (delivered_packets tap run p e flight node cost)
delivered_added old new tap run p e flight node cost recorded octets t f g a =
    subst (λ (b : Bool). Adds old new (delivered_packets b run p e flight node cost)) (sym t) (
    subst (λ (o : Option RecordedFlight). Adds old new (where_some o (λ z. where_some (numbered run.octets flight) (λ y.
    heard_packet true node (time_at p e.act) y cost (delivered_notes p.number e flight z.from cost) ∷ [])))) f
    (subst (λ (o : Option (List ℕ)). Adds old new (where_some o (λ y.
    heard_packet true node (time_at p e.act) y cost (delivered_notes p.number e flight recorded.from cost) ∷ []))) g
    (subst (λ (b : Bool). Adds old new (heard_packet b node (time_at p e.act) octets cost
    (delivered_notes p.number e flight recorded.from cost) ∷ [])) t a))
    )

-- # The file

-- the section, the interfaces and the packets, one after the other
pub file_added : (old a b new : List ℕ) (tap : Bool) (totals : Totals) (remark : List ℕ) (euis : List Eui) (run : Run) (fates : List FateValue)
    → fates ≡ fates_of (length run.flights) run.events → Adds old a (section totals remark ∷ []) → Adds a b (interfaces_from tap 0 euis)
    → Adds b new (packets_from tap run fates start run.events) → Adds old new (blocks tap totals remark euis run)
file_added old a b new tap totals remark euis run fates e s i p =
    adds_then old a new (section totals remark ∷ []) (interfaces_from tap 0 euis ++ packets tap run) s
    (adds_then a b new (interfaces_from tap 0 euis) (packets tap run) i
    (subst (λ (fs : List FateValue). Adds b new (packets_from tap run fs start run.events)) e p))
