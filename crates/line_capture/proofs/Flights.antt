-- The flights of a run are the packets of its capture.
use Rattle.std.proofs.Common.{◌≡◌, ◌≤◌, ◌<◌, ◌==◌, ℕ, zero, suc, Bool, true, false, ◌+◌, ◌-◌, List, [], ◌∷◌, ◌++◌, length, drop, replicate, Option, None}
use Rattle.std.proofs.Common.{Some, refl, sym, ap, ◌∙◌}
use Rattle.std.proofs.Common.{arith, append_assoc, append-nil, slice_get, if◌then◌else◌}
use Rattle.std.specs.Prelude.{All}
use Rattle.std.proofs.lemmas.Grind.{common_steps}
use Rattle.std.proofs.lemmas.List.{length-replicate, length-set}
use Rattle.std.proofs.lemmas.List.Elements.{All-head, All-tail}
use Rattle.pcapng.specs.Blocks.{Block, Section, Interface, Packet}
use Rattle.line_record.specs.declared.act.Act.{Act}
use Rattle.line_record.specs.declared.act.Act.TheVariants as acts
use Rattle.line_record.specs.declared.recorded.RecordedEvent.{RecordedEvent}
use Rattle.line_capture.specs.declared.place.Place.{Place}
use Rattle.line_record.specs.declared.recorded.RecordedFlight.{RecordedFlight}
use Rattle.line_record.specs.Lists.{changed_at, changed_place}
use Rattle.line_record.specs.RunRecords.{numbered}
use Rattle.line_capture.specs.FateValues.{FateValue}
use Rattle.line_capture.specs.Fates.{arrived, fates_by, fates_from, fates_of, lost, no_fate}
use Rattle.line_capture.specs.Captures.{Run, flights_packets, flown_packets, heard_packets, packets, packets_from, sent_packet, flown_notes}
use Rattle.line_capture.specs.Captures.{where_some}
use Rattle.line_capture.specs.Places.{place_after, start, time_at}
use Rattle.line_capture.specs.Laws.{FlightsAreCaptured, Frame, HasNoInjection, IsNoInjection, flights_of, frames_flown, frames_of}

-- # There is a fate for each flight

length_changed_place : {A : Type 0} (o : Option A) (place : ℕ) (f : A → A) (xs : List A) → length (changed_place o place f xs) ≡ length xs
length_changed_place None place f xs = refl
length_changed_place (Some x) place f xs = length-set xs place (f x)

length_if : {A : Type 0} (b : Bool) (xs ys : List A) → length ys ≡ length xs → length (if b then xs else ys) ≡ length xs
length_if true xs ys h = refl
length_if false xs ys h = h

length_changed : {A : Type 0} (number : ℕ) (f : A → A) (xs : List A) → length (changed_at number f xs) ≡ length xs
length_changed number f xs =
    length_if (number == 0) xs (changed_place (slice_get xs (number - 1)) (number - 1) f xs)
    (length_changed_place (slice_get xs (number - 1)) (number - 1) f xs)

length_by : (act : Act) (n : ℕ) (e : RecordedEvent) (fates : List FateValue) → length (fates_by act n e fates) ≡ length fates
length_by (acts.Coordinator eui) n e fates = refl
length_by (acts.Meter eui) n e fates = refl
length_by (acts.Depot node) n e fates = refl
length_by (acts.Near a b) n e fates = refl
length_by (acts.Counter node) n e fates = refl
length_by (acts.Number node) n e fates = refl
length_by (acts.Allow node) n e fates = refl
length_by (acts.RandomOctets node) n e fates = refl
length_by (acts.Join node agent) n e fates = refl
length_by (acts.Leave node) n e fates = refl
length_by (acts.Send from to octets) n e fates = refl
length_by (acts.Deliver flight node cost) n e fates = length_changed flight (arrived n node e) fates
length_by (acts.Inject node cost octets) n e fates = refl
length_by (acts.Lose flight) n e fates = length_changed flight (lost n) fates
length_by (acts.Break node next) n e fates = refl
length_by (acts.Tick seconds) n e fates = refl
length_by (acts.Restart node) n e fates = refl
length_by (acts.Cut node nth keeps_new) n e fates = refl
length_by (acts.Rekey index) n e fates = refl
length_by (acts.Challenge node) n e fates = refl
length_by (acts.Activate node index) n e fates = refl
length_by (acts.Kick node) n e fates = refl
length_by (acts.Show node) n e fates = refl
length_by acts.Checks n e fates = refl
length_by (acts.Bcast node octets) n e fates = refl
length_by (acts.Scan node) n e fates = refl
length_by (acts.Choose node k) n e fates = refl
length_by (acts.Path from to) n e fates = refl

length_from : (n : ℕ) (es : List RecordedEvent) (fates : List FateValue) → length (fates_from n es fates) ≡ length fates
length_from n [] fates = refl
length_from n (e ∷ es) fates = length_from (n + 1) es (fates_by e.act n e fates) ∙ length_by e.act n e fates

length_fates : (count : ℕ) (es : List RecordedEvent) → length (fates_of count es) ≡ count
length_fates count es = length_from 1 es (replicate count no_fate) ∙ length-replicate count no_fate

-- # Frames

frames_append : (a b : List Block) → frames_of (a ++ b) ≡ frames_of a ++ frames_of b
frames_append [] b = refl
frames_append (Packet interface time octets options ∷ a) b =
    ap (λ (t : List Frame). (record { interface = interface; octets = octets }) ∷ t) (frames_append a b)
frames_append (Section options ∷ a) b = frames_append a b
frames_append (Interface link options ∷ a) b = frames_append a b

-- the flights that follow this many
abbrev rest : Run → ℕ → List Frame
rest run i = frames_flown (drop i run.flights) (drop i run.octets)

-- what stands at a place of a list, and what follows it
record Stands {A : Type 0} (xs : List A) (i : ℕ) : Type 0 where
  item : A
  number : slice_get xs i ≡ Some item
  follow : drop i xs ≡ item ∷ drop (suc i) xs

stands : {A : Type 0} (xs : List A) (i : ℕ) → i < length xs → Stands xs i
stands [] i h = absurd (omega (arith, h))
stands (x ∷ xs) zero h = record { item = x; number = refl; follow = refl }
stands (x ∷ xs) (suc i) h =
    let s = stands xs i (omega (arith, h)) in
    record { item = s.item; number = s.number; follow = s.follow }

above_zero : (n : ℕ) → 0 < n → (n == 0) ≡ false
above_zero n h = grind (arith, common_steps)

at_number : {A : Type 0} (xs : List A) (i k : ℕ) → k ≡ suc i → numbered xs k ≡ slice_get xs i
at_number xs i k e =
    ap (λ (b : Bool). if b then None else slice_get xs (k - 1)) (above_zero k (omega (arith, e))) ∙ ap (λ (j : ℕ). slice_get xs j) (omega (arith, e))

-- the frames of a flight, by what is known of it
abbrev known : Run → Place → RecordedEvent → ℕ → Option RecordedFlight → Option (List ℕ) → Option FateValue → List Frame
known run p e nth flight frame fate =
    frames_of (where_some flight (λ recorded. where_some frame (λ octets. where_some fate (λ became.
    sent_packet false recorded.from (time_at p e.act + 1 + nth) octets (flown_notes p.number e (p.flight + nth) recorded.note became) ∷ []))))

flown_is : (run : Run) (fates : List FateValue) (p : Place) (e : RecordedEvent) (nth i : ℕ) → p.flight + nth ≡ suc i
    → i < length run.flights → length run.octets ≡ length run.flights → length fates ≡ length run.flights
    → frames_of (flown_packets false run fates p e nth) ++ rest run (suc i) ≡ rest run i
flown_is run fates p e nth i k h o f =
    let a = stands run.flights i h in
    let b = stands run.octets i (omega (arith, h, o)) in
    let c = stands fates i (omega (arith, h, f)) in
    let x = at_number run.flights i (p.flight + nth) k ∙ a.number in
    let y = at_number run.octets i (p.flight + nth) k ∙ b.number in
    let z = at_number fates i (p.flight + nth) k ∙ c.number in
    (λ j. known run p e nth (x j) (y j) (z j) ++ rest run (suc i))
    ∙ sym (λ j. frames_flown (a.follow j) (b.follow j))

flights_are : (run : Run) (fates : List FateValue) (p : Place) (e : RecordedEvent) (nth left i : ℕ) → p.flight + nth ≡ suc i
    → i + left ≤ length run.flights → length run.octets ≡ length run.flights → length fates ≡ length run.flights
    → frames_of (flights_packets false run fates p e nth left) ++ rest run (i + left) ≡ rest run i
flights_are run fates p e nth zero i k h o f = ap (λ (j : ℕ). rest run j) (omega arith)
flights_are run fates p e nth (suc left) i k h o f =
    let one : List Block = flown_packets false run fates p e nth in
    let more : List Block = flights_packets false run fates p e (nth + 1) left in
    ap (λ (t : List Frame). t ++ rest run (i + suc left)) (frames_append one more)
    ∙ append_assoc (frames_of one) (frames_of more) (rest run (i + suc left))
    ∙ ap (λ (t : List Frame). frames_of one ++ t)
    (ap (λ (j : ℕ). frames_of more ++ rest run j) (omega arith)
    ∙ flights_are run fates p e (nth + 1) left (suc i) (omega (arith, k)) (omega (arith, h)) o f)
    ∙ flown_is run fates p e nth i k (omega (arith, h)) o f

none_heard : (run : Run) (p : Place) (e : RecordedEvent) (act : Act) → IsNoInjection act → heard_packets false run p e act ≡ []
none_heard run p e (acts.Coordinator eui) h = refl
none_heard run p e (acts.Meter eui) h = refl
none_heard run p e (acts.Depot node) h = refl
none_heard run p e (acts.Near a b) h = refl
none_heard run p e (acts.Counter node) h = refl
none_heard run p e (acts.Number node) h = refl
none_heard run p e (acts.Allow node) h = refl
none_heard run p e (acts.RandomOctets node) h = refl
none_heard run p e (acts.Join node agent) h = refl
none_heard run p e (acts.Leave node) h = refl
none_heard run p e (acts.Send from to octets) h = refl
none_heard run p e (acts.Deliver flight node cost) h = refl
none_heard run p e (acts.Inject node cost octets) h = absurd h
none_heard run p e (acts.Lose flight) h = refl
none_heard run p e (acts.Break node next) h = refl
none_heard run p e (acts.Tick seconds) h = refl
none_heard run p e (acts.Restart node) h = refl
none_heard run p e (acts.Cut node nth keeps_new) h = refl
none_heard run p e (acts.Rekey index) h = refl
none_heard run p e (acts.Challenge node) h = refl
none_heard run p e (acts.Activate node index) h = refl
none_heard run p e (acts.Kick node) h = refl
none_heard run p e (acts.Show node) h = refl
none_heard run p e acts.Checks h = refl
none_heard run p e (acts.Bcast node octets) h = refl
none_heard run p e (acts.Scan node) h = refl
none_heard run p e (acts.Choose node k) h = refl
none_heard run p e (acts.Path from to) h = refl

events_are : (run : Run) (fates : List FateValue) (p : Place) (es : List RecordedEvent) (i : ℕ) → p.flight ≡ suc i
    → i + flights_of es ≤ length run.flights → length run.octets ≡ length run.flights → length fates ≡ length run.flights → All HasNoInjection es
    → frames_of (packets_from false run fates p es) ++ rest run (i + flights_of es) ≡ rest run i
events_are run fates p [] i k h o f n = ap (λ (j : ℕ). rest run j) (omega arith)
events_are run fates p (e ∷ es) i k h o f n =
    let sent : List Block = flights_packets false run fates p e 0 e.flights in
    let later : List Block = packets_from false run fates (place_after e p) es in
    let all : ℕ = i + (e.flights + flights_of es) in
    ap (λ (t : List Block). frames_of ((t ++ sent) ++ later) ++ rest run all) (none_heard run p e e.act (All-head HasNoInjection e es n))
    ∙ ap (λ (t : List Frame). t ++ rest run all) (frames_append sent later)
    ∙ append_assoc (frames_of sent) (frames_of later) (rest run all)
    ∙ ap (λ (t : List Frame). frames_of sent ++ t)
    (ap (λ (j : ℕ). frames_of later ++ rest run j) (omega arith)
    ∙ events_are run fates (place_after e p) es (i + e.flights) (omega (arith, k)) (omega (arith, h)) o f
    (All-tail HasNoInjection e es n))
    ∙ flights_are run fates p e 0 e.flights i (omega (arith, k)) (omega (arith, h)) o f

past : {A : Type 0} (xs : List A) (i : ℕ) → length xs ≤ i → drop i xs ≡ []
past [] zero h = refl
past [] (suc i) h = refl
past (x ∷ xs) zero h = absurd (omega (arith, h))
past (x ∷ xs) (suc i) h = past xs i (omega (arith, h))

none_left : (run : Run) (i : ℕ) → length run.flights ≤ i → rest run i ≡ []
none_left run i h = ap (λ (t : List RecordedFlight). frames_flown t (drop i run.octets)) (past run.flights i h)

pub flights_captured : FlightsAreCaptured
flights_captured run w n =
    let fates : List FateValue = fates_of (length run.flights) run.events in
    let e = w.flights in
    sym (append-nil (frames_of (packets false run)))
    ∙ ap (λ (t : List Frame). frames_of (packets false run) ++ t) (sym (none_left run (0 + flights_of run.events) (omega (arith, e))))
    ∙ events_are run fates start run.events 0 refl (omega (arith, e)) w.octets (length_fates (length run.flights) run.events) n
