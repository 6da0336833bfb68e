-- What is kept for a capture: octets, keys, and what an event adds.
use Rattle.std.proofs.Common.{◌≡◌, ◌||◌, ℕ, zero, suc, ◌+◌, Bool, true, false, List, [], ◌∷◌, ◌++◌, length, take, slice_get}
use Rattle.std.proofs.Common.{Option, None, Some, refl, sym, ap, ◌∙◌, arith}
use Rattle.std.specs.Prelude.{bytes_eq, is_some, option_to_list, ◌-◌, if◌then◌else◌}
use Rattle.std.specs.List.{list_any}
use Rattle.std.specs.Option.{option_map}
use Rattle.std.proofs.lemmas.List.{length-map, take_all}
use Rattle.std.proofs.lemmas.Option.{slice_get-map}
use Rattle.std.specs.Cmp.Lexicographic.{bytes_decides}
use Rattle.line_events.specs.declared.event.Event.{Event}
use Rattle.line_rules.specs.Worlds.{Flight, World, flight_at}
use Rattle.line_script.specs.declared.report.Reason.{Reason}
use Rattle.line_record.specs.declared.recorded.RecordedEvent.{RecordedEvent}
use Rattle.line_record.specs.RunRecords.{numbered}
use Rattle.script_runs.specs.TakenLines.{Taking, Skipped, Taken, Refused}
use Rattle.pcapng.specs.Blocks.{capture}
use Rattle.plc_base.specs.declared.address.Eui.{Eui}
use Rattle.line_script.specs.declared.report.Totals.{Totals}
use Rattle.line_capture.specs.Captures.{Run, blocks}
use Rattle.line_view.specs.declared.capture.Wanted.TheVariants as wants
use Rattle.line_view.specs.CaptureRuns.{CaptureRun, injected_with, keys_with, octets_of, output_by, rules, totals_of, with_key}
use Rattle.line_view.specs.Recordings.{Recording, Recorded, recording_after, event_of_entry}
use Rattle.line_view.specs.RunMachines.{Stepped}
use Rattle.line_view.proofs.Recorded.{above_zero, last_recorded}

-- # Lists

one_more : {A : Type 0} (xs : List A) (i : ℕ) → take (suc i) xs ≡ take i xs ++ option_to_list (slice_get xs i)
one_more [] zero = refl
one_more [] (suc i) = refl
one_more (x ∷ xs) zero = refl
one_more (x ∷ xs) (suc i) = ap (λ t. x ∷ t) (one_more xs i)

-- # The octets of frames

-- one string more
pub string_more : (strings old new : List (List ℕ)) (got : Option (List ℕ)) (i : ℕ) → old ≡ take i strings → got ≡ slice_get strings i
    → new ≡ old ++ option_to_list got → new ≡ take (i + 1) strings
string_more strings old new got i was is added =
    let next : i + 1 ≡ suc i = omega arith in
    rw next (added
    ∙ ap (λ (xs : List (List ℕ)). xs ++ option_to_list got) was
    ∙ ap (λ (o : Option (List ℕ)). take i strings ++ option_to_list o) is
    ∙ sym (one_more strings i))

flight_octets : (w : World) (i : ℕ) → option_map (λ (f : Flight). f.octets) (flight_at w (i + 1)) ≡ slice_get (octets_of w) i
flight_octets w i =
    ap (λ (b : Bool). option_map (λ (f : Flight). f.octets) (if b then None else slice_get w.flights (i + 1 - 1))) (above_zero (i + 1) (omega arith))
    ∙ ap (λ (j : ℕ). option_map (λ (f : Flight). f.octets) (slice_get w.flights j)) (omega arith)
    ∙ sym (slice_get-map (λ (f : Flight). f.octets) w.flights i)

-- one flight more
pub flight_more : (w : World) (old new : List (List ℕ)) (got : Option (List ℕ)) (i : ℕ) → old ≡ take i (octets_of w)
    → got ≡ option_map (λ (f : Flight). f.octets) (flight_at w (i + 1)) → new ≡ old ++ option_to_list got → new ≡ take (i + 1) (octets_of w)
flight_more w old new got i was is added = string_more (octets_of w) old new got i was (is ∙ flight_octets w i) added

-- all flights
pub flights_all : (w : World) (list : List (List ℕ)) (n : ℕ) → n ≡ length w.flights → list ≡ take n (octets_of w) → list ≡ octets_of w
flights_all w list n count is =
    let same = length-map w.flights (λ (f : Flight). f.octets) in is ∙ take_all n (octets_of w) (omega (arith, count, same))

-- # Keys

no_truth : false ≡ true → ⊥
no_truth is = cc

-- a key that is among others has a place there
record HasPlace (key : List ℕ) (keys : List (List ℕ)) : Type 0 where
  place : ℕ
  there : slice_get keys place ≡ Some key

place_by : (b : Bool) (key x : List ℕ) (keys : List (List ℕ)) → bytes_eq key x ≡ b → (b || list_any (bytes_eq key) keys) ≡ true
    → (list_any (bytes_eq key) keys ≡ true → HasPlace key keys) → HasPlace key (x ∷ keys)
place_by true key x keys e h more = record { place = zero; there = ap Some (sym ((bytes_decides key x).0 e)) }
place_by false key x keys e h more = record { place = suc (more h).place; there = (more h).there }

place_of : (key : List ℕ) (keys : List (List ℕ)) → list_any (bytes_eq key) keys ≡ true → HasPlace key keys
place_of key [] h = absurd (no_truth h)
place_of key (x ∷ keys) h = place_by (bytes_eq key x) key x keys refl h (λ more. place_of key keys more)

either : (b : Bool) → (b || true) ≡ true
either true = refl
either false = refl

-- a key that has a place is among them
among : (key : List ℕ) (keys : List (List ℕ)) (k : ℕ) → slice_get keys k ≡ Some key → list_any (bytes_eq key) keys ≡ true
among key [] k h = absurd (cc)
among key (x ∷ keys) zero h =
    let same : x ≡ key = cc in
    ap (λ b. b || list_any (bytes_eq key) keys) ((bytes_decides key x).1 (sym same))
among key (x ∷ keys) (suc k) h = ap (λ b. bytes_eq key x || b) (among key keys k h) ∙ either (bytes_eq key x)

key_by : (b : Bool) (key : List ℕ) (old new : List (List ℕ)) → list_any (bytes_eq key) old ≡ b
    → ((k : ℕ) → slice_get old k ≡ Some key → new ≡ old) → (((k : ℕ) → slice_get old k ≡ Some key → ⊥) → new ≡ old ++ (key ∷ []))
    → new ≡ (if b then old else old ++ (key ∷ []))
key_by true key old new e known added = let p = place_of key old e in known p.place p.there
key_by false key old new e known added = added (λ k h. no_truth (sym e ∙ among key old k h))

-- a key was drawn
pub key_drawn : (key : List ℕ) (old new : List (List ℕ)) → ((k : ℕ) → slice_get old k ≡ Some key → new ≡ old)
    → (((k : ℕ) → slice_get old k ≡ Some key → ⊥) → new ≡ old ++ (key ∷ [])) → new ≡ with_key key old
key_drawn key old new known added = key_by (list_any (bytes_eq key) old) key old new refl known added

-- # An event

abbrev next_of : CaptureRun → Recording → List (List ℕ) → List (List ℕ) → CaptureRun
next_of m run injected keys = record m { run = run; injected = injected; keys = keys }

no_falsehood : true ≡ false → ⊥
no_falsehood is = cc

-- an event that was taken and recorded, and of which the octets and the key were kept
pub entry_captured : (row : ℕ) (m : CaptureRun) (e : Event) (run : Recording) (injected keys : List (List ℕ)) (t : Taking) (refusal : Option Reason)
    → Recorded row e m.run run t refusal → is_some refusal ≡ false → injected ≡ injected_with e m.injected
    → ((recorded : RecordedEvent) → numbered run.events (length run.events) ≡ Some recorded → keys ≡ keys_with e recorded.answer m.keys)
    → Stepped rules row m (next_of m run injected keys) t None
entry_captured row m e run injected keys Skipped refusal r none brought drew = absurd r
entry_captured row m e run injected keys (Taken entry) refusal r none brought drew =
    let recorded : RecordedEvent = event_of_entry row entry m.run in
    let there : numbered run.events (length run.events) ≡ Some recorded
    = ap (λ (x : Recording). numbered x.events (length x.events)) r.1.1 ∙ last_recorded row entry m.run in
    let new : Recording = recording_after row entry m.run in (
      refl,
      ap (λ (x : Recording). next_of m x injected keys) r.1.1
          ∙ ap (λ (x : List (List ℕ)). next_of m new x keys) (brought ∙ ap (λ (x : Event). injected_with x m.injected) (sym r.1.0))
          ∙ ap (λ (x : List (List ℕ)). next_of m new (injected_with entry.event m.injected) x)
          (drew recorded there ∙ ap (λ (x : Event). keys_with x recorded.answer m.keys) (sym r.1.0)),
    )
entry_captured row m e run injected keys (Refused why) refusal r none brought drew =
    absurd (no_falsehood (ap (λ (o : Option Reason). is_some o) (sym r.0) ∙ none))

-- # A capture

-- the file that is written is the one of the definition
pub frames_written : (heard : Bool) (m : CaptureRun) (remark items : List ℕ) (totals : Totals) (euis : List Eui) (run : Run) (octets injected : List (List ℕ))
    → items ≡ capture (blocks heard totals remark euis run) → totals ≡ totals_of m.run.world → euis ≡ m.run.euis
    → run ≡ record { events = m.run.events; flights = m.run.flights; octets = octets; injected = injected }
    → octets ≡ octets_of m.run.world → injected ≡ m.injected → items ≡ output_by (wants.Frames heard) m remark
frames_written heard m remark items totals euis run octets injected file counted made ran flown brought =
    file
    ∙ ap (λ (x : Totals). capture (blocks heard x remark euis run)) counted
    ∙ ap (λ (x : List Eui). capture (blocks heard (totals_of m.run.world) remark x run)) made
    ∙ ap (λ (x : Run). capture (blocks heard (totals_of m.run.world) remark m.run.euis x)) (ran
    ∙ ap (λ (x : List (List ℕ)). record { events = m.run.events; flights = m.run.flights; octets = x; injected = injected }) flown
    ∙ ap (λ (x : List (List ℕ)). record { events = m.run.events; flights = m.run.flights; octets = octets_of m.run.world; injected = x }) brought)
