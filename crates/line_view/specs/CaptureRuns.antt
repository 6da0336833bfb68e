-- What `capture`, `keys` and `addresses` write of a script.
use Rattle.std.specs.Prelude.{ℕ, Bool, true, false, nat_lt, List, [], ◌∷◌, ◌++◌, bytes_eq, length, map, if◌then◌else◌}
use Rattle.std.specs.List.{list_any}
use Rattle.script_lines.specs.Outcomes.{Outcome, Skips}
use Rattle.pcapng.specs.Blocks.{capture}
use Rattle.line_events.specs.declared.event.Answer.{Answer}
use Rattle.line_events.specs.declared.event.Event.{Event}
use Rattle.line_events.specs.declared.event.Event.TheVariants as events
use Rattle.line_script.specs.declared.report.Totals.{Totals}
use Rattle.line_rules.specs.Worlds.{World}
use Rattle.line_rules.specs.Runs.{Entry}
use Rattle.line_capture.specs.Captures.{Run, blocks}
use Rattle.line_capture.specs.declared.senders.TheConstants.{ADDRESSES}
use Rattle.line_capture.specs.Profiles.{addresses_text, keys_text}
use Rattle.line_view.specs.BadLines.{bad_words}
use Rattle.line_view.specs.declared.capture.Wanted.{Wanted}
use Rattle.line_view.specs.declared.capture.Wanted.TheVariants as wants
use Rattle.line_view.specs.Recordings.{Recording, is_drawn, no_recording, recording_after}
use Rattle.line_view.specs.declared.run_machine.Finding.{Finding}
use Rattle.line_view.specs.declared.run_machine.Finding.TheVariants as findings
use Rattle.line_view.specs.RunMachines.{RunRules, forged_if, outcome_by}

-- what of a run is written, the run, the octets that no node sent, in the order of the events that brought them, and the keys that were drawn,
-- each as its index and its octets
pub record CaptureRun : Type 0 where
  pub wanted : Wanted
  pub run : Recording
  pub injected : List (List ℕ)
  pub keys : List (List ℕ)

abbrev pub nothing_captured : Wanted → CaptureRun
nothing_captured wanted = record { wanted = wanted; run = no_recording; injected = []; keys = [] }

-- # What an event adds

abbrev pub injected_with : Event → List (List ℕ) → List (List ℕ)
injected_with (events.Inject node cost octets) injected = injected ++ (octets ∷ [])
injected_with _ injected = injected

-- a key that is not there yet
abbrev pub with_key : List ℕ → List (List ℕ) → List (List ℕ)
with_key key keys = if list_any (bytes_eq key) keys then keys else keys ++ (key ∷ [])

abbrev pub key_if : Bool → List ℕ → List (List ℕ) → List (List ℕ)
key_if true key keys = with_key key keys
key_if false key keys = keys

abbrev pub keys_with : Event → Answer → List (List ℕ) → List (List ℕ)
keys_with (events.Coordinator eui key) _ keys = with_key (0 ∷ key.0) keys
keys_with (events.Rekey index key) answer keys = key_if (is_drawn answer) (index ∷ key.0) keys
keys_with _ _ keys = keys

-- # What is written

abbrev pub totals_of : World → Totals
totals_of w = record { events = w.events; flights = length w.flights; sends = w.sends; ups = w.ups; forged = w.forged }

-- the octets of the flights
abbrev pub octets_of : World → List (List ℕ)
octets_of w = map (λ f. f.octets) w.flights

-- the run as a capture shows it
abbrev pub run_of : CaptureRun → Run
run_of m = record { events = m.run.events; flights = m.run.flights; octets = octets_of m.run.world; injected = m.injected }

-- with a remark where a capture ends at a bad line
abbrev pub output_by : Wanted → CaptureRun → List ℕ → List ℕ
output_by (wants.Frames heard) m remark = capture (blocks heard (totals_of m.run.world) remark m.run.euis (run_of m))
output_by wants.Keys m remark = keys_text m.keys
output_by wants.Addresses m remark = addresses_text ADDRESSES (octets_of m.run.world) m.injected

unfoldable pub output_of : CaptureRun → List ℕ → List ℕ
output_of m remark = output_by m.wanted m remark

-- # Lines

-- after an entry of the script, which stands in a line of this number
abbrev pub after_entry : ℕ → Entry → CaptureRun → CaptureRun
after_entry row entry m =
    record m {
      run = recording_after row entry m.run;
      injected = injected_with entry.event m.injected;
      keys = keys_with entry.event entry.trace.happenings.answer m.keys;
    }

-- whether the frames are written, and an event was forged
abbrev pub finding_by : Wanted → World → Finding
finding_by (wants.Frames heard) w = forged_if (nat_lt 0 w.forged)
finding_by wants.Keys w = findings.Nothing
finding_by wants.Addresses w = findings.Nothing

abbrev pub finding : CaptureRun → Finding
finding m = finding_by m.wanted m.run.world

-- a line without an event says nothing
abbrev pub rules : RunRules CaptureRun
rules =
    record {
      world = λ m. m.run.world;
      after_entry = after_entry;
      quiet_turn = λ m content. Skips;
      text = λ m bad. output_of m (bad_words bad);
      finding = finding;
    }

-- what a script does, where its input has ended or not
abbrev pub captured : Wanted → List ℕ → Bool → Outcome CaptureRun
captured wanted octets ended = outcome_by rules (nothing_captured wanted) octets ended
