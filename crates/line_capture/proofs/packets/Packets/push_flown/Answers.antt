use Rattle.std.proofs.Common.{◌≡◌, ◌+◌, ◌∙◌, ℕ, List, length, ap, arith}
use Rattle.pcapng.specs.declared.options.Direction.TheVariants.{Outbound}
use Rattle.line_capture.specs.Captures.{flown_notes, run_of, tap_sent}
use Rattle.line_capture.specs.Places.{time_at}
use Rattle.line_capture.proofs.AddedBlocks.{adds_packet}
use Rattle.line_capture.proofs.Options.{few_octets}
use Rattle.line_capture.proofs.Rooms.{frame_of, sent_short}
use Rattle.line_capture.proofs.Steps.{flown_added}
use Rattle.line_capture.proofs.packets.Packets.push_flown.Goals as goal

pub push_outbound-requires-clause-room : goal.push_outbound-requires-clause-room
push_outbound-requires-clause-room c =
    let notes = flown_notes c.args.place.now.number c.args.recorded.now (c.args.place.now.flight + c.from.result) c.in-Some.flown.now.note
    c.in-Some-fate_numbered.fate.now in
    let a = few_octets 60 notes c.in_ok-note_flown.ensures.few in
    omega (arith, a, ap (λ (l : List ℕ). length l) c.in_ok-note_flown.ensures.options)

pub returns-clause-adds : goal.returns-clause-adds
returns-clause-adds c =
    let self = c.args.self.now in
    let place = c.args.place.now in
    let recorded = c.args.recorded.now in
    let run = run_of c.args.run.now in
    let flown = c.in-Some.flown.now in
    let octets = c.in-Some-numbered.octets.now in
    let fate = c.in-Some-fate_numbered.fate.now in
    let moment : c.time.result + 1 + c.from-2.result ≡ time_at place recorded.act + 1 + c.args.nth
    = ap (λ n. n + 1 + c.from-2.result) c.time.ensures.time ∙ ap (λ n. time_at place recorded.act + 1 + n) c.from-2.ensures in
    flown_added self.out.items _ self.tap run c.args.fates.now place recorded c.args.nth flown octets fate
    (rw c.from.ensures at c.in-Some.ensures) (rw c.from.ensures at c.in-Some-numbered.ensures) (rw c.from.ensures at c.in-Some-fate_numbered.ensures)
    (adds_packet self.out.items _ c.note_flown.new.notes.options (tap_sent self.tap) octets c.from-3.result flown.from
    (c.time.result + 1 + c.from-2.result) (time_at place recorded.act + 1 + c.args.nth) Outbound
    (flown_notes place.number recorded (place.flight + c.args.nth) flown.note fate) c.in_ok-push_outbound.ensures.out c.from-3.ensures moment
    (rw c.from.ensures at c.in_ok-note_flown.ensures.options) (omega (arith, c.from-3.ensures))
    (omega (arith, c.time.ensures.time, c.time.ensures.bound)) (sent_short self.tap)
    (frame_of run.octets (place.flight + c.from.result) octets c.requires.run.octets c.in-Some-numbered.ensures)
    (rw c.from.ensures at c.in_ok-note_flown.ensures.few))
