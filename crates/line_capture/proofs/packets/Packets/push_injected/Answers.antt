use Rattle.std.proofs.Common.{◌+◌, ℕ, List, length, ap, arith, refl}
use Rattle.pcapng.specs.declared.options.Direction.TheVariants.{Inbound}
use Rattle.line_capture.specs.Captures.{injected_notes, run_of, tap_heard}
use Rattle.line_capture.specs.Places.{time_at}
use Rattle.line_capture.proofs.AddedBlocks.{adds_packet}
use Rattle.line_capture.proofs.Options.{few_octets}
use Rattle.line_capture.proofs.Rooms.{frame_of, heard_short}
use Rattle.line_capture.proofs.Steps.{injected_added}
use Rattle.line_capture.proofs.packets.Packets.push_injected.Goals as goal

pub push_inbound-requires-clause-room : goal.push_inbound-requires-clause-room
push_inbound-requires-clause-room c =
    let a = few_octets 60 (injected_notes c.args.place.now.number c.args.recorded.now c.args.cost) c.in_ok-note_injected.ensures.few in
    omega (arith, a, ap (λ (l : List ℕ). length l) c.in_ok-note_injected.ensures.options)

pub returns-clause-adds : goal.returns-clause-adds
returns-clause-adds c =
    let self = c.args.self.now in
    let place = c.args.place.now in
    let recorded = c.args.recorded.now in
    let run = run_of c.args.run.now in
    let octets = c.in-Some.octets.now in
    injected_added self.out.items _ self.tap run place recorded c.args.node c.args.cost octets c.in-Some.ensures
    (adds_packet self.out.items _ c.note_injected.new.notes.options (tap_heard self.tap c.args.cost) octets c.args.node c.args.node c.time.result
    (time_at place recorded.act) Inbound (injected_notes place.number recorded c.args.cost) c.in_ok-push_inbound.ensures.out refl c.time.ensures.time
    c.in_ok-note_injected.ensures.options (omega arith) (omega (arith, c.time.ensures.time, c.time.ensures.bound)) (heard_short self.tap c.args.cost)
    (frame_of run.injected (place.injected + 1) octets c.requires.run.injected c.in-Some.ensures) c.in_ok-note_injected.ensures.few)
