use Rattle.line_capture.specs.Captures.{run_of}
use Rattle.line_capture.proofs.Steps.{file_added}
use Rattle.line_capture.proofs.file.push_blocks.Goals as goal

pub returns : goal.returns
returns c =
    file_added c.args.packets.now.out.items c.push_section.new.out.items c.push_interfaces.new.out.items c.push_events.new.self.out.items
    c.args.packets.now.tap c.args.run.now.totals c.args.remark.now c.args.run.now.euis.now (run_of c.args.run.now) c.args.fates.now c.requires.fates
    c.in_ok-push_section.ensures c.in_ok-push_interfaces.ensures c.in_ok-push_events.ensures.adds
