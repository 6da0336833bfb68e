use Rattle.line_capture.proofs.AddedBlocks.{adds_reads}
use Rattle.line_capture.proofs.file.capture_file.Goals as goal

pub returns-clause-file : goal.returns-clause-file
returns-clause-file c = c.in_ok-file.ensures.octets

pub returns-clause-reads_back : goal.returns-clause-reads_back
returns-clause-reads_back c = adds_reads c.in_ok-file.file.items _ c.in_ok-file.ensures
