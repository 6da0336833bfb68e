use Rattle.std.proofs.Common.{◌≡◌, ◌≤◌, ◌++◌, drop}
use Rattle.std.specs.Prelude.{All}
use Rattle.pcapng.specs.Blocks.{options_spelling}
use Rattle.line_capture.specs.Comments.{arrivals_notes, meant_from}
use Rattle.line_capture.specs.Sentences.{IsSmall}
use Rattle.line_capture.proofs.comments.note_arrivals.Given as goal

-- what was noted and what the rest of the arrivals will add, and how many are meant
abbrev pub invariant-loop-arrival : goal.invariant-loop-arrival
invariant-loop-arrival l =
    record {
      options : l.notes.options ++ options_spelling (arrivals_notes l.meant (drop l.arrival-index l.arrivals))
          ≡ l.fn.notes.options ++ options_spelling (arrivals_notes 0 l.arrivals);
      count : meant_from l.meant (drop l.arrival-index l.arrivals) ≡ meant_from 0 l.arrivals;
      bound : l.meant ≤ l.arrival-index;
      small : All IsSmall (arrivals_notes l.meant (drop l.arrival-index l.arrivals)) → All IsSmall (arrivals_notes 0 l.arrivals);
    }
