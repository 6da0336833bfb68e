use Rattle.std.proofs.Common.{◌≡◌, ◌++◌, drop, flat_map, map}
use Rattle.std.specs.Prelude.{string_bytes}
use Rattle.script_faults.specs.Texts.{note_line}
use Rattle.script_faults.proofs.finding.push_each.Given as goal

-- what was written, and what the rest of the notes will be
abbrev pub invariant-loop-note : goal.invariant-loop-note
invariant-loop-note l =
    string_bytes l.text ++ flat_map (note_line l.row) (map string_bytes (drop l.note-index l.notes))
    ≡ string_bytes l.fn.text ++ flat_map (note_line l.row) (map string_bytes l.notes)
