use Rattle.std.proofs.Common.{◌≡◌, ◌++◌, drop, flat_map, map}
use Rattle.std.specs.Prelude.{string_bytes}
use Rattle.script_faults.specs.Texts.{more_quoted}
use Rattle.script_faults.proofs.object.push_rest.Given as goal

-- what was written, and what the rest of the notes will be
abbrev pub invariant-loop-note : goal.invariant-loop-note
invariant-loop-note l =
    string_bytes l.text ++ flat_map more_quoted (map string_bytes (drop l.note-index l.notes))
    ≡ string_bytes l.fn.text ++ flat_map more_quoted (map string_bytes l.notes)
