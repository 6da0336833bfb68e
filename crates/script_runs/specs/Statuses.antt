-- How a call of a program ends.
use Rattle.std.specs.Prelude.{ℕ, Bool, true, false}
use Rattle.script_lines.specs.declared.machine.Exit.{Exit}
use Rattle.script_lines.specs.declared.machine.Exit.TheVariants as exits
use Rattle.script_runs.specs.declared.status.Status.{Status}
use Rattle.script_runs.specs.declared.status.Status.TheVariants as status

-- the number that the program ends with
abbrev pub status_number : Status → ℕ
status_number status.Fine = 0
status_number status.BadScript = 1
status_number status.Usage = 2
status_number status.Memory = 3
status_number status.ReadFault = 4
status_number status.WriteFault = 5
status_number status.Forged = 6
status_number status.LimitReached = 7

-- the status of a run over lines, by how it ended, and, where it came to its end, by whether it has seen what `found` says
abbrev pub status_of : Exit → Bool → Status → Status
status_of exits.Fine false found = status.Fine
status_of exits.Fine true found = found
status_of exits.BadScript is_found found = status.BadScript
status_of exits.Memory is_found found = status.Memory
status_of exits.ReadFault is_found found = status.ReadFault
status_of exits.WriteFault is_found found = status.WriteFault
