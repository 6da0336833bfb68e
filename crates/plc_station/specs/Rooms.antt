-- What `room` answers.
use Rattle.std.specs.Prelude.{Option, Some, None, Result, Ok, Err}
use Rattle.node_rules.specs.declared.refusal.SendRefusal.{SendRefusal}

-- a fault is an error
abbrev pub room_answer : Option SendRefusal → Result (Unit {0}) SendRefusal
room_answer None = Ok tt
room_answer (Some reason) = Err reason
