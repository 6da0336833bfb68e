use Rattle.std.proofs.Common.{◌≡◌, map, string_bytes}
use Rattle.toml.specs.View.{members_view}
use Rattle.line_plan.specs.Unknowns.{first_stranger, names_of}
use Rattle.line_plan.proofs.unknown.stranger.Given as goal

-- the first stranger of the keys to come is that of all
abbrev pub invariant-loop-key : goal.invariant-loop-key
invariant-loop-key l = first_stranger l.known (map string_bytes l.key-iterator) ≡ first_stranger l.known (names_of (members_view l.table.entries))
