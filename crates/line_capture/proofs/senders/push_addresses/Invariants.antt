use Rattle.std.proofs.Common.{◌≡◌, ◌++◌, drop}
use Rattle.std.specs.Prelude.{string_bytes}
use Rattle.line_capture.specs.Profiles.{seen_text}
use Rattle.line_capture.proofs.senders.push_addresses.Given as goal

-- what was written, and what the rest of the addresses will be
abbrev pub invariant-loop-place : goal.invariant-loop-place
invariant-loop-place l = string_bytes l.text ++ seen_text l.place (drop l.place l.seen) ≡ string_bytes l.fn.text ++ seen_text 0 l.seen
