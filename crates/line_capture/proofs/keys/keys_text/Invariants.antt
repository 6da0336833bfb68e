use Rattle.std.proofs.Common.{◌≡◌, ◌++◌, drop}
use Rattle.std.specs.Prelude.{string_bytes}
use Rattle.line_capture.specs.Profiles as profiles
use Rattle.line_capture.proofs.keys.keys_text.Given as goal

-- what was written, and what the rest of the keys will be
abbrev pub invariant-loop-place : goal.invariant-loop-place
invariant-loop-place l = string_bytes l.text ++ profiles.keys_text (drop l.place l.keys) ≡ profiles.keys_text l.keys
