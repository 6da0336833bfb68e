use Rattle.std.proofs.Common.{◌≡◌, ◌++◌, flat_map}
use Rattle.std.specs.Prelude.{string_bytes}
use Rattle.text_signs.specs.Signs.{sign_text}
use Rattle.text_signs.proofs.shown_texts.push_shown.Given as goal

-- what is shown of the characters so far
abbrev pub invariant-loop-sign : goal.invariant-loop-sign
invariant-loop-sign l = string_bytes l.text ≡ string_bytes l.fn.text ++ flat_map sign_text l.yielded
