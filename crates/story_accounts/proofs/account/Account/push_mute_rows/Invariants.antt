use Rattle.std.proofs.Common.{◌≡◌, ◌++◌, drop, string_bytes}
use Rattle.story_accounts.specs.Sections.{mute_rows}
use Rattle.story_accounts.proofs.account.Account.push_mute_rows.Given as goal

-- the rows so far and those to come
abbrev pub invariant-loop-flight : goal.invariant-loop-flight
invariant-loop-flight l = string_bytes l.text ++ mute_rows l.self (drop l.flight-index l.flights) ≡ string_bytes l.fn.text ++ mute_rows l.self l.flights
