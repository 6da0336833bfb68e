use Rattle.std.proofs.Common.{◌≡◌, ◌++◌, drop}
use Rattle.std.specs.Prelude.{string_bytes}
use Rattle.story_accounts.specs.Fates.{hearers_from}
use Rattle.story_accounts.proofs.account.Account.push_hearers.Given as goal

-- the events so far and those to come
abbrev pub invariant-loop-i : goal.invariant-loop-i
invariant-loop-i l =
    string_bytes l.text ++ hearers_from l.self l.i (drop l.i l.events) ≡ string_bytes l.fn.text ++ hearers_from l.self 0 l.events
