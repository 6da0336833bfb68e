use Rattle.std.proofs.Common.{◌≡◌, ◌++◌, drop, length, string_bytes}
use Rattle.story_accounts.specs.Waits.{numbers_from}
use Rattle.story_accounts.proofs.waiting.push_numbers.Given as goal

-- the numbers so far and those to come
abbrev pub invariant-loop-i : goal.invariant-loop-i
invariant-loop-i l =
    string_bytes l.text ++ numbers_from l.i (length l.numbers) (drop l.i l.numbers)
    ≡ string_bytes l.fn.text ++ numbers_from 0 (length l.numbers) l.numbers
