use Rattle.std.proofs.Common.{◌≡◌, [], replicate}
use Rattle.story_accounts.proofs.numbers.no_numbers.Given as goal

-- the lists so far
abbrev pub invariant-loop : goal.invariant-loop
invariant-loop l = l.lists.items ≡ replicate l.counter []
