-- What a command lacks is what it would be refused for.
use Rattle.std.proofs.Common.{◌≡◌, ℕ, Bool, true, false, List, length, Option, Some, None, Ok, Err, refl, sym, ap, ◌∙◌, arith}
use Rattle.std.specs.Prelude.{nat_lt, is_some, if◌then◌else◌}
use Rattle.std.specs.Option.{option_map_or}
use Rattle.std.proofs.lemmas.Bool.Decides.{nat_tests}
use Rattle.node_rules.specs.declared.heard.SentHow.TheVariants.{Sent, Waiting}
use Rattle.node_rules.specs.declared.refusal.SendRefusal.TheVariants.{NotJoined}
use Rattle.node_rules.specs.Memory.{StationMemory, Command, address_of, next_hop}
use Rattle.node_rules.specs.Plans.{resting}
use Rattle.node_rules.specs.Drafts.{Draft, Ends, alone, empty_draft, body_goes, waits, seeks, seeks_once, goes, with_own_number, lack, no_room, numbers_spent}
use Rattle.node_rules.specs.Drafts.{is_awaited, counters_left, refused, sealed, checked}
use Rattle.node_rules.specs.Calls.{sending_ends, command_from, room_fault, how}
use Rattle.node_rules.specs.Laws.{TheRoomNamesTheRefusal, command_answer}

never_less : (n : ℕ) → nat_lt n 0 ≡ false
never_less n = grind (arith, nat_tests)

-- what a doing is answered with by the counters that are left for its frames
sealed_answer : {H E : Type 0} (ends : Ends E) (l : StationMemory) (d : Draft StationMemory) (answer : H) (frames : ℕ) (few : Bool)
    → length d.units ≡ frames → nat_lt (counters_left l) frames ≡ few → (sealed alone ends l d answer).answer ≡ (if few then Err ends.spent else Ok answer)
unfolding sealed resting
sealed_answer ends l d answer frames true same few = rw (same, few) refl
sealed_answer ends l d answer frames false same few = rw (same, few) refl

-- how a body goes out, by the next hop
how_is : (l : StationMemory) (to : ℕ) (hop : Option ℕ) → next_hop l to ≡ hop → (if is_some hop then Sent else Waiting) ≡ how l to
how_is l to hop e = sym (ap (λ (o : Option ℕ). if is_some o then Sent else Waiting) e)

module _ (l : StationMemory) (own to : ℕ) (octets : List ℕ) (now : ℕ) where
  by_route : (hop : ℕ) (few : Bool) → next_hop l to ≡ Some hop → nat_lt (counters_left l) 1 ≡ few
      → (command_from l own to octets now).answer ≡ command_answer l to (room_fault l to (length octets))
  unfolding checked lack empty_draft body_goes
  by_route hop true e few = rw (e, few) (sealed_answer sending_ends l (body_goes own hop to 0 (Command octets) (empty_draft l)) Sent 1 true refl few)
  by_route hop false e few = rw (e, few)
      (sealed_answer sending_ends l (body_goes own hop to 0 (Command octets) (empty_draft l)) Sent 1 false refl few ∙ ap Ok (how_is l to (Some hop) e))

  by_counters : (few : Bool) → next_hop l to ≡ None → no_room l (length octets) ≡ false → is_awaited l to ≡ false → numbers_spent l ≡ false
      → nat_lt (counters_left l) 1 ≡ few
      → (command_from l own to octets now).answer ≡ command_answer l to (room_fault l to (length octets))
  unfolding checked lack seeks_once empty_draft waits goes with_own_number
  by_counters true e full asked numbers few =
      rw (e, full, asked, numbers, few) (sealed_answer sending_ends l (waits to 0 (Command octets) now (seeks own to (empty_draft l))) Waiting 1 true refl few)
  by_counters false e full asked numbers few =
      rw (e, full, asked, numbers, few)
      (sealed_answer sending_ends l (waits to 0 (Command octets) now (seeks own to (empty_draft l))) Waiting 1 false refl few ∙ ap Ok (how_is l to None e))

  by_room : (full asked spent : Bool) → next_hop l to ≡ None → no_room l (length octets) ≡ full → is_awaited l to ≡ asked → numbers_spent l ≡ spent
      → (command_from l own to octets now).answer ≡ command_answer l to (room_fault l to (length octets))
  unfolding checked lack seeks_once empty_draft waits resting
  by_room true asked spent e full k numbers = rw (e, full) refl
  by_room false true spent e full k numbers =
      rw (e, full, k, never_less (counters_left l)) (sealed_answer sending_ends l (waits to 0 (Command octets) now (empty_draft l)) Waiting 0 false refl
      (never_less (counters_left l)) ∙ ap Ok (how_is l to None e))
  by_room false false true e full k numbers = rw (e, full, k, numbers) refl
  by_room false false false e full k numbers = by_counters (nat_lt (counters_left l) 1) e full k numbers refl

  by_hop : (hop : Option ℕ) → next_hop l to ≡ hop → (command_from l own to octets now).answer ≡ command_answer l to (room_fault l to (length octets))
  by_hop (Some hop) e = by_route hop (nat_lt (counters_left l) 1) e refl
  by_hop None e = by_room (no_room l (length octets)) (is_awaited l to) (numbers_spent l) e refl refl refl

pub room_names : TheRoomNamesTheRefusal
unfolding resting
room_names l to octets now = by_address (address_of l)
  where
    by_address : (own : Option ℕ) → (option_map_or (λ o. command_from l o to octets now) own (refused sending_ends l NotJoined)).answer
        ≡ command_answer l to (option_map_or (λ _. room_fault l to (length octets)) own (Some NotJoined))
    by_address None = refl
    by_address (Some own) = by_hop l own to octets now (next_hop l to) refl
