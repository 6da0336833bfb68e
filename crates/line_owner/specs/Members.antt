-- What the owner knows of its nodes, by their numbers. Node 0 is the coordinator.
use Rattle.std.specs.Prelude.{ℕ, ◌+◌, ◌-◌, ◌^◌, eqb, ltb, cond, Bool, true, false, List, [], ◌∷◌, length, map, Option, Some, None, slice_get}
use Rattle.std.specs.Prelude.{slice_set}
use Rattle.std.specs.Option.{unwrap_or}
use Rattle.line_owner.specs.declared.member.Member.{Member}
use Rattle.line_owner.specs.declared.member.Phase.{Phase}
use Rattle.line_owner.specs.declared.member.Phase.TheVariants.{Out, Waits, Open, Done, Unreached}
use Rattle.line_owner.specs.declared.member.Choice.{Choice}
use Rattle.line_owner.specs.declared.member.Choice.TheVariants.{Waiting, Challenged, Settled}

-- one more of a count of 32 bits, which stays at the last one
abbrev pub more : ℕ → ℕ
more n = cond (ltb n (2 ^ 32 - 1)) (n + 1) n

-- a node that is not on the line
abbrev pub no_member : Member
no_member =
    record {
      joined = false;
      powered = false;
      booked = false;
      polled = false;
      depth = 0;
      rands = 0;
      join_tries = 0;
      turns = 0;
      agent = 0;
      missed = 0;
      off_for = 0;
      phase = Out;
      challenges = 0;
    }

-- a node with power that has not joined
abbrev pub new_member : ℕ → Member
new_member depth = record no_member { powered = true; depth = depth }

abbrev pub is_chosen_in : Choice → Phase → Bool
is_chosen_in _ Out = false
is_chosen_in Waiting Waits = true
is_chosen_in Challenged Waits = false
is_chosen_in Settled Waits = false
is_chosen_in Waiting Open = false
is_chosen_in Challenged Open = true
is_chosen_in Settled Open = false
is_chosen_in Waiting Done = false
is_chosen_in Challenged Done = false
is_chosen_in Settled Done = true
is_chosen_in Waiting Unreached = false
is_chosen_in Challenged Unreached = false
is_chosen_in Settled Unreached = true

abbrev pub is_chosen : Choice → Member → Bool
is_chosen choice m = is_chosen_in choice m.phase

unfoldable pub member_at : ℕ → List Member → Member
member_at node members = unwrap_or (slice_get members node) no_member

unfoldable pub with_member : ℕ → Member → List Member → List Member
with_member node m members = cond (ltb node (length members)) (slice_set members node m) members

-- of the nodes from a number on, the chosen one with this many chosen before it
abbrev pub nth_of : Choice → ℕ → ℕ → List Member → Option ℕ
nth_of choice before node [] = None
nth_of choice before node (m ∷ ms) =
    cond (is_chosen choice m) (cond (eqb before 0) (Some node) (nth_of choice (before - 1) (more node) ms)) (nth_of choice before (more node) ms)

abbrev pub unpolled : Member → Member
unpolled m = record m { polled = false }

-- where a meter stands before a change of the key
abbrev pub phase_before : Bool → Phase
phase_before booked = cond booked Waits Out

-- a meter that the book has is to be challenged
abbrev pub waits_for_key : Member → Member
waits_for_key m = record m { phase = phase_before m.booked; challenges = 0 }

abbrev pub without_part : Member → Member
without_part m = record m { phase = Out; challenges = 0 }

-- all meters that the book has, and not the coordinator
unfoldable pub all_wait : List Member → List Member
all_wait [] = []
all_wait (m ∷ ms) = without_part m ∷ map waits_for_key ms
