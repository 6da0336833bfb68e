-- The owner of a line, and what a turn of it leaves and brings.
use Rattle.std.specs.Prelude.{ℕ, ◌-◌, ltb, eqb, cond, true, false, List, Option}
use Rattle.rand_pcg.specs.Lcg.{Lcg}
use Rattle.air_draws.specs.Draws.{after, after_key, key_octets}
use Rattle.line_owner.specs.declared.asked.Reading.{Reading}
use Rattle.line_owner.specs.declared.member.Member.{Member}
use Rattle.line_owner.specs.declared.owner.Polls.{Polls}
use Rattle.line_owner.specs.declared.owner.Change.{Change}
use Rattle.line_owner.specs.declared.settings.Settings.{Settings}
use Rattle.line_owner.specs.declared.acts.Act.TheVariants.{Step, Put, Dark}
use Rattle.line_owner.specs.declared.acts.Acts.{Acts}
use Rattle.line_owner.specs.declared.acts.Acts.TheVariants.{Nothing, One, Two}
use Rattle.line_owner.specs.declared.acts.Command.TheVariants.{RandomOctets, Restart}
use Rattle.line_owner.specs.declared.acts.Task.TheVariants.{Restore, TryJoin}
use Rattle.line_owner.specs.Members.{member_at, with_member}
use Rattle.line_owner.specs.Asked.{with_reading}
use Rattle.line_owner.specs.Times.{micros, later}

pub record OwnerState : Type 0 where
  pub settings : Settings
  pub members : List Member
  pub readings : List ((ℕ × ℕ) × Reading)
  pub polls : Polls
  pub change : Option Change
  pub times : Lcg
  pub keys : Lcg

-- the owner after a turn, and what it does next, in that order
pub record Turned : Type 0 where
  pub owner : OwnerState
  pub acts : Acts

abbrev pub does : OwnerState → Acts → Turned
does o acts = record { owner = o; acts = acts }

-- nothing is to do
abbrev pub rests : OwnerState → Turned
rests o = does o Nothing

abbrev pub with_node : ℕ → Member → OwnerState → OwnerState
with_node node m o = record o { members = with_member node m o.members }

abbrev pub with_asked : ℕ → ℕ → Reading → OwnerState → OwnerState
with_asked node round reading o = record o { readings = with_reading node round reading o.readings }

-- a number of the times was drawn
abbrev pub timed : OwnerState → OwnerState
timed o = record o { times = after o.times }

-- a key was drawn
abbrev pub keyed : OwnerState → OwnerState
keyed o = record o { keys = after_key o.keys }

-- a node is given a random value, unless it holds this many
unfoldable pub gives : ℕ → ℕ → OwnerState → Turned
gives node least o =
    let m = member_at node o.members in
    cond (ltb m.rands least) (does (keyed o) (One (Step (RandomOctets node least (key_octets o.keys))))) (rests o)

-- a node has spent a random value
abbrev pub spends : ℕ → OwnerState → OwnerState
spends node o = let m = member_at node o.members in with_node node (record m { rands = m.rands - 1 }) o

-- # Power

-- a node that has power loses it for a time
unfoldable pub fails : ℕ → ℕ → ℕ → OwnerState → Turned
fails now node seconds o =
    let m = member_at node o.members in
    cond m.powered
    (does (with_node node (record m { powered = false; off_for = 0 }) o)
    (Two (Dark node seconds) (Put (later now (micros seconds)) (Restore node))))
    (rests o)

-- how long a node has no power after a write that failed: a minute, where nothing else was said
abbrev pub off_after_write : Member → ℕ
off_after_write m = cond (eqb m.off_for 0) 60 m.off_for

unfoldable pub fails_at_write : ℕ → ℕ → OwnerState → Turned
fails_at_write now node o = fails now node (off_after_write (member_at node o.members)) o

-- power is back: the node starts again, without random values; a meter that has not joined tries to
unfoldable pub restores : ℕ → ℕ → OwnerState → Turned
restores now node o =
    let m = member_at node o.members in
    does (with_node node (record m { powered = true; rands = 0 }) o)
    (cond (eqb node 0) (One (Step (Restart node)))
    (cond m.joined (One (Step (Restart node))) (Two (Step (Restart node)) (Put (later now 1000000) (TryJoin node)))))
