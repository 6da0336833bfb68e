-- Plans that are made of plans, as a meter and the coordinator make theirs of what their station does.
use Rattle.std.specs.Prelude.{◌≡◌, ℕ, ◌++◌, nat_lt, List, [], map, Bool, false, if◌then◌else◌, None, IsSome, Result, Ok, Err, ⊤}
use Rattle.std.specs.Option.{option_map}
use Rattle.plc_base.specs.declared.out_frame.Out.{Out}
use Rattle.plc_base.specs.declared.tags.PairTag.{PairTag}
use Rattle.plc_base.specs.Keeper.{Write}
use Rattle.node_rules.specs.Ciphers.{network}
use Rattle.node_rules.specs.Frames.{Sent, spelled}
use Rattle.node_rules.specs.declared.heard.SentHow.{SentHow}
use Rattle.node_rules.specs.declared.refusal.SendRefusal.{SendRefusal}
use Rattle.node_rules.specs.declared.heard.Way.{Way}
use Rattle.node_rules.specs.declared.heard.Way.TheVariants.{Air, Near, Mesh}
use Rattle.node_rules.specs.Memory.{StationMemory, Load}
use Rattle.node_rules.specs.Plans.{Plan}
use Rattle.node_rules.specs.Drafts.{Draft, Ends, lack, counters_left, alone, empty_draft, sealing, sets_out}
use Rattle.node_rules.specs.Calls.{command_frames, sending_ends, how}
use Rattle.node_rules.specs.States.{State}

-- # Plans

-- a plan whose puts come after others
abbrev pub behind : {M A : Type 0} → List Write → Plan M A → Plan M A
behind ws p = record p { puts = ws ++ p.puts }

-- a plan that gives out more, before what it gives out by itself
abbrev pub adding : {M A : Type 0} → List Sent → (made opened : List PairTag) → Plan M A → Plan M A
adding frames made opened p =
    record p { frames = frames ++ p.frames; made = made ++ p.made; opened = opened ++ p.opened }

-- what is then given out, where all puts were done and where one failed
abbrev pub out_with : List Sent → (made opened : List PairTag) → Bool → Out → Out
out_with frames made opened done out =
    if done then record {
      frames = map (spelled network) frames ++ out.frames;
      tags = record { made = made ++ out.tags.made; opened = opened ++ out.tags.opened };
    }
    else record { frames = []; tags = record { made = []; opened = opened ++ out.tags.opened } }

-- a state whose memory is part of another one
abbrev pub seen : {M N : Type 0} → (M → N) → State M → State N
seen whole s =
    record { store = s.store; eui = s.eui; memory = option_map whole s.memory; replied = s.replied }

-- # Drafts

-- what was done so far, nothing of which waits to be sealed
abbrev pub begun : {M : Type 0} → List Write → M → List Sent → (made opened : List PairTag) → Draft M
begun puts memory plain made opened =
    record { puts = puts; memory = memory; units = []; plain = plain; made = made; opened = opened }

-- # Room for a command

-- A command of this many octets for an address has room: it lacks nothing, and there are counters for its frames.
pub record HasRoom (l : StationMemory) (to octets : ℕ) : Type 0 where
  pub lacks : lack l to octets ≡ None
  pub left : nat_lt (counters_left l) (command_frames l to) ≡ false

-- what the station does about a command that has room
abbrev pub command_alone : StationMemory → (own to : ℕ) → Load → (now : ℕ)
    → Plan StationMemory (Result SentHow SendRefusal)
command_alone l own to load now = sealing alone sending_ends (sets_out own to 0 load now (empty_draft l)) (how l to)

-- its answer, as another one: it went out or waits, or a put failed
abbrev pub answer_if_sent : {H E : Type 0} → Ends E → H → Result SentHow SendRefusal → Result H E
answer_if_sent ends answer (Ok how) = Ok answer
answer_if_sent ends answer (Err reason) = Err ends.store

-- # A joining command that the station hands on

-- one that came over the mesh came to a node that is joined
abbrev pub ComesSo : StationMemory → Way → Type 0
ComesSo l (Air from) = ⊤
ComesSo l (Near agent) = ⊤
ComesSo l (Mesh origin) = IsSome l.ring
