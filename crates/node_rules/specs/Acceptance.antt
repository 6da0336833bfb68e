-- Which frames a node accepts.
use Rattle.std.specs.Prelude.{ℕ, Bool, false, not, ◌==◌, ◌&&◌, ◌||◌, List, [], Option, Some, None, Result, Ok, Err, if◌then◌else◌}
use Rattle.std.specs.Option.{option_map_or}
use Rattle.plc_base.specs.Faults.{◌then◌}
use Rattle.plc_base.specs.declared.address.TheConstants.{PAN}
use Rattle.plc_base.specs.declared.address.Eui.{Eui}
use Rattle.plc_base.specs.declared.key.Key.{Key}
use Rattle.store_tables.specs.Writes.{puts_of}
use Rattle.mac_frames.specs.declared.head.MacHead.{MacHead}
use Rattle.mac_frames.specs.declared.head.MacHead.TheVariants as heads
use Rattle.frame_counters.specs.declared.fault.PeerFault.{PeerFault}
use Rattle.frame_counters.specs.declared.fault.PeerFault.TheVariants as peers
use Rattle.frame_counters.specs.PeerMarks as marks
use Rattle.group_keys.specs.KeyBook.{eui_number}
use Rattle.group_keys.specs.KeyRing as ring
use Rattle.node_rules.specs.declared.heard.Path.TheVariants as paths
use Rattle.node_rules.specs.Accepted.{Accepted}
use Rattle.node_rules.specs.declared.refusal.FrameRefusal.{FrameRefusal}
use Rattle.node_rules.specs.declared.refusal.FrameRefusal.TheVariants.{Malformed, NotForMe, NoKey, BadTag, Replayed, PeersFull, Store}
use Rattle.node_rules.specs.Frames.{Arrived, to_all}
use Rattle.node_rules.specs.Memory.{StationMemory, address_of}
use Rattle.node_rules.specs.Plans.{Plan, resting}

-- what a node does about octets that came
abbrev pub Accepting : Type 0
Accepting = Plan StationMemory (Result Accepted FrameRefusal)

-- whether an address is the own one; a node without a ring has none
abbrev pub is_own : StationMemory → ℕ → Bool
is_own l address = option_map_or (λ own. own == address) (address_of l) false

-- whether two identities are the same: they are compared by their numbers, as the book does
abbrev pub same_eui : Eui → Eui → Bool
same_eui a b = eui_number a == eui_number b

-- whether a frame is for this node and from another one: a sealed one to the own address or to all, a plain one up to the own
-- address or down to the own EUI
abbrev pub is_for_me : StationMemory → Eui → MacHead → Bool
is_for_me l own (heads.Sealed ack seq pan to from counter index) =
    (pan == PAN) && ((is_own l to || (to == to_all)) && not (is_own l from))
is_for_me l own (heads.Up ack version seq pan to from) = (pan == PAN) && (is_own l to && not (same_eui own from))
is_for_me l own (heads.Down ack version seq pan to from) = (pan == PAN) && (same_eui own to && not (is_own l from))

-- the octets are refused, and nothing changes
abbrev pub refuse : StationMemory → FrameRefusal → Accepting
refuse l reason = resting l (Err reason) (Err Store)

-- what the marks say of a counter
abbrev pub mark_refusal : PeerFault → FrameRefusal
mark_refusal peers.Replayed = Replayed
mark_refusal peers.PeersFull = PeersFull
mark_refusal peers.Store = Store

-- the counter of the sender is kept as its mark, which is stored first where it has to be
unfoldable pub marking : StationMemory → ℕ → ℕ → Accepted → Accepting
marking l from counter accepted = record {
  answer = Ok accepted;
  failed = Err Store;
  puts = puts_of (marks.keep_write l.marks from counter);
  memory = record l { marks = marks.kept_after l.marks from counter };
  frames = [];
  made = [];
  opened = [];
}

-- what the marks say decides
abbrev pub admitted : StationMemory → ℕ → ℕ → Accepted → Result (Unit {0}) PeerFault → Accepting
admitted l from counter accepted (Ok u) = marking l from counter accepted
admitted l from counter accepted (Err fault) = refuse l (mark_refusal fault)

-- the counter of a sealed frame whose tag is right, where it is above the mark
abbrev pub admit : StationMemory → ℕ → ℕ → Accepted → Accepting
admit l from counter accepted = admitted l from counter accepted (marks.room_for l.marks from counter)

-- a sealed frame, with the key at its index and then with what that key opens
abbrev pub open_sealed : StationMemory → (to from counter : ℕ) → Key → Option (List ℕ) → Accepting
open_sealed l to from counter key None = refuse l BadTag
open_sealed l to from counter key (Some payload) =
    admit l from counter (record { path = paths.Sealed from (to == to_all) key; payload = payload })

-- a sealed frame, with the key that the ring has at its index
abbrev pub with_key : StationMemory → Arrived → (to from counter : ℕ) → Option Key → Accepting
with_key l a to from counter None = refuse l NoKey
with_key l a to from counter (Some key) = open_sealed l to from counter key (a.opened key)

-- a frame for this node, by its head
abbrev pub accept_head : StationMemory → Arrived → MacHead → Accepting
accept_head l a (heads.Sealed ack seq pan to from counter index) =
    with_key l a to from counter (ring.key_in_ring l.ring index)
accept_head l a (heads.Up ack version seq pan to from) =
    resting l (Ok (record { path = paths.Up from; payload = a.body })) (Err Store)
accept_head l a (heads.Down ack version seq pan to from) =
    resting l (Ok (record { path = paths.Down from; payload = a.body })) (Err Store)

-- what a node that is not halted makes of octets that came
abbrev pub accept : StationMemory → Eui → Option Arrived → Accepting
accept l own None = refuse l Malformed
accept l own (Some a) = if is_for_me l own a.head then accept_head l a a.head else refuse l NotForMe
