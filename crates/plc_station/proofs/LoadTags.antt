-- The tag of a load, as a put that may not be there.
use Rattle.std.proofs.Common.{◌≡◌, ℕ, ◌≤◌, Bool, true, false, List, [], length, Option, None, refl}
use Rattle.std.specs.Prelude.{nat_le}
use Rattle.store_tables.specs.Writes.{puts_of}
use Rattle.node_rules.specs.Memory.{StationMemory}
use Rattle.node_rules.specs.Drafts.{Draft, empty_draft, with_next_tag}
use Rattle.node_rules.specs.Calls.{tag_taken}
use Rattle.fragment_buffers.specs.NextTag.{take_write, tag_left}
use Rattle.fragment_buffers.specs.Loads.{units_in}
use Rattle.plc_station.specs.declared.loads.LoadKind.{LoadKind}
use Rattle.plc_station.specs.declared.loads.LoadKind.TheVariants.{Datagram, Command}
use Rattle.plc_station.specs.OwnLoads.{own_tag, own_load, own_frames, own_write, own_tag_left, own_draft}

-- the doing in which the tag is taken where it has to be
abbrev pub with_tag : StationMemory → List ℕ → Draft StationMemory
with_tag l octets = record {
  puts = puts_of (take_write (length octets) l.next_tag);
  memory = record l { next_tag = tag_left (length octets) l.next_tag };
  units = [];
  plain = [];
  made = [];
  opened = [];
}

pub tagged_is : (l : StationMemory) (octets : List ℕ) → with_tag l octets ≡ tag_taken octets (empty_draft l)
unfolding empty_draft with_next_tag
tagged_is l octets = by_size (nat_le (length octets) 375) refl
  where
    by_size : (b : Bool) → nat_le (length octets) 375 ≡ b → with_tag l octets ≡ tag_taken octets (empty_draft l)
    by_size true e = rw e refl
    by_size false e = rw e refl

-- the doing in which the tag of a load is taken, where it has one and it has to be
abbrev pub with_own : LoadKind → List ℕ → StationMemory → Draft StationMemory
with_own kind octets l = record {
  puts = puts_of (own_write kind (length octets) l.next_tag);
  memory = record l { next_tag = own_tag_left kind (length octets) l.next_tag };
  units = [];
  plain = [];
  made = [];
  opened = [];
}

pub own_is : (kind : LoadKind) (octets : List ℕ) (l : StationMemory) → with_own kind octets l ≡ own_draft kind octets l
unfolding empty_draft
own_is Datagram octets l = tagged_is l octets
own_is Command octets l = refl

-- a load goes out in this many frames, whichever its tag is
pub frames_are : (kind : LoadKind) (octets : List ℕ) (next : ℕ) → own_frames kind (length octets) ≡ units_in (own_load kind octets next)
frames_are Datagram octets next = refl
frames_are Command octets next = refl

-- what has no tag is a command
pub untagged : (kind : LoadKind) (next most octets : ℕ) (tag : Option ℕ) → (kind ≡ Command → octets ≤ most) → tag ≡ own_tag kind next → tag ≡ None
    → octets ≤ most
untagged Datagram next most octets tag fits is none = absurd (cc)
untagged Command next most octets tag fits is none = fits refl
