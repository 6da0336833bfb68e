-- What the records of the senders give, and where there is room: the lemmas on marks at the slots 0100 to 013F.
use Rattle.std.proofs.Common.{◌≡◌, ℕ, ◌^◌, ◌<◌, ◌≤◌, Some, None, Ok, length}
use Rattle.store_tables.proofs.MarkEntries as entries
use Rattle.frame_counters.specs.declared.fault.PeerFault.TheVariants.{Replayed, PeersFull}
use Rattle.frame_counters.specs.PeerMarks.{PeerMark, Table, peer_in, octets_of, at_rest, place_of, room_for}

-- a record that is written is read back
pub peer_in-octets_of : (peer : PeerMark) → peer.address < 0xFFFE → peer.stored < 2 ^ 32 → peer_in (octets_of peer) ≡ Some (at_rest peer)
peer_in-octets_of = entries.mark_in-octets_of 0x0100 64

-- where there is room for a new sender, not all slots are taken
pub room_new : (table : Table) (from counter : ℕ) → length table ≤ 64 → place_of table from ≡ None → room_for table from counter ≡ Ok (tt {0})
    → length table < 64
room_new table from counter short new room =
    entries.room_new 0x0100 64 table from counter new (entries.room_has 0x0100 64 Replayed PeersFull table from counter short room)
