-- What a contract sees of the reassemblies in chains of a pool.
use Rattle.std.specs.Prelude.{◌≡◌, ◌==◌, ◌&&◌, ℕ, ◌≤◌, Bool, List, [], ◌∷◌, length, get_or, take, drop, vec_capacity}
use Rattle.std.specs.List.{All, sum_by}
use Rattle.plc_base.specs.Times.{earlier_end}
use Rattle.fragment_buffers.specs.declared.piece_span.PieceSpan.{PieceSpan}
use Rattle.fragment_buffers.specs.declared.buffers.Buffer.{Buffer}
use Rattle.fragment_buffers.specs.declared.buffers.Buffers.TheInside.{Inside}
use Rattle.fragment_buffers.specs.Entries.{Entry, IsEntry}
use Rattle.fragment_buffers.specs.declared.times.TheConstants.{REASSEMBLY_TIME}

-- the entry with these places
abbrev pub entry_of : Buffer → List PieceSpan → Entry
entry_of b places = record {
  origin = b.origin;
  size = b.size;
  tag = b.tag;
  note = b.note;
  since = b.since;
  chain = b.chain;
  places = places;
}

abbrev pub no_buffer : Buffer
no_buffer = record { origin = 0; size = 0; tag = 0; note = 0; since = 0; chain = 0; pieces = 0 }

abbrev pub buffer_at : List Buffer → ℕ → Buffer
buffer_at bs i = get_or bs i no_buffer

-- one has this name
abbrev pub is_named : (origin size tag : ℕ) → Buffer → Bool
is_named origin size tag b = (origin == b.origin) && ((size == b.size) && (tag == b.tag))

-- the earlier of a time and of when one expires
abbrev pub end_before : ℕ → Buffer → ℕ
end_before time b = earlier_end REASSEMBLY_TIME time b.since

-- how many pieces they have
abbrev pub pieces_in : List Buffer → ℕ
pieces_in bs = sum_by (λ b. b.pieces) bs

-- each has the first of the places that are left, as many as it has pieces
unfoldable pub entries_from : List Buffer → List PieceSpan → List Entry
entries_from [] places = []
entries_from (b ∷ bs) places = entry_of b (take b.pieces places) ∷ entries_from bs (drop b.pieces places)

abbrev pub entries_in : Inside → List Entry
entries_in b = entries_from b.buffers.items b.places

pub record AreBuffers (b : Inside) : Type 0 where
  pub entries : All IsEntry (entries_in b)
  -- each place is that of a piece, and all fit
  pub all : pieces_in b.buffers.items ≡ length b.places
  pub few : length b.places ≤ 640
  pub reserved : 8 ≤ vec_capacity b.buffers
