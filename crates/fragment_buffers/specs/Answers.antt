-- What a call answers by the rule of taking a piece, and the rule at a place of the list.
use Rattle.std.specs.Prelude.{◌≡◌, ℕ, ◌<◌, Bool, false, ◌==◌, ◌&&◌, if◌then◌else◌, List, [], length, get_or, Option, Some, None, Result, Ok, Err, slice_set}
use Rattle.std.specs.List.{remove}
use Rattle.mesh_header.specs.Pieces.{Placed}
use Rattle.fragment_buffers.specs.declared.reassembly.BufferFull.{BufferFull}
use Rattle.fragment_buffers.specs.declared.reassembly.Taken.{Taken}
use Rattle.fragment_buffers.specs.declared.reassembly.Taken.TheVariants as answer
use Rattle.fragment_buffers.specs.Reassembly.{Reassembly, begun, placed, datagram_of, repeats}
use Rattle.fragment_buffers.specs.PieceIntake.{Taking, Outcome, Full, Held, Whole, grown}
use Rattle.fragment_buffers.specs.Entries.{Entry, entry_at}

abbrev pub full : BufferFull
full = record {}

abbrev pub answer_of : Outcome → Result Taken BufferFull
answer_of Full = Err full
answer_of Held = Ok answer.Held
answer_of (Whole note octets) = Ok (answer.Whole note)

-- where the piece was taken in
abbrev pub taken_of : Outcome → Taken
taken_of Full = answer.Held
taken_of Held = answer.Held
taken_of (Whole note octets) = answer.Whole note

-- the datagram that is handed up, or nothing
abbrev pub octets_of : Outcome → List ℕ
octets_of Full = []
octets_of Held = []
octets_of (Whole note octets) = octets

-- an entry has this name
abbrev pub has_name : (origin size tag : ℕ) → Entry → Bool
has_name origin size tag e = (origin == e.origin) && ((size == e.size) && (tag == e.tag))

-- no reassembly has the name of a piece from an origin
abbrev pub NoneIsNamed : List Entry → (origin : ℕ) → Placed → Type 0
NoneIsNamed es origin piece = (k : ℕ) → k < length es → has_name origin piece.size piece.tag (entry_at es k) ≡ false

-- # At a place of the list

abbrev pub nothing : Reassembly
nothing = record { origin = 0; size = 0; tag = 0; note = 0; since = 0; pieces = [] }

abbrev pub settled_by : Option (List ℕ) → List Reassembly → ℕ → Taking
settled_by None held i = record { held = held; outcome = Held }
settled_by (Some octets) held i = record { held = remove held i; outcome = Whole (get_or held i nothing).note octets }

-- the reassembly there is handed up, if it is whole
unfoldable pub settled_at : List Reassembly → ℕ → Taking
settled_at held i = settled_by (datagram_of (get_or held i nothing)) held i

-- the piece joins the reassembly there
unfoldable pub joined_at : List Reassembly → ℕ → Placed → (note now : ℕ) → Taking
joined_at held i piece note now =
    let r = get_or held i nothing in
    if repeats r.pieces (placed piece) then record { held = held; outcome = Held }
    else settled_at (slice_set held i (grown r (begun r.origin piece note now) (placed piece))) i
