-- What becomes of the pieces of datagrams at the node that gathers them.
use Rattle.std.specs.Prelude.{◌≡◌, ℕ, ◌+◌, List, [], ◌∷◌, ◌++◌, map, replicate, Some}
use Rattle.std.specs.List.{range_with_len}
use Rattle.line_events.specs.declared.event.Answer.TheVariants as answers
use Rattle.line_events.specs.declared.event.Event.{Event}
use Rattle.line_events.specs.declared.event.Event.TheVariants.{Near, Send, Deliver, Inject, Tick}
use Rattle.line_rules.specs.Worlds.{start}
use Rattle.line_rules.specs.Runs.{run}
use Rattle.worked_scripts.specs.Scripts.{plain, two_meters, three_meters, sealed, part_of, answers_after, answers_to, counts_of, handed_at_last, octets_of}

-- # A datagram in pieces

-- a datagram of two pieces, one after the other
abbrev pub two_pieces : List Event
two_pieces =
    two_meters ++ (Near 1 2 3 ∷ Send 1 2 (0xaa ∷ []) ∷ Send 1 2 (replicate 376 7) ∷ Deliver 2 2 3 ∷ Deliver 3 2 3 ∷ [])

-- The last piece makes a datagram whole: it is handed up, once, with the number of its send.
unfoldable pub ThePiecesMakeTheDatagram : Type 0
ThePiecesMakeTheDatagram =
    (answers_after 6 two_pieces ≡ answers.Sent ∷ answers.Sent ∷ answers.Held ∷ answers.Up ∷ [])
    × (handed_at_last (run plain start two_pieces) ≡ Some (record { node = 2; note = 2; octets = replicate 376 7 }))
    × (counts_of two_pieces ≡ record { events = 10; flights = 3; sends = 2; ups = 1; forged = 0 })
    × (octets_of two_pieces 2 ≡ Some (sealed 2 1 1 (part_of 1 2 376 0 0 (replicate 368 7))))
    × (octets_of two_pieces 3 ≡ Some (sealed 2 1 2 (part_of 1 2 376 0 46 (replicate 8 7))))

-- # Pieces that no node sent, of 8 octets

-- a piece of meter 3's datagram comes to meter 1, under a counter: eight octets that are all the same
abbrev pub piece : (counter size tag offset octet : ℕ) → Event
piece counter size tag offset octet = Inject 1 1 (sealed 1 3 counter (part_of 3 1 size tag offset (replicate 8 octet)))

-- a datagram that came whole in one piece
abbrev pub one_piece : List Event
one_piece = three_meters ++ (piece 1 8 5 0 7 ∷ [])

-- pieces from the last to the first
abbrev pub backward : List Event
backward = three_meters ++ (piece 1 24 5 2 3 ∷ piece 2 24 5 1 2 ∷ piece 3 24 5 0 1 ∷ [])

-- A piece that covers its datagram is handed up at once, and pieces come in any order.
unfoldable pub PiecesComeInAnyOrder : Type 0
PiecesComeInAnyOrder =
    (answers_after 7 one_piece ≡ answers.Up ∷ [])
    × (handed_at_last (run plain start one_piece) ≡ Some (record { node = 1; note = 0; octets = replicate 8 7 }))
    × (answers_after 7 backward ≡ answers.Held ∷ answers.Held ∷ answers.Up ∷ [])
    × (handed_at_last (run plain start backward)
    ≡ Some (record { node = 1; note = 0; octets = replicate 8 1 ++ (replicate 8 2 ++ replicate 8 3) }))

-- the first piece comes again with other octets
abbrev pub repeated : List Event
repeated = three_meters ++ (piece 1 16 5 0 1 ∷ piece 2 16 5 0 9 ∷ piece 3 16 5 1 2 ∷ [])

-- A piece with the place and length of a held one is ignored, whatever its octets are.
unfoldable pub ARepeatedPieceIsIgnored : Type 0
ARepeatedPieceIsIgnored =
    (answers_after 7 repeated ≡ answers.Held ∷ answers.Held ∷ answers.Up ∷ [])
    × (handed_at_last (run plain start repeated)
    ≡ Some (record { node = 1; note = 0; octets = replicate 8 1 ++ replicate 8 2 }))

-- a piece of 16 octets overlaps the two that are held
abbrev pub overlapping : List Event
overlapping =
    three_meters ++ (piece 1 24 5 0 1 ∷ piece 2 24 5 1 2
    ∷ Inject 1 1 (sealed 1 3 3 (part_of 3 1 24 5 0 (replicate 16 3))) ∷ piece 4 24 5 2 4 ∷ [])

-- A piece that overlaps a held one otherwise discards all that was gathered, and the datagram begins anew with it.
unfoldable pub AnOverlapBeginsAnew : Type 0
AnOverlapBeginsAnew =
    (answers_after 7 overlapping ≡ answers.Held ∷ answers.Held ∷ answers.Held ∷ answers.Up ∷ [])
    × (handed_at_last (run plain start overlapping)
    ≡ Some (record { node = 1; note = 0; octets = replicate 16 3 ++ replicate 8 4 }))

-- # Names

-- second pieces that are of another tag, another size and another origin
abbrev pub named_otherwise : List Event
named_otherwise =
    three_meters
    ++ (piece 1 16 5 0 1 ∷ piece 2 16 6 1 2 ∷ piece 3 24 5 1 3
    ∷ Inject 1 1 (sealed 1 3 4 (part_of 2 1 16 5 1 (replicate 8 4))) ∷ piece 5 16 5 1 5 ∷ [])

-- Pieces belong together where origin, size and tag are the same.
unfoldable pub PiecesAreNamed : Type 0
PiecesAreNamed =
    (answers_after 7 named_otherwise ≡ answers.Held ∷ answers.Held ∷ answers.Held ∷ answers.Held ∷ answers.Up ∷ [])
    × (handed_at_last (run plain start named_otherwise)
    ≡ Some (record { node = 1; note = 0; octets = replicate 8 1 ++ replicate 8 5 }))

-- # Room

-- eight datagrams have begun
abbrev pub eight_begun : List Event
eight_begun = three_meters ++ map (λ tag. piece (tag + 1) 16 tag 0 1) (range_with_len 0 8)

-- Eight datagrams are gathered at most: a piece of a ninth is refused, also where it alone would be the whole, and one of a held one is taken.
unfoldable pub EightAreGathered : Type 0
EightAreGathered =
    (answers_after 14 eight_begun ≡ answers.Held ∷ [])
    × (answers_to eight_begun
    (piece 9 16 8 0 1 ∷ piece 10 8 8 0 1 ∷ piece 11 16 3 1 2 ∷ piece 12 16 8 0 1 ∷ piece 13 16 9 0 1 ∷ [])
    ≡ answers.BufferFull ∷ answers.BufferFull ∷ answers.Up ∷ answers.Held ∷ answers.BufferFull ∷ [])

-- three datagrams of 1,280 octets have begun, and one of this many
abbrev pub blocks_begun : ℕ → List Event
blocks_begun size =
    three_meters ++ (piece 1 1280 1 0 1 ∷ piece 2 1280 2 0 1 ∷ piece 3 1280 3 0 1 ∷ piece 4 size 4 0 1 ∷ [])

-- They take 80 blocks of 64 octets at most, each as many as its whole size needs.
unfoldable pub EightyBlocksAreGathered : Type 0
EightyBlocksAreGathered =
    (answers_to (blocks_begun 1216) (piece 5 65 5 0 1 ∷ piece 6 64 5 0 1 ∷ piece 7 64 6 0 1 ∷ [])
    ≡ answers.BufferFull ∷ answers.Held ∷ answers.BufferFull ∷ [])
    × (answers_to (blocks_begun 1280) (piece 5 8 5 0 1 ∷ piece 6 1280 4 1 1 ∷ []) ≡ answers.BufferFull ∷ answers.Held ∷ [])

-- # Time

-- a datagram has begun, and time passes
abbrev pub begun_before : ℕ → List Event
begun_before seconds = three_meters ++ (piece 1 24 5 0 1 ∷ Tick 30 ∷ piece 2 24 5 1 2 ∷ Tick seconds ∷ [])

-- the same where the second piece overlaps the first
abbrev pub begun_anew_before : ℕ → List Event
begun_anew_before seconds =
    three_meters ++ (piece 1 24 5 0 1 ∷ Tick 30 ∷ Inject 1 1 (sealed 1 3 2 (part_of 3 1 24 5 0 (replicate 16 2)))
    ∷ Tick seconds ∷ [])

-- A datagram is gathered for less than 60 seconds from its first piece, or from the piece that began it anew.
unfoldable pub GatheringEndsAfterAMinute : Type 0
GatheringEndsAfterAMinute =
    (answers_to (begun_before 29) (piece 3 24 5 2 3 ∷ []) ≡ answers.Up ∷ [])
    × (answers_to (begun_before 30) (piece 3 24 5 2 3 ∷ []) ≡ answers.Held ∷ [])
    × (answers_to (begun_anew_before 59) (piece 3 24 5 2 3 ∷ []) ≡ answers.Up ∷ [])
    × (answers_to (begun_anew_before 60) (piece 3 24 5 2 3 ∷ []) ≡ answers.Held ∷ [])
