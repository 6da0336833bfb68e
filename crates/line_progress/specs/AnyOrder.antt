-- That a datagram arrives in whatever order its frames come over the links of its route, where each link brings them in the order in which they
-- were sent: what is under way over each link, and what one delivery makes of it.
use Rattle.std.specs.Prelude.{◌≡◌, ℕ, zero, suc, ◌+◌, ◌<◌, List, [], ◌∷◌, ◌++◌, length}
use Rattle.std.specs.List.{range_with_len}
use Rattle.fragment_buffers.specs.Fragmentation.{pieces_of}
use Rattle.node_rules.specs.Ciphers.{Ciphers, OpensWhatItSeals}
use Rattle.line_events.specs.declared.event.Answer.{Answer}
use Rattle.line_events.specs.declared.event.Answer.TheVariants as answers
use Rattle.line_events.specs.declared.event.Event.{Event}
use Rattle.line_events.specs.declared.event.Event.TheVariants.{Send, Deliver}
use Rattle.line_rules.specs.Runs.{run}
use Rattle.line_rules.specs.Worlds.{World}
use Rattle.line_progress.specs.Arrival.{Stop, last_of, last_answer, IsBrought, MayCarry}

-- # What is under way

-- the numbers of the flights under way over each link of a route, in the order in which they were sent: here over the link of a number, from 0
abbrev pub flights_over : ℕ → List (List ℕ) → List ℕ
flights_over j [] = []
flights_over zero (flights ∷ ways) = flights
flights_over (suc j) (flights ∷ ways) = flights_over j ways

-- how many there are over all links
abbrev pub in_all : List (List ℕ) → ℕ
in_all [] = 0
in_all (flights ∷ ways) = length flights + in_all ways

-- At first this many fly over the first link, numbered from a number on, and none over the others.
abbrev pub none_over : List Stop → List (List ℕ)
none_over [] = []
none_over (t ∷ rest) = [] ∷ none_over rest

abbrev pub ways_at_first : (first frames : ℕ) → List Stop → List (List ℕ)
ways_at_first first frames rest = range_with_len first frames ∷ none_over rest

-- # One delivery

-- The first flight over a link comes to the node at its end. It is under way no more; where the route goes on, one of the next number is, over the
-- next link, after those that are there.
abbrev pub ways_after : (next j : ℕ) → List (List ℕ) → List (List ℕ)
ways_after next j [] = []
ways_after next zero ([] ∷ ways) = [] ∷ ways
ways_after next zero ((flight ∷ flights) ∷ []) = flights ∷ []
ways_after next zero ((flight ∷ flights) ∷ others ∷ ways) = flights ∷ (others ++ next ∷ []) ∷ ways
ways_after next (suc j) (flights ∷ ways) = flights ∷ ways_after next j ways

-- the number of the next flight then
abbrev pub next_after : (next j : ℕ) → List (List ℕ) → ℕ
next_after next j [] = next
next_after next zero (flights ∷ []) = next
next_after next zero (flights ∷ others ∷ ways) = next + 1
next_after next (suc j) (flights ∷ ways) = next_after next j ways

-- the event: over the link to the first, second .. of these nodes
abbrev pub delivery_over : ℕ → List Stop → List (List ℕ) → List Event
delivery_over j [] ways = []
delivery_over j (t ∷ rest) [] = []
delivery_over zero (t ∷ rest) ([] ∷ ways) = []
delivery_over zero (t ∷ rest) ((flight ∷ flights) ∷ ways) = Deliver flight t.number t.cost ∷ []
delivery_over (suc j) (t ∷ rest) (flights ∷ ways) = delivery_over j rest ways

-- what is answered to it: the last node says this, and each other one sends a frame on
abbrev pub answer_over : ℕ → Answer → List (List ℕ) → Answer
answer_over j word [] = word
answer_over zero word (flights ∷ []) = word
answer_over zero word (flights ∷ others ∷ ways) = answers.Relayed
answer_over (suc j) word (flights ∷ ways) = answer_over j word ways

-- # Deliveries in an order

-- Deliveries over links in an order: where the turn of a link comes, a flight is under way over it, and in the end none is over any. So a link has at
-- no time had more deliveries than the one before it, and in the end each has had one for each frame.
abbrev pub IsOrder : (next : ℕ) → List (List ℕ) → List ℕ → Type 0
IsOrder next ways [] = in_all ways ≡ 0
IsOrder next ways (j ∷ order) = (0 < length (flights_over j ways)) × IsOrder (next_after next j ways) (ways_after next j ways) order

-- their events
abbrev pub deliveries_over : (next : ℕ) → List Stop → List (List ℕ) → List ℕ → List Event
deliveries_over next stops ways [] = []
deliveries_over next stops ways (j ∷ order) =
    delivery_over j stops ways ++ deliveries_over (next_after next j ways) stops (ways_after next j ways) order

-- what is answered to them: the last node holds what comes to it while some are under way yet, and hands up the datagram with the last one
abbrev pub answers_over : (next : ℕ) → List (List ℕ) → List ℕ → List Answer
answers_over next ways [] = []
answers_over next ways (j ∷ order) =
    answer_over j (last_answer (in_all (ways_after next j ways))) ways ∷ answers_over (next_after next j ways) (ways_after next j ways) order

-- # The law

-- A datagram of 1 to 1,280 octets that a node sends along a route of at most 14 links that hold is handed up at the last node with the same octets,
-- once and with the last delivery, in whatever order its frames come over the links: each frame comes once over each link, and each link brings them
-- in the order in which they were sent.
abbrev pub DatagramsArriveInAnyOrder : Type 0
DatagramsArriveInAnyOrder =
    (ciphers : Ciphers) → OpensWhatItSeals ciphers
    → (w : World) (s t : Stop) (rest : List Stop) (datagram : List ℕ) → MayCarry w s t rest datagram
    → (order : List ℕ)
    → let frames = pieces_of (length datagram) in
    let first = length w.flights + 1 in
    let ways = ways_at_first first frames rest in
    IsOrder (first + frames) ways order
    → IsBrought (answers.Sent ∷ answers_over (first + frames) ways order) (last_of t rest).number datagram
    (run ciphers w (Send s.number (last_of t rest).number datagram ∷ deliveries_over (first + frames) (t ∷ rest) ways order))
