-- What hearing a route request comes to, by what is tested.
use Rattle.std.proofs.Common.{◌≡◌, ℕ, ◌+◌, true, false, None, List, [], ◌∷◌, length, refl, sym}
use Rattle.std.specs.Prelude.{◌==◌, nat_lt}
use Rattle.std.proofs.lemmas.List.{length-append}
use Rattle.loadng_messages.specs.Grammar as messages
use Rattle.loadng_messages.specs.declared.message.Message.{Message}
use Rattle.loadng_messages.specs.declared.message.Message.TheVariants.{Rreq, Rrep}
use Rattle.mesh_header.specs.declared.unit.Unit.TheVariants.{Local}
use Rattle.routing_set.specs.declared.rank.Rank.{Rank}
use Rattle.node_rules.specs.declared.heard.Heard.{Heard}
use Rattle.node_rules.specs.declared.heard.Heard.TheVariants.{Answered, Relayed}
use Rattle.node_rules.specs.declared.refusal.Dropped.TheVariants.{SeqSpent, CounterSpent}
use Rattle.node_rules.specs.Frames.{to_all}
use Rattle.node_rules.specs.Memory.{StationMemory}
use Rattle.node_rules.specs.Drafts.{UnsealedUnit, alone, empty_draft, choose, checked, goes, send_message, leave, with_own_number, with_rank, numbers_spent}
use Rattle.node_rules.specs.Drafts.{counters_left}
use Rattle.node_rules.specs.Drafts.{refused, sealing}
use Rattle.node_rules.specs.HearingRules.{dropped, rank_fault, hear_request, offers, offers_numbered}
use Rattle.fragment_buffers.specs.WaitingBodies.{leaving}
use Rattle.plc_station.proofs.Ways.{sealed_spent, sealed_fits}

abbrev one : ℕ → Message → List UnsealedUnit
one to message = record { to = to; unit = Local 1 (messages.spelling message); note = 0 } ∷ []

answer_long : (l : StationMemory) (own by origin dest : ℕ) (rank : Rank) (now : ℕ)
    → length (leaving own origin by l.waiting) + 1
    ≡ length (send_message by (Rrep (l.own_number.last + 1) 0 own origin) (offers_numbered own origin rank by now l)).units
unfolding goes leave with_own_number with_rank empty_draft leaving
answer_long l own by origin dest rank now = sym (length-append (leaving own origin by l.waiting) (one by (Rrep (l.own_number.last + 1) 0 own origin)))

relay_long : (l : StationMemory) (own by origin dest : ℕ) (rank : Rank) (now : ℕ)
    → length (leaving own origin by l.waiting) + 1
    ≡ length (send_message to_all (Rreq rank.number rank.cost origin dest) (offers own origin rank by now l)).units
unfolding goes leave with_rank empty_draft leaving
relay_long l own by origin dest rank now = sym (length-append (leaving own origin by l.waiting) (one to_all (Rreq rank.number rank.cost origin dest)))

pub seq_spent : (l : StationMemory) (own by origin dest : ℕ) (rank : Rank) (now : ℕ) → rank_fault l own origin rank now ≡ None → true ≡ (dest == own)
    → true ≡ numbers_spent l → refused {H = Heard} dropped l SeqSpent ≡ hear_request l own by origin dest rank now
unfolding checked choose
seq_spent l own by origin dest rank now t h e = rw (t, ← h, ← e) refl

pub answer_spent : (l : StationMemory) (own by origin dest : ℕ) (rank : Rank) (now : ℕ) → rank_fault l own origin rank now ≡ None → true ≡ (dest == own)
    → false ≡ numbers_spent l → true ≡ nat_lt (counters_left l) (length (leaving own origin by l.waiting) + 1)
    → refused {H = Heard} dropped l CounterSpent ≡ hear_request l own by origin dest rank now
unfolding checked choose
answer_spent l own by origin dest rank now t h e few = rw (t, ← h, ← e)
    (sealed_spent dropped l (send_message by (Rrep (l.own_number.last + 1) 0 own origin) (offers_numbered own origin rank by now l)) Answered
    (length (leaving own origin by l.waiting) + 1) (answer_long l own by origin dest rank now) few)

pub answering : (l : StationMemory) (own by origin dest : ℕ) (rank : Rank) (now : ℕ) → rank_fault l own origin rank now ≡ None → true ≡ (dest == own)
    → false ≡ numbers_spent l → false ≡ nat_lt (counters_left l) (length (leaving own origin by l.waiting) + 1)
    → sealing alone dropped (send_message by (Rrep (l.own_number.last + 1) 0 own origin) (offers_numbered own origin rank by now l)) Answered
    ≡ hear_request l own by origin dest rank now
unfolding checked choose
answering l own by origin dest rank now t h e few = rw (t, ← h, ← e)
    (sealed_fits dropped l (send_message by (Rrep (l.own_number.last + 1) 0 own origin) (offers_numbered own origin rank by now l)) Answered
    (length (leaving own origin by l.waiting) + 1) (answer_long l own by origin dest rank now) few)

pub relay_spent : (l : StationMemory) (own by origin dest : ℕ) (rank : Rank) (now : ℕ) → rank_fault l own origin rank now ≡ None → false ≡ (dest == own)
    → true ≡ nat_lt (counters_left l) (length (leaving own origin by l.waiting) + 1)
    → refused {H = Heard} dropped l CounterSpent ≡ hear_request l own by origin dest rank now
unfolding checked choose
relay_spent l own by origin dest rank now t h few = rw (t, ← h)
    (sealed_spent dropped l (send_message to_all (Rreq rank.number rank.cost origin dest) (offers own origin rank by now l)) Relayed
    (length (leaving own origin by l.waiting) + 1) (relay_long l own by origin dest rank now) few)

pub relaying : (l : StationMemory) (own by origin dest : ℕ) (rank : Rank) (now : ℕ) → rank_fault l own origin rank now ≡ None → false ≡ (dest == own)
    → false ≡ nat_lt (counters_left l) (length (leaving own origin by l.waiting) + 1)
    → sealing alone dropped (send_message to_all (Rreq rank.number rank.cost origin dest) (offers own origin rank by now l)) Relayed
    ≡ hear_request l own by origin dest rank now
unfolding checked choose
relaying l own by origin dest rank now t h few = rw (t, ← h)
    (sealed_fits dropped l (send_message to_all (Rreq rank.number rank.cost origin dest) (offers own origin rank by now l)) Relayed
    (length (leaving own origin by l.waiting) + 1) (relay_long l own by origin dest rank now) few)
