-- What hearing a route reply comes to, by what is tested.
use Rattle.std.proofs.Common.{◌≡◌, ℕ, ◌+◌, true, false, [], ◌∷◌, length, Some, None, refl, sym, ◌∙◌}
use Rattle.std.specs.Prelude.{◌==◌, nat_lt}
use Rattle.std.proofs.lemmas.List.{length-append}
use Rattle.loadng_messages.specs.Grammar as messages
use Rattle.loadng_messages.specs.declared.message.Message.TheVariants.{Rrep}
use Rattle.mesh_header.specs.declared.unit.Unit.TheVariants.{Local}
use Rattle.routing_set.specs.declared.rank.Rank.{Rank}
use Rattle.node_rules.specs.declared.heard.Heard.{Heard}
use Rattle.node_rules.specs.declared.heard.Heard.TheVariants.{Learned, Relayed}
use Rattle.node_rules.specs.declared.refusal.Dropped.TheVariants.{CounterSpent, NoRoute}
use Rattle.node_rules.specs.Memory.{StationMemory, next_hop}
use Rattle.node_rules.specs.Drafts.{alone, empty_draft, choose, goes, send_message, leave, with_rank, counters_left, refused, sealing}
use Rattle.node_rules.specs.HearingRules.{dropped, rank_fault, learns, hear_reply, hear_reply_for, offers}
use Rattle.fragment_buffers.specs.WaitingBodies.{leaving}
use Rattle.plc_station.proofs.OfferCases.{taking, taken}
use Rattle.plc_station.proofs.Ways.{sealed_spent, sealed_fits}

learn_long : (l : StationMemory) (own by origin : ℕ) (rank : Rank) (now : ℕ)
    → length (leaving own origin by l.waiting) ≡ length (offers own origin rank by now l).units
unfolding leave with_rank empty_draft leaving
learn_long l own by origin rank now = refl

pass_long : (l : StationMemory) (own by origin to hop : ℕ) (rank : Rank) (now : ℕ)
    → length (leaving own origin by l.waiting) + 1 ≡ length (send_message hop (Rrep rank.number rank.cost origin to) (offers own origin rank by now l)).units
unfolding goes leave with_rank empty_draft leaving
pass_long l own by origin to hop rank now = sym (length-append (leaving own origin by l.waiting)
    (record { to = hop; unit = Local 1 (messages.spelling (Rrep rank.number rank.cost origin to)); note = 0 } ∷ []))

pub learn_spent : (l : StationMemory) (own by origin : ℕ) (rank : Rank) (now : ℕ) → rank_fault l own origin rank now ≡ None
    → true ≡ nat_lt (counters_left l) (length (leaving own origin by l.waiting))
    → refused {H = Heard} dropped l CounterSpent ≡ taking l own origin rank now (learns l own by origin rank now)
learn_spent l own by origin rank now t few = sealed_spent dropped l (offers own origin rank by now l) Learned (length (leaving own origin by l.waiting))
    (learn_long l own by origin rank now) few ∙ taken l own origin rank now _ t

pub learning : (l : StationMemory) (own by origin : ℕ) (rank : Rank) (now : ℕ) → rank_fault l own origin rank now ≡ None
    → false ≡ nat_lt (counters_left l) (length (leaving own origin by l.waiting))
    → sealing alone dropped (offers own origin rank by now l) Learned ≡ taking l own origin rank now (learns l own by origin rank now)
learning l own by origin rank now t few = sealed_fits dropped l (offers own origin rank by now l) Learned (length (leaving own origin by l.waiting))
    (learn_long l own by origin rank now) few ∙ taken l own origin rank now _ t

pub pass_spent : (l : StationMemory) (own by origin to hop : ℕ) (rank : Rank) (now : ℕ) → rank_fault l own origin rank now ≡ None
    → true ≡ nat_lt (counters_left l) (length (leaving own origin by l.waiting) + 1)
    → refused {H = Heard} dropped l CounterSpent ≡ hear_reply_for l own by origin to rank now (Some hop)
pass_spent l own by origin to hop rank now t few =
    sealed_spent dropped l (send_message hop (Rrep rank.number rank.cost origin to) (offers own origin rank by now l)) Relayed
    (length (leaving own origin by l.waiting) + 1) (pass_long l own by origin to hop rank now) few ∙ taken l own origin rank now _ t

pub passing : (l : StationMemory) (own by origin to hop : ℕ) (rank : Rank) (now : ℕ) → rank_fault l own origin rank now ≡ None
    → false ≡ nat_lt (counters_left l) (length (leaving own origin by l.waiting) + 1)
    → sealing alone dropped (send_message hop (Rrep rank.number rank.cost origin to) (offers own origin rank by now l)) Relayed
    ≡ hear_reply_for l own by origin to rank now (Some hop)
passing l own by origin to hop rank now t few =
    sealed_fits dropped l (send_message hop (Rrep rank.number rank.cost origin to) (offers own origin rank by now l)) Relayed
    (length (leaving own origin by l.waiting) + 1) (pass_long l own by origin to hop rank now) few ∙ taken l own origin rank now _ t

-- # By its target

pub reply_here : (l : StationMemory) (own by origin to : ℕ) (rank : Rank) (now : ℕ) → true ≡ (to == own)
    → taking l own origin rank now (learns l own by origin rank now) ≡ hear_reply l own by origin to rank now
unfolding choose
reply_here l own by origin to rank now e = rw (← e) refl

pub reply_lost : (l : StationMemory) (own by origin to : ℕ) (rank : Rank) (now : ℕ) → false ≡ (to == own) → None ≡ next_hop l to
    → refused {H = Heard} dropped l NoRoute ≡ hear_reply l own by origin to rank now
unfolding choose
reply_lost l own by origin to rank now e by_none = rw (← e, ← by_none) refl

pub reply_on : (l : StationMemory) (own by origin to hop : ℕ) (rank : Rank) (now : ℕ) → false ≡ (to == own) → Some hop ≡ next_hop l to
    → hear_reply_for l own by origin to rank now (Some hop) ≡ hear_reply l own by origin to rank now
unfolding choose
reply_on l own by origin to hop rank now e by_hop = rw (← e, ← by_hop) refl
