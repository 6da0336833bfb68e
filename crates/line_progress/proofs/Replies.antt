-- What a station makes of a route reply: it sends it on, or learns the route, and what waits for it leaves.
use Rattle.std.proofs.Common.{◌≡◌, ◌≢◌, ℕ, ◌+◌, false, List, [], ◌∷◌, length, Some, refl, sym, subst, ◌∙◌}
use Rattle.std.specs.Prelude.{if◌then◌else◌, nat_lt, not}
use Rattle.std.specs.List.{filter, flat_map}
use Rattle.std.specs.Option.{option_map, option_map_or}
use Rattle.std.proofs.lemmas.Bool.{eq-eqb, ne_eqb}
use Rattle.std.proofs.lemmas.List.{append-nil}
use Rattle.plc_base.specs.declared.key.Key.{Key}
use Rattle.plc_base.specs.Grant.{Granted}
use Rattle.mesh_header.specs.declared.unit.Unit.TheVariants as units
use Rattle.mesh_header.specs.Reader.{unit_in}
use Rattle.loadng_messages.specs.declared.message.Message.{Message}
use Rattle.loadng_messages.specs.declared.message.Message.TheVariants.{Rrep}
use Rattle.loadng_messages.specs.Grammar as messages
use Rattle.loadng_messages.specs.Reader.{message_in}
use Rattle.routing_set.specs.declared.rank.Rank.{Rank}
use Rattle.routing_set.specs.RoutingSet as routing
use Rattle.node_rules.specs.Accepted.{Accepted}
use Rattle.node_rules.specs.declared.heard.Path.TheVariants as paths
use Rattle.node_rules.specs.declared.heard.Heard.TheVariants as heard
use Rattle.node_rules.specs.declared.refusal.Dropped.TheVariants as drops
use Rattle.node_rules.specs.Drafts.{Draft, UnsealedUnit, all_go, alone, checked, choose, counted, counters_left, empty_draft, goes, is_awaited, leave}
use Rattle.node_rules.specs.Drafts.{refused, sealed, sealed_by, sealed_units, sealing, sealing_key, send_message, units_of, waits_for, with_rank}
use Rattle.node_rules.specs.HearingRules.{drop_it, dropped, hear, hear_message_in, hear_reply, hear_reply_for, hear_sealed, hear_unit_in}
use Rattle.node_rules.specs.HearingRules.{learns, offers, passes_on, rank_over}
use Rattle.node_rules.specs.Memory.{Body, StationMemory, next_hop}
use Rattle.line_progress.proofs.HeardUnits.{Hears}
use Rattle.line_progress.proofs.Requests.{IsTakeable, message_frame, no_rank_fault, noted, offered_by, offers_alone, sent_with}

-- what is left of a station that has learned a route, and from which this many frames have left
abbrev pub learned_of : StationMemory → (dest : ℕ) → Rank → (by now count : ℕ) → StationMemory
learned_of l dest rank by now count = counted alone count (record l {
  routing = routing.offered l.routing dest rank by now;
  waiting = filter (λ (b : Body). not (waits_for dest b)) l.waiting;
})

module _ (l : StationMemory) (g : Granted) (ring : l.ring ≡ Some g) (by : ℕ) (key : Key) (number total dest origin : ℕ) (payload : List ℕ)
    (unit : unit_in payload ≡ Some (units.Local 1 (messages.spelling (Rrep number total dest origin))))
    (message : message_in (messages.spelling (Rrep number total dest origin)) ≡ Some (Rrep number total dest origin)) (cost note now : ℕ)
    (takeable : IsTakeable l g.address dest (rank_over number total cost) now) (k : Key) (keyed : sealing_key g ≡ Some k) where
  abbrev got : Accepted
  got = record { path = paths.Sealed by false key; payload = payload }

  abbrev rank : Rank
  rank = rank_over number total cost

  over : hear l got cost note now ≡ hear_reply l g.address by dest origin rank now
  unfolding choose
  over =
      (λ i. hear_unit_in l got.path (unit i) cost note now)
      ∙ (λ i. option_map_or (λ own. hear_sealed l own by false (units.Local 1 (messages.spelling (Rrep number total dest origin))) cost note now)
      (option_map (λ (g : Granted). g.address) (ring i)) (drop_it l drops.BadUnit))
      ∙ (λ i. hear_message_in l g.address by false cost now (message i))

  -- another node than the one that asked sends it on
  pub is_sent_back : origin ≢ g.address → (hop : ℕ) → next_hop l origin ≡ Some hop → is_awaited l dest ≡ false → nat_lt (counters_left l) 1 ≡ false
      → Hears (hear l got cost note now) heard.Relayed
      (message_frame g k hop l.counter.next (Rrep number (total + cost) dest origin) ∷ []) (sent_with (offered_by dest rank by now l))
  unfolding choose checked sealed goes
  is_sent_back away hop route idle left =
      let m : Message = Rrep number (total + cost) dest origin in
      let d : Draft StationMemory = send_message hop m (noted dest rank by now l) in
      let path : hear l got cost note now ≡ sealing alone dropped d heard.Relayed = over
      ∙ (λ i. choose (ne_eqb origin g.address away i) (checked dropped l (no_rank_fault l g.address dest rank now takeable i)
      (learns l g.address by dest rank now)) (hear_reply_for l g.address by dest origin rank now (route i)))
      ∙ (λ i. checked dropped l (no_rank_fault l g.address dest rank now takeable i) (passes_on l g.address by dest origin hop rank now))
      ∙ (λ i. sealed alone dropped l (send_message hop m (offers_alone l g.address dest by now rank idle i)) heard.Relayed)
      ∙ (λ i. if left i then refused dropped l dropped.spent else sealing alone dropped d heard.Relayed) in
      subst (λ p. Hears p heard.Relayed (message_frame g k hop l.counter.next m ∷ []) (sent_with (offered_by dest rank by now l))) (sym path) (record {
        answer_is = refl;
        memory_is = refl;
        frames_is =
            (λ i. sealed_by (ring i) l.counter.next d.units) ∙ (λ i. option_map_or (λ key. sealed_units g key l.counter.next d.units) (keyed i) []);
      })

  -- the node that asked learns the route, and what waits for it leaves
  module _ (body : Body) (waits : filter (waits_for dest) l.waiting ≡ body ∷ []) where
    abbrev us : List UnsealedUnit
    us = all_go by body.note (units_of g.address body.to body.load)

    abbrev left_of : Draft StationMemory
    left_of = record {
      puts = routing.offer_writes l.routing dest rank by now;
      memory = record l {
        routing = routing.offered l.routing dest rank by now;
        waiting = filter (λ (b : Body). not (waits_for dest b)) l.waiting;
      };
      units = us;
      plain = [];
      made = [];
      opened = [];
    }

    offers_body : offers g.address dest rank by now l ≡ left_of
    unfolding leave with_rank empty_draft
    offers_body =
        (λ i. record left_of { units = flat_map (λ (b : Body). all_go by b.note (units_of g.address b.to b.load)) (waits i) })
        ∙ (λ i. record left_of { units = append-nil us i })

    pub is_learned : origin ≡ g.address → nat_lt (counters_left l) (length us) ≡ false
        → Hears (hear l got cost note now) heard.Learned (sealed_units g k l.counter.next us) (learned_of l dest rank by now (length us))
    unfolding choose checked sealed
    is_learned here left =
        let path : hear l got cost note now ≡ sealing alone dropped left_of heard.Learned = over
        ∙ (λ i. choose (eq-eqb origin g.address here i) (checked dropped l (no_rank_fault l g.address dest rank now takeable i)
        (learns l g.address by dest rank now)) (hear_reply_for l g.address by dest origin rank now (next_hop l origin)))
        ∙ (λ i. sealed alone dropped l (offers_body i) heard.Learned)
        ∙ (λ i. if left i then refused dropped l dropped.spent else sealing alone dropped left_of heard.Learned) in
        subst (λ p. Hears p heard.Learned (sealed_units g k l.counter.next us) (learned_of l dest rank by now (length us))) (sym path) (record {
          answer_is = refl;
          memory_is = refl;
          frames_is = (λ i. sealed_by (ring i) l.counter.next us) ∙ (λ i. option_map_or (λ key. sealed_units g key l.counter.next us) (keyed i) []);
        })
