-- What a station makes of a route request: it passes it on, or answers it.
use Rattle.std.proofs.Common.{◌≡◌, ◌≢◌, ℕ, ◌+◌, ◌<◌, ◌≤◌, Bool, true, false, List, [], ◌∷◌, ◌++◌, Some, None, refl, sym, ap, subst, ◌∙◌}
use Rattle.std.proofs.Common.{arith}
use Rattle.std.specs.Prelude.{if◌then◌else◌, nat_lt, not, ◌==◌, ◌||◌}
use Rattle.std.specs.List.{filter, flat_map, list_any}
use Rattle.std.specs.Option.{option_map, option_map_or}
use Rattle.std.proofs.lemmas.Bool.{eq-eqb, ne_eqb, le-ltb}
use Rattle.plc_base.specs.Faults.{◌then◌, ◌when◌}
use Rattle.plc_base.specs.declared.key.Key.{Key}
use Rattle.plc_base.specs.Grant.{Granted}
use Rattle.store_tables.specs.Writes.{puts_of}
use Rattle.frame_counters.specs.SendCounter as counters
use Rattle.mesh_header.specs.declared.unit.Unit.TheVariants as units
use Rattle.mesh_header.specs.Reader.{unit_in}
use Rattle.loadng_messages.specs.declared.message.Message.{Message}
use Rattle.loadng_messages.specs.declared.message.Message.TheVariants.{Rreq, Rrep}
use Rattle.loadng_messages.specs.Grammar as messages
use Rattle.loadng_messages.specs.Reader.{message_in}
use Rattle.routing_set.specs.declared.rank.Rank.{Rank}
use Rattle.routing_set.specs.OwnNumber as own_number
use Rattle.routing_set.specs.RoutingSet as routing
use Rattle.node_rules.specs.Accepted.{Accepted}
use Rattle.node_rules.specs.declared.heard.Path.TheVariants as paths
use Rattle.node_rules.specs.declared.heard.Heard.TheVariants as heard
use Rattle.node_rules.specs.declared.refusal.Dropped.TheVariants as drops
use Rattle.node_rules.specs.Drafts.{Draft, all_go, alone, checked, choose, counters_left, empty_draft, goes, is_awaited, leave, numbers_spent}
use Rattle.node_rules.specs.Drafts.{refused, sealed, sealed_by, sealed_units, sealing, sealing_key, send_message, units_of, waits_for}
use Rattle.node_rules.specs.Drafts.{with_own_number, with_rank}
use Rattle.node_rules.specs.Frames.{Sent, Sealed, to_all}
use Rattle.node_rules.specs.HearingRules.{answers, drop_it, dropped, hear, hear_message_in, hear_sealed, hear_unit_in}
use Rattle.node_rules.specs.HearingRules.{offers, offers_numbered, rank_fault, rank_over, sends_on}
use Rattle.node_rules.specs.Memory.{Body, StationMemory}
use Rattle.line_progress.proofs.HeardUnits.{Hears}

-- # Nothing leaves where nothing waits

pub none_kept : {A : Type 0} (p : A → Bool) (xs : List A) → list_any p xs ≡ false → filter p xs ≡ []
none_kept p [] none = refl
none_kept p (x ∷ xs) none = by_first (p x) none (none_kept p xs)
  where
    by_first : (b : Bool) → (b || list_any p xs) ≡ false → (list_any p xs ≡ false → filter p xs ≡ [])
        → (if b then x ∷ filter p xs else filter p xs) ≡ []
    by_first true e rest = absurd (cc)
    by_first false e rest = rest e

pub all_kept : {A : Type 0} (p : A → Bool) (xs : List A) → list_any p xs ≡ false → filter (λ x. not (p x)) xs ≡ xs
all_kept p [] none = refl
all_kept p (x ∷ xs) none = by_first (p x) none (all_kept p xs)
  where
    by_first : (b : Bool) → (b || list_any p xs) ≡ false → (list_any p xs ≡ false → filter (λ y. not (p y)) xs ≡ xs)
        → (if not b then x ∷ filter (λ y. not (p y)) xs else filter (λ y. not (p y)) xs) ≡ x ∷ xs
    by_first true e rest = absurd (cc)
    by_first false e rest = ap (λ ys. x ∷ ys) (rest e)

-- what is kept of an offer, where nothing waits for its address
abbrev pub offered_by : (origin : ℕ) → Rank → (by now : ℕ) → StationMemory → StationMemory
offered_by origin rank by now l = record l { routing = routing.offered l.routing origin rank by now }

abbrev pub noted : (origin : ℕ) → Rank → (by now : ℕ) → StationMemory → Draft StationMemory
noted origin rank by now l = record {
  puts = routing.offer_writes l.routing origin rank by now;
  memory = offered_by origin rank by now l;
  units = [];
  plain = [];
  made = [];
  opened = [];
}

-- the same with an own number
abbrev pub numbered : StationMemory → StationMemory
numbered l = record l { own_number = own_number.advanced l.own_number }

abbrev noted_numbered : (origin : ℕ) → Rank → (by now : ℕ) → StationMemory → Draft StationMemory
noted_numbered origin rank by now l = record {
  puts = routing.offer_writes l.routing origin rank by now ++ puts_of (own_number.advance_write l.own_number);
  memory = offered_by origin rank by now (numbered l);
  units = [];
  plain = [];
  made = [];
  opened = [];
}

module _ (l : StationMemory) (own origin by now : ℕ) (rank : Rank) (idle : is_awaited l origin ≡ false) where
  none_waits : filter (waits_for origin) l.waiting ≡ []
  none_waits = none_kept (waits_for origin) l.waiting idle

  all_wait : filter (λ (b : Body). not (waits_for origin b)) l.waiting ≡ l.waiting
  all_wait = all_kept (waits_for origin) l.waiting idle

  pub offers_alone : offers own origin rank by now l ≡ noted origin rank by now l
  unfolding leave with_rank empty_draft
  offers_alone = λ i. record (noted origin rank by now l) {
    memory = record (offered_by origin rank by now l) { waiting = all_wait i };
    units = flat_map (λ (b : Body). all_go by b.note (units_of own b.to b.load)) (none_waits i);
  }

  pub offers_with_number : offers_numbered own origin rank by now l ≡ noted_numbered origin rank by now l
  unfolding leave with_rank with_own_number empty_draft
  offers_with_number = λ i. record (noted_numbered origin rank by now l) {
    memory = record (offered_by origin rank by now (numbered l)) { waiting = all_wait i };
    units = flat_map (λ (b : Body). all_go by b.note (units_of own b.to b.load)) (none_waits i);
  }

-- # A rank that is taken

-- What a rank that a neighbour offers for an address needs.
pub record IsTakeable (l : StationMemory) (own origin : ℕ) (rank : Rank) (now : ℕ) : Type 0 where
  pub away : own ≢ origin
  pub better : routing.is_better l.routing origin rank ≡ true
  pub cheap : rank.cost ≤ 65535
  pub room : routing.is_full l.routing origin now ≡ false

pub no_rank_fault : (l : StationMemory) (own origin : ℕ) (rank : Rank) (now : ℕ) → IsTakeable l own origin rank now
    → rank_fault l own origin rank now ≡ None
unfolding rank_fault
no_rank_fault l own origin rank now h =
    let other : (origin == own) ≡ false = ne_eqb origin own (λ e. h.away (sym e)) in
    let low : nat_lt 65535 rank.cost ≡ false = le-ltb 65535 rank.cost h.cheap in
    let better = h.better in
    let room = h.room in
    λ i. Some drops.NotBetter when (other i || not (better i))
    then Some drops.CostSpent when low i
    then Some drops.RoutesFull when room i

-- # A message that goes out alone

-- a sealed message
abbrev pub message_frame : Granted → Key → (to counter : ℕ) → Message → Sent
message_frame g k to counter message = Sealed (record {
  to = to;
  from = g.address;
  counter = counter;
  index = g.active;
  key = k;
  unit = units.Local 1 (messages.spelling message);
  note = 0;
})

-- a counter is taken
abbrev pub sent_with : StationMemory → StationMemory
sent_with l = record l { counter = counters.reserved l.counter 1 }

-- # At a station

module _ (l : StationMemory) (g : Granted) (ring : l.ring ≡ Some g) (by : ℕ) (key : Key) (number total origin dest : ℕ) (payload : List ℕ)
    (unit : unit_in payload ≡ Some (units.Local 1 (messages.spelling (Rreq number total origin dest))))
    (message : message_in (messages.spelling (Rreq number total origin dest)) ≡ Some (Rreq number total origin dest)) (cost note now : ℕ)
    (takeable : IsTakeable l g.address origin (rank_over number total cost) now) (idle : is_awaited l origin ≡ false)
    (left : nat_lt (counters_left l) 1 ≡ false) (k : Key) (keyed : sealing_key g ≡ Some k) where
  abbrev got : Accepted
  got = record { path = paths.Sealed by true key; payload = payload }

  abbrev rank : Rank
  rank = rank_over number total cost

  over : hear l got cost note now ≡ choose (dest == g.address)
      (choose (numbers_spent l) (drop_it l drops.SeqSpent) (answers l g.address by origin rank now)) (sends_on l g.address by origin dest rank now)
  unfolding choose checked
  over =
      let body : List ℕ = messages.spelling (Rreq number total origin dest) in
      (λ i. hear_unit_in l got.path (unit i) cost note now)
      ∙ (λ i. option_map_or (λ own. hear_sealed l own by true (units.Local 1 body) cost note now)
      (option_map (λ (g : Granted). g.address) (ring i)) (drop_it l drops.BadUnit))
      ∙ (λ i. hear_message_in l g.address by true cost now (message i))
      ∙ (λ i. checked dropped l (no_rank_fault l g.address origin rank now takeable i)
      (choose (dest == g.address) (choose (numbers_spent l) (drop_it l drops.SeqSpent) (answers l g.address by origin rank now))
      (sends_on l g.address by origin dest rank now)))

  -- another node than the one that is sought sends it on
  pub is_passed_on : dest ≢ g.address → Hears (hear l got cost note now) heard.Relayed
      (message_frame g k to_all l.counter.next (Rreq number (total + cost) origin dest) ∷ []) (sent_with (offered_by origin rank by now l))
  unfolding choose sealed goes
  is_passed_on away =
      let m : Message = Rreq number (total + cost) origin dest in
      let d : Draft StationMemory = send_message to_all m (noted origin rank by now l) in
      let path : hear l got cost note now ≡ sealing alone dropped d heard.Relayed = over
      ∙ (λ i. choose (ne_eqb dest g.address away i)
      (choose (numbers_spent l) (drop_it l drops.SeqSpent) (answers l g.address by origin rank now)) (sends_on l g.address by origin dest rank now))
      ∙ (λ i. sealed alone dropped l (send_message to_all m (offers_alone l g.address origin by now rank idle i)) heard.Relayed)
      ∙ (λ i. if left i then refused dropped l dropped.spent else sealing alone dropped d heard.Relayed) in
      subst (λ p. Hears p heard.Relayed (message_frame g k to_all l.counter.next m ∷ []) (sent_with (offered_by origin rank by now l))) (sym path) (record {
        answer_is = refl;
        memory_is = refl;
        frames_is =
            (λ i. sealed_by (ring i) l.counter.next d.units) ∙ (λ i. option_map_or (λ key. sealed_units g key l.counter.next d.units) (keyed i) []);
      })

  -- the node that is sought answers it
  pub is_answered : dest ≡ g.address → l.own_number.last < 65535 → Hears (hear l got cost note now) heard.Answered
      (message_frame g k by l.counter.next (Rrep (l.own_number.last + 1) 0 g.address origin) ∷ []) (sent_with (offered_by origin rank by now (numbered l)))
  unfolding choose sealed goes
  is_answered here some =
      let m : Message = Rrep (l.own_number.last + 1) 0 g.address origin in
      let d : Draft StationMemory = send_message by m (noted_numbered origin rank by now l) in
      let unspent : numbers_spent l ≡ false = ne_eqb l.own_number.last 65535 (λ e. absurd (omega (arith, e, some))) in
      let path : hear l got cost note now ≡ sealing alone dropped d heard.Answered = over
      ∙ (λ i. choose (eq-eqb dest g.address here i)
      (choose (numbers_spent l) (drop_it l drops.SeqSpent) (answers l g.address by origin rank now)) (sends_on l g.address by origin dest rank now))
      ∙ (λ i. choose (unspent i) (drop_it l drops.SeqSpent) (answers l g.address by origin rank now))
      ∙ (λ i. sealed alone dropped l (send_message by m (offers_with_number l g.address origin by now rank idle i)) heard.Answered)
      ∙ (λ i. if left i then refused dropped l dropped.spent else sealing alone dropped d heard.Answered) in
      subst (λ p. Hears p heard.Answered (message_frame g k by l.counter.next m ∷ []) (sent_with (offered_by origin rank by now (numbered l)))) (sym path)
      (record {
        answer_is = refl;
        memory_is = refl;
        frames_is =
            (λ i. sealed_by (ring i) l.counter.next d.units) ∙ (λ i. option_map_or (λ key. sealed_units g key l.counter.next d.units) (keyed i) []);
      })
