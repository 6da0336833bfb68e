-- A node that is to send a datagram without a route lets it wait, and sends a request to all.
use Rattle.std.proofs.Common.{◌≡◌, ◌≢◌, ℕ, ◌+◌, ◌<◌, ◌≤◌, false, List, [], ◌∷◌, ◌++◌, length, Some, None, refl, ap, ◌∙◌, arith}
use Rattle.std.specs.Prelude.{if◌then◌else◌, nat_lt, is_some, ◌==◌, ◌||◌}
use Rattle.std.specs.Option.{option_map, option_map_or}
use Rattle.std.proofs.lemmas.Bool.{ne_eqb, le-ltb}
use Rattle.plc_base.specs.Faults.{◌then◌, ◌when◌}
use Rattle.plc_base.specs.declared.key.Key.{Key}
use Rattle.plc_base.specs.Grant.{Granted}
use Rattle.plc_base.specs.Keeper.{Write}
use Rattle.loadng_messages.specs.declared.message.Message.TheVariants.{Rreq}
use Rattle.routing_set.specs.OwnNumber as own_number
use Rattle.node_rules.specs.declared.heard.SentHow.TheVariants as how_of
use Rattle.node_rules.specs.declared.refusal.SendRefusal.TheVariants as refusals
use Rattle.node_rules.specs.Acceptance.{is_own}
use Rattle.node_rules.specs.Calls.{Sending, how, lacking, send, send_fault, send_from, sending_ends, tag_taken}
use Rattle.node_rules.specs.Drafts.{Draft, OfRoom, OfNumbers, alone, checked, counters_left, empty_draft, goes, is_awaited, lack, no_room, numbers_spent}
use Rattle.node_rules.specs.Drafts.{refused, sealed, sealed_by, sealed_units, sealing, sealing_key, seeks, seeks_once, sets_out, waits, with_own_number}
use Rattle.node_rules.specs.Frames.{to_all}
use Rattle.node_rules.specs.Memory.{StationMemory, Datagram, next_hop}
use Rattle.line_progress.proofs.Acceptance.{own_is}
use Rattle.line_progress.proofs.Requests.{message_frame, sent_with}
use Rattle.line_progress.proofs.SentDatagrams.{SendsIt, begun_with}

-- what is left of a station that lets a datagram wait, with the tag that is then the next one
abbrev pub seeking_of : StationMemory → (dest tag : ℕ) → List ℕ → (note now : ℕ) → StationMemory
seeking_of l dest tag datagram note now = sent_with (record l {
  next_tag = tag;
  own_number = own_number.advanced l.own_number;
  waiting = l.waiting ++ record { to = dest; note = note; since = now; load = Datagram datagram l.next_tag } ∷ [];
})

module _ (l : StationMemory) (g : Granted) (ring : l.ring ≡ Some g) (dest : ℕ) (away : g.address ≢ dest) (lost : next_hop l dest ≡ None)
    (idle : is_awaited l dest ≡ false) (k : Key) (keyed : sealing_key g ≡ Some k) (datagram : List ℕ) (some : 0 < length datagram)
    (few : length datagram ≤ 1280) (room : no_room l (length datagram) ≡ false) (numbers : l.own_number.last < 65535)
    (left : nat_lt (counters_left l) 1 ≡ false) (note now : ℕ)
    (puts : List Write) (tag : ℕ) (cut : tag_taken datagram (empty_draft l) ≡ begun_with l puts tag) where
  abbrev begun : Draft StationMemory
  begun = begun_with l puts tag

  lost_then : next_hop begun.memory dest ≡ None
  unfolding next_hop
  lost_then = lost

  -- the draft
  abbrev drafted : Draft StationMemory
  drafted = waits dest note (Datagram datagram l.next_tag) now (seeks g.address dest begun)

  sets : sets_out g.address dest note (Datagram datagram l.next_tag) now begun
      ≡ waits dest note (Datagram datagram l.next_tag) now (seeks_once g.address dest begun)
  sets = rw lost_then refl

  once : seeks_once g.address dest begun ≡ seeks g.address dest begun
  unfolding seeks_once
  once = λ i. if idle i then begun else seeks g.address dest begun

  none_lacks : lack l dest (length datagram) ≡ None
  unfolding lack
  none_lacks =
      let unspent : numbers_spent l ≡ false = ne_eqb l.own_number.last 65535 (λ e. absurd (omega (arith, e, numbers))) in
      λ i. if is_some (lost i) then None
      else (Some OfRoom when room i then Some OfNumbers when (if idle i then false else unspent i))

  no_fault : send_fault l dest datagram ≡ None
  no_fault =
      let n : ℕ = length datagram in
      let zero_not : (n == 0) ≡ false = ne_eqb n 0 (λ e. absurd (omega arith)) in
      let big_not : nat_lt 1280 n ≡ false = le-ltb 1280 n few in
      let own_not : is_own l dest ≡ false = own_is l g ring dest ∙ ne_eqb g.address dest away in
      λ i. Some refusals.BadSize when (zero_not i || big_not i)
      then Some refusals.ToSelf when own_not i
      then option_map lacking (none_lacks i)

  plan_is : send l dest datagram note now ≡ sealing alone sending_ends drafted how_of.Waiting
  unfolding checked sealed goes waits with_own_number
  plan_is =
      (λ i. option_map_or (λ own. send_from l own dest datagram note now) (option_map (λ (g : Granted). g.address) (ring i))
      (refused sending_ends l refusals.NotJoined))
      ∙ (λ i. checked sending_ends l (no_fault i)
      (sealed alone sending_ends l (sets_out g.address dest note (Datagram datagram l.next_tag) now (tag_taken datagram (empty_draft l))) (how l dest)))
      ∙ (λ i. sealed alone sending_ends l (sets_out g.address dest note (Datagram datagram l.next_tag) now (cut i)) (how l dest))
      ∙ (λ i. sealed alone sending_ends l (sets i) (how l dest))
      ∙ (λ i. sealed alone sending_ends l (waits dest note (Datagram datagram l.next_tag) now (once i)) (how l dest))
      ∙ (λ i. if left i then refused sending_ends l sending_ends.spent else sealing alone sending_ends drafted (how l dest))
      ∙ (λ i. sealing alone sending_ends drafted (if is_some (lost i) then how_of.Sent else how_of.Waiting))

  pub seeks_it : SendsIt (send l dest datagram note now) how_of.Waiting
      (message_frame g k to_all l.counter.next (Rreq (l.own_number.last + 1) 0 g.address dest) ∷ [])
      (seeking_of l dest tag datagram note now)
  unfolding goes waits with_own_number
  seeks_it = record {
    answer_is = ap (λ (p : Sending). p.answer) plan_is;
    memory_is = ap (λ (p : Sending). p.memory) plan_is;
    frames_is =
        ap (λ (p : Sending). p.frames) plan_is
        ∙ (λ i. sealed_by (ring i) l.counter.next drafted.units)
        ∙ (λ i. option_map_or (λ key. sealed_units g key l.counter.next drafted.units) (keyed i) []);
  }
