-- What becomes of a datagram that is to be sent.
use Rattle.std.proofs.Common.{◌≡◌, ℕ, ◌≤◌, Bool, true, false, List, [], ◌∷◌, ◌++◌, length, Option, Some, None, refl, sym, ap, subst, ◌∙◌}
use Rattle.std.specs.Prelude.{if◌then◌else◌, nat_lt, nat_le, is_some, ◌==◌, ◌||◌}
use Rattle.std.specs.Option.{option_map, option_map_or}
use Rattle.std.proofs.lemmas.Bool.{ltb-false, or_parts}
use Rattle.plc_base.specs.Faults.{◌then◌, ◌when◌}
use Rattle.node_rules.specs.Acceptance.{is_own}
use Rattle.node_rules.specs.declared.heard.SentHow.TheVariants as how_of
use Rattle.node_rules.specs.declared.refusal.SendRefusal.{SendRefusal}
use Rattle.node_rules.specs.declared.refusal.SendRefusal.TheVariants as refusals
use Rattle.node_rules.specs.Calls.{how, lacking, send_fault, send_from, sending_ends, tag_taken}
use Rattle.node_rules.specs.Drafts.{Draft, alone, body_goes, checked, counters_left, empty_draft, goes, is_awaited, lack, refused, sealed, sealing, seeks}
use Rattle.node_rules.specs.Drafts.{seeks_once, sets_out, waits, with_next_tag, with_own_number}
use Rattle.node_rules.specs.Memory.{StationMemory, Load, Body, Datagram, address_of, next_hop}
use Rattle.node_rules.specs.Plans.{resting}
use Rattle.line_progress.specs.SendFates.{SendFate, WentOut, Waits, Refused, SendsHaveFates}

-- # Setting out

module _ (own to note : ℕ) (load : Load) (now : ℕ) (d : Draft StationMemory) where
  pub sets_some : (hop : ℕ) → next_hop d.memory to ≡ Some hop → sets_out own to note load now d ≡ body_goes own hop to note load d
  sets_some hop e = rw e refl

  pub sets_none : next_hop d.memory to ≡ None → sets_out own to note load now d ≡ waits to note load now (seeks_once own to d)
  sets_none e = rw e refl

  sought : (b : Bool) → (if b then d else seeks own to d).memory.waiting ≡ d.memory.waiting
  unfolding goes with_own_number
  sought true = refl
  sought false = refl

  pub seeks_keeps : (seeks_once own to d).memory.waiting ≡ d.memory.waiting
  unfolding seeks_once
  seeks_keeps = sought (is_awaited d.memory to)

-- # Sends

-- a datagram that is not refused has no more octets than one may have
no_longer : (l : StationMemory) (to : ℕ) (datagram : List ℕ) → send_fault l to datagram ≡ None → length datagram ≤ 1280
no_longer l to datagram e = by_size ((length datagram == 0) || nat_lt 1280 (length datagram)) refl e
  where
    by_size : (b : Bool) → ((length datagram == 0) || nat_lt 1280 (length datagram)) ≡ b
        → (Some refusals.BadSize when b then Some refusals.ToSelf when is_own l to then option_map lacking (lack l to (length datagram))) ≡ None
        → length datagram ≤ 1280
    by_size true t h = absurd (cc)
    by_size false t h = ltb-false _ _ (or_parts _ _ t).1

module _ (l : StationMemory) (own to : ℕ) (datagram : List ℕ) (note now : ℕ) (address : address_of l ≡ Some own) where
  abbrev load_of : Load
  load_of = Datagram datagram l.next_tag

  abbrev body_of : Body
  body_of = record { to = to; note = note; since = now; load = load_of }

  -- the draft before it sets out, with a tag taken or without
  begun : Bool → Draft StationMemory
  begun b = if b then empty_draft l else with_next_tag (empty_draft l)

  begun_waiting : (b : Bool) → (begun b).memory.waiting ≡ l.waiting
  unfolding begun empty_draft with_next_tag
  begun_waiting true = refl
  begun_waiting false = refl

  begun_hop : (b : Bool) → next_hop (begun b).memory to ≡ next_hop l to
  unfolding begun empty_draft with_next_tag next_hop
  begun_hop true = refl
  begun_hop false = refl

  out : length datagram ≤ 1280 → (hop : ℕ) → next_hop l to ≡ Some hop → (b spent : Bool)
      → SendFate l to datagram note now
      (if spent then refused sending_ends l sending_ends.spent
      else sealing alone sending_ends (body_goes own hop to note load_of (begun b)) how_of.Sent)
  unfolding begun body_goes empty_draft with_next_tag resting
  out short hop route b true = Refused refusals.CounterSpent refl refl refl
  out short hop route true false = WentOut own hop short address route refl refl
  out short hop route false false = WentOut own hop short address route refl refl

  stays : (b spent : Bool)
      → SendFate l to datagram note now
      (if spent then refused sending_ends l sending_ends.spent
      else sealing alone sending_ends (waits to note load_of now (seeks_once own to (begun b))) how_of.Waiting)
  unfolding waits resting
  stays b true = Refused refusals.CounterSpent refl refl refl
  stays b false =
      Waits refl (ap (λ (ws : List Body). ws ++ body_of ∷ []) (seeks_keeps own to note load_of now (begun b) ∙ begun_waiting b))

  by_hop : length datagram ≤ 1280 → (b : Bool) (o : Option ℕ) → next_hop l to ≡ o
      → SendFate l to datagram note now (sealed alone sending_ends l (sets_out own to note load_of now (begun b)) (how l to))
  unfolding sealed
  by_hop short b (Some hop) e =
      subst (λ p. SendFate l to datagram note now p)
      (sym (λ i. sealed alone sending_ends l (sets_some own to note load_of now (begun b) hop (begun_hop b ∙ e) i)
      (if is_some (e i) then how_of.Sent else how_of.Waiting)))
      (out short hop e b (nat_lt (counters_left l) (length (body_goes own hop to note load_of (begun b)).units)))
  by_hop short b None e =
      subst (λ p. SendFate l to datagram note now p)
      (sym (λ i. sealed alone sending_ends l (sets_none own to note load_of now (begun b) (begun_hop b ∙ e) i)
      (if is_some (e i) then how_of.Sent else how_of.Waiting)))
      (stays b (nat_lt (counters_left l) (length (waits to note load_of now (seeks_once own to (begun b))).units)))

  by_fault : (o : Option SendRefusal) → send_fault l to datagram ≡ o → SendFate l to datagram note now
      (checked sending_ends l o (sealed alone sending_ends l (sets_out own to note load_of now (tag_taken datagram (empty_draft l))) (how l to)))
  unfolding checked resting begun
  by_fault (Some reason) e = Refused reason refl refl refl
  by_fault None e = by_hop (no_longer l to datagram e) (nat_le (length datagram) 375) (next_hop l to) refl

unjoined : (l : StationMemory) (to : ℕ) (datagram : List ℕ) (note now : ℕ)
    → SendFate l to datagram note now (refused sending_ends l refusals.NotJoined)
unfolding resting
unjoined l to datagram note now = Refused refusals.NotJoined refl refl refl

pub send_fates : SendsHaveFates
send_fates l to datagram note now = by_address (address_of l) refl
  where
    by_address : (o : Option ℕ) → address_of l ≡ o
        → SendFate l to datagram note now (option_map_or (λ own. send_from l own to datagram note now) o (refused sending_ends l refusals.NotJoined))
    by_address (Some own) e = by_fault l own to datagram note now e (send_fault l to datagram) refl
    by_address None e = unjoined l to datagram note now
