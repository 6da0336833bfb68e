-- A node accepts a sealed frame for it, where it has the key and admits the counter.
use Rattle.std.proofs.Common.{◌≡◌, ◌≢◌, ℕ, Bool, true, false, Some, Ok, ap, ◌∙◌}
use Rattle.std.specs.Prelude.{if◌then◌else◌, not, ◌==◌, ◌&&◌, ◌||◌}
use Rattle.std.specs.Option.{option_map, option_map_or, option_and_then}
use Rattle.std.proofs.lemmas.Bool.{eq-eqb, ne_eqb}
use Rattle.plc_base.specs.declared.address.Eui.{Eui}
use Rattle.plc_base.specs.declared.address.TheConstants.{PAN}
use Rattle.plc_base.specs.Grant.{Granted, key_at}
use Rattle.frame_counters.specs.PeerMarks.{room_for}
use Rattle.mesh_header.specs.Grammar.{spelling}
use Rattle.node_rules.specs.Accepted.{Accepted}
use Rattle.node_rules.specs.declared.heard.Path.TheVariants as paths
use Rattle.node_rules.specs.declared.refusal.FrameRefusal.TheVariants.{NotForMe}
use Rattle.node_rules.specs.Acceptance.{accept, accept_head, admitted, is_for_me, is_own, marking, open_sealed, refuse, with_key}
use Rattle.node_rules.specs.Ciphers.{Ciphers, OpensWhatItSeals}
use Rattle.node_rules.specs.Frames.{SealedUnit, Sealed, head_of, spelled, arrived, to_all}
use Rattle.node_rules.specs.Memory.{StationMemory}
use Rattle.line_progress.proofs.SealedUnits.{IsSealable, arrives_whole, opens_whole, came}

-- what is got of a sealed unit, which was sent to all or to one node
abbrev pub got_by : Bool → SealedUnit → Accepted
got_by all l = record { path = paths.Sealed l.from all l.key; payload = spelling l.unit }

abbrev pub got_of : SealedUnit → Accepted
got_of l = got_by false l

module _ (l : StationMemory) (g : Granted) (ring : l.ring ≡ Some g) where
  pub own_is : (address : ℕ) → is_own l address ≡ (g.address == address)
  own_is address = λ i. option_map_or (λ own. own == address) (option_map (λ (g : Granted). g.address) (ring i)) false

module _ (ciphers : Ciphers) (opens : OpensWhatItSeals ciphers) (u : SealedUnit) (fits : IsSealable u) (l : StationMemory) (eui : Eui) (g : Granted)
    (ring : l.ring ≡ Some g) (apart : g.address ≢ u.from) (key : key_at g u.index ≡ Some u.key) (room : room_for l.marks u.from u.counter ≡ Ok tt) where
  -- where it was sent to this node or to all
  pub accepts_by : (all : Bool) → (u.to == to_all) ≡ all → (is_own l u.to || (u.to == to_all)) ≡ true
      → accept l eui (arrived ciphers (spelled ciphers (Sealed u)).octets) ≡ marking l u.from u.counter (got_by all u)
  accepts_by all sent here =
      let away : is_own l u.from ≡ false = own_is l g ring u.from ∙ ne_eqb g.address u.from apart in
      let for_me : is_for_me l eui (head_of u) ≡ true = λ i. (PAN == PAN) && (here i && not (away i)) in
      ap (accept l eui) (arrives_whole ciphers opens u fits)
      ∙ (λ i. if for_me i then accept_head l (came ciphers opens u fits) (head_of u) else refuse l NotForMe)
      ∙ (λ i. with_key l (came ciphers opens u fits) u.to u.from u.counter (option_and_then (λ (g : Granted). key_at g u.index) (ring i)))
      ∙ (λ i. with_key l (came ciphers opens u fits) u.to u.from u.counter (key i))
      ∙ (λ i. open_sealed l u.to u.from u.counter u.key (opens_whole ciphers opens u fits i))
      ∙ (λ i. admitted l u.from u.counter (record { path = paths.Sealed u.from (sent i) u.key; payload = spelling u.unit }) (room i))

  pub accepts : g.address ≡ u.to → u.to ≢ to_all
      → accept l eui (arrived ciphers (spelled ciphers (Sealed u)).octets) ≡ marking l u.from u.counter (got_of u)
  accepts to one =
      let here : is_own l u.to ≡ true = own_is l g ring u.to ∙ eq-eqb g.address u.to to in
      accepts_by false (ne_eqb u.to to_all one) (λ i. here i || (u.to == to_all))
