-- What the network's ciphers open of octets is octets, and what they seal they open.
use Rattle.std.proofs.Common.{◌≡◌, take, Option, Some, None, ap, ◌∙◌, subst}
use Rattle.std.specs.Prelude.{is_some, if◌then◌else◌}
use Rattle.std.proofs.lemmas.Option.{same_Some}
use Rattle.plc_base.specs.declared.fields.Fault.{Fault}
use Rattle.plc_base.specs.Fields.{AreOctets}
use Rattle.mac_frames.specs.declared.fault.FrameFaultKind.{FrameFaultKind}
use Rattle.mac_frames.specs.Faults.{frame_fault}
use Rattle.mac_frames.specs.Reader.{head_in, body_in}
use Rattle.mac_frames.proofs.FrameOctets.{body_octets, opened_octets}
use Rattle.mac_frames.proofs.OpensAgain.{bodies_open, bodies_longer}
use Rattle.node_rules.specs.Ciphers.{OpensWhatItSeals, network}
use Rattle.node_rules.specs.Frames.{Arrived, arrived, arrived_with}
use Rattle.node_rules.specs.OctetLaws.{ArrivedBodiesAreOctets, NetworkOpensOctets}

-- the body of a frame that came
pub arrived_octets : ArrivedBodiesAreOctets
unfolding arrived
arrived_octets ciphers octets a all = by_fault (frame_fault octets)
  where
    by_fault : (o : Option (Fault FrameFaultKind))
        → (if is_some o then None else Some (arrived_with ciphers (head_in octets) (take 15 octets) (body_in octets))) ≡ Some a → AreOctets a.body
    by_fault (Some f) e = absurd (cc)
    by_fault None e = subst (λ (x : Arrived). AreOctets x.body) (same_Some _ _ e) (body_octets octets all)

-- what the network's frames open to, under a key of octets
pub network_opens : NetworkOpensOctets
unfolding arrived
network_opens octets a key payload all fits = by_fault (frame_fault octets)
  where
    by_fault : (o : Option (Fault FrameFaultKind))
        → (if is_some o then None else Some (arrived_with network (head_in octets) (take 15 octets) (body_in octets))) ≡ Some a → a.opened key ≡ Some payload
        → AreOctets payload
    by_fault (Some f) e is = absurd (cc)
    by_fault None e is = opened_octets key.0 (head_in octets) (take 15 octets) (body_in octets) payload fits (body_octets octets all)
        (ap (λ (x : Arrived). x.opened key) (same_Some _ _ e) ∙ is)

pub network_opens_again : OpensWhatItSeals network
network_opens_again = record {
  opens = λ key head payload. bodies_open key.0 head payload;
  tag = λ key head payload. bodies_longer key.0 head payload;
}
