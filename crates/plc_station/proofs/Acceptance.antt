-- How a frame is accepted, as a plan that is carried out.
use Rattle.std.proofs.Common.{◌≡◌, ℕ, true, false, List, take, Option, Some, None, Result, Ok, Err, refl, sym, subst}
use Rattle.plc_base.specs.Keeper.{Stores}
use Rattle.plc_base.specs.declared.key.Key.{Key}
use Rattle.store_tables.proofs.WritesLemmas.{wrote_one}
use Rattle.frame_counters.specs.declared.fault.PeerFault.{PeerFault}
use Rattle.frame_counters.specs.PeerMarks.{room_for, keep_write, kept_after}
use Rattle.node_rules.specs.Accepted.{Accepted}
use Rattle.node_rules.specs.declared.refusal.FrameRefusal.{FrameRefusal}
use Rattle.node_rules.specs.declared.refusal.FrameRefusal.TheVariants.{NotForMe, NoKey, BadTag, Store}
use Rattle.mac_frames.specs.declared.head.MacHead.{MacHead}
use Rattle.plc_base.specs.declared.fields.Fault.{Fault}
use Rattle.mac_frames.specs.declared.fault.FrameFaultKind.{FrameFaultKind}
use Rattle.mac_frames.specs.Faults.{frame_fault}
use Rattle.mac_frames.specs.Reader.{head_in, body_in}
use Rattle.node_rules.specs.Ciphers.{network}
use Rattle.node_rules.specs.Frames.{Arrived, arrived, arrived_with}
use Rattle.node_rules.specs.Memory.{StationMemory}
use Rattle.node_rules.specs.Acceptance.{accept, accept_head, admit, admitted, is_for_me, marking, mark_refusal, refuse, with_key, open_sealed}
use Rattle.node_rules.specs.Plans.{resting}
use Rattle.node_rules.specs.States.{State}
use Rattle.node_rules.specs.CarriedPlans.{Carries, nothing}
use Rattle.plc_station.proofs.CarriedPlans.{resting_carried}

pub admit_refused : (s : State StationMemory) (l : StationMemory) (from counter : ℕ) (accepted : Accepted) (fault : PeerFault) (reason : FrameRefusal)
    → s.memory ≡ Some l
    → Err fault ≡ room_for l.marks from counter → reason ≡ mark_refusal fault → Carries s (admit l from counter accepted) (Err reason) nothing s
admit_refused s l from counter accepted fault reason m room is =
    subst (λ (r : Result (Unit {0}) PeerFault). Carries s (admitted l from counter accepted r) (Err reason) nothing s) room
    (subst (λ (e : FrameRefusal). Carries s (refuse l (mark_refusal fault)) (Err e) nothing s) (sym is)
    (resting_carried s l (Err (mark_refusal fault)) (Err Store) m))

pub admit_failed : (s t : State StationMemory) (l : StationMemory) (from counter : ℕ) (accepted : Accepted) (u : Unit {0})
    → Ok u ≡ room_for l.marks from counter
    → Stores s.store (keep_write l.marks from counter) false t.store → t ≡ record { store = t.store; eui = s.eui; memory = None; replied = t.replied }
    → Carries s (admit l from counter accepted) (Err Store) nothing t
unfolding marking
admit_failed s t l from counter accepted u room stores new =
    subst (λ (r : Result (Unit {0}) PeerFault). Carries s (admitted l from counter accepted r) (Err Store) nothing t) room (record {
      done = false;
      wrote = wrote_one s.store t.store (keep_write l.marks from counter) false stores;
      answer_is = refl;
      out_is = refl;
      new_is = new;
    })

pub admit_done : (s t : State StationMemory) (l : StationMemory) (from counter : ℕ) (accepted : Accepted) (u : Unit {0}) → Ok u ≡ room_for l.marks from counter
    → Stores s.store (keep_write l.marks from counter) true t.store
    → t ≡ record { store = t.store; eui = s.eui; memory = Some (record l { marks = kept_after l.marks from counter }); replied = t.replied }
    → Carries s (admit l from counter accepted) (Ok accepted) nothing t
unfolding marking
admit_done s t l from counter accepted u room stores new =
    subst (λ (r : Result (Unit {0}) PeerFault). Carries s (admitted l from counter accepted r) (Ok accepted) nothing t) room (record {
      done = true;
      wrote = wrote_one s.store t.store (keep_write l.marks from counter) true stores;
      answer_is = refl;
      out_is = refl;
      new_is = new;
    })

-- no key is held at the index
pub key_missing : (s : State StationMemory) (l : StationMemory) (a : Arrived) (to from counter : ℕ) (k : Option Key) → s.memory ≡ Some l → None ≡ k
    → Carries s (with_key l a to from counter k) (Err NoKey) nothing s
key_missing s l a to from counter k m e =
    subst (λ (o : Option Key). Carries s (with_key l a to from counter o) (Err NoKey) nothing s) e (resting_carried s l (Err NoKey) (Err Store) m)

-- the key opens nothing
pub tag_wrong : (s : State StationMemory) (l : StationMemory) (a : Arrived) (to from counter : ℕ) (k : Option Key) (key : Key) → s.memory ≡ Some l
    → Some key ≡ k → a.opened key ≡ None
    → Carries s (with_key l a to from counter k) (Err BadTag) nothing s
tag_wrong s l a to from counter k key m e none =
    subst (λ (o : Option Key). Carries s (with_key l a to from counter o) (Err BadTag) nothing s) e
    (subst (λ (p : Option (List ℕ)). Carries s (open_sealed l to from counter key p) (Err BadTag) nothing s) (sym none)
    (resting_carried s l (Err BadTag) (Err Store) m))

-- the frame is for another node
pub not_for_me : (s : State StationMemory) (l : StationMemory) (a : Arrived) → s.memory ≡ Some l → false ≡ is_for_me l s.eui a.head
    → Carries s (accept l s.eui (Some a)) (Err NotForMe) nothing s
not_for_me s l a m e = rw (← e) (resting_carried s l (Err NotForMe) (Err Store) m)

-- a plain frame
pub plain_accepted : (s : State StationMemory) (l : StationMemory) (a : Arrived) (got : Accepted) → s.memory ≡ Some l → true ≡ is_for_me l s.eui a.head
    → accept_head l a a.head ≡ resting l (Ok got) (Err Store)
    → Carries s (accept l s.eui (Some a)) (Ok got) nothing s
plain_accepted s l a got m e plan = rw (← e) (rw plan (resting_carried s l (Ok got) (Err Store) m))

-- octets that are no frame, and octets that are one
pub not_arrived : (octets : List ℕ) (e : Fault FrameFaultKind) → frame_fault octets ≡ Some e → arrived network octets ≡ None
unfolding arrived
not_arrived octets e is = rw is refl

pub arrived_is : (octets front body : List ℕ) (head : MacHead) → frame_fault octets ≡ None → head ≡ head_in octets → body ≡ body_in octets
    → front ≡ take 15 octets
    → arrived network octets ≡ Some (arrived_with network head front body)
unfolding arrived
arrived_is octets front body head none h b f = rw none (sym (λ i. Some (arrived_with network (h i) (f i) (b i))))
