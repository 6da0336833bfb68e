-- Doings that store and send no sealed frame.
use Rattle.std.proofs.Common.{◌≡◌, ◌≤◌, true, false, [], map, Option, Some, None, Result, Ok, Err, refl, sym, ap, subst, append-nil}
use Rattle.std.specs.Prelude.{IfSome, IfNone, IsSome}
use Rattle.std.specs.Option.{option_map}
use Rattle.plc_base.specs.declared.out_frame.Out.{Out}
use Rattle.node_rules.specs.Ciphers.{network}
use Rattle.node_rules.specs.Frames.{spelled}
use Rattle.node_rules.specs.Memory.{Memory}
use Rattle.node_rules.specs.MemoryDrafts.{in_memory}
use Rattle.node_rules.specs.Plans.{Plan}
use Rattle.node_rules.specs.Drafts.{Draft, Ends, refused, sealing}
use Rattle.node_rules.specs.States.{State}
use Rattle.node_rules.specs.CarriedPlans.{Carries, nothing}
use Rattle.node_rules.specs.ComposedPlans.{begun}
use Rattle.node_rules.proofs.ComposedPlans.{carries_quiet, carries_unsealed}
use Rattle.plc_station.proofs.CarriedPlans.{resting_carried}
use Rattle.coordinator.specs.DraftsCarriedOut.{Does}

-- what holds of the memory of a station's coordinator
pub on_parts : {L M : Type 0} (o : Option L) (f : L → M) (P : M → Type 0) → ((l : L) → o ≡ Some l → P (f l)) → IfSome (option_map f o) P
on_parts None f P h = tt
on_parts (Some l) f P h = h l refl

-- of a memory that is there
pub by_some : {M : Type 0} (o : Option M) (Q : Type 0) → IsSome o → ((m : M) → o ≡ Some m → Q) → Q
by_some None Q there h = absurd (cc)
by_some (Some m) Q there h = h m refl

pub not_none : {M : Type 0} (o : Option M) (Q : Type 0) → IsSome o → IfNone o Q
not_none None Q there = absurd (cc)
not_none (Some m) Q there = tt

-- what goes out of a draft without units
abbrev pub out_done : Draft Memory → Out
out_done d = record { frames = map (spelled network) d.plain; tags = record { made = d.made; opened = d.opened } }

abbrev pub out_failed : Draft Memory → Out
out_failed d = record { frames = []; tags = record { made = []; opened = d.opened } }

begun_is : (d : Draft Memory) → d.units ≡ [] → begun d.puts d.memory d.plain d.made d.opened ≡ d
begun_is d none = λ i. record { puts = d.puts; memory = d.memory; units = sym none i; plain = d.plain; made = d.made; opened = d.opened }

-- all of it was done
pub stored : {H E : Type 0} (ends : Ends E) (s t : State Memory) (d : Draft Memory) (answer : H) (out : Out) → d.units ≡ []
    → d.memory.station.counter.next ≤ d.memory.station.counter.limit → Does s d true t → out ≡ out_done d
    → Carries s (sealing in_memory ends d answer) (Ok answer) out t
stored {H} {E} ends s t d answer out none below does is =
    subst (λ (x : Draft Memory). Carries s (sealing in_memory ends x answer) (Ok answer) out t) (begun_is d none)
    (carries_quiet ends s t d.puts d.memory d.plain d.made d.opened answer out below does.wrote is (ap (λ (x : State Memory). x.eui) does.state)
    (ap (λ (x : State Memory). x.memory) does.state))

-- a put failed
pub unstored : {H E : Type 0} (ends : Ends E) (s t : State Memory) (d : Draft Memory) (answer : H) (out : Out) → Does s d false t → out ≡ out_failed d
    → Carries s (sealing in_memory ends d answer) (Err ends.store) out t
unstored {H} {E} ends s t d answer out does is =
    carries_unsealed ends s t d d.puts [] answer out does.wrote (sym (append-nil d.puts)) is (ap (λ (x : State Memory). x.eui) does.state)
    (ap (λ (x : State Memory). x.memory) does.state)

-- nothing is done, for this reason
pub refusal : {H E : Type 0} (ends : Ends E) (s : State Memory) (m : Memory) (reason : E) (p : Plan Memory (Result H E)) (out : Out) → s.memory ≡ Some m
    → refused {H = H} ends m reason ≡ p → out ≡ nothing
    → Carries s p (Err reason) out s
refusal {H} {E} ends s m reason p out running e o =
    subst (λ (q : Plan Memory (Result H E)). Carries s q (Err reason) out s) e
    (subst (λ (q : Out). Carries s (refused {H = H} ends m reason) (Err reason) q s) (sym o) (resting_carried s m (Err reason) (Err ends.store) running))

pub carried_by : {A : Type 0} (s t : State Memory) (p q : Plan Memory A) (answer : A) (out : Out) → p ≡ q → Carries s p answer out t → Carries s q answer out t
carried_by {A} s t p q answer out e h = subst (λ (k : Plan Memory A). Carries s k answer out t) e h
