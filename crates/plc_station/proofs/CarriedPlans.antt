-- A plan that is carried out.
use Rattle.std.proofs.Common.{◌≡◌, Bool, true, false, Option, Some, None, refl, ap, subst}
use Rattle.std.specs.Prelude.{IfSome, IsSome}
use Rattle.plc_base.specs.Keeper.{Store}
use Rattle.plc_base.specs.declared.address.Eui.{Eui}
use Rattle.store_tables.proofs.WritesLemmas.{wrote_none}
use Rattle.node_rules.specs.declared.heard.Reply.{Reply}
use Rattle.node_rules.specs.Memory.{StationMemory}
use Rattle.node_rules.specs.Plans.{resting}
use Rattle.node_rules.specs.States.{State, unless_halted}
use Rattle.node_rules.specs.CarriedPlans.{Carries, nothing}

-- what holds of a memory, if there is one
pub if_some : {M : Type 0} (o : Option M) (P : M → Type 0) → ((m : M) → o ≡ Some m → P m) → IfSome o P
if_some None P h = tt
if_some (Some m) P h = h m refl

pub at_some : {M : Type 0} (o : Option M) (P : M → Type 0) (m : M) → o ≡ Some m → IfSome o P → P m
at_some {M} o P m e h = subst (λ (k : Option M). IfSome k P) e h

-- what follows from what holds of a memory, if there is one
pub met_some : {M : Type 0} (o : Option M) (P Q : M → Type 0) → IfSome o P → IfSome o (λ m. P m → Q m) → IfSome o Q
met_some None P Q h then = tt
met_some (Some m) P Q h then = then h

-- what holds of a node that is not halted
pub on_memory : {M : Type 0} (halted : Bool) (m : M) (P : M → Type 0) → (unless_halted halted m ≡ Some m → P m) → IfSome (unless_halted halted m) P
on_memory true m P h = tt
on_memory false m P h = h refl

-- nothing changes
pub resting_carried : {M A : Type 0} (s : State M) (m : M) (answer failed : A) → s.memory ≡ Some m → Carries s (resting m answer failed) answer nothing s
unfolding resting
resting_carried {M} s m answer failed e = record {
  done = true;
  wrote = wrote_none s.store;
  answer_is = refl;
  out_is = refl;
  new_is = ap (λ (o : Option M). record { store = s.store; eui = s.eui; memory = o; replied = s.replied }) e;
}

-- lines with the same parts are the same
pub lines_are : {replied : Option Reply} (store : Store) (eui : Eui) (l m : StationMemory) → l.ring ≡ m.ring → l.counter ≡ m.counter → l.marks ≡ m.marks
    → l.routing ≡ m.routing → l.own_number ≡ m.own_number
    → l.next_tag ≡ m.next_tag → l.reassemblies ≡ m.reassemblies → l.waiting ≡ m.waiting
    → ◌≡◌ {A = State StationMemory} (record { store = store; eui = eui; memory = Some l; replied = replied })
    (record { store = store; eui = eui; memory = Some m; replied = replied })
lines_are {replied} store eui l m a b c d e f g h = λ i. record {
  store = store;
  eui = eui;
  memory = Some (record { ring = a i; counter = b i; marks = c i; routing = d i; own_number = e i; next_tag = f i; reassemblies = g i; waiting = h i });
  replied = replied;
}

pub station_is : (l m : StationMemory) → l.ring ≡ m.ring → l.counter ≡ m.counter → l.marks ≡ m.marks → l.routing ≡ m.routing → l.own_number ≡ m.own_number
    → l.next_tag ≡ m.next_tag → l.reassemblies ≡ m.reassemblies → l.waiting ≡ m.waiting → l ≡ m
station_is l m a b c d e f g h =
    λ i. record { ring = a i; counter = b i; marks = c i; routing = d i; own_number = e i; next_tag = f i; reassemblies = g i; waiting = h i }

-- of a node that is known to run
pub of_some : {M : Type 0} (halted : Bool) (m : M) (P : M → Type 0) → IsSome (unless_halted halted m) → IfSome (unless_halted halted m) P → P m
of_some true m P running h = absurd (cc)
of_some false m P running h = h
