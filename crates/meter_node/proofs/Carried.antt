-- How the rules of a meter are carried out.
use Rattle.std.proofs.Common.{◌≡◌, ℕ, true, false, List, [], ◌∷◌, ◌++◌, length, map, Option, Some, None, Result, Ok, Err, refl, sym, ap, subst, ◌∙◌}
use Rattle.std.specs.Prelude.{IfSome, is_some, nat_lt}
use Rattle.std.specs.Option.{option_map}
use Rattle.store_tables.specs.Writes.{Wrote}
use Rattle.plc_base.specs.declared.key.RandomOctets.{RandomOctets}
use Rattle.plc_base.specs.declared.out_frame.Out.{Out}
use Rattle.plc_base.specs.declared.tags.TagList.{TagList}
use Rattle.eap_psk.specs.Tags.{no_tags}
use Rattle.store_tables.proofs.WritesLemmas.{wrote_none}
use Rattle.node_rules.specs.declared.refusal.RingRefusal.{RingRefusal}
use Rattle.joining_messages.specs.declared.message.JoinBody.TheVariants as body
use Rattle.node_rules.specs.declared.refusal.LeaveRefusal.{LeaveRefusal}
use Rattle.node_rules.specs.declared.refusal.LeaveRefusal.TheVariants as leaving
use Rattle.node_rules.specs.declared.refusal.JoinRefusal.TheVariants.{AlreadyJoined}
use Rattle.node_rules.specs.declared.refusal.RandomFault.TheVariants.{RandomsFull}
use Rattle.node_rules.specs.Ciphers.{network}
use Rattle.node_rules.specs.Frames.{Sent, Up, spelled}
use Rattle.node_rules.specs.Memory.{StationMemory, Memory, MeterSession, ByAgent}
use Rattle.node_rules.specs.Plans.{Plan, resting, within}
use Rattle.node_rules.specs.Drafts.{Ends, empty_draft, refused, sealing, choose, with_ring}
use Rattle.node_rules.specs.Calls as calls
use Rattle.node_rules.specs.JoiningPackets.{message}
use Rattle.node_rules.specs.MemoryDrafts.{in_memory, on_station, with_memory_by, goes_up, given_ends, give_random}
use Rattle.node_rules.specs.Meters as meters
use Rattle.node_rules.specs.States.{State}
use Rattle.node_rules.specs.Agreement.{Agrees, AgreesWith}
use Rattle.node_rules.specs.CarriedPlans.{Carries, nothing}
use Rattle.node_rules.specs.ComposedPlans.{begun}
use Rattle.node_rules.proofs.ComposedPlans.{carries_within, carries_quiet, state_is}
use Rattle.plc_station.proofs.CarriedPlans.{at_some}
use Rattle.meter_node.specs.MeterStates.{MeterState, memory_with, node_of, identity_of}

-- what holds of a memory that stands on another one
if_mapped : {M N : Type 0} (f : M → N) (o : Option M) (P : N → Type 0) → ((m : M) → o ≡ Some m → P (f m)) → IfSome (option_map f o) P
if_mapped f None P h = tt
if_mapped f (Some m) P h = h m refl

pub on_node : (x : MeterState) (P : Memory → Type 0) → ((l : StationMemory) → x.station.memory ≡ Some l → P (memory_with x l)) → IfSome (node_of x).memory P
on_node x P h = if_mapped (memory_with x) x.station.memory P h

-- what gave out nothing, and was given no tags after that
pub untagged : (out : Out) (tags : TagList) → out ≡ nothing → (out.tags ≡ no_tags → tags ≡ no_tags) → record out { tags = tags } ≡ nothing
untagged out tags empty none = λ i. record { frames = (empty i).frames; tags = none (λ j. (empty j).tags) i }

-- nothing changes, for this reason
pub refuses : {H E : Type 0} (ends : Ends E) (x y : MeterState) (l : StationMemory) (reason : E) (p : Plan Memory (Result H E)) (out : Out)
    → x.station.memory ≡ Some l → node_of y ≡ node_of x → refused {H = H} ends (memory_with x l) reason ≡ p → out ≡ nothing
    → Carries (node_of x) p (Err reason) out (node_of y)
unfolding resting
refuses {H} {E} ends x y l reason p out running stays plan empty =
    subst (λ (q : Plan Memory (Result H E)). Carries (node_of x) q (Err reason) out (node_of y)) plan (record {
      done = true;
      wrote = subst (λ (s : State Memory). Wrote x.station.store [] true s.store) (sym stays) (wrote_none x.station.store);
      answer_is = refl;
      out_is = empty;
      new_is = state_is (node_of y) x.station.eui (Some (memory_with x l)) (ap (λ (s : State Memory). s.eui) stays)
          (ap (λ (s : State Memory). s.memory) stays ∙ ap (option_map (memory_with x)) running);
    })

-- what is kept beside the station changes, and plain frames go out
pub changes : {H E : Type 0} (ends : Ends E) (x y : MeterState) (l : StationMemory) (plain : List Sent) (answer : H) (p : Plan Memory (Result H E)) (out : Out)
    → x.station.memory ≡ Some l → Agrees x.station → y.station ≡ x.station → sealing in_memory ends (begun [] (memory_with y l) plain [] []) answer ≡ p
    → out ≡ record { frames = map (spelled network) plain; tags = record { made = []; opened = [] } } → Carries (node_of x) p (Ok answer) out (node_of y)
changes {H} {E} ends x y l plain answer p out running agrees same plan is =
    let known : AgreesWith l x.station.store.records = at_some x.station.memory (λ k. AgreesWith k x.station.store.records) l running agrees in
    subst (λ (q : Plan Memory (Result H E)). Carries (node_of x) q (Ok answer) out (node_of y)) plan
    (carries_quiet ends (node_of x) (node_of y) [] (memory_with y l) plain [] [] answer out known.counter.below
    (subst (λ (s : State StationMemory). Wrote x.station.store [] true s.store) (sym same) (wrote_none x.station.store)) is
    (ap (λ (s : State StationMemory). s.eui) same)
    (ap (λ (s : State StationMemory). option_map (memory_with y) s.memory) same ∙ ap (option_map (memory_with y)) running))

-- what the station did, with what is kept beside it afterwards
pub as_station : {A B : Type 0} (reads : A → B) (x y : MeterState) (p : Plan StationMemory A) (q : Plan Memory B) (answer : A) (out : Out)
    → within (memory_with y) reads p ≡ q → Carries x.station p answer out y.station → Carries (node_of x) q (reads answer) out (node_of y)
as_station {A} {B} reads x y p q answer out plan c =
    subst (λ (k : Plan Memory B). Carries (node_of x) k (reads answer) out (node_of y)) plan
    (carries_within (memory_with y) reads (node_of x) x.station y.station p answer out refl refl c)

-- # Random values

pub given : (x : MeterState) (l : StationMemory) (value : RandomOctets) (r : List RandomOctets) → nat_lt 7 (length x.randoms) ≡ false
    → r ≡ x.randoms ++ value ∷ []
    → sealing in_memory given_ends (begun [] (memory_with (record x { randoms = r }) l) [] [] []) tt ≡ give_random (memory_with x l) value
unfolding choose with_memory_by empty_draft
given x l value r few is = rw (few, is) refl

pub full : (x : MeterState) (l : StationMemory) (value : RandomOctets) → nat_lt 7 (length x.randoms) ≡ true
    → refused given_ends (memory_with x l) RandomsFull ≡ give_random (memory_with x l) value
unfolding choose
full x l value many = rw many refl

-- # Joining

-- the session of a meter that asked
abbrev pub asking : ℕ → ℕ → MeterSession
asking agent now = record { session_way = ByAgent agent; peer = None; since = now }

pub joins : (x : MeterState) (l : StationMemory) (agent now : ℕ) → is_some l.ring ≡ false
    → sealing in_memory meters.joining_ends
    (begun [] (memory_with (record x { session = Some (asking agent now) }) l) (Up agent x.station.eui (message x.station.eui (body.Join [])) ∷ []) [] []) tt
    ≡ meters.join (identity_of x) (memory_with x l) agent now
unfolding choose goes_up with_memory_by empty_draft
joins x l agent now free = rw free refl

pub joined_already : (x : MeterState) (l : StationMemory) (agent now : ℕ) → is_some l.ring ≡ true
    → refused meters.joining_ends (memory_with x l) AlreadyJoined ≡ meters.join (identity_of x) (memory_with x l) agent now
unfolding choose
joined_already x l agent now ring = rw ring refl

-- # Leaving

-- a station that left, as a meter says it
abbrev pub left_as : Result (Unit {0}) RingRefusal → Result (Unit {0}) LeaveRefusal
left_as (Ok u) = Ok tt
left_as (Err fault) = Err leaving.Store

pub leaves : (x : MeterState) (l : StationMemory) → is_some l.ring ≡ true
    → within (memory_with (record x { session = None })) left_as (calls.leave l) ≡ meters.leave (memory_with x l)
unfolding choose with_memory_by on_station empty_draft with_ring
leaves x l ring = rw ring refl

pub not_joined : (x : MeterState) (l : StationMemory) → is_some l.ring ≡ false
    → refused meters.leaving_ends (memory_with x l) leaving.NotJoined ≡ meters.leave (memory_with x l)
unfolding choose
not_joined x l free = rw free refl
