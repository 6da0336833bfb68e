-- A plan changes no datagram: what it leaves, sends and hands up is of its send.
use Rattle.std.proofs.Common.{◌≡◌, ℕ, ◌+◌, false, List, [], ◌∷◌, ⊎_elim, Option, Some, None, Result, Ok, Err, refl, sym, ap, ◌∙◌, subst}
use Rattle.std.specs.Prelude.{All, IfSome, ⊤}
use Rattle.std.specs.Option.{option_map_or}
use Rattle.std.proofs.lemmas.List.Elements.{All-nil, All-cons, All-head, All-tail, All-append, All-push}
use Rattle.plc_base.specs.declared.address.Eui.{Eui}
use Rattle.plc_base.specs.declared.key.Key.{Key}
use Rattle.plc_base.specs.Grant.{Granted}
use Rattle.group_keys.specs.KeyRing as ring
use Rattle.mesh_header.specs.declared.unit.Unit.{Unit as MeshUnit}
use Rattle.node_rules.specs.declared.heard.Heard.{Heard}
use Rattle.node_rules.specs.declared.heard.Heard.TheVariants as heard
use Rattle.node_rules.specs.declared.heard.MeterHeard.{MeterHeard}
use Rattle.node_rules.specs.declared.heard.MeterHeard.TheVariants as meter_heard
use Rattle.node_rules.specs.declared.heard.CoordinatorHeard.{CoordinatorHeard}
use Rattle.node_rules.specs.declared.heard.CoordinatorHeard.TheVariants as coordinator_heard
use Rattle.node_rules.specs.Coordinators as coordinators
use Rattle.std.proofs.lemmas.Option.{same_Some}
use Rattle.line_laws.proofs.StoreMarks.{IsPlain}
use Rattle.line_laws.proofs.CoordinatorForms as coordinator
use Rattle.line_laws.proofs.CustodyCalls.{CoordinatorWord, Says, AnyEui, AnyPair}
use Rattle.node_rules.specs.Accepted.{Accepted}
use Rattle.node_rules.specs.Frames.{SealedUnit, Sent, Sealed, Up, Down}
use Rattle.node_rules.specs.Memory.{StationMemory, Memory, Node, Load, address_of}
use Rattle.node_rules.specs.Plans.{Plan, carry_out, resting}
use Rattle.node_rules.specs.Drafts.{Draft, Ends, UnsealedUnit, empty_draft, sealed_units, sealed_by, sealing_key, with_rank, with_own_number, with_next_tag}
use Rattle.node_rules.specs.Drafts.{with_ring}
use Rattle.node_rules.specs.Drafts.{with_routing_by, goes, body_goes, waits, leave}
use Rattle.node_rules.specs.MemoryDrafts.{in_memory, on_station, station_part, with_memory_by, with_pair_tags, goes_up, goes_down}
use Rattle.node_rules.specs.Coordinators.{with_book_entry}
use Rattle.node_rules.specs.HearingRules.{dropped}
use Rattle.node_rules.specs.Meters as meters
use Rattle.node_rules.specs.Laws.{IsWhole, IsCutOff}
use Rattle.node_rules.specs.NodeSteps.{NodeStep, acts, stays, left_by}
use Rattle.node_rules.proofs.FailedWrites.{clean}
use Rattle.line_laws.specs.SealedUnits.{IsSealedUnit}
use Rattle.line_laws.specs.Sends.{SentAs, UnitIsOf, LoadIsOf, OutIsOf, HeldIsOf, UpIsOf}
use Rattle.line_laws.proofs.Planned.{Planned, Refuses, Keeps, Ended}
use Rattle.line_laws.proofs.LetterAccepts.{IsOfLetter}
use Rattle.line_laws.proofs.Made.{Given, IsCome, RingWord, Carry, Install, Made, Starts, Ranks, Numbers, Tags as TagsOn, Rings, Idles, Loses, Goes, Sends}
use Rattle.line_laws.proofs.Made.{Waits, Leaves}
use Rattle.line_laws.proofs.MadeIn.{unheard, MadeIn, Begins, Station, OnStation, Remembers, Tags, Enters, Up as UpIn, Down as DownIn}
use Rattle.line_laws.proofs.HearingForms.{IsNoUp, Handed, HandsUp, HandsOn, Gathers, Completes}
use Rattle.line_laws.proofs.MemoryDraftForms.{HandedIn, ByStation}
use Rattle.line_laws.proofs.MeterForms.{RingCause, ToCoordinator, HandsNothingUp, meter_is}
use Rattle.line_laws.proofs.NodeCalls.{NoGrant, NoPair, NoEui, heard_given, no_some}
use Rattle.line_laws.proofs.StorePlans.{beside_station_of}
use Rattle.line_laws.proofs.RangeFrames.{IsPlainFrame, made_plain}
use Rattle.line_laws.proofs.RangeHeard.{comes_of}
use Rattle.line_laws.proofs.CustodyPlans.{Agrees}
use Rattle.line_laws.proofs.CustodySame.{Known, made_true}
use Rattle.line_laws.proofs.CustodyWhole.{OneSend, handed_of}
pub use Rattle.line_laws.specs.InCustody.{StationIsTrue}

-- a letter is of the send of its note
abbrev pub SentIsOf : (ℕ → SentAs → Type 0) → Sent → Type 0
SentIsOf S (Sealed l) = UnitIsOf S l.note l.unit
SentIsOf S (Up agent from message) = ⊤
SentIsOf S (Down from message) = ⊤

module _ (S : ℕ → SentAs → Type 0) (own : ℕ) where
  -- what is gathered comes and goes with no word but that a ring goes
  made_held : (W : RingWord → Type 0) (g : Given) (s d : Draft StationMemory) → Made W g s d → All (HeldIsOf S own) s.memory.reassemblies
      → All (HeldIsOf S own) d.memory.reassemblies
  unfolding with_rank with_own_number with_next_tag with_ring with_routing_by goes body_goes waits leave
  made_held W g s d Starts h = h
  made_held W g s d (Ranks by origin rank e made o fits) h = made_held W g s e made h
  made_held W g s d (Numbers e made left) h = made_held W g s e made h
  made_held W g s d (TagsOn e made first) h = made_held W g s e made h
  made_held W g s d (Rings x e made change) h = made_held W g s e made h
  made_held W g s d (Idles e made) h = All-nil (HeldIsOf S own)
  made_held W g s d (Loses lost by e made) h = made_held W g s e made h
  made_held W g s d (Goes to unit note e made said alone) h = made_held W g s e made h
  made_held W g s d (Sends a hop to note load e made here there short carried alone) h = made_held W g s e made h
  made_held W g s d (Waits to note load now e made none room short carried alone) h = made_held W g s e made h
  made_held W g s d (Leaves a dest hop rank e made here o) h = made_held W g s e made h

  -- What is being done over all of the memory.
  pub record IsTrueIn (d : Draft Memory) : Type 0 where
    pub station : StationIsTrue S own d.memory.station
    pub units : All (OutIsOf S) d.units
    pub plain : All IsPlainFrame d.plain

  module _ (W : RingWord → Type 0) (g : Given) (known : Known S W g own) where
    unheard_known : Known S W (unheard g) own
    unheard_known = record { comes = λ by u c. absurd (no_some _ c.is); carries = known.carries; installs = known.installs }

    pub made_in_true : (L : Granted → Type 0) (P : Eui → Key → Type 0) (E : Eui → Type 0) (m : Memory) (d : Draft Memory) → MadeIn W L P E g m d
        → StationIsTrue S own m.station → IsTrueIn d
    unfolding empty_draft on_station with_memory_by with_pair_tags with_book_entry goes_up goes_down
    made_in_true L P E m d Begins h = record { station = h; units = All-nil (OutIsOf S); plain = All-nil IsPlainFrame }
    made_in_true L P E m d (Station e made) h =
        let x = made_true S W g own known (empty_draft m.station) (record { address = h.address; bodies = h.bodies; units = All-nil (OutIsOf S) }) e made in
        record {
          station = record { address = x.address; bodies = x.bodies; held = made_held W g (empty_draft m.station) e made h.held };
          units = x.units;
          plain = rw (made_plain W g (empty_draft m.station) e made) (All-nil IsPlainFrame);
        }
    made_in_true L P E m d (OnStation word e made step) h =
        let r = made_in_true L P E m e made h in
        let x = made_true S W (unheard g) own unheard_known (station_part e)
        (record { address = r.station.address; bodies = r.station.bodies; units = r.units }) (word (station_part e)) step in
        record {
          station =
              record { address = x.address; bodies = x.bodies; held = made_held W (unheard g) (station_part e) (word (station_part e)) step r.station.held };
          units = x.units;
          plain = rw (made_plain W (unheard g) (station_part e) (word (station_part e)) step) r.plain;
        }
    made_in_true L P E m d (Remembers change e made beside) h =
        let r = made_in_true L P E m e made h in
        record {
          station = subst (StationIsTrue S own) (sym (beside_station_of E e.memory (change e.memory) beside)) r.station;
          units = r.units;
          plain = r.plain;
        }
    made_in_true L P E m d (Tags made opened e x) h = let r = made_in_true L P E m e x h in record { station = r.station; units = r.units; plain = r.plain }
    made_in_true L P E m d (Enters x e made change) h =
        let r = made_in_true L P E m e made h in record { station = r.station; units = r.units; plain = r.plain }
    made_in_true L P E m d (UpIn agent from message e made) h = let r = made_in_true L P E m e made h in
        record { station = r.station; units = r.units; plain = All-push IsPlainFrame e.plain (Up agent from message) r.plain tt }
    made_in_true L P E m d (DownIn from message e made) h = let r = made_in_true L P E m e made h in
        record { station = r.station; units = r.units; plain = All-push IsPlainFrame e.plain (Down from message) r.plain tt }

  -- # Letters

  sealed_units_of : (g : Granted) (key : Key) (first : ℕ) (us : List UnsealedUnit) → All (OutIsOf S) us → All (SentIsOf S) (sealed_units g key first us)
  sealed_units_of g key first [] all = All-nil (SentIsOf S)
  sealed_units_of g key first (o ∷ us) all =
      let one : Sent = Sealed (record { to = o.to; from = g.address; counter = first; index = g.active; key = key; unit = o.unit; note = o.note }) in
      All-cons (SentIsOf S) one (sealed_units g key (first + 1) us) (All-head (OutIsOf S) o us all).unit
      (sealed_units_of g key (first + 1) us (All-tail (OutIsOf S) o us all))

  sealed_of : (r : ring.Ring) (first : ℕ) (us : List UnsealedUnit) → All (OutIsOf S) us → All (SentIsOf S) (sealed_by r first us)
  sealed_of None first us all = All-nil (SentIsOf S)
  sealed_of (Some g) first us all = by_key (sealing_key g)
    where
      by_key : (key : Option Key) → All (SentIsOf S) (option_map_or (λ k. sealed_units g k first us) key [])
      by_key None = All-nil (SentIsOf S)
      by_key (Some key) = sealed_units_of g key first us all

  plain_of : (fs : List Sent) → All IsPlainFrame fs → All (SentIsOf S) fs
  plain_of [] all = All-nil (SentIsOf S)
  plain_of (Sealed l ∷ fs) all = absurd (All-head IsPlainFrame (Sealed l) fs all)
  plain_of (Up agent from message ∷ fs) all =
      All-cons (SentIsOf S) (Up agent from message) fs tt (plain_of fs (All-tail IsPlainFrame (Up agent from message) fs all))
  plain_of (Down from message ∷ fs) all = All-cons (SentIsOf S) (Down from message) fs tt (plain_of fs (All-tail IsPlainFrame (Down from message) fs all))

  -- # Plans

  abbrev pub AnswerIsOf : {H E : Type 0} → (H → Type 0) → Result H E → Type 0
  AnswerIsOf U (Ok h) = U h
  AnswerIsOf U (Err e) = ⊤

  -- What a plan leaves, sends and hands up is of its send.
  pub record PlanIsTrue {H E : Type 0} (U : H → Type 0) (p : Plan Memory (Result H E)) : Type 0 where
    pub station : StationIsTrue S own p.memory.station
    pub frames : All (SentIsOf S) p.frames
    pub up : AnswerIsOf U p.answer
    pub fails : AnswerIsOf U p.failed

  pub plan_true : {H F : Type 0} (W : RingWord → Type 0) (g : Given) (known : Known S W g own) (L : Granted → Type 0) (P : Eui → Key → Type 0)
      (E : Eui → Type 0) (m : Memory) (first : StationIsTrue S own m.station) (ends : Ends F) (U : H → Type 0)
      (K : Memory → H → Type 0) (D : Draft Memory → H → Type 0) → ((k : Memory) (answer : H) → K k answer → StationIsTrue S own k.station × U answer)
      → ((d : Draft Memory) (answer : H) → D d answer → MadeIn W L P E g m d × U answer)
      → (p : Plan Memory (Result H F)) → Planned in_memory ends m K D p → PlanIsTrue U p
  unfolding resting
  plan_true W g known L P E m first ends U K D holds made p (Refuses reason) = record { station = first; frames = All-nil (SentIsOf S); up = tt; fails = tt }
  plan_true W g known L P E m first ends U K D holds made p (Keeps k answer x) =
      let h = holds k answer x in record { station = h.0; frames = All-nil (SentIsOf S); up = h.1; fails = tt }
  plan_true W g known L P E m first ends U K D holds made p (Ended d answer done left) =
      let x = made d answer done in
      let r = made_in_true W g known L P E m d x.0 first in
      record {
        station = record { address = r.station.address; bodies = r.station.bodies; held = r.station.held };
        frames = All-append (SentIsOf S) d.plain _ (plain_of d.plain r.plain) (sealed_of d.memory.station.ring d.memory.station.counter.next d.units r.units);
        up = x.1;
        fails = tt;
      }

-- what a station keeps changes neither what waits nor the address
pub handed_station : (g : Given) (l k : StationMemory) (h : Heard) → Handed g l k h → (k.waiting ≡ l.waiting) × (address_of k ≡ address_of l)
handed_station g l k h (HandsUp by own mesh octets came here mine) = (refl, refl)
handed_station g l k h (HandsOn answer none) = (refl, refl)
handed_station g l k h (Gathers by own mesh piece came here mine e) = (refl, refl)
handed_station g l k h (Completes by own mesh piece note octets came here mine e) = (refl, refl)

pub no_station : (S : ℕ → SentAs → Type 0) (own : ℕ) (h : Heard) → IsNoUp h → UpIsOf S own h
no_station S own (heard.Up from note octets) none = absurd none
no_station S own _ none = tt

-- # What a meter hears of a letter

-- what a meter hands up
abbrev pub MeterUpIsOf : (ℕ → SentAs → Type 0) → ℕ → MeterHeard → Type 0
MeterUpIsOf S own (meter_heard.Station h) = UpIsOf S own h
MeterUpIsOf S own _ = ⊤

-- what the coordinator hands up
abbrev pub CoordinatorUpIsOf : (ℕ → SentAs → Type 0) → ℕ → CoordinatorHeard → Type 0
CoordinatorUpIsOf S own (coordinator_heard.Station h) = UpIsOf S own h
CoordinatorUpIsOf S own _ = ⊤

-- a grant that is taken keeps the address
pub record KeepsAddress (own : ℕ) (g : Given) (x : meters.Identity) (m : Memory) : Type 0 where
  pub taken : (granted : Granted) → RingCause g x m (Install granted) → granted.address ≡ own

-- What is heard of a frame is of the sends: of a letter by what its flight is of, of a plain frame since it brings no unit.
pub record HearsTrue (S : ℕ → SentAs → Type 0) (g : Given) : Type 0 where
  pub comes : (by : ℕ) (u : MeshUnit) → IsCome g by false u → UnitIsOf S g.note u

pub sealed_unit_true : (S : ℕ → SentAs → Type 0) (l : SealedUnit) (fits : IsSealedUnit l) → (UnitIsOf S l.note l.unit)
    → (from counter : ℕ) (got : Accepted) (is : IsOfLetter l from counter got) (cost now : ℕ) → HearsTrue S (heard_given got cost l.note now)
sealed_unit_true S l fits is_of from counter got is cost now =
    record { comes = λ by u c. subst (UnitIsOf S l.note) (sym (comes_of l fits from counter got is cost l.note now by false u c).1) is_of }

pub plain_true : (S : ℕ → SentAs → Type 0) (got : Accepted) (cost note now : ℕ) → IsPlain got.path → HearsTrue S (heard_given got cost note now)
plain_true S got cost note now plain =
    record { comes = λ by u c. absurd (subst IsPlain (ap (λ (x : Accepted). x.path) (same_Some got c.got c.is) ∙ c.path) plain) }

module _ (S : ℕ → SentAs → Type 0) (one : OneSend S) (own : ℕ) (got : Accepted) (cost note now : ℕ) (hears : HearsTrue S (heard_given got cost note now)) where
  abbrev came : Given
  came = heard_given got cost note now

  meter_known : (x : meters.Identity) (m : Memory) → KeepsAddress own came x m → Known S (RingCause came x m) came own
  meter_known x m stays_at = record { comes = hears.comes; carries = by_cause; installs = stays_at.taken }
    where
      by_cause : (to k : ℕ) (load : Load) → RingCause came x m (Carry to k load) → LoadIsOf S own to k load
      by_cause to k load (ToCoordinator join said) = tt

  coordinator_known : Known S CoordinatorWord came own
  coordinator_known = record { comes = hears.comes; carries = by_cause; installs = no_install }
    where
      by_cause : (to k : ℕ) (load : Load) → CoordinatorWord (Carry to k load) → LoadIsOf S own to k load
      by_cause to k load (Says t join) = tt

      no_install : (granted : Granted) → CoordinatorWord (Install granted) → granted.address ≡ own
      no_install granted c = elim c [ ]

  station_true : (m : Memory) → StationIsTrue S own m.station → Agrees came m.station → {H : Type 0} (word : Heard → H) (U : H → Type 0)
      → ((h : Heard) → UpIsOf S own h → U (word h)) → (k : Memory) (answer : H) → HandedIn word came m k answer → StationIsTrue S own k.station × U answer
  station_true m first agrees word U says k answer (ByStation j h x) =
      let t = handed_of S one own came m.station j h hears.comes first.address agrees first.held x in
      let same = handed_station came m.station j h x in
      (record { address = λ a e. first.address a (sym same.1 ∙ e); bodies = rw same.0 first.bodies; held = t.held }, says h t.up)

  pub meter_hears_true : (x : meters.Identity) (m : Memory) → KeepsAddress own came x m → StationIsTrue S own m.station → Agrees came m.station
      → PlanIsTrue S own (MeterUpIsOf S own) (meters.hear_meter x m got cost note now)
  meter_hears_true x m stays_at first agrees =
      plan_true S own (RingCause came x m) came (meter_known x m stays_at) NoGrant NoPair NoEui m first dropped (MeterUpIsOf S own)
      (HandedIn meter_heard.Station came m) _
      (station_true m first agrees meter_heard.Station (MeterUpIsOf S own) (λ h u. u)) (λ d answer h. (h.0, no_up answer h.2)) _
      (meter_is NoGrant NoPair NoEui came x m got refl)
    where
      no_up : (a : MeterHeard) → HandsNothingUp a → MeterUpIsOf S own a
      no_up (meter_heard.Station h) none = no_station S own h none
      no_up _ none = tt

  pub coordinator_hears_true : (x : coordinators.CoordinatorIdentity) (m : Memory) → StationIsTrue S own m.station → Agrees came m.station
      → PlanIsTrue S own (CoordinatorUpIsOf S own) (coordinators.hear_coordinator x m got cost note now)
  coordinator_hears_true x m first agrees =
      plan_true S own CoordinatorWord came coordinator_known (λ granted. coordinator.IsGranted m granted) AnyPair AnyEui m first dropped
      (CoordinatorUpIsOf S own) (HandedIn coordinator_heard.Station came m) _
      (station_true m first agrees coordinator_heard.Station (CoordinatorUpIsOf S own) (λ h u. u)) (λ d answer h. (h.0, no_up answer h.2)) _
      (coordinator.coordinator_is CoordinatorWord AnyPair AnyEui came x m (λ to there join said. Says to join) got refl (λ u join e read. tt))
    where
      no_up : (a : CoordinatorHeard) → coordinator.HandsNothingUp a → CoordinatorUpIsOf S own a
      no_up (coordinator_heard.Station h) none = no_station S own h none
      no_up _ none = tt

-- # Nodes

-- What a node of this address left, sent and answered is of the sends.
pub record DidTrue {H E : Type 0} (S : ℕ → SentAs → Type 0) (own : ℕ) (U : H → Type 0) (d : NodeStep (Result H E)) : Type 0 where
  pub station : IfSome d.node.memory (λ (m : Memory). StationIsTrue S own m.station)
  pub frames : All (SentIsOf S) d.frames
  pub up : AnswerIsOf S own U d.answer

pub acts_true : {H E : Type 0} (S : ℕ → SentAs → Type 0) (own : ℕ) (U : H → Type 0) (x : Node) (reason : E) (plan : Memory → Plan Memory (Result H E))
    → IfSome x.memory (λ (m : Memory). StationIsTrue S own m.station)
    → ((m : Memory) → x.memory ≡ Some m → StationIsTrue S own m.station → PlanIsTrue S own U (plan m)) → DidTrue S own U (acts x (Err reason) plan)
unfolding acts
acts_true {H = H} {E = E} S own U x reason plan ok f = by_memory x.memory refl ok
  where
    carried : (m : Memory) → PlanIsTrue S own U (plan m) → DidTrue S own U (left_by x (carry_out x.store.records x.store.cut (plan m)))
    carried m k = ⊎_elim
        (λ (w : IsWhole x.store.records x.store.cut (plan m) (carry_out x.store.records x.store.cut (plan m))).
        record { station = rw w.memory k.station; frames = rw w.frames k.frames; up = rw w.answer k.up })
        (λ (c : IsCutOff x.store.records x.store.cut (plan m) (carry_out x.store.records x.store.cut (plan m))).
        record { station = rw c.memory tt; frames = rw c.frames (All-nil (SentIsOf S)); up = rw c.answer k.fails })
        (clean x.store.records x.store.cut (plan m))

    by_memory : (o : Option Memory) → x.memory ≡ o → IfSome o (λ (m : Memory). StationIsTrue S own m.station)
        → DidTrue S own U (option_map_or (λ m. left_by x (carry_out x.store.records x.store.cut (plan m))) o (stays x (Err reason)))
    by_memory None e h = record { station = ok; frames = All-nil (SentIsOf S); up = tt }
    by_memory (Some m) e h = carried m (f m e h)
