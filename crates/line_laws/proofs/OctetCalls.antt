-- What each call of a node leaves and sends is octets.
use Rattle.std.proofs.Common.{◌≡◌, ⊎_elim, ℕ, ◌≤◌, Bool, true, false, List, [], ◌∷◌, ◌++◌, length, Option, Some, None, Result, refl, sym, subst}
use Rattle.std.specs.Prelude.{if◌then◌else◌, nat_le, All, IfSome}
use Rattle.std.specs.Option.{option_map_or}
use Rattle.std.proofs.lemmas.List.Elements.{All-nil, All-push, All-filter, All-weaker}
use Rattle.plc_base.specs.Fields.{AreOctets}
use Rattle.plc_base.specs.Grant.{Granted}
use Rattle.plc_base.specs.declared.address.Eui.{Eui}
use Rattle.plc_base.specs.declared.key.RandomOctets.{RandomOctets}
use Rattle.node_rules.specs.declared.refusal.SendRefusal.TheVariants.{NotJoined}
use Rattle.node_rules.specs.Acceptance.{Accepting, accept, marking}
use Rattle.node_rules.specs.Calls as calls
use Rattle.node_rules.specs.Coordinators as coordinators
use Rattle.node_rules.specs.Drafts.{Ends, alone, empty_draft, with_next_tag, with_ring, refused}
use Rattle.node_rules.specs.Frames.{Arrived}
use Rattle.node_rules.specs.Laws.{IsWhole, IsCutOff}
use Rattle.node_rules.specs.Memory.{StationMemory, Memory, Role, Coordinator, Meter, MeterSession, CoordinatorSession, Node, Body, Datagram, address_of}
use Rattle.node_rules.specs.MemoryDrafts.{with_station, with_memory_by, give_random, given_ends}
use Rattle.node_rules.specs.Meters as meters
use Rattle.node_rules.specs.NodeSteps.{NodeStep, acts, stays, left_by, answering, of_station}
use Rattle.node_rules.specs.Plans.{Plan, Outcome, carry_out, resting}
use Rattle.node_rules.specs.RestartStates.{blank_station, remembering}
use Rattle.node_rules.proofs.MemoryDraftShapes.{whole}
use Rattle.node_rules.proofs.FailedWrites.{clean}
use Rattle.line_rules.specs.Steps.{ticked, restarts, memory_by}
use Rattle.line_laws.specs.Stores.{IsReadable, IsReadableEntry, BookKept}
use Rattle.line_laws.proofs.CallForms.{Few, Nothing, SendPasses, send_passes, near_is}
use Rattle.line_laws.proofs.CoordinatorOctets.{EntrySpeaks}
use Rattle.line_laws.proofs.Made.{Made}
use Rattle.line_laws.proofs.NodeCalls.{NoWord, near_given, no_some}
use Rattle.line_laws.proofs.Nodes.{NodeOk, node_kept}
use Rattle.line_laws.proofs.OctetDrafts.{BodySpeaks, RandSpeaks, SessionSpeaks, ServerSpeaks, MemorySpeaks, SentOctets, DraftSpeaks, DraftSpeaksIn, PlanSpeaks}
use Rattle.line_laws.proofs.OctetDrafts.{OutSpeaks, PlainSpeaks, made_speaks, sealing_speaks, rests_speaks, choose_speaks, refuses, begun_speaks}
use Rattle.line_laws.proofs.OctetDrafts.{remembers_speaks, sets_out_speaks}
use Rattle.line_laws.proofs.Planned.{Planned, Refuses, Keeps, Ended, checked_planned, sealed_planned, option_planned}
use Rattle.line_laws.proofs.Quiet.{install_quiet}
use Rattle.line_laws.proofs.Restarts.{IsBlank}
use Rattle.line_laws.proofs.NodesOk.{read_again}
use Rattle.line_laws.proofs.StoreMarks.{Accepts, Turned, Plain, Marked, accept_is}
use Rattle.fragment_buffers.specs.declared.times.TheConstants.{WAITING_TIME}
use Rattle.node_rules.specs.declared.session_time.TheConstants.{SESSION_TIME}

-- # A plan that is carried out

-- a node that is not halted
abbrev pub NodeSpeaks : Node → Type 0
NodeSpeaks x = IfSome x.memory MemorySpeaks

-- What a node left and sent is octets.
pub record DidSpeak {A : Type 0} (d : NodeStep A) : Type 0 where
  pub node : NodeSpeaks d.node
  pub frames : All SentOctets d.frames

outcome_speaks : {A : Type 0} (x : Node) (p : Plan Memory A) → PlanSpeaks p → let o : Outcome Memory A = carry_out x.store.records x.store.cut p in
    IfSome o.memory MemorySpeaks × All SentOctets o.frames
outcome_speaks {A = A} x p s = ⊎_elim full cut_off (clean x.store.records x.store.cut p)
  where
    Goal : Type 0
    Goal = let o : Outcome Memory A = carry_out x.store.records x.store.cut p in IfSome o.memory MemorySpeaks × All SentOctets o.frames

    full : IsWhole x.store.records x.store.cut p (carry_out x.store.records x.store.cut p) → Goal
    full w = rw (w.memory, w.frames) (s.memory, s.frames)

    cut_off : IsCutOff x.store.records x.store.cut p (carry_out x.store.records x.store.cut p) → Goal
    cut_off c = rw (c.memory, c.frames) (tt, All-nil SentOctets)

pub acts_speaks : {A : Type 0} (x : Node) (halted : A) (plan : Memory → Plan Memory A) → NodeSpeaks x
    → ((m : Memory) → x.memory ≡ Some m → MemorySpeaks m → PlanSpeaks (plan m)) → DidSpeak (acts x halted plan)
unfolding acts
acts_speaks {A = A} x halted plan s f = by_memory x.memory refl s
  where
    by_memory : (o : Option Memory) → x.memory ≡ o → IfSome o MemorySpeaks
        → DidSpeak (option_map_or (λ m. left_by x (carry_out x.store.records x.store.cut (plan m))) o (stays x halted))
    by_memory None e h = record { node = s; frames = All-nil SentOctets }
    by_memory (Some m) e h = let o = outcome_speaks x (plan m) (f m e h) in record { node = o.0; frames = o.1 }

pub answering_speaks : {A B : Type 0} (reads : A → B) (d : NodeStep A) → DidSpeak d → DidSpeak (answering reads d)
answering_speaks reads d s = record { node = s.node; frames = s.frames }

-- the coordinator's book is of octets
pub booked : (x : Node) (m : Memory) → NodeOk x → x.role ≡ Coordinator → x.memory ≡ Some m → All EntrySpeaks m.book
booked x m ok is there = All-weaker IsReadableEntry EntrySpeaks (λ e k. (k.eui, k.psk.1)) m.book
    (subst (λ (role : Role). BookKept role m.book x.store.records) is (node_kept x m ok there).book).each

-- and has room for no more than 999 meters
pub booked_short : (x : Node) (m : Memory) → NodeOk x → x.role ≡ Coordinator → x.memory ≡ Some m → length m.book ≤ 999
booked_short x m ok is there = (subst (λ (role : Role). BookKept role m.book x.store.records) is (node_kept x m ok there).book).table.short

-- # Memories

pub blank_speaks : (m : Memory) → IsBlank m → MemorySpeaks m
blank_speaks m b = record {
  waiting = subst (All BodySpeaks) (sym b.waiting) (All-nil BodySpeaks);
  randoms = subst (All RandSpeaks) (sym b.randoms) (All-nil RandSpeaks);
  session = subst (λ o. IfSome o SessionSpeaks) (sym b.session) tt;
  sessions = subst (All ServerSpeaks) (sym b.sessions) (All-nil ServerSpeaks);
}

pub new_speaks : MemorySpeaks (remembering blank_station [])
new_speaks = record { waiting = All-nil BodySpeaks; randoms = All-nil RandSpeaks; session = tt; sessions = All-nil ServerSpeaks }

pub restarts_speaks : (x : Node) → NodeOk x → DidSpeak (restarts x)
restarts_speaks x ok =
    let a = read_again x.role x.store.records x.memory ok.kept in
    record { node = subst (λ o. IfSome (memory_by o) MemorySpeaks) (sym a.is) (blank_speaks a.memory a.blank); frames = All-nil SentOctets }

-- time
waited : (now : ℕ) (m : Memory) → MemorySpeaks m → All BodySpeaks (calls.tick now m.station).waiting
waited now m h = All-filter (λ (b : Body). calls.is_within WAITING_TIME now b.since) BodySpeaks m.station.waiting h.waiting

session_ticked : (now : ℕ) (o : Option MeterSession) → IfSome o SessionSpeaks → IfSome (option_map_or (meters.session_within now) o None) SessionSpeaks
session_ticked now None h = tt
session_ticked now (Some s) h = by_time (calls.is_within SESSION_TIME now s.since)
  where
    by_time : (b : Bool) → IfSome (if b then Some s else None) SessionSpeaks
    by_time true = h
    by_time false = tt

pub ticked_speaks : (now : ℕ) (x : Node) → NodeSpeaks x → NodeSpeaks (ticked now x)
ticked_speaks now x h = by_role x.role x.memory h
  where
    by_role : (role : Role) (o : Option Memory) → IfSome o MemorySpeaks
        → NodeSpeaks (ticked now (record { role = role; eui = x.eui; store = x.store; memory = o }))
    by_role Coordinator None h = tt
    by_role (Meter psk) None h = tt
    by_role Coordinator (Some m) h = record {
      waiting = waited now m h;
      randoms = h.randoms;
      session = h.session;
      sessions = All-filter (λ (s : CoordinatorSession). calls.is_within SESSION_TIME now s.since) ServerSpeaks m.sessions h.sessions;
    }
    by_role (Meter psk) (Some m) h =
        record { waiting = waited now m h; randoms = h.randoms; session = session_ticked now m.session h.session; sessions = h.sessions }

-- # Calls of the line

module _ (m : Memory) (h : MemorySpeaks m) where
  -- another line with the same bodies
  pub same_line : (l : StationMemory) → All BodySpeaks l.waiting → MemorySpeaks (with_station l m)
  same_line l all = record { waiting = all; randoms = h.randoms; session = h.session; sessions = h.sessions }

  station_speaks : {H F : Type 0} (ends : Ends F) (K : StationMemory → H → Type 0) (p : Plan StationMemory (Result H F))
      → ((n : StationMemory) (answer : H) → K n answer → ⊥) → Planned alone ends m.station K (λ d answer. DraftSpeaks d) p → PlanSpeaks (of_station m p)
  unfolding resting
  station_speaks ends K p never (Refuses reason) = record { memory = same_line m.station h.waiting; frames = All-nil SentOctets }
  station_speaks ends K p never (Keeps n answer k) = absurd (never n answer k)
  station_speaks ends K p never (Ended d answer done left) =
      sealing_speaks ends (whole m d) answer (record { ring = done.ring; memory = same_line d.memory done.waiting; units = done.units; plain = done.plain })

  pub broke_speaks : {A : Type 0} (next : ℕ) (answer : A) → PlanSpeaks (resting (with_station (calls.broke next m.station) m) answer answer)
  broke_speaks next answer = rests_speaks (with_station (calls.broke next m.station) m) answer answer (same_line (calls.broke next m.station) h.waiting)

  pub counter_speaks : (value : ℕ) → PlanSpeaks (of_station m (calls.preset_counter m.station value))
  unfolding resting
  counter_speaks value = record { memory = same_line _ h.waiting; frames = All-nil SentOctets }

  pub number_speaks : (value : ℕ) → PlanSpeaks (of_station m (calls.preset_number m.station value))
  unfolding resting
  number_speaks value = record { memory = same_line _ h.waiting; frames = All-nil SentOctets }

  pub accept_speaks : (own : Eui) (a : Option Arrived) → PlanSpeaks (of_station m (accept m.station own a))
  unfolding resting marking
  accept_speaks own a = by_form _ (accept_is m.station own a)
    where
      by_form : (p : Accepting) → Accepts m.station a p → PlanSpeaks (of_station m p)
      by_form p (Turned reason) = record { memory = same_line m.station h.waiting; frames = All-nil SentOctets }
      by_form p (Plain got plain) = record { memory = same_line m.station h.waiting; frames = All-nil SentOctets }
      by_form p (Marked from counter got x) = record { memory = same_line _ h.waiting; frames = All-nil SentOctets }

  -- nothing is sent when a grant is installed
  installed_line : (granted : Granted) → All BodySpeaks (calls.install m.station granted).memory.waiting
  unfolding empty_draft with_ring
  installed_line granted = h.waiting

  pub install_speaks : (granted : Granted) → PlanSpeaks (meters.provision m granted)
  install_speaks granted = record {
    memory = same_line (calls.install m.station granted).memory (installed_line granted);
    frames = subst (All SentOctets) (sym (install_quiet m.station granted)) (All-nil SentOctets);
  }

  pub begin_speaks : (granted : Granted) → PlanSpeaks (coordinators.begin m granted)
  begin_speaks granted = choose_speaks (λ some. rests_speaks m _ _ h) (λ none. install_speaks granted)

  module _ (reads : IfSome m.station.ring IsReadable) where
    begun_line : DraftSpeaks (empty_draft m.station)
    unfolding empty_draft
    begun_line = record { ring = reads; waiting = h.waiting; units = All-nil OutSpeaks; plain = All-nil PlainSpeaks }

    tagged_line : (octets : List ℕ) → DraftSpeaks (calls.tag_taken octets (empty_draft m.station))
    unfolding empty_draft with_next_tag
    tagged_line octets = by_size (nat_le (length octets) 375)
      where
        by_size : (b : Bool) → DraftSpeaks (if b then empty_draft m.station else with_next_tag (empty_draft m.station))
        by_size true = begun_line
        by_size false = record { ring = reads; waiting = h.waiting; units = All-nil OutSpeaks; plain = All-nil PlainSpeaks }

    pub send_speaks : (to : ℕ) (datagram : List ℕ) (note now : ℕ) → AreOctets datagram → PlanSpeaks (of_station m (calls.send m.station to datagram note now))
    send_speaks to datagram note now are = station_speaks calls.sending_ends Nothing (calls.send m.station to datagram note now) (λ n answer k. k)
        (option_planned (λ own. calls.send_from m.station own to datagram note now) (address_of m.station) (refused calls.sending_ends m.station NotJoined)
        (λ own here. checked_planned (λ e.
        let passes : SendPasses m.station to datagram = send_passes m.station to datagram e in
        sealed_planned _ _ (sets_out_speaks own to note (Datagram datagram m.station.next_tag) now (calls.tag_taken datagram (empty_draft m.station))
        (are, passes.short, tt) (tagged_line datagram))))
        (λ none. Refuses _))

    pub near_speaks : (to cost now : ℕ) → PlanSpeaks (of_station m (calls.preset_near m.station to cost now))
    near_speaks to cost now = station_speaks calls.presetting_ends Nothing (calls.preset_near m.station to cost now) (λ n answer k. k)
        (over (calls.preset_near m.station to cost now) (near_is NoWord (near_given to cost now) m.station to refl))
      where
        over : {H F : Type 0} {ends : Ends F} (p : Plan StationMemory (Result H F))
            → Planned alone ends m.station Nothing (λ d (a : H). Made NoWord (near_given to cost now) (empty_draft m.station) d × Few m.station d) p
            → Planned alone ends m.station Nothing (λ d (a : H). DraftSpeaks d) p
        over p (Refuses reason) = Refuses reason
        over p (Keeps n answer k) = absurd k
        over p (Ended d answer done left) =
            Ended d answer (made_speaks (near_given to cost now) (λ by all u c. absurd (no_some _ c.is)) (empty_draft m.station) d done.0 begun_line) left

    more_randoms : (value : RandomOctets) → RandSpeaks value
        → DraftSpeaksIn (with_memory_by (λ n. record n { randoms = n.randoms ++ value ∷ [] }) (empty_draft m))
    unfolding empty_draft
    more_randoms value is = remembers_speaks (λ n. record n { randoms = n.randoms ++ value ∷ [] }) (empty_draft m) (begun_speaks m h reads) reads
        (record { waiting = h.waiting; randoms = All-push RandSpeaks m.randoms value h.randoms is; session = h.session; sessions = h.sessions })

    pub random_speaks : (value : RandomOctets) → RandSpeaks value → PlanSpeaks (give_random m value)
    random_speaks value is = choose_speaks (λ full. refuses m h _ _)
        (λ room. sealing_speaks given_ends (with_memory_by (λ n. record n { randoms = n.randoms ++ value ∷ [] }) (empty_draft m)) tt (more_randoms value is))
