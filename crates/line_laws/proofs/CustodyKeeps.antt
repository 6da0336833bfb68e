-- A call of a node to which no frame came keeps ranges, sends and places together, also where a write fails.
use Rattle.std.proofs.Common.{zero-le, ◌≡◌, ℕ, ◌+◌, ◌≤◌, ◌<◌, ◌^◌, List, ⊎_elim, Option, Some, None, Result, Ok, Err, refl, sym, ap, ◌∙◌, subst, arith}
use Rattle.std.specs.Prelude.{All, IfSome, ⊤, nat_lt}
use Rattle.std.specs.List.{sum_by}
use Rattle.std.specs.Option.{option_map_or}
use Rattle.std.proofs.lemmas.List.Elements.{All-nil, All-filter}
use Rattle.plc_base.specs.Grant.{Granted}
use Rattle.plc_base.specs.declared.address.Eui.{Eui}
use Rattle.plc_base.specs.declared.key.Key.{Key}
use Rattle.plc_base.specs.declared.key.RandomOctets.{RandomOctets}
use Rattle.fragment_buffers.specs.Reassembly.{Reassembly}
use Rattle.fragment_buffers.specs.PieceIntake as pieces
use Rattle.joining_messages.specs.declared.message.JoinMessage.{JoinMessage}
use Rattle.node_rules.specs.declared.heard.SentHow.{SentHow}
use Rattle.node_rules.specs.declared.refusal.SendRefusal.{SendRefusal}
use Rattle.node_rules.specs.declared.refusal.SendRefusal.TheVariants as sends
use Rattle.node_rules.specs.JoiningPackets.{command_of}
use Rattle.node_rules.specs.Memory.{StationMemory, Memory, Node, Body, Load, Datagram, Command}
use Rattle.node_rules.specs.Plans.{Plan, carry_out, resting}
use Rattle.node_rules.specs.Calls as calls
use Rattle.node_rules.specs.Coordinators as coordinators
use Rattle.node_rules.specs.Meters as meters
use Rattle.node_rules.specs.Drafts.{Draft, Ends, alone, empty_draft}
use Rattle.node_rules.specs.MemoryDrafts.{in_memory, with_station, give_random, given_ends}
use Rattle.node_rules.specs.Laws.{IsWhole, IsCutOff}
use Rattle.node_rules.specs.NodeSteps.{NodeStep, acts, stays, left_by, of_station}
use Rattle.node_rules.proofs.MemoryDraftShapes.{whole}
use Rattle.node_rules.proofs.FailedWrites.{clean}
use Rattle.line_laws.specs.Custody.{weigh, load_is, sent_is, keeps}
use Rattle.line_laws.specs.Places.{node_keeps}
use Rattle.line_laws.specs.Ranges.{HasRoomInFrames, IsStationRanged}
use Rattle.line_laws.specs.Sends.{SentAs, LoadIsOf, BodyIsOf, HeldIsOf}
use Rattle.line_laws.specs.Stores.{IsHeld, IsReadable}
use Rattle.line_laws.proofs.Planned.{Planned, Refuses, Keeps, Ended}
use Rattle.line_laws.proofs.Made.{RingWord, Carry, Drop, Install, Draw, Activate, Given, Made}
use Rattle.line_laws.proofs.MadeIn.{MadeIn, Station}
use Rattle.line_laws.proofs.MemoryDraftForms.{AnyAnswer, MadeBy}
use Rattle.line_laws.proofs.MeterForms.{RingCause, ToCoordinator, ByPacket, ByOrder, joins_is, leaves_is}
use Rattle.line_laws.proofs.CoordinatorForms as coordinator
use Rattle.line_laws.proofs.CoordinatorForms.{IsReached, IsSaidDown}
use Rattle.line_laws.proofs.CallForms.{Few, Nothing, send_is, install_is, near_is, random_is}
use Rattle.line_laws.proofs.NodeCalls.{NoGrant, NoPair, NoEui, NoWord, call_given, near_given, no_some}
use Rattle.joining_messages.proofs.JoinRanges.{read_fits}
use Rattle.line_laws.proofs.StoreFold.{WordFits}
use Rattle.line_laws.proofs.RangeFold.{InRange}
use Rattle.line_laws.proofs.RangeFrames.{IsSent}
use Rattle.line_laws.proofs.RangePlans.{plan_ranged}
use Rattle.line_laws.proofs.RangeCalls.{call_ranged, broke_ranged}
use Rattle.line_laws.proofs.RangeHeard.{SaysShort, meter_carries}
use Rattle.line_laws.proofs.RangeCoordinator.{HasEight, SpeaksWell}
use Rattle.line_laws.proofs.RangeArrives.{NodeRanged}
use Rattle.line_laws.proofs.CustodyArrives.{NodeTrue}
use Rattle.line_laws.proofs.CustodyCalls.{SaysNoDatagram, meter_says, zero_weight}
use Rattle.line_laws.proofs.CustodyPlans.{BringsIn, plan_kept}
use Rattle.line_laws.proofs.CustodySame.{Known}
use Rattle.line_laws.proofs.CustodyTrue.{SentIsOf, StationIsTrue, PlanIsTrue, plan_true}
use Rattle.fragment_buffers.specs.declared.times.TheConstants.{REASSEMBLY_TIME, WAITING_TIME}

-- # What is kept

-- What a plan keeps: ranges and sends, and no octet of a datagram becomes more.
pub record PlanClean (S : ℕ → SentAs → Type 0) (own : ℕ) (m : Memory) {A : Type 0} (p : Plan Memory A) : Type 0 where
  pub ranged : IsStationRanged p.memory.station
  pub fits : All IsSent p.frames
  pub station : StationIsTrue S own p.memory.station
  pub frames : All (SentIsOf S) p.frames
  pub kept : (n i : ℕ) → 0 < n → keeps n i p.memory.station + sum_by (sent_is n i) p.frames ≤ keeps n i m.station

-- What a node keeps.
pub record DidClean (S : ℕ → SentAs → Type 0) (own : ℕ) (x : Node) {A : Type 0} (d : NodeStep A) : Type 0 where
  pub ranged : NodeRanged d.node
  pub fits : All IsSent d.frames
  pub station : NodeTrue S own d.node
  pub frames : All (SentIsOf S) d.frames
  pub kept : (n i : ℕ) → 0 < n → node_keeps n i d.node.memory + sum_by (sent_is n i) d.frames ≤ node_keeps n i x.memory

pub acts_clean : {A : Type 0} (S : ℕ → SentAs → Type 0) (own : ℕ) (x : Node) (halted : A) (plan : Memory → Plan Memory A) → NodeRanged x → NodeTrue S own x
    → ((m : Memory) → x.memory ≡ Some m → IsStationRanged m.station → StationIsTrue S own m.station → PlanClean S own m (plan m))
    → DidClean S own x (acts x halted plan)
unfolding acts
acts_clean {A = A} S own x halted plan ranged station f = by_memory x.memory refl ranged station
  where
    carried : (m : Memory) → x.memory ≡ Some m → PlanClean S own m (plan m) → DidClean S own x (left_by x (carry_out x.store.records x.store.cut (plan m)))
    carried m e k = ⊎_elim finished cut_off (clean x.store.records x.store.cut (plan m))
      where
        before : (n i : ℕ) → node_keeps n i x.memory ≡ keeps n i m.station
        before n i = ap (node_keeps n i) e

        finished : IsWhole x.store.records x.store.cut (plan m) (carry_out x.store.records x.store.cut (plan m))
            → DidClean S own x (left_by x (carry_out x.store.records x.store.cut (plan m)))
        finished w = record {
          ranged = rw w.memory k.ranged;
          fits = rw w.frames k.fits;
          station = rw w.memory k.station;
          frames = rw w.frames k.frames;
          kept = λ n i some. let b = before n i in let h = k.kept n i some in rw (w.memory, w.frames) (omega arith);
        }

        cut_off : IsCutOff x.store.records x.store.cut (plan m) (carry_out x.store.records x.store.cut (plan m))
            → DidClean S own x (left_by x (carry_out x.store.records x.store.cut (plan m)))
        cut_off c = record {
          ranged = rw c.memory tt;
          fits = rw c.frames (All-nil IsSent);
          station = rw c.memory tt;
          frames = rw c.frames (All-nil (SentIsOf S));
          kept = λ n i some. rw (c.memory, c.frames) zero-le;
        }

    by_memory : (o : Option Memory) → x.memory ≡ o → IfSome o (λ (m : Memory). IsStationRanged m.station)
        → IfSome o (λ (m : Memory). StationIsTrue S own m.station)
        → DidClean S own x (option_map_or (λ m. left_by x (carry_out x.store.records x.store.cut (plan m))) o (stays x halted))
    by_memory None e r t = record { ranged = ranged; fits = All-nil IsSent; station = station; frames = All-nil (SentIsOf S); kept = λ n i some. omega arith }
    by_memory (Some m) e r t = carried m e (f m e r t)

-- # Plans to which no frame came

module _ (S : ℕ → SentAs → Type 0) (own : ℕ) (W : RingWord → Type 0) (g : Given) (silent : g.got ≡ None) (says : (n i : ℕ) → SaysNoDatagram W n i) (m : Memory)
    (ranged : IsStationRanged m.station) (first : StationIsTrue S own m.station) where
  brings : (n i : ℕ) → BringsIn W g n i 0
  brings n i = record {
    first = record { comes = λ by u c. absurd (no_some _ (sym silent ∙ c.is)); carries = (says n i).none };
    later = record { comes = λ by u c. absurd (no_some _ c.is); carries = (says n i).none };
  }

  plan_clean : (L : Granted → Type 0) (P : Eui → Key → Type 0) (E : Eui → Type 0) → InRange W g → Known S W g own
      → {H F : Type 0} (ends : Ends F) (D : Draft Memory → H → Type 0) → ((d : Draft Memory) (a : H) → D d a → MadeIn W L P E g m d)
      → (p : Plan Memory (Result H F)) → Planned in_memory ends m Nothing D p → PlanClean S own m p
  plan_clean L P E known holds {H = H} ends D made p s =
      let r = plan_ranged W L P E g known m ranged ends Nothing D (λ k a none. absurd none) made p s in
      let t = plan_true S own W g holds L P E m first ends (λ (a : H). ⊤) Nothing D (λ k a none. absurd none) (λ d a x. (made d a x, tt)) p s in
      record {
        ranged = r.station;
        fits = r.frames;
        station = t.station;
        frames = t.frames;
        kept = λ n i some. let k = (plan_kept W g n i 0 some (brings n i) L P E m ends (λ (a : H). 0) Nothing D (λ k a none. absurd none)
            (λ d a x. (made d a x, refl)) p s).kept in omega arith;
      }

-- a plan of the line as one of the memory
station_planned : (W : RingWord → Type 0) (g : Given) (m : Memory) {H F : Type 0} {ends : Ends F} (p : Plan StationMemory (Result H F))
    → Planned alone ends m.station Nothing (λ d (a : H). Made W g (empty_draft m.station) d × Few m.station d) p
    → Planned in_memory ends m Nothing (λ d (a : H). MadeIn W NoGrant NoPair NoEui g m d) (of_station m p)
unfolding resting
station_planned W g m p (Refuses reason) = Refuses reason
station_planned W g m p (Keeps k answer x) = absurd x
station_planned W g m p (Ended d answer done left) = Ended (whole m d) answer (Station d done.0) left

-- # Words

never : (w : RingWord) → ⊥ → WordFits w
never w none = absurd none

no_says : (n i : ℕ) → SaysNoDatagram NoWord n i
no_says n i = record { none = λ to note load none. absurd none }

no_known : (S : ℕ → SentAs → Type 0) (own : ℕ) (g : Given) → g.got ≡ None → Known S NoWord g own
no_known S own g silent =
    record { comes = λ by u c. absurd (no_some _ (sym silent ∙ c.is)); carries = λ to note load none. absurd none; installs = λ granted none. absurd none }

-- of a meter
module _ (now : ℕ) (x : meters.Identity) (m : Memory) where
  meter_words : (w : RingWord) → RingCause (call_given 0 0 now) x m w → WordFits w
  meter_words w (ToCoordinator join said) = omega arith
  meter_words w (ByPacket granted taken) = absurd (no_some _ taken.came.brought.is)
  meter_words w (ByOrder index order) = (read_fits order.join order.octets order.read).index index order.body

  meter_known : (S : ℕ → SentAs → Type 0) (own : ℕ) → Known S (RingCause (call_given 0 0 now) x m) (call_given 0 0 now) own
  meter_known S own = record { comes = λ by u c. absurd (no_some _ c.is); carries = by_cause; installs = by_install }
    where
      by_cause : (to k : ℕ) (load : Load) → RingCause (call_given 0 0 now) x m (Carry to k load) → LoadIsOf S own to k load
      by_cause to k load (ToCoordinator join said) = tt

      by_install : (granted : Granted) → RingCause (call_given 0 0 now) x m (Install granted) → granted.address ≡ own
      by_install granted (ByPacket g taken) = absurd (no_some _ taken.came.brought.is)

-- what the coordinator says by an order, and what it does to its ring
data OrderWord (own : coordinators.CoordinatorIdentity) (g : Given) (m : Memory) : RingWord → Type 0 where
  Says : (to : ℕ) (join : JoinMessage) → IsReached g m to → IsSaidDown HasEight own m join → OrderWord own g m (Carry to 0 (Command (command_of join)))
  Draws : (index : ℕ) (key : Key) → IsHeld (Some key) → OrderWord own g m (Draw index key)
  Turns : (index : ℕ) → index ≤ 1 → OrderWord own g m (Activate index)

module _ (o : coordinators.CoordinatorIdentity) (g : Given) (m : Memory) where
  order_says : (n i : ℕ) → SaysNoDatagram (OrderWord o g m) n i
  order_says n i = record { none = by_word }
    where
      by_word : (to note : ℕ) (load : Load) → OrderWord o g m (Carry to note load) → weigh n note (load_is i load) ≤ 0
      by_word to note load (Says t join there said) = zero_weight n 0

  order_carries : SpeaksWell o g m → (to n : ℕ) (load : Load) → OrderWord o g m (Carry to n load) → (to < 0xFFFE) × HasRoomInFrames load
  order_carries speaks to n load (Says t join there said) = (speaks.reached t there, speaks.short join said)

  order_words : (w : RingWord) → OrderWord o g m w → WordFits w
  order_words w (Says to join there said) = omega arith
  order_words w (Draws index key held) = held
  order_words w (Turns index low) = low

  order_known : (S : ℕ → SentAs → Type 0) (own : ℕ) → g.got ≡ None → Known S (OrderWord o g m) g own
  order_known S own silent = record { comes = λ by u c. absurd (no_some _ (sym silent ∙ c.is)); carries = by_word; installs = by_install }
    where
      by_word : (to k : ℕ) (load : Load) → OrderWord o g m (Carry to k load) → LoadIsOf S own to k load
      by_word to k load (Says t join there said) = tt

      by_install : (granted : Granted) → OrderWord o g m (Install granted) → granted.address ≡ own
      by_install granted w = elim w [ ]

-- # The calls

module _ (S : ℕ → SentAs → Type 0) (own : ℕ) (m : Memory) (ranged : IsStationRanged m.station) (first : StationIsTrue S own m.station) where
  pub random_clean : (value : RandomOctets) → PlanClean S own m (give_random m value)
  random_clean value = plan_clean S own NoWord (call_given 0 0 0) refl no_says m ranged first NoGrant NoPair NoEui
      (call_ranged NoWord 0 0 0 None tt (λ t n load none. absurd none) never) (no_known S own (call_given 0 0 0) refl) given_ends
      (MadeBy NoWord NoGrant NoPair NoEui (call_given 0 0 0) m AnyAnswer) (λ d a x. x.0) _ (random_is NoWord NoGrant NoPair NoEui (call_given 0 0 0) m value)

  module _ (x : meters.Identity) (short : SaysShort x m) where
    meter_range : (now : ℕ) → InRange (RingCause (call_given 0 0 now) x m) (call_given 0 0 now)
    meter_range now = call_ranged (RingCause (call_given 0 0 now) x m) 0 0 now None tt (meter_carries (call_given 0 0 now) x m short) (meter_words now x m)

    pub join_clean : (agent now : ℕ) → PlanClean S own m (meters.join x m agent now)
    join_clean agent now = plan_clean S own (RingCause (call_given 0 0 now) x m) (call_given 0 0 now) refl (meter_says (call_given 0 0 now) x m) m ranged first
        NoGrant NoPair NoEui (meter_range now) (meter_known now x m S own) meters.joining_ends
        (MadeBy (RingCause (call_given 0 0 now) x m) NoGrant NoPair NoEui (call_given 0 0 now) m AnyAnswer) (λ d a y. y.0) _
        (joins_is NoGrant NoPair NoEui (call_given 0 0 now) x m agent)

    pub leave_clean : PlanClean S own m (meters.leave m)
    leave_clean = plan_clean S own (RingCause (call_given 0 0 0) x m) (call_given 0 0 0) refl (meter_says (call_given 0 0 0) x m) m ranged first NoGrant NoPair
        NoEui (meter_range 0) (meter_known 0 x m S own) meters.leaving_ends
        (MadeBy (RingCause (call_given 0 0 0) x m) NoGrant NoPair NoEui (call_given 0 0 0) m AnyAnswer) (λ d a y. y.0) _
        (leaves_is NoGrant NoPair NoEui (call_given 0 0 0) x m)

  pub broke_clean : {A : Type 0} (next : ℕ) (answer : A) → PlanClean S own m (resting (with_station (calls.broke next m.station) m) answer answer)
  unfolding resting
  broke_clean next answer = record {
    ranged = (broke_ranged m ranged next answer).station;
    fits = All-nil IsSent;
    station = record { address = first.address; bodies = first.bodies; held = first.held };
    frames = All-nil (SentIsOf S);
    kept = λ n i some. omega arith;
  }

  pub counter_clean : (value : ℕ) → PlanClean S own m (of_station m (calls.preset_counter m.station value))
  unfolding resting
  counter_clean value = record {
    ranged = record { ring = ranged.ring; tag = ranged.tag; hops = ranged.hops; bodies = ranged.bodies; number = ranged.number };
    fits = All-nil IsSent;
    station = record { address = first.address; bodies = first.bodies; held = first.held };
    frames = All-nil (SentIsOf S);
    kept = λ n i some. omega arith;
  }

  pub number_clean : (value : ℕ) → value < 2 ^ 16 → PlanClean S own m (of_station m (calls.preset_number m.station value))
  unfolding resting
  number_clean value low = record {
    ranged = record { ring = ranged.ring; tag = ranged.tag; hops = ranged.hops; bodies = ranged.bodies; number = omega arith };
    fits = All-nil IsSent;
    station = record { address = first.address; bodies = first.bodies; held = first.held };
    frames = All-nil (SentIsOf S);
    kept = λ n i some. omega arith;
  }

  pub near_clean : (to cost now : ℕ) → to < 0xFFFE → cost < 2 ^ 16 → PlanClean S own m (of_station m (calls.preset_near m.station to cost now))
  near_clean to cost now there low = plan_clean S own NoWord (near_given to cost now) refl no_says m ranged first NoGrant NoPair NoEui
      (call_ranged NoWord cost 0 now (Some to) (there, low) (λ t n load none. absurd none) never) (no_known S own (near_given to cost now) refl)
      calls.presetting_ends
      (λ d a. MadeIn NoWord NoGrant NoPair NoEui (near_given to cost now) m d) (λ d a x. x) _
      (station_planned NoWord (near_given to cost now) m _ (near_is NoWord (near_given to cost now) m.station to refl))

  -- a grant of the workshop
  module _ (granted : Granted) (reads : IsReadable granted) (home : granted.address ≡ own) where
    abbrev Installed : RingWord → Type 0
    Installed w = w ≡ Install granted

    installed_says : (n i : ℕ) → SaysNoDatagram Installed n i
    installed_says n i = record { none = λ to note load e. absurd (cc (e)) }

    installed_words : (w : RingWord) → Installed w → WordFits w
    installed_words w e = subst WordFits (sym e) reads

    abbrev AtHome : RingWord → Type 0
    AtHome (Install g) = g.address ≡ own
    AtHome _ = ⊤

    installed_known : Known S Installed (call_given 0 0 0) own
    installed_known =
        record { comes = λ by u c. absurd (no_some _ c.is); carries = λ to note load e. absurd (cc (e)); installs = λ g e. subst AtHome (sym e) home }

    pub provision_clean : PlanClean S own m (meters.provision m granted)
    provision_clean = plan_clean S own Installed (call_given 0 0 0) refl installed_says m ranged first NoGrant NoPair NoEui
        (call_ranged Installed 0 0 0 None tt (λ t n load e. absurd (cc (e))) installed_words) installed_known calls.ringing_ends
        (λ d a. MadeIn Installed NoGrant NoPair NoEui (call_given 0 0 0) m d) (λ d a x. x) _
        (station_planned Installed (call_given 0 0 0) m _ (install_is Installed (call_given 0 0 0) m.station granted refl))

  -- orders of the coordinator
  module _ (o : coordinators.CoordinatorIdentity) (now : ℕ) (speaks : SpeaksWell o (call_given 0 0 now) m) where
    abbrev AnyKey : Eui → Key → Type 0
    AnyKey eui psk = Unit {0}

    abbrev W : RingWord → Type 0
    W = OrderWord o (call_given 0 0 now) m

    order_clean : {A : Type 0} (p : coordinators.Ordering A)
        → coordinator.IsOrder W AnyKey HasEight (call_given 0 0 now) o m (λ to there join said. Says to join there said) p → PlanClean S own m p
    order_clean p s = plan_clean S own W (call_given 0 0 now) refl (order_says o (call_given 0 0 now) m) m ranged first
        (λ granted. coordinator.IsGranted m granted) AnyKey HasEight
        (call_ranged W 0 0 now None tt (order_carries o (call_given 0 0 now) m speaks) (order_words o (call_given 0 0 now) m))
        (order_known o (call_given 0 0 now) m S own refl) coordinators.orders
        (MadeBy W (λ granted. coordinator.IsGranted m granted) AnyKey HasEight (call_given 0 0 now) m AnyAnswer) (λ d a x. x.0) p s

    pub allow_clean : (eui : Eui) (psk : Key) → HasEight eui → PlanClean S own m (coordinators.allow m eui psk)
    allow_clean eui psk eight =
        order_clean _ (coordinator.allow_is W AnyKey HasEight (call_given 0 0 now) o m (λ to there join said. Says to join there said) eui psk eight tt)

    pub depot_clean : (eui : Eui) (psk : Key) → HasEight eui → PlanClean S own m (coordinators.depot m eui psk)
    depot_clean eui psk eight =
        order_clean _ (coordinator.depot_is W AnyKey HasEight (call_given 0 0 now) o m (λ to there join said. Says to join there said) eui psk eight tt)

    pub rekey_clean : (index : ℕ) (key : Key) → IsHeld (Some key) → PlanClean S own m (coordinators.rekey m index key)
    rekey_clean index key held = order_clean _
        (coordinator.rekey_is W AnyKey HasEight (call_given 0 0 now) o m (λ to there join said. Says to join there said) index key (Draws index key held))

    pub activate_self_clean : (index : ℕ) → index ≤ 1 → PlanClean S own m (coordinators.activate_self m index)
    activate_self_clean index low = order_clean _
        (coordinator.activate_self_is W AnyKey HasEight (call_given 0 0 now) o m (λ to there join said. Says to join there said) index (Turns index low))

    pub challenge_clean : (eui : Eui) → HasEight eui → PlanClean S own m (coordinators.challenge o.eui m eui now)
    challenge_clean eui eight =
        order_clean _ (coordinator.challenge_is W AnyKey HasEight (call_given 0 0 now) o m (λ to there join said. Says to join there said) eui eight)

    pub activate_clean : (eui : Eui) (index : ℕ) → PlanClean S own m (coordinators.activate m eui index now)
    activate_clean eui index =
        order_clean _ (coordinator.activate_is W AnyKey HasEight (call_given 0 0 now) o m (λ to there join said. Says to join there said) eui index)

    pub kick_clean : (eui : Eui) → HasEight eui → PlanClean S own m (coordinators.kick m eui)
    kick_clean eui eight =
        order_clean _ (coordinator.kick_is W AnyKey HasEight (call_given 0 0 now) o m (λ to there join said. Says to join there said) eui eight)

  -- # A send

  module _ (to : ℕ) (datagram : List ℕ) (note now : ℕ) where
    abbrev TheSend : RingWord → Type 0
    TheSend w = w ≡ Carry to note (Datagram datagram m.station.next_tag)

    abbrev IsOfSend : RingWord → Type 0
    IsOfSend (Carry t n load) = LoadIsOf S own t n load
    IsOfSend Drop = ⊤
    IsOfSend (Install granted) = ⊤
    IsOfSend (Draw index key) = ⊤
    IsOfSend (Activate index) = ⊤

    sent_known : S note (record { origin = own; to = to; octets = datagram; tag = m.station.next_tag }) → Known S TheSend (call_given 0 note now) own
    sent_known is = record {
      comes = λ by u c. absurd (no_some _ c.is);
      carries = λ t n load e. subst IsOfSend (sym e) (record {
        sent = record { origin = own; to = to; octets = datagram; tag = m.station.next_tag };
        is = is;
        from = refl;
        target = refl;
        content = (refl, refl);
      });
      installs = λ g e. absurd (cc (e));
    }

    -- a send that is taken is of the send of its note; one that is refused leaves what there was
    pub sends_true : {H F : Type 0} {ends : Ends F} (p : Plan StationMemory (Result H F))
        → Planned alone ends m.station Nothing (λ d (a : H). Made TheSend (call_given 0 note now) (empty_draft m.station) d × Few m.station d) p
        → ((h : H) → p.answer ≡ Ok h → S note (record { origin = own; to = to; octets = datagram; tag = m.station.next_tag }))
        → PlanIsTrue S own (λ (h : H). ⊤) (of_station m p)
    unfolding resting
    sends_true p (Refuses reason) f =
        record { station = record { address = first.address; bodies = first.bodies; held = first.held }; frames = All-nil (SentIsOf S); up = tt; fails = tt }
    sends_true p (Keeps k answer x) f = absurd x
    sends_true {H = H} {ends = ends} p (Ended d answer done left) f = plan_true S own TheSend (call_given 0 note now) (sent_known (f answer refl)) NoGrant
        NoPair NoEui m first ends (λ (h : H). ⊤) Nothing (λ e (a : H). MadeIn TheSend NoGrant NoPair NoEui (call_given 0 note now) m e)
        (λ k a none. absurd none) (λ e a x. (x, tt)) _ (Ended (whole m d) answer (Station d done.0) left)

  -- # Time

  pub tick_true : (now : ℕ) → StationIsTrue S own (calls.tick now m.station)
  unfolding pieces.unexpired
  tick_true now = record {
    address = first.address;
    bodies = All-filter (λ (b : Body). calls.is_within WAITING_TIME now b.since) (BodyIsOf S own) m.station.waiting first.bodies;
    held = All-filter (λ (r : Reassembly). nat_lt now (r.since + REASSEMBLY_TIME)) (HeldIsOf S own) m.station.reassemblies first.held;
  }

-- What a node that was told to send leaves and sends.
pub record SentDid (S : ℕ → SentAs → Type 0) (own : ℕ) {A : Type 0} (d : NodeStep A) : Type 0 where
  pub station : NodeTrue S own d.node
  pub frames : All (SentIsOf S) d.frames

pub sends_did : (S : ℕ → SentAs → Type 0) (own : ℕ) (x : Node) (to : ℕ) (datagram : List ℕ) (note now : ℕ) → NodeRanged x → NodeTrue S own x
    → let d : NodeStep (Result SentHow SendRefusal) = acts x (Err sends.Halted) (λ m. of_station m (calls.send m.station to datagram note now)) in
    ((h : SentHow) → d.answer ≡ Ok h → (m : Memory) → x.memory ≡ Some m
    → S note (record { origin = own; to = to; octets = datagram; tag = m.station.next_tag })) → SentDid S own d
unfolding acts
sends_did S own x to datagram note now ranged station f = by_memory x.memory refl ranged station f
  where
    plan : Memory → Plan Memory (Result SentHow SendRefusal)
    plan m = of_station m (calls.send m.station to datagram note now)

    carried : (m : Memory) → IsStationRanged m.station → StationIsTrue S own m.station
        → ((h : SentHow) → (carry_out x.store.records x.store.cut (plan m)).answer ≡ Ok h
        → S note (record { origin = own; to = to; octets = datagram; tag = m.station.next_tag }))
        → SentDid S own (left_by x (carry_out x.store.records x.store.cut (plan m)))
    carried m r t given = ⊎_elim
        (λ (w : IsWhole x.store.records x.store.cut (plan m) (carry_out x.store.records x.store.cut (plan m))).
        let k = sends_true S own m r t to datagram note now _ (send_is (TheSend S own m r t to datagram note now) (call_given 0 note now) m.station to datagram
        (λ some short. refl)) (λ h e. given h (w.answer ∙ e)) in
        record { station = rw w.memory k.station; frames = rw w.frames k.frames })
        (λ (c : IsCutOff x.store.records x.store.cut (plan m) (carry_out x.store.records x.store.cut (plan m))).
        record { station = rw c.memory tt; frames = rw c.frames (All-nil (SentIsOf S)) })
        (clean x.store.records x.store.cut (plan m))

    by_memory : (o : Option Memory) → x.memory ≡ o → IfSome o (λ (m : Memory). IsStationRanged m.station)
        → IfSome o (λ (m : Memory). StationIsTrue S own m.station)
        → let d : NodeStep (Result SentHow SendRefusal) = option_map_or (λ m. left_by x (carry_out x.store.records x.store.cut (plan m))) o
        (stays x (Err sends.Halted)) in
        ((h : SentHow) → d.answer ≡ Ok h → (m : Memory) → o ≡ Some m → S note (record { origin = own; to = to; octets = datagram; tag = m.station.next_tag }))
        → SentDid S own d
    by_memory None e r t given = record { station = station; frames = All-nil (SentIsOf S) }
    by_memory (Some m) e r t given = carried m r t (λ h is. given h is m refl)
