-- The calls of a meter by itself, of the workshop, and the orders of the coordinator keep the ranges.
use Rattle.std.proofs.Common.{ℕ, ◌≤◌, ◌<◌, ◌^◌, Bool, true, false, length, Some, None, Result, refl, arith}
use Rattle.std.specs.Prelude.{is_some}
use Rattle.std.proofs.lemmas.List.Elements.{All-nil}
use Rattle.plc_base.specs.Grant.{Granted}
use Rattle.plc_base.specs.declared.address.Eui.{Eui}
use Rattle.plc_base.specs.declared.key.Key.{Key}
use Rattle.plc_base.specs.declared.key.RandomOctets.{RandomOctets}
use Rattle.joining_messages.specs.declared.message.JoinMessage.{JoinMessage}
use Rattle.node_rules.specs.declared.refusal.CoordinatorRefusal.{CoordinatorRefusal}
use Rattle.node_rules.specs.Calls as calls
use Rattle.node_rules.specs.Ciphers.{Ciphers}
use Rattle.node_rules.specs.Coordinators as coordinators
use Rattle.node_rules.specs.Drafts.{choose}
use Rattle.node_rules.specs.JoiningPackets.{command_of}
use Rattle.node_rules.specs.Memory.{Memory, Coordinator, Load, Datagram, Command}
use Rattle.node_rules.specs.MemoryDrafts.{in_memory, give_random, given_ends}
use Rattle.node_rules.specs.Meters as meters
use Rattle.node_rules.specs.NodeSteps.{of_station}
use Rattle.node_rules.specs.Plans.{Plan, resting}
use Rattle.line_laws.specs.Owed.{KeepsRanges}
use Rattle.line_laws.specs.Ranges.{HasRoomInFrames, IsStationRanged}
use Rattle.line_laws.specs.Sizes.{IsMemorySized}
use Rattle.line_laws.specs.Stores.{IsHeld, IsReadable}
use Rattle.line_laws.proofs.CallForms.{Nothing, install_is, random_is}
use Rattle.line_laws.proofs.CoordinatorForms.{IsReached, IsSaidDown, IsGranted, allow_is, depot_is, rekey_is, activate_self_is, challenge_is, activate_is}
use Rattle.line_laws.proofs.CoordinatorForms.{kick_is}
use Rattle.line_laws.proofs.Made.{RingWord, Carry, Drop, Install, Draw, Activate}
use Rattle.line_laws.proofs.MemoryDraftForms.{AnyAnswer, MadeBy}
use Rattle.line_laws.proofs.MeterForms.{RingCause, joins_is, leaves_is}
use Rattle.line_laws.proofs.NodeCalls.{NoGrant, NoPair, NoEui, NoWord, call_given, no_some, meter_words}
use Rattle.line_laws.proofs.Planned.{Planned}
use Rattle.line_laws.proofs.RangeCalls.{call_ranged, station_ranged}
use Rattle.line_laws.proofs.RangeCoordinator.{HasEight, SpeaksWell}
use Rattle.line_laws.proofs.RangeFold.{InRange}
use Rattle.line_laws.proofs.RangeFrames.{IsSent}
use Rattle.line_laws.proofs.RangeHeard.{SaysShort, meter_carries}
use Rattle.line_laws.proofs.RangePlans.{RangeOk, plan_ranged}
use Rattle.line_laws.proofs.StoreFold.{WordFits}

-- a grant is installed
abbrev Installing : RingWord → Type 0
Installing (Install granted) = IsReadable granted
Installing (Carry to note load) = ⊥
Installing Drop = ⊥
Installing (Draw index key) = ⊥
Installing (Activate index) = ⊥

install_words : (w : RingWord) → Installing w → WordFits w
install_words (Install granted) fits = fits
install_words (Carry to note load) none = absurd none
install_words Drop none = absurd none
install_words (Draw index key) none = absurd none
install_words (Activate index) none = absurd none

-- what an order does: a command goes to one node and fits a frame, and a ring is read back
abbrev Orders : RingWord → Type 0
Orders (Carry to note (Command octets)) = (to < 0xFFFE) × (length octets ≤ 375) × (1 ≤ length octets)
Orders (Carry to note (Datagram octets tag)) = ⊥
Orders Drop = ⊥
Orders (Install granted) = ⊥
Orders (Draw index key) = IsHeld (Some key)
Orders (Activate index) = index ≤ 1

order_words : (w : RingWord) → Orders w → WordFits w
order_words (Carry to note (Command octets)) h = h.2
order_words (Carry to note (Datagram octets tag)) none = absurd none
order_words Drop none = absurd none
order_words (Install granted) none = absurd none
order_words (Draw index key) h = h
order_words (Activate index) h = h

order_carries : (to note : ℕ) (load : Load) → Orders (Carry to note load) → (to < 0xFFFE) × HasRoomInFrames load
order_carries to note (Command octets) h = (h.0, h.1)
order_carries to note (Datagram octets tag) none = absurd none

abbrev AnyKey : Eui → Key → Type 0
AnyKey eui psk = Unit {0}

never : (w : RingWord) → ⊥ → WordFits w
never w none = absurd none

pub choose_ranged : {A : Type 0} (test : Bool) (p q : Plan Memory A) → RangeOk p → RangeOk q → RangeOk (choose test p q)
unfolding choose
choose_ranged true p q a b = a
choose_ranged false p q a b = b

module _ (m : Memory) (h : IsStationRanged m.station) where
  abbrev call : (W : RingWord → Type 0) → ((to n : ℕ) (load : Load) → W (Carry to n load) → (to < 0xFFFE) × HasRoomInFrames load)
      → ((w : RingWord) → W w → WordFits w) → (now : ℕ) → InRange W (call_given 0 0 now)
  call W carries words now = call_ranged W 0 0 now None tt carries words

  pub rests_ranged : {A : Type 0} (answer failed : A) → RangeOk (resting m answer failed)
  unfolding resting
  rests_ranged answer failed = record { station = h; frames = All-nil IsSent }

  pub random_ranged : (value : RandomOctets) → RangeOk (give_random m value)
  random_ranged value =
      plan_ranged NoWord NoGrant NoPair NoEui (call_given 0 0 0) (call NoWord (λ to n load none. absurd none) never 0) m h given_ends Nothing
      (MadeBy NoWord NoGrant NoPair NoEui (call_given 0 0 0) m AnyAnswer)
      (λ n answer k. absurd k) (λ d answer x. x.0) _ (random_is NoWord NoGrant NoPair NoEui (call_given 0 0 0) m value)

  -- a value of the workshop
  pub counter_ranged : (value : ℕ) → RangeOk (of_station m (calls.preset_counter m.station value))
  unfolding resting
  counter_ranged value =
      record { station = record { ring = h.ring; tag = h.tag; hops = h.hops; bodies = h.bodies; number = h.number }; frames = All-nil IsSent }

  pub number_ranged : (value : ℕ) → value < 2 ^ 16 → RangeOk (of_station m (calls.preset_number m.station value))
  unfolding resting
  number_ranged value low =
      record { station = record { ring = h.ring; tag = h.tag; hops = h.hops; bodies = h.bodies; number = omega arith }; frames = All-nil IsSent }

  -- a grant of the workshop, and the first one
  pub provision_ranged : (granted : Granted) → IsReadable granted → RangeOk (meters.provision m granted)
  provision_ranged granted fits = station_ranged m h Installing (call_given 0 0 0) (call Installing (λ to n load none. absurd none) install_words 0)
      calls.ringing_ends _ (install_is Installing (call_given 0 0 0) m.station granted fits)

  pub begin_ranged : (granted : Granted) → IsReadable granted → RangeOk (coordinators.begin m granted)
  begin_ranged granted fits = choose_ranged (is_some m.station.ring) _ _ (rests_ranged _ _) (provision_ranged granted fits)

  -- # A meter

  module _ (sized : IsMemorySized m) (ciphers : Ciphers) (fits : KeepsRanges ciphers) (eui : Eui) (psk : Key)
      (short : SaysShort (record { eui = eui; psk = psk; ciphers = ciphers }) m) where
    abbrev x : meters.Identity
    x = record { eui = eui; psk = psk; ciphers = ciphers }

    abbrev Says : ℕ → RingWord → Type 0
    Says now w = RingCause (call_given 0 0 now) x m w

    known : (now : ℕ) → InRange (Says now) (call_given 0 0 now)
    known now = call (Says now) (meter_carries (call_given 0 0 now) x m short) (meter_words_of now) now
      where
        meter_words_of : (now : ℕ) (w : RingWord) → Says now w → WordFits w
        meter_words_of now w c = meter_words Coordinator m sized ciphers fits x refl (call_given 0 0 now) (λ got e. absurd (no_some got e)) w c

    pub join_ranged : (agent now : ℕ) → RangeOk (meters.join x m agent now)
    join_ranged agent now =
        plan_ranged (Says now) NoGrant NoPair NoEui (call_given 0 0 now) (known now) m h meters.joining_ends Nothing
        (MadeBy (Says now) NoGrant NoPair NoEui (call_given 0 0 now) m AnyAnswer)
        (λ n answer k. absurd k) (λ d answer y. y.0) _ (joins_is NoGrant NoPair NoEui (call_given 0 0 now) x m agent)

    pub leave_ranged : RangeOk (meters.leave m)
    leave_ranged =
        plan_ranged (Says 0) NoGrant NoPair NoEui (call_given 0 0 0) (known 0) m h meters.leaving_ends Nothing
        (MadeBy (Says 0) NoGrant NoPair NoEui (call_given 0 0 0) m AnyAnswer)
        (λ n answer k. absurd k) (λ d answer y. y.0) _ (leaves_is NoGrant NoPair NoEui (call_given 0 0 0) x m)

  -- # Orders

  module _ (own : coordinators.CoordinatorIdentity) (now : ℕ) (speaks : SpeaksWell own (call_given 0 0 now) m) where
    says_to : (to : ℕ) → IsReached (call_given 0 0 now) m to → (join : JoinMessage) → IsSaidDown HasEight own m join
        → Orders (Carry to 0 (Command (command_of join)))
    says_to to there join said = (speaks.reached to there, speaks.short join said, omega arith)

    order_ranged : {H : Type 0} (p : Plan Memory (Result H CoordinatorRefusal))
        → Planned in_memory coordinators.orders m Nothing (MadeBy Orders (IsGranted m) AnyKey HasEight (call_given 0 0 now) m AnyAnswer) p → RangeOk p
    order_ranged p s =
        plan_ranged Orders (IsGranted m) AnyKey HasEight (call_given 0 0 now) (call Orders order_carries order_words now) m h coordinators.orders Nothing
        (MadeBy Orders (IsGranted m) AnyKey HasEight (call_given 0 0 now) m AnyAnswer)
        (λ n answer k. absurd k) (λ d answer x. x.0) p s

    pub challenge_ranged : (eui : Eui) → HasEight eui → RangeOk (coordinators.challenge own.eui m eui now)
    challenge_ranged eui known = order_ranged _ (challenge_is Orders AnyKey HasEight (call_given 0 0 now) own m says_to eui known)

    pub activate_ranged : (eui : Eui) (index : ℕ) → RangeOk (coordinators.activate m eui index now)
    activate_ranged eui index = order_ranged _ (activate_is Orders AnyKey HasEight (call_given 0 0 now) own m says_to eui index)

    pub allow_ranged : (eui : Eui) (psk : Key) → HasEight eui → RangeOk (coordinators.allow m eui psk)
    allow_ranged eui psk known = order_ranged _ (allow_is Orders AnyKey HasEight (call_given 0 0 now) own m says_to eui psk known tt)

    pub depot_ranged : (eui : Eui) (psk : Key) → HasEight eui → RangeOk (coordinators.depot m eui psk)
    depot_ranged eui psk known = order_ranged _ (depot_is Orders AnyKey HasEight (call_given 0 0 now) own m says_to eui psk known tt)

    pub rekey_ranged : (index : ℕ) (key : Key) → IsHeld (Some key) → RangeOk (coordinators.rekey m index key)
    rekey_ranged index key held = order_ranged _ (rekey_is Orders AnyKey HasEight (call_given 0 0 now) own m says_to index key held)

    pub turn_ranged : (index : ℕ) → index ≤ 1 → RangeOk (coordinators.activate_self m index)
    turn_ranged index low = order_ranged _ (activate_self_is Orders AnyKey HasEight (call_given 0 0 now) own m says_to index low)

    pub kick_ranged : (eui : Eui) → HasEight eui → RangeOk (coordinators.kick m eui)
    kick_ranged eui known = order_ranged _ (kick_is Orders AnyKey HasEight (call_given 0 0 now) own m says_to eui known)
