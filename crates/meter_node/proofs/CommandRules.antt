-- How a joining message that goes to the coordinator in a command is carried out.
use Rattle.std.proofs.Common.{arith, ◌≡◌, ℕ, Bool, true, false, List, [], ◌++◌, length, Option, Some, None, Result, Ok, Err, refl, sym, ap, subst, ◌∙◌}
use Rattle.std.specs.Prelude.{◌==◌, is_some, IfSome, IsSome}
use Rattle.std.specs.Option.{option_map, option_map_or}
use Rattle.std.proofs.lemmas.List.{append-nil}
use Rattle.std.proofs.lemmas.Bool.Decides.{nat_tests}
use Rattle.store_tables.specs.Writes.{Wrote}
use Rattle.store_tables.proofs.WritesLemmas.{wrote_none}
use Rattle.plc_base.specs.Keeper.{Write}
use Rattle.plc_base.specs.declared.tags.PairTag.{PairTag}
use Rattle.plc_base.specs.declared.out_frame.Out.{Out}
use Rattle.joining_messages.specs.declared.message.JoinMessage.{JoinMessage}
use Rattle.joining_messages.specs.declared.message.JoinBody.{JoinBody}
use Rattle.joining_messages.specs.declared.message.JoinBody.TheVariants as body
use Rattle.plc_base.specs.declared.address.Eui.{Eui}
use Rattle.group_keys.specs.KeyRing.{Ring}
use Rattle.meter_node.specs.JoiningRelay as joining_relay
use Rattle.node_rules.specs.Acceptance.{same_eui}
use Rattle.node_rules.specs.declared.heard.MeterHeard.TheVariants as heard
use Rattle.node_rules.specs.declared.refusal.Dropped.TheVariants.{BadUnit}
use Rattle.node_rules.specs.declared.heard.MeterHeard.{MeterHeard}
use Rattle.node_rules.specs.declared.heard.SentHow.{SentHow}
use Rattle.node_rules.specs.declared.refusal.Dropped.{Dropped}
use Rattle.node_rules.specs.declared.refusal.SendRefusal.{SendRefusal}
use Rattle.node_rules.specs.declared.refusal.SendRefusal.TheVariants.{Store as StoreRefusal}
use Rattle.node_rules.specs.Memory.{StationMemory, Memory, Load, Command, address_of, next_hop}
use Rattle.node_rules.specs.Plans.{Plan, within}
use Rattle.node_rules.specs.JoiningPackets.{command_of}
use Rattle.node_rules.specs.Meters as meters
use Rattle.node_rules.specs.Drafts.{Draft, checked, refused, choose, empty_draft, sealing, sets_out, body_goes, waits, seeks_once, goes, with_own_number}
use Rattle.node_rules.specs.Drafts.{is_awaited}
use Rattle.node_rules.specs.HearingRules.{dropped, dropped_for}
use Rattle.node_rules.specs.Calls as calls
use Rattle.node_rules.specs.MemoryDrafts.{in_memory, on_station, is_commanded, command_lack}
use Rattle.node_rules.specs.States.{State}
use Rattle.node_rules.specs.CarriedPlans.{Carries}
use Rattle.node_rules.specs.Calls.{command_fault}
use Rattle.node_rules.specs.ComposedPlans.{behind, adding, out_with, seen, begun, answer_if_sent, command_alone, HasRoom}
use Rattle.node_rules.proofs.ComposedPlans.{carries_stopped, carries_within, carries_behind, carries_adding, command_plan, command_sent, carried_whole}
use Rattle.node_rules.proofs.ComposedPlans.{carried_cut}
use Rattle.node_rules.proofs.ComposedPlans.{Whole, CutOff, room_seals, room_refuses, command_units}
use Rattle.meter_node.specs.MeterStates.{MeterState, memory_with, node_of}

-- # The command

-- a command makes and checks no tag
module _ (l : StationMemory) (own to : ℕ) (load : Load) (now : ℕ) where
  made_by : (hop : Option ℕ) (b : Bool) → next_hop l to ≡ hop → is_awaited l to ≡ b → (command_alone l own to load now).made ≡ []
  unfolding empty_draft body_goes waits seeks_once goes with_own_number
  made_by (Some hop) b e a = rw e refl
  made_by None true e a = rw (e, a) refl
  made_by None false e a = rw (e, a) refl

  opened_by : (hop : Option ℕ) (b : Bool) → next_hop l to ≡ hop → is_awaited l to ≡ b → (command_alone l own to load now).opened ≡ []
  unfolding empty_draft body_goes waits seeks_once goes with_own_number
  opened_by (Some hop) b e a = rw e refl
  opened_by None true e a = rw (e, a) refl
  opened_by None false e a = rw (e, a) refl

  pub made_none : (command_alone l own to load now).made ≡ []
  made_none = made_by (next_hop l to) (is_awaited l to) refl refl

  pub opened_none : (command_alone l own to load now).opened ≡ []
  opened_none = opened_by (next_hop l to) (is_awaited l to) refl refl

module _ (x y : MeterState) (t : State StationMemory) (l : StationMemory) (puts : List Write) (made opened : List PairTag) (own to : ℕ) (octets : List ℕ)
    (now : ℕ) (answer : MeterHeard) (out more : Out) where
  -- the station's plan
  abbrev Sending : Plan StationMemory (Result SentHow SendRefusal)
  Sending = command_alone l own to (Command octets) now

  -- the plan as a meter says it, after other puts
  abbrev AnswerPlan : Plan Memory (Result MeterHeard Dropped)
  AnswerPlan = behind puts (within (memory_with y) (answer_if_sent dropped answer) Sending)

  -- the rule
  abbrev pub Commands : Plan Memory (Result MeterHeard Dropped)
  Commands = sealing in_memory dropped (on_station (sets_out own to 0 (Command octets) now) (begun puts (memory_with y l) [] made opened)) answer

  of_station : (r : Result SentHow SendRefusal) → Wrote x.station.store puts true t.store → x.station.eui ≡ t.eui → Carries t Sending r out y.station
      → more ≡ out_with [] made opened (is_some (node_of y).memory) out → Carries (node_of x) Commands (answer_if_sent dropped answer r) more (node_of y)
  of_station r wrote eui c is =
      subst (λ (p : Plan Memory (Result MeterHeard Dropped)). Carries (node_of x) p (answer_if_sent dropped answer r) more (node_of y))
      (command_plan dropped puts (memory_with y l) [] made opened own to (Command octets) now answer)
      (carries_adding [] made opened (node_of x) (node_of y) AnswerPlan (answer_if_sent dropped answer r) out more
      (carries_behind (node_of x) (seen (memory_with y) t) (node_of y) puts (within (memory_with y) (answer_if_sent dropped answer) Sending)
      (answer_if_sent dropped answer r) out
      wrote eui
      (carries_within (memory_with y) (answer_if_sent dropped answer) (seen (memory_with y) t) t y.station Sending r out refl refl c)) is)

  sending : (r : Result SentHow SendRefusal) → address_of l ≡ Some own → HasRoom l to (length octets)
      → Carries t (calls.send_command l to octets now) r out y.station → Carries t Sending r out y.station
  sending r address room c =
      subst (λ (p : Plan StationMemory (Result SentHow SendRefusal)). Carries t p r out y.station) (sym (command_sent own to octets now l address room)) c

  -- it went out or waits
  pub commanded : (h : SentHow) → Wrote x.station.store puts true t.store → x.station.eui ≡ t.eui → address_of l ≡ Some own → HasRoom l to (length octets)
      → Carries t (calls.send_command l to octets now) (Ok h) out y.station → more ≡ record out { tags = record { made = made; opened = opened } }
      → Carries (node_of x) Commands (Ok answer) more (node_of y)
  commanded h wrote eui address room c is =
      let s : Carries t Sending (Ok h) out y.station = sending (Ok h) address room c in
      let w : Whole t Sending (Ok h) out y.station = carried_whole t y.station Sending h StoreRefusal out refl s in
      let none_made : out.tags.made ≡ [] = ap (λ (o : Out). o.tags.made) w.out_is ∙ made_none l own to (Command octets) now in
      let none_opened : out.tags.opened ≡ [] = ap (λ (o : Out). o.tags.opened) w.out_is ∙ opened_none l own to (Command octets) now in
      of_station (Ok h) wrote eui s
      (is ∙ (λ i. record out {
        tags = record {
          made = (sym (append-nil made) ∙ ap (λ k. made ++ k) (sym none_made)) i;
          opened = (sym (append-nil opened) ∙ ap (λ k. opened ++ k) (sym none_opened)) i;
        };
      })
      ∙ ap (λ (b : Bool). out_with [] made opened b out) (sym (ap (λ (m : Option StationMemory). is_some (option_map (memory_with y) m)) w.memory)))

  -- one of its puts failed
  pub not_commanded : (e : SendRefusal) → Wrote x.station.store puts true t.store → x.station.eui ≡ t.eui → address_of l ≡ Some own
      → HasRoom l to (length octets)
      → Carries t (calls.send_command l to octets now) (Err e) out y.station → more ≡ record out { tags = record { made = []; opened = opened } }
      → Carries (node_of x) Commands (Err dropped.store) more (node_of y)
  not_commanded e wrote eui address room c is =
      let s : Carries t Sending (Err e) out y.station = sending (Err e) address room c in
      let w : CutOff t Sending out y.station = carried_cut t y.station Sending (calls.how l to) e out refl s in
      let no_frame : out.frames ≡ [] = ap (λ (o : Out). o.frames) w.out_is in
      let none_opened : out.tags.opened ≡ [] = ap (λ (o : Out). o.tags.opened) w.out_is ∙ opened_none l own to (Command octets) now in
      of_station (Err e) wrote eui s
      (is ∙ (λ i. record { frames = no_frame i; tags = record { made = []; opened = (sym (append-nil opened) ∙ ap (λ k. opened ++ k) (sym none_opened)) i } })
      ∙ ap (λ (b : Bool). out_with [] made opened b out) (sym (ap (λ (m : Option StationMemory). is_some (option_map (memory_with y) m)) w.memory)))

  -- one of the puts before it failed
  pub stopped_before : Wrote x.station.store puts false y.station.store → y.station.eui ≡ x.station.eui → y.station.memory ≡ None
      → more ≡ record { frames = []; tags = record { made = []; opened = opened } } → Carries (node_of x) Commands (Err dropped.store) more (node_of y)
  stopped_before wrote eui memory is =
      subst (λ (p : Plan Memory (Result MeterHeard Dropped)). Carries (node_of x) p (Err dropped.store) more (node_of y))
      (command_plan dropped puts (memory_with y l) [] made opened own to (Command octets) now answer)
      (carries_stopped (node_of x) (node_of y) puts Sending.puts (adding [] made opened AnswerPlan) more wrote refl
      (is ∙ (λ i. record {
        frames = [];
        tags = record { made = []; opened = (sym (append-nil opened) ∙ ap (λ k. opened ++ k) (sym (opened_none l own to (Command octets) now))) i };
      }))
      eui (ap (option_map (memory_with y)) memory))

  -- where a put failed no tag was made or checked
  pub untagged_cut : (e : SendRefusal) → address_of l ≡ Some own → HasRoom l to (length octets)
      → Carries t (calls.send_command l to octets now) (Err e) out y.station
      → out ≡ record out { tags = record { made = []; opened = [] } }
  untagged_cut e address room c =
      let w : CutOff t Sending out y.station = carried_cut t y.station Sending (calls.how l to) e out refl (sending (Err e) address room c) in
      λ i. record out {
        tags = record {
          made = ap (λ (o : Out). o.tags.made) w.out_is i;
          opened = (ap (λ (o : Out). o.tags.opened) w.out_is ∙ opened_none l own to (Command octets) now) i;
        };
      }

  -- where it went out no tag was made or checked
  pub untagged : (h : SentHow) → address_of l ≡ Some own → HasRoom l to (length octets) → Carries t (calls.send_command l to octets now) (Ok h) out y.station
      → out ≡ record out { tags = record { made = []; opened = [] } }
  untagged h address room c =
      let w : Whole t Sending (Ok h) out y.station = carried_whole t y.station Sending h StoreRefusal out refl (sending (Ok h) address room c) in
      λ i. record out {
        tags = record {
          made = (ap (λ (o : Out). o.tags.made) w.out_is ∙ made_none l own to (Command octets) now) i;
          opened = (ap (λ (o : Out). o.tags.opened) w.out_is ∙ opened_none l own to (Command octets) now) i;
        };
      }

-- # The rule

-- a joining message goes to the coordinator, after other words
module _ (m mem : Memory) (join : JoinMessage) (now own : ℕ) (answer : MeterHeard) (puts : List Write) (made opened : List PairTag) where
  abbrev pub InCommand : Plan Memory (Result MeterHeard Dropped)
  InCommand = checked dropped m (command_lack m 0 join) (meters.ends m (is_commanded 0 join now (begun puts mem [] made opened)) answer)

  abbrev Drafted : Draft Memory
  Drafted = on_station (sets_out own 0 0 (Command (command_of join)) now) (begun puts mem [] made opened)

  by_address : address_of mem.station ≡ Some own → checked dropped m (command_lack m 0 join) (meters.ends m Drafted answer) ≡ InCommand
  unfolding is_commanded
  by_address address =
      ap (λ (a : Option ℕ). checked dropped m (command_lack m 0 join)
      (meters.ends m (option_map_or (λ o. on_station (sets_out o 0 0 (Command (command_of join)) now) (begun puts mem [] made opened)) a
      (begun puts mem [] made opened)) answer)) (sym address)

  pub goes_in_command : address_of mem.station ≡ Some own → calls.command_frames mem.station 0 ≡ calls.command_frames m.station 0
      → HasRoom m.station 0 (length (command_of join)) → sealing in_memory dropped Drafted answer ≡ InCommand
  goes_in_command address same room =
      room_seals 0 (length (command_of join)) dropped dropped_for m Drafted answer room
      (command_units own 0 (command_of join) now puts mem [] made opened ∙ same) ∙ by_address address

  pub lacks_in_command : (reason : Dropped) → address_of mem.station ≡ Some own → calls.command_frames mem.station 0 ≡ calls.command_frames m.station 0
      → command_fault dropped dropped_for m.station 0 (length (command_of join)) ≡ Some reason → refused dropped m reason ≡ InCommand
  lacks_in_command reason address same fault =
      room_refuses 0 (length (command_of join)) dropped dropped_for m Drafted answer reason fault
      (command_units own 0 (command_of join) now puts mem [] made opened ∙ same) ∙ by_address address

-- a ring more or less changes no route
pub same_frames : (l : StationMemory) (r : Ring) (to : ℕ) → calls.command_frames (record l { ring = r }) to ≡ calls.command_frames l to
unfolding next_hop
same_frames l r to = refl

-- # Numbers that were compared

pub other_number : (p q m n : ℕ) → m ≡ p → n ≡ q → (m ≡ n → ⊥) → (p == q) ≡ false
other_number p q m n a b h = grind (arith, nat_tests)

pub same_number : (p q m n : ℕ) → m ≡ p → n ≡ q → m ≡ n → (p == q) ≡ true
same_number p q m n a b h = grind (arith, nat_tests)

-- # Carrying up

module _ (m : Memory) (join : JoinMessage) (from : Eui) (now own : ℕ) where
  pub carries_up : (b : JoinBody) → joining_relay.goes_up b ≡ true → same_eui join.eui from ≡ true
      → InCommand m m join now own heard.Carried [] [] [] ≡ meters.carry_up m from join b now
  unfolding choose empty_draft
  carries_up (body.Join eap) goes same = λ i. choose (sym same i) (meters.carries_up m join now) (meters.drop_it m BadUnit)
  carries_up (body.Challenge eap) goes same = absurd (cc)
  carries_up (body.Accept identifier) goes same = absurd (cc)
  carries_up body.Decline goes same = absurd (cc)
  carries_up body.Kick goes same = absurd (cc)
  carries_up (body.Activate index) goes same = absurd (cc)

  pub not_up : (b : JoinBody) → joining_relay.goes_up b ≡ false → refused {H = MeterHeard} dropped m BadUnit ≡ meters.carry_up m from join b now
  not_up (body.Join eap) goes = absurd (cc)
  not_up (body.Challenge eap) goes = refl
  not_up (body.Accept identifier) goes = refl
  not_up body.Decline goes = refl
  not_up body.Kick goes = refl
  not_up (body.Activate index) goes = refl

  pub not_own : (b : JoinBody) → same_eui join.eui from ≡ false → refused {H = MeterHeard} dropped m BadUnit ≡ meters.carry_up m from join b now
  unfolding choose
  not_own (body.Join eap) other = λ i. choose (sym other i) (meters.carries_up m join now) (meters.drop_it m BadUnit)
  not_own (body.Challenge eap) other = refl
  not_own (body.Accept identifier) other = refl
  not_own body.Decline other = refl
  not_own body.Kick other = refl
  not_own (body.Activate index) other = refl

-- # What the station did about the command

address_by : (r : Ring) → IsSome r → (own : ℕ) × (option_map (λ g. g.address) r ≡ Some own)
address_by (Some g) joined = (g.address, refl)
address_by None joined = absurd (cc)

-- the address of a meter that is joined
pub address_at : (l : StationMemory) → IsSome l.ring → (own : ℕ) × (address_of l ≡ Some own)
address_at l joined = address_by l.ring joined

-- the call, with what its arguments are
pub sent_as : (s u : State StationMemory) (l : StationMemory) (to : ℕ) (octets : List ℕ) (join : JoinMessage) (now : ℕ) (r : Result SentHow SendRefusal)
    (out : Out) → to ≡ 0 → octets ≡ command_of join
    → Carries s (calls.send_command l to octets now) r out u → Carries s (calls.send_command l 0 (command_of join) now) r out u
sent_as s u l to octets join now r out zero is c =
    subst (λ (k : List ℕ). Carries s (calls.send_command l 0 k now) r out u) is
    (subst (λ (k : ℕ). Carries s (calls.send_command l k octets now) r out u) zero c)

-- the same of octets, where its memory is not named
pub sent_zero : (s u : State StationMemory) (to : ℕ) (octets command : List ℕ) (now : ℕ) (r : Result SentHow SendRefusal) (out : Out) → to ≡ 0
    → octets ≡ command
    → IfSome s.memory (λ k. Carries s (calls.send_command k to octets now) r out u)
    → IfSome s.memory (λ k. Carries s (calls.send_command k 0 command now) r out u)
sent_zero s u to octets command now r out zero is c =
    subst (λ (o : List ℕ). IfSome s.memory (λ k. Carries s (calls.send_command k 0 o now) r out u)) is
    (subst (λ (n : ℕ). IfSome s.memory (λ k. Carries s (calls.send_command k n octets now) r out u)) zero c)

module _ (x : MeterState) (u : State StationMemory) (l : StationMemory) (from : Eui) (join : JoinMessage) (now : ℕ) (out : Out) (joined : IsSome l.ring)
    (room : HasRoom l 0 (length (command_of join)))
    (goes : joining_relay.goes_up join.body ≡ true) (same : same_eui join.eui from ≡ true) where
  own_at : (own : ℕ) × (address_of l ≡ Some own)
  own_at = address_at l joined

  plan_up : Commands x (record x { station = u }) x.station l [] [] [] own_at.0 0 (command_of join) now heard.Carried out out
      ≡ meters.carry_up (memory_with x l) from join join.body now
  plan_up = goes_in_command (memory_with x l) (memory_with x l) join now own_at.0 heard.Carried [] [] [] own_at.1 refl room
      ∙ carries_up (memory_with x l) join from now own_at.0 join.body goes same

  pub up_sent : (h : SentHow) → Carries x.station (calls.send_command l 0 (command_of join) now) (Ok h) out u
      → Carries (node_of x) (meters.carry_up (memory_with x l) from join join.body now) (Ok heard.Carried) out (node_of (record x { station = u }))
  up_sent h c =
      subst (λ (p : Plan Memory (Result MeterHeard Dropped)). Carries (node_of x) p (Ok heard.Carried) out (node_of (record x { station = u }))) plan_up
      (commanded x (record x { station = u }) x.station l [] [] [] own_at.0 0 (command_of join) now heard.Carried out out h (wrote_none x.station.store) refl
      own_at.1 room c
      (untagged x (record x { station = u }) x.station l [] [] [] own_at.0 0 (command_of join) now heard.Carried out out h own_at.1 room c))

  pub up_failed : (e : SendRefusal) → Carries x.station (calls.send_command l 0 (command_of join) now) (Err e) out u
      → Carries (node_of x) (meters.carry_up (memory_with x l) from join join.body now) (Err dropped.store) out (node_of (record x { station = u }))
  up_failed e c =
      subst (λ (p : Plan Memory (Result MeterHeard Dropped)). Carries (node_of x) p (Err dropped.store) out (node_of (record x { station = u }))) plan_up
      (not_commanded x (record x { station = u }) x.station l [] [] [] own_at.0 0 (command_of join) now heard.Carried out out e (wrote_none x.station.store)
      refl own_at.1 room c
      (untagged_cut x (record x { station = u }) x.station l [] [] [] own_at.0 0 (command_of join) now heard.Carried out out e own_at.1 room c))

pub up_lacks : (x : MeterState) (l : StationMemory) (from : Eui) (join : JoinMessage) (now : ℕ) (reason : Dropped) → IsSome l.ring
    → joining_relay.goes_up join.body ≡ true → same_eui join.eui from ≡ true
    → command_fault dropped dropped_for l 0 (length (command_of join)) ≡ Some reason
    → refused {H = MeterHeard} dropped (memory_with x l) reason ≡ meters.carry_up (memory_with x l) from join join.body now
up_lacks x l from join now reason joined goes same fault =
    let own = address_at l joined in
    lacks_in_command (memory_with x l) (memory_with x l) join now own.0 heard.Carried [] [] [] reason own.1 refl fault
    ∙ carries_up (memory_with x l) join from now own.0 join.body goes same
