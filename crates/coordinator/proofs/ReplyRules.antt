-- What the coordinator says to a meter, carried out by the way of the meter's session.
use Rattle.std.proofs.Common.{◌≡◌, ℕ, Bool, true, false, List, [], ◌∷◌, ◌++◌, length, Option, Some, None, Result, Ok, Err, refl, sym, ap, subst, ◌∙◌}
use Rattle.std.proofs.Common.{append-nil}
use Rattle.std.specs.Prelude.{IfSome}
use Rattle.std.specs.Option.{option_map, option_map_or}
use Rattle.plc_base.specs.Keeper.{Write}
use Rattle.store_tables.specs.Writes.{Wrote}
use Rattle.plc_base.specs.declared.address.Eui.{Eui}
use Rattle.plc_base.specs.declared.out_frame.Out.{Out}
use Rattle.plc_base.specs.declared.tags.TagList.{TagList}
use Rattle.store_tables.proofs.WritesLemmas.{wrote_none}
use Rattle.joining_messages.specs.declared.message.JoinMessage.{JoinMessage}
use Rattle.joining_base.specs.Reasons.{dropped_send}
use Rattle.node_rules.specs.declared.heard.SentHow.{SentHow}
use Rattle.node_rules.specs.declared.heard.Way.{Way}
use Rattle.node_rules.specs.declared.heard.Way.TheVariants.{Air, Near, Mesh}
use Rattle.node_rules.specs.declared.heard.CoordinatorHeard.{CoordinatorHeard}
use Rattle.node_rules.specs.declared.refusal.Dropped.{Dropped}
use Rattle.node_rules.specs.declared.refusal.SendRefusal.{SendRefusal}
use Rattle.node_rules.specs.declared.refusal.CoordinatorRefusal.{CoordinatorRefusal}
use Rattle.node_rules.specs.declared.refusal.CoordinatorRefusal.TheVariants.{Store as Failed}
use Rattle.node_rules.specs.Ciphers.{network}
use Rattle.node_rules.specs.Frames.{Down, spelled}
use Rattle.node_rules.specs.Memory.{StationMemory, Memory, Load, Command, address_of, next_hop}
use Rattle.node_rules.specs.MemoryDrafts.{in_memory, with_station, on_station, goes_down, is_commanded}
use Rattle.node_rules.specs.Plans.{Plan, within}
use Rattle.node_rules.specs.Drafts.{Draft, Lack, OfRoom, OfNumbers, empty_draft, refused, sealing, checked, is_awaited, body_goes, waits, seeks_once, goes}
use Rattle.node_rules.specs.Drafts.{with_own_number}
use Rattle.node_rules.specs.JoiningPackets.{command_of}
use Rattle.node_rules.specs.HearingRules.{dropped, dropped_for}
use Rattle.node_rules.specs.Calls as calls
use Rattle.node_rules.specs.Calls.{commands, command_fault, command_frames}
use Rattle.node_rules.specs.Coordinators.{Hearing, says}
use Rattle.node_rules.specs.States.{State}
use Rattle.node_rules.specs.CarriedPlans.{Carries}
use Rattle.node_rules.specs.ComposedPlans.{behind, adding, answer_if_sent, command_alone, HasRoom}
use Rattle.node_rules.proofs.ComposedPlans.{carries_within, carries_behind, carries_stopped, carries_quiet, state_is, sealed_quiet, command_plan, command_units}
use Rattle.node_rules.proofs.ComposedPlans.{room_fault_as, room_seals, room_refuses, carried_whole, carried_cut}
use Rattle.plc_station.specs.Rooms.{room_answer}
use Rattle.plc_station.proofs.CarriedPlans.{at_some}
use Rattle.coordinator.specs.CoordinatorAgreement.{CoordinatorAgreesWith}
use Rattle.coordinator.specs.MeshCommands.{sent_command}
use Rattle.coordinator.specs.JoiningReplies.{RoomToSay, say_fault, done_by, saying, said_after}
use Rattle.coordinator.proofs.CommandRoutes.{at_home, is_some_of}
use Rattle.coordinator.proofs.StoredChanges.{carried_by}

-- # Room for a command

same_lack : (x : Lack) → dropped_send (calls.lacking x) ≡ dropped_for x
same_lack OfRoom = refl
same_lack OfNumbers = refl

pub drop_lacks : (l : StationMemory) (to octets : ℕ) (reason : SendRefusal) (word : Dropped) → address_of l ≡ Some 0
    → Err reason ≡ room_answer (calls.room l to octets) → word ≡ dropped_send reason
    → command_fault dropped dropped_for l to octets ≡ Some word
drop_lacks l to octets reason word home room is =
    sym (room_fault_as to octets dropped dropped_for dropped_send l same_lack refl)
    ∙ ap (option_map dropped_send) (sym (at_home l to octets home) ∙ is_some_of l to (calls.room l to octets) reason room) ∙ ap Some (sym is)

-- # A command

-- a command makes and checks no tag
module _ (l : StationMemory) (own to : ℕ) (load : Load) (now : ℕ) where
  made_by : (hop : Option ℕ) (b : Bool) → next_hop l to ≡ hop → is_awaited l to ≡ b → (command_alone l own to load now).made ≡ []
  unfolding empty_draft body_goes waits seeks_once goes with_own_number
  made_by (Some hop) b e a = rw e refl
  made_by None true e a = rw (e, a) refl
  made_by None false e a = rw (e, a) refl

  opened_by : (hop : Option ℕ) (b : Bool) → next_hop l to ≡ hop → is_awaited l to ≡ b → (command_alone l own to load now).opened ≡ []
  unfolding empty_draft body_goes waits seeks_once goes with_own_number
  opened_by (Some hop) b e a = rw e refl
  opened_by None true e a = rw (e, a) refl
  opened_by None false e a = rw (e, a) refl

  made_none : (command_alone l own to load now).made ≡ []
  made_none = made_by (next_hop l to) (is_awaited l to) refl refl

  opened_none : (command_alone l own to load now).opened ≡ []
  opened_none = opened_by (next_hop l to) (is_awaited l to) refl refl

module _ (m : Memory) (to : ℕ) (join : JoinMessage) (now : ℕ) where
  -- the station's plan
  abbrev Alone : Plan StationMemory (Result SentHow SendRefusal)
  Alone = command_alone m.station 0 to (Command (command_of join)) now

  -- the draft by the address that the coordinator has
  by_own : List Write → TagList → Option ℕ → Draft Memory
  by_own puts tags o = option_map_or (λ own. on_station (commands own to (command_of join) now) (done_by puts m tags)) o (done_by puts m tags)

  pub command_is : {H : Type 0} (puts : List Write) (tags : TagList) (answer : H) → address_of m.station ≡ Some 0
      → adding [] tags.made tags.opened (behind puts (within (λ l. with_station l m) (answer_if_sent dropped answer) Alone))
      ≡ sealing in_memory dropped (says (Mesh to) join now (done_by puts m tags)) answer
  unfolding by_own is_commanded
  command_is puts tags answer home =
      command_plan dropped puts m [] tags.made tags.opened 0 to (Command (command_of join)) now answer
      ∙ (λ i. sealing in_memory dropped (by_own puts tags (sym home i)) answer)

  pub command_long : (puts : List Write) (tags : TagList) → address_of m.station ≡ Some 0
      → length (says (Mesh to) join now (done_by puts m tags)).units ≡ command_frames m.station to
  unfolding by_own is_commanded
  command_long puts tags home =
      ap (λ o. length (by_own puts tags o).units) home ∙ command_units 0 to (command_of join) now puts m [] tags.made tags.opened

  module _ (s t : State Memory) (tags : TagList) (out more : Out) (home : address_of m.station ≡ Some 0) where
    -- it went out or waits
    pub mesh_said : (u : Unit {0}) → Carries s (sent_command m to join now) (Ok u) out t → more ≡ record out { tags = tags }
        → Carries s (saying m (Mesh to) join tags now) (Ok tt) more t
    mesh_said u c is =
        let w = carried_whole s t (sent_command m to join now) u Failed out refl c in
        subst (λ (p : Plan Memory (Result (Unit {0}) Dropped)). Carries s p (Ok tt) more t) (command_is [] tags tt home) (record {
          done = true;
          wrote = w.wrote;
          answer_is = refl;
          out_is = is ∙ (λ i. record {
            frames = ap (λ (o : Out). o.frames) w.out_is i;
            tags = record {
              made = (sym (append-nil tags.made) ∙ ap (λ k. tags.made ++ k) (sym (made_none m.station 0 to (Command (command_of join)) now))) i;
              opened = (sym (append-nil tags.opened) ∙ ap (λ k. tags.opened ++ k) (sym (opened_none m.station 0 to (Command (command_of join)) now))) i;
            };
          });
          new_is = state_is t s.eui (Some (with_station Alone.memory m)) w.eui w.memory;
        })

    -- one of its puts failed
    pub mesh_unsaid : (e : CoordinatorRefusal) → Carries s (sent_command m to join now) (Err e) out t
        → more ≡ record out { tags = record { made = []; opened = tags.opened } }
        → Carries s (saying m (Mesh to) join tags now) (Err dropped.store) more t
    mesh_unsaid e c is =
        let w = carried_cut s t (sent_command m to join now) tt e out refl c in
        subst (λ (p : Plan Memory (Result (Unit {0}) Dropped)). Carries s p (Err dropped.store) more t) (command_is [] tags tt home) (record {
          done = false;
          wrote = w.wrote;
          answer_is = refl;
          out_is = is ∙ (λ i. record {
            frames = ap (λ (o : Out). o.frames) w.out_is i;
            tags = record {
              made = [];
              opened = (sym (append-nil tags.opened) ∙ ap (λ k. tags.opened ++ k) (sym (opened_none m.station 0 to (Command (command_of join)) now))) i;
            };
          });
          new_is = state_is t s.eui None w.eui w.memory;
        })

-- # A plain frame, or nothing

module _ (s : State Memory) (m : Memory) (join : JoinMessage) (tags : TagList) (now : ℕ) (out : Out) (h : CoordinatorAgreesWith m s.store.records)
    (running : s.memory ≡ Some m) where
  pub air_said : (eui : Eui) → out ≡ record { frames = spelled network (Down 0 join) ∷ []; tags = tags }
      → Carries s (saying m (Air eui) join tags now) (Ok tt) out s
  unfolding goes_down
  air_said eui is = carries_quiet dropped s s [] m (Down 0 join ∷ []) tags.made tags.opened tt out h.station.counter.below (wrote_none s.store) is refl running

  pub near_said : (agent : ℕ) → out ≡ record { frames = []; tags = tags } → Carries s (saying m (Near agent) join tags now) (Ok tt) out s
  near_said agent is = carries_quiet dropped s s [] m [] tags.made tags.opened tt out h.station.counter.below (wrote_none s.store) is refl running

-- # After other doings

-- what is answered where it is said
abbrev pub answered : CoordinatorHeard → Result (Unit {0}) Dropped → Result CoordinatorHeard Dropped
answered answer (Ok u) = Ok answer
answered answer (Err reason) = Err dropped.store

same_memory : {M : Type 0} (o : Option M) → option_map (λ (m : M). m) o ≡ o
same_memory None = refl
same_memory (Some m) = refl

-- by another answer
reread : {A B : Type 0} (reads : A → B) (s t : State Memory) (p : Plan Memory A) (answer : A) (out : Out) → Carries s p answer out t
    → Carries s (within (λ (m : Memory). m) reads p) (reads answer) out t
reread {A} {B} reads s t p answer out c =
    subst (λ (k : State Memory). Carries s (within (λ (m : Memory). m) reads p) (reads answer) out k) (λ i. record t { memory = same_memory t.memory i })
    (carries_within (λ (m : Memory). m) reads s s t p answer out refl refl c)

module _ (m n : Memory) (puts : List Write) (tags : TagList) (join : JoinMessage) (now : ℕ) (answer : CoordinatorHeard) (same : n.station ≡ m.station)
    (home : address_of n.station ≡ Some 0) where
  -- the plan of the message alone, after the puts
  abbrev After : Way → Hearing
  After way = behind puts (within (λ (x : Memory). x) (answered answer) (saying n way join tags now))

  after_plan : (way : Way) → After way ≡ sealing in_memory dropped (says way join now (done_by puts n tags)) answer
  unfolding goes_down
  after_plan (Air eui) = refl
  after_plan (Near agent) = refl
  after_plan (Mesh to) =
      ap (λ (p : Plan Memory (Result (Unit {0}) Dropped)). behind puts (within (λ (x : Memory). x) (answered answer) p))
      (sym (command_is n to join now [] tags tt home))
      ∙ command_is n to join now puts tags answer home

  said_plan : (way : Way) → RoomToSay m way join → After way ≡ said_after m way join now (done_by puts n tags) answer
  unfolding checked goes_down
  said_plan (Air eui) room = after_plan (Air eui) ∙ sealed_quiet dropped m (says (Air eui) join now (done_by puts n tags)) answer refl
  said_plan (Near agent) room = after_plan (Near agent) ∙ sealed_quiet dropped m (says (Near agent) join now (done_by puts n tags)) answer refl
  said_plan (Mesh to) room =
      after_plan (Mesh to)
      ∙ room_seals to (length (command_of join)) dropped dropped_for m (says (Mesh to) join now (done_by puts n tags)) answer room
      (command_long n to join now puts tags home ∙ ap (λ (l : StationMemory). command_frames l to) same)

  -- what is lacking for it
  pub lacks_plan : (way : Way) (reason : Dropped) → say_fault m way join ≡ Some reason
      → refused dropped m reason ≡ said_after m way join now (done_by puts n tags) answer
  lacks_plan (Air eui) reason fault = absurd (cc)
  lacks_plan (Near agent) reason fault = absurd (cc)
  lacks_plan (Mesh to) reason fault =
      room_refuses to (length (command_of join)) dropped dropped_for m (says (Mesh to) join now (done_by puts n tags)) answer reason fault
      (command_long n to join now puts tags home ∙ ap (λ (l : StationMemory). command_frames l to) same)

  opened_same : (way : Way) → (saying n way join tags now).opened ≡ tags.opened
  unfolding goes_down
  opened_same (Air eui) = refl
  opened_same (Near agent) = refl
  opened_same (Mesh to) =
      ap (λ (p : Plan Memory (Result (Unit {0}) Dropped)). p.opened) (sym (command_is n to join now [] tags tt home))
      ∙ ap (λ k. tags.opened ++ k) (opened_none n.station 0 to (Command (command_of join)) now) ∙ append-nil tags.opened

  -- one of the puts before it failed
  pub unsaid : (way : Way) (s t : State Memory) (out : Out) → RoomToSay m way join → Wrote s.store puts false t.store → t.eui ≡ s.eui → t.memory ≡ None
      → out ≡ record { frames = []; tags = record { made = []; opened = tags.opened } }
      → Carries s (said_after m way join now (done_by puts n tags) answer) (Err dropped.store) out t
  unsaid way s t out room wrote eui held is =
      carried_by s t (After way) (said_after m way join now (done_by puts n tags) answer) (Err dropped.store) out (said_plan way room)
      (carries_stopped s t puts (saying n way join tags now).puts (After way) out wrote refl
      (is ∙ (λ i. record { frames = []; tags = record { made = []; opened = sym (opened_same way) i } })) eui held)

  -- it was said, or the store failed on the way
  pub said : (way : Way) (s mid t : State Memory) (r : Result (Unit {0}) Dropped) (out : Out) → RoomToSay m way join → Wrote s.store puts true mid.store
      → mid.eui ≡ s.eui → mid.memory ≡ Some n
      → IfSome mid.memory (λ k. Carries mid (saying k way join tags now) r out t)
      → Carries s (said_after m way join now (done_by puts n tags) answer) (answered answer r) out t
  said way s mid t r out room wrote eui held c =
      carried_by s t (After way) (said_after m way join now (done_by puts n tags) answer) (answered answer r) out (said_plan way room)
      (carries_behind s mid t puts (within (λ (x : Memory). x) (answered answer) (saying n way join tags now)) (answered answer r) out wrote (sym eui)
      (reread (answered answer) mid t (saying n way join tags now) r out (at_some mid.memory (λ k. Carries mid (saying k way join tags now) r out t) n held c)))

-- # Room that stays

pub room_stays : (m n : Memory) (way : Way) (join : JoinMessage) → n.station ≡ m.station → RoomToSay m way join → RoomToSay n way join
room_stays m n (Air eui) join same room = tt
room_stays m n (Near agent) join same room = tt
room_stays m n (Mesh to) join same room = subst (λ (l : StationMemory). HasRoom l to (length (command_of join))) (sym same) room

pub room_held : (mid : State Memory) (m n : Memory) (way : Way) (join : JoinMessage) → mid.memory ≡ Some n → n.station ≡ m.station → RoomToSay m way join
    → IfSome mid.memory (λ k. RoomToSay k way join)
room_held mid m n way join held same room = subst (λ (o : Option Memory). IfSome o (λ k. RoomToSay k way join)) (sym held) (room_stays m n way join same room)
