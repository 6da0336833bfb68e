-- A plan that is followed by another one does what both do, one after the other.
use Rattle.std.proofs.Common.{◌≡◌, ℕ, Bool, true, false, List, [], ◌++◌, Option, Some, None, Result, Ok, Err, refl, sym, ap, ◌∙◌, append-nil, subst}
use Rattle.std.specs.Prelude.{if◌then◌else◌, ◌==◌}
use Rattle.std.specs.Option.{option_map_or}
use Rattle.plc_base.specs.declared.address.Eui.{Eui}
use Rattle.mesh_header.specs.declared.unit.Unit.{Unit as MeshUnit}
use Rattle.mesh_header.specs.declared.unit.Unit.TheVariants as units
use Rattle.mesh_header.specs.Reader.{unit_in}
use Rattle.store_tables.specs.Writes.{Written, write}
use Rattle.node_rules.specs.Accepted.{Accepted}
use Rattle.node_rules.specs.declared.heard.Heard.TheVariants as heard_words
use Rattle.node_rules.specs.declared.heard.Path.{Path}
use Rattle.node_rules.specs.declared.heard.Path.TheVariants as paths
use Rattle.node_rules.specs.declared.refusal.Dropped.TheVariants as drops
use Rattle.node_rules.specs.Ciphers.{Ciphers}
use Rattle.node_rules.specs.Coordinators as coordinator_rules
use Rattle.node_rules.specs.Meters as meters
use Rattle.node_rules.specs.Drafts.{choose as choose_plan}
use Rattle.node_rules.specs.HearingRules.{Hearing, drop_it, hear, hear_sealed, hear_unit_in}
use Rattle.node_rules.specs.declared.refusal.LocalRefusal.TheVariants as locals
use Rattle.node_rules.specs.Memory.{StationMemory, Memory, Node, Role, Coordinator, Meter, Stored, address_of}
use Rattle.node_rules.specs.MemoryDrafts.{in_memory, unread, with_station}
use Rattle.node_rules.specs.NodeSteps.{NodeStep, acts, answering, stays, left_by}
use Rattle.node_rules.specs.Plans.{Plan, carry_out, finished, halted as cut_off, outcome_of, resting, within}
use Rattle.reach_rules.specs.CheckedReplies.{acknowledged, acknowledges, message_of, with_check}
use Rattle.reach_rules.specs.ReachingNodes.{ReachHeard, command_answer, followed_by, known_answer, known_plan}
use Rattle.reach_rules.specs.ReachingNodes.{drop_it as drop_reach}
use Rattle.node_rules.specs.Replies.{reply_among}
use Rattle.reach_rules.specs.FurtherReceptions.{NeighbourCommand, command_of, command_on, command_with, hear_by, hear_command, hear_reaching}
use Rattle.reach_rules.specs.declared.refusal.ReachDropped.{ReachDropped}
use Rattle.reach_rules.specs.declared.refusal.ReachDropped.TheVariants as reach_drops
use Rattle.line_rules.specs.Answers.{Reception, coordinator_reception, meter_reception}
use Rattle.line_rules.specs.Further.{reaches, with_beside}
use Rattle.line_rules.specs.Steps.{hearing_step, identity}
use Rattle.line_laws.specs.OnePlan.{AcknowledgesInTurn, ChecksInTurn, CommandsInTurn, IsInTurn, IsSameMove, OthersInTurn}
use Rattle.line_laws.proofs.FurtherForms.{AnyUnits, Goes, IsFurther, Rests}
use Rattle.line_laws.proofs.FurtherSteps.{ack_is}
use Rattle.line_laws.proofs.Quiet.{acts_quiet}
use Rattle.line_laws.proofs.SplitWrites.{write_append}

module _ {A B : Type 0} (p : Memory → Plan Memory A) (next : Memory → Plan Memory B) (none : (m : Memory) → (next m).opened ≡ []) (answer : A) (other : B)
    (role : Role) (eui : Eui) (store : Stored) where
  abbrev node_with : Option Memory → Node
  node_with o = record { role = role; eui = eui; store = store; memory = o }

  opened_so : (m : Memory) → ((p m).opened ++ (next (p m).memory).opened) ≡ (p m).opened
  opened_so m = ap (λ ts. (p m).opened ++ ts) (none (p m).memory) ∙ append-nil (p m).opened

  -- by what became of the writes of the first
  by_first : (m : Memory) (a : Written) (t : Bool) → a.whole ≡ t
      → IsInTurn (left_by (node_with (Some m)) (outcome_of (if a.whole then write (next (p m).memory).puts a.cut a.records else a) (followed_by (p m) next)))
      (left_by (node_with (Some m)) (outcome_of a (p m))) (acts (left_by (node_with (Some m)) (outcome_of a (p m))).node other next)
  unfolding acts carry_out
  by_first m a true e = rw e (by_rest rest.whole refl)
    where
      rest : Written
      rest = write (next (p m).memory).puts a.cut a.records

      left : Node
      left = record (node_with (Some m)) { store = record { records = a.records; cut = a.cut }; memory = Some (p m).memory }

      first : NodeStep A
      first = record { node = left; answer = (p m).answer; frames = (p m).frames; made = (p m).made; opened = (p m).opened }

      by_rest : (t : Bool) → rest.whole ≡ t
          → IsInTurn (left_by (node_with (Some m)) (outcome_of rest (followed_by (p m) next))) first (left_by left (outcome_of rest (next (p m).memory)))
      by_rest true e = rw e (record {
        node = refl;
        opened = opened_so m;
        answers = λ _. refl;
        frames = λ _. refl;
        made = λ _. refl;
        unsent = λ f. absurd (cc (f));
        unmade = λ f. absurd (cc (f));
      })
      by_rest false e = rw e (record {
        node = refl;
        opened = opened_so m;
        answers = λ f. absurd (cc (f));
        frames = λ f. absurd (cc (f));
        made = λ f. absurd (cc (f));
        unsent = λ _. refl;
        unmade = λ _. refl;
      })
  by_first m a false e = rw e (record {
    node = refl;
    opened = opened_so m;
    answers = λ f. absurd (cc (f));
    frames = λ f. absurd (cc (f));
    made = λ f. absurd (cc (f));
    unsent = λ _. refl;
    unmade = λ _. refl;
  })

  in_turn : (o : Option Memory) → IsInTurn (acts (node_with o) answer (λ m. followed_by (p m) next)) (acts (node_with o) answer p)
      (acts (acts (node_with o) answer p).node other next)
  unfolding acts carry_out
  in_turn None = record {
    node = refl;
    opened = refl;
    answers = λ f. absurd (cc (f));
    frames = λ f. absurd (cc (f));
    made = λ f. absurd (cc (f));
    unsent = λ _. refl;
    unmade = λ _. refl;
  }
  in_turn (Some m) = rw (write_append (p m).puts (next (p m).memory).puts store.cut store.records)
      (by_first m (write (p m).puts store.cut store.records) _ refl)

-- an acknowledgement finds no pair tag right
none_opened : {A : Type 0} (m : Memory) (p : Plan Memory A) → IsFurther AnyUnits m p → p.opened ≡ []
unfolding resting
none_opened m p (Rests answer failed) = refl
none_opened m p (Goes answer failed ps us logs says few left) = refl

pub acknowledges_in_turn : {A : Type 0} → AcknowledgesInTurn A
acknowledges_in_turn x halted p reply = in_turn p (acknowledges in_memory reply.to reply.number reply.origin)
    (λ m. none_opened m (acknowledges in_memory reply.to reply.number reply.origin m) (ack_is m reply)) halted (Err locals.Store) x.role x.eui x.store x.memory

-- # A command

-- What a rule does that does nothing: no put, and the memory as it was.
record IsIdle {M A : Type 0} (m : M) (p : Plan M A) : Type 0 where
  puts : p.puts ≡ []
  memory : p.memory ≡ m

-- a node whose rule does nothing is left as it is
acts_idle : {A : Type 0} (x : Node) (halted : A) (plan : Memory → Plan Memory A) → ((m : Memory) → IsIdle m (plan m)) → (acts x halted plan).node ≡ x
unfolding acts carry_out
acts_idle {A} x halted plan idle = by_memory x.memory refl
  where
    by_memory : (o : Option Memory) → x.memory ≡ o
        → (option_map_or (λ m. left_by x (carry_out x.store.records x.store.cut (plan m))) o (stays x halted)).node ≡ x
    by_memory None e = refl
    by_memory (Some m) e =
        (λ i. (left_by x (outcome_of (write ((idle m).puts i) x.store.cut x.store.records) (plan m))).node)
        ∙ (λ i. record x { memory = (ap Some (idle m).memory ∙ sym e) i })

-- a station does nothing about a command, and hands on no joining command of it
station_idle : (l : StationMemory) (got : Accepted) (cost note now : ℕ) (c : NeighbourCommand) → command_of got ≡ Some c
    → IsIdle l (hear l got cost note now) × (unread (hear l got cost note now).answer ≡ None)
unfolding resting choose_plan
station_idle l got cost note now c e = by_path got.path (unit_in got.payload) e
  where
    Idle : Hearing → Type 0
    Idle p = IsIdle l p × (unread p.answer ≡ None)

    by_code : (own from : ℕ) (all : Bool) (code : ℕ) (body : List ℕ) (s t : Bool) (m p : Hearing)
        → (if s then None else (if t then None else Some (record { from = from; to_all = all; code = code; body = body }))) ≡ Some c
        → Idle (if s then m else (if t then p else resting l (Ok (heard_words.Local from all code body)) (Err drops.Store)))
    by_code own from all code body true t m p is = absurd (cc (is))
    by_code own from all code body false true m p is = absurd (cc (is))
    by_code own from all code body false false m p is = (record { puts = refl; memory = refl }, refl)

    by_address : (o : Option ℕ) (from : ℕ) (all : Bool) (unit : MeshUnit) → command_with from all (Some unit) ≡ Some c
        → Idle (option_map_or (λ a. hear_sealed l a from all unit cost note now) o (drop_it l drops.BadUnit))
    by_address None from all unit is = (record { puts = refl; memory = refl }, refl)
    by_address (Some own) from all (units.Local code body) is = by_code own from all code body (code == 1) (code == 2) _ _ is
    by_address (Some own) from all (units.Whole mesh octets) is = absurd (cc (is))
    by_address (Some own) from all (units.Part mesh piece) is = absurd (cc (is))
    by_address (Some own) from all (units.Carried mesh body) is = absurd (cc (is))

    by_path : (p : Path) (o : Option MeshUnit) → command_on p o ≡ Some c → Idle (hear_unit_in l p o cost note now)
    by_path p None is = (record { puts = refl; memory = refl }, refl)
    by_path (paths.Sealed from all key) (Some unit) is = by_address (address_of l) from all unit is
    by_path (paths.Up from) (Some unit) is = absurd (cc (is))
    by_path (paths.Down from) (Some unit) is = absurd (cc (is))

-- a node that hears a command by its rule for other frames is left as it is
hears_idle : (ciphers : Ciphers) (x : Node) (got : Accepted) (cost note now : ℕ) (c : NeighbourCommand) → command_of got ≡ Some c
    → (hearing_step ciphers x got cost note now).node ≡ x
hears_idle ciphers x got cost note now c e = by_role x.role
  where
    hears_as : Role → NodeStep Reception
    hears_as Coordinator = answering coordinator_reception
        (acts x (Err drops.Store) (λ m. coordinator_rules.hear_coordinator (record { eui = x.eui; ciphers = ciphers }) m got cost note now))
    hears_as (Meter psk) = answering meter_reception (acts x (Err drops.Store) (λ m. meters.hear_meter (identity ciphers x psk) m got cost note now))

    coordinator_idle : (own : coordinator_rules.CoordinatorIdentity) (m : Memory) → IsIdle m (coordinator_rules.hear_coordinator own m got cost note now)
    coordinator_idle own m =
        let s = station_idle m.station got cost note now c e in
        subst (λ o. IsIdle m (coordinator_rules.heard_by own m now (hear m.station got cost note now) o)) (sym s.1)
        (record { puts = s.0.puts; memory = ap (λ l. with_station l m) s.0.memory })

    meter_idle : (own : meters.Identity) (m : Memory) → IsIdle m (meters.hear_meter own m got cost note now)
    meter_idle own m =
        let s = station_idle m.station got cost note now c e in
        subst (λ o. IsIdle m (meters.heard_by own m now (hear m.station got cost note now) o)) (sym s.1)
        (record { puts = s.0.puts; memory = ap (λ l. with_station l m) s.0.memory })

    by_role : (role : Role) → (hears_as role).node ≡ x
    by_role Coordinator = acts_idle x (Err drops.Store)
        (λ m. coordinator_rules.hear_coordinator (record { eui = x.eui; ciphers = ciphers }) m got cost note now)
        (coordinator_idle (record { eui = x.eui; ciphers = ciphers }))
    by_role (Meter psk) = acts_idle x (Err drops.Store) (λ m. meters.hear_meter (identity ciphers x psk) m got cost note now)
        (meter_idle (identity ciphers x psk))

-- a plan whose answer is read as another one
same_move : {A B : Type 0} (reads : B → A) (x : Node) (halted : B) (plan : Memory → Plan Memory B)
    → IsSameMove reads (acts x (reads halted) (λ m. within (λ z. z) reads (plan m))) (acts x halted plan)
unfolding acts carry_out
same_move reads x halted plan = by_memory x.memory
  where
    by_memory : (o : Option Memory) → IsSameMove reads
        (option_map_or (λ m. left_by x (carry_out x.store.records x.store.cut (within (λ z. z) reads (plan m)))) o (stays x (reads halted)))
        (option_map_or (λ m. left_by x (carry_out x.store.records x.store.cut (plan m))) o (stays x halted))
    by_memory None = record { node = refl; answer = refl; frames = refl; made = refl; opened = refl }
    by_memory (Some m) = by_whole (write (plan m).puts x.store.cut x.store.records)
      where
        by_whole : (a : Written) → IsSameMove reads (left_by x (outcome_of a (within (λ z. z) reads (plan m)))) (left_by x (outcome_of a (plan m)))
        by_whole a = by_test a.whole
          where
            by_test : (t : Bool) → IsSameMove reads
                (left_by x (if t then finished a (within (λ z. z) reads (plan m)) else cut_off a (within (λ z. z) reads (plan m))))
                (left_by x (if t then finished a (plan m) else cut_off a (plan m)))
            by_test true = record { node = refl; answer = refl; frames = refl; made = refl; opened = refl }
            by_test false = record { node = refl; answer = refl; frames = refl; made = refl; opened = refl }

pub commands_in_turn : {H : Type 0} → CommandsInTurn H
commands_in_turn {H} ciphers x b on got cost note now c e p =
    subst (λ z. IsSameMove command_answer (reaches x b halted (λ y. hear_reaching in_memory on y got now (p y.memory)))
    (reaches z b (Err (reach_drops.Known drops.Store)) (λ y. hear_command in_memory y c))) (sym (hears_idle ciphers x got cost note now c e))
    (subst (λ o. IsSameMove command_answer (reaches x b halted (λ y. hear_by in_memory on y got now (p y.memory) o))
    (reaches x b (Err (reach_drops.Known drops.Store)) (λ y. hear_command in_memory y c))) (sym e)
    (same_move command_answer x (Err (reach_drops.Known drops.Store)) (with_beside b (λ y. hear_command in_memory y c))))
  where
    halted : Result (ReachHeard H) ReachDropped
    halted = Err (reach_drops.Known drops.Store)

pub others_in_turn : {H : Type 0} → OthersInTurn H
unfolding choose_plan
others_in_turn {H} x b got now e p =
    subst (λ o. IsSameMove known_answer (reaches x b halted (λ y. hear_by in_memory false y got now (p y.memory) o)) (acts x (Err drops.Store) p)) (sym e)
    (same_move known_answer x (Err drops.Store) p)
  where
    halted : Result (ReachHeard H) ReachDropped
    halted = Err (reach_drops.Known drops.Store)

pub checks_in_turn : {H : Type 0} → ChecksInTurn H
unfolding choose_plan resting
checks_in_turn {H} x b got now e p = (
  λ listed. (
    subst (λ o. (hearing_step_of o).node ≡ x) (sym e) (subst (λ t. (checked_by t).node ≡ x) (sym listed)
        (acts_idle x halted (with_beside b (λ y. drop_reach y reach_drops.Blacklisted)) (λ m. record { puts = refl; memory = refl }))),
    subst (λ o. (hearing_step_of o).frames ≡ []) (sym e) (subst (λ t. (checked_by t).frames ≡ []) (sym listed)
        (acts_quiet x halted (with_beside b (λ y. drop_reach y reach_drops.Blacklisted)) (λ m. refl))),
  ),
  λ other. subst (λ o. IsSameMove known_answer (hearing_step_of o) (acts x (Err drops.Store) (λ m. acknowledged in_memory got.path (message_of got) (p m))))
      (sym e)
      (subst (λ t. IsSameMove known_answer (checked_by t) (acts x (Err drops.Store) (λ m. acknowledged in_memory got.path (message_of got) (p m)))) (sym other)
      (same_move known_answer x (Err drops.Store) (λ m. acknowledged in_memory got.path (message_of got) (p m)))),
)
  where
    halted : Result (ReachHeard H) ReachDropped
    halted = Err (reach_drops.Known drops.Store)

    hearing_step_of : Option NeighbourCommand → NodeStep (Result (ReachHeard H) ReachDropped)
    hearing_step_of o = reaches x b halted (λ y. hear_by in_memory true y got now (p y.memory) o)

    -- what is done where checks are on, by whether the frame is such a request
    checked_by : Bool → NodeStep (Result (ReachHeard H) ReachDropped)
    checked_by t = reaches x b halted (λ y. choose_plan t (drop_reach y reach_drops.Blacklisted)
        (with_check (reply_among (p y.memory).frames) now (known_plan y (acknowledged in_memory got.path (message_of got) (p y.memory)))))
