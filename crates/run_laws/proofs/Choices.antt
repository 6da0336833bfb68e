-- A choice, by the plan of its event and the histories of scans.
use Rattle.std.proofs.Common.{◌≡◌, ⊎_elim, ℕ, zero, suc, ◌<◌, Bool, true, false, List, [], ◌∷◌, ◌++◌, length, Option, Some, None, Result, Ok, Err, refl, sym}
use Rattle.std.proofs.Common.{ap, ◌∙◌, subst, arith}
use Rattle.std.specs.Prelude.{IfSome, is_some, if◌then◌else◌, slice_get, ◌==◌}
use Rattle.std.specs.Option.{option_map_or}
use Rattle.store_tables.proofs.SlotTables.{slice_get-set}
use Rattle.plc_base.specs.declared.key.Key.{Key}
use Rattle.pan_discovery.specs.Agents.{kth_of}
use Rattle.pan_discovery.specs.History.{Scanned}
use Rattle.node_rules.specs.declared.refusal.JoinRefusal.{JoinRefusal}
use Rattle.node_rules.specs.declared.refusal.JoinRefusal.TheVariants as joins
use Rattle.node_rules.specs.Ciphers.{Ciphers, network}
use Rattle.node_rules.specs.Drafts.{choose, empty_draft}
use Rattle.node_rules.specs.Laws.{IsCutOff, IsWhole}
use Rattle.node_rules.specs.Memory.{ByAgent, Memory, MeterSession, Node}
use Rattle.node_rules.specs.MemoryDrafts.{goes_up, with_memory_by}
use Rattle.node_rules.specs.Meters as meters
use Rattle.node_rules.specs.NodeSteps.{NodeStep, acts, left_by, stays}
use Rattle.node_rules.specs.Plans.{Plan, carry_out, resting}
use Rattle.node_rules.proofs.FailedWrites.{clean}
use Rattle.reach_rules.specs.declared.refusal.ChooseRefusal.{ChooseRefusal}
use Rattle.reach_rules.specs.declared.refusal.ChooseRefusal.TheVariants as choices
use Rattle.reach_rules.specs.Beacons.{ChosenAgent, choose_agent, chosen, joins_by}
use Rattle.reach_rules.specs.ReachingNodes.{Beside, Reaching}
use Rattle.line_events.specs.declared.event.Event.{Event}
use Rattle.line_events.specs.declared.event.Event.TheVariants as events
use Rattle.line_events.specs.declared.event.StepFault.TheVariants as faults
use Rattle.line_events.specs.declared.happenings.AgentLine.{AgentLine}
use Rattle.line_rules.specs.Further.{agent_line, beside_at, choice_word, chooses_by, line_step, reaches, with_beside}
use Rattle.line_rules.specs.Further as further
use Rattle.line_rules.specs.FurtherRuns.{AreOfHistoryAfter, IsOfHistory}
use Rattle.line_rules.specs.Runs.{Entry, IsRun}
use Rattle.line_rules.specs.Steps.{Step, has_begun, identity, psk_of, world_after}
use Rattle.line_rules.specs.Worlds.{World, node_at}
use Rattle.run_laws.specs.Choices.{AreChosenRightAfter, IsChosen, IsChosenRight, JoinsBy, is_asked}

-- # What a good answer of a choice says

-- What a meter remembers that has chosen.
record Chose (y : Reaching Memory) (k : ℕ) (agent : ChosenAgent) (left : Reaching Memory) : Type 0 where
  kth : kth_of y.beside.scan.agents k ≡ Some (agent.address, agent.total)
  session : MeterSession
  is : left.memory.session ≡ Some session
  by : session.session_way ≡ ByAgent agent.address

module _ (own : meters.Identity) (y : Reaching Memory) (k now : ℕ) where
  not_ok : {A E : Type 0} (e : E) (a : A) → Err e ≡ Ok a → ⊥
  not_ok e a h = cc

  -- a refusal of joining is one of choosing
  refuses : (agent a : ChosenAgent) (r : JoinRefusal) → chosen agent (Err r) ≡ Ok a → ⊥
  refuses agent a joins.Halted e = not_ok choices.Halted a e
  refuses agent a joins.AlreadyJoined e = not_ok choices.AlreadyJoined a e

  joined_by : (address total : ℕ) (a : ChosenAgent) → kth_of y.beside.scan.agents k ≡ Some (address, total)
      → (joins_by own y now (Some (address, total))).answer ≡ Ok a → Chose y k a (joins_by own y now (Some (address, total))).memory
  unfolding choose resting goes_up with_memory_by empty_draft
  joined_by address total a is e = by_test (meters.is_joined y.memory) refl e
    where
      by_test : (b : Bool) → meters.is_joined y.memory ≡ b → (joins_by own y now (Some (address, total))).answer ≡ Ok a
          → Chose y k a (joins_by own y now (Some (address, total))).memory
      by_test true t e = absurd (refuses (record { address = address; total = total }) a joins.AlreadyJoined (rw t at e))
      by_test false t e =
          let f : Ok (record { address = address; total = total }) ≡ Ok a = rw t at e in
          let same : record { address = address; total = total } ≡ a = cc in
          subst (λ (c : ChosenAgent). Chose y k c (joins_by own y now (Some (address, total))).memory) same
          (rw t (record { kth = is; session = record { session_way = ByAgent address; peer = None; since = now }; is = refl; by = refl }))

  chose : (a : ChosenAgent) → (choose_agent own y k now).answer ≡ Ok a → Chose y k a (choose_agent own y k now).memory
  unfolding choose resting
  chose a e = by_test (meters.is_joined y.memory) refl e
    where
      by_kth : (o : Option (ℕ × ℕ)) → kth_of y.beside.scan.agents k ≡ o → (joins_by own y now o).answer ≡ Ok a → Chose y k a (joins_by own y now o).memory
      by_kth None is e = absurd (not_ok choices.NoBeacon a e)
      by_kth (Some p) is e = joined_by p.0 p.1 a is e

      by_test : (b : Bool) → meters.is_joined y.memory ≡ b → (choose_agent own y k now).answer ≡ Ok a → Chose y k a (choose_agent own y k now).memory
      by_test true t e = absurd (not_ok choices.AlreadyJoined a (rw t at e))
      by_test false t e = rw t (by_kth (kth_of y.beside.scan.agents k) refl (rw t at e))

  -- where a write fails the answer is none
  fails : (a : ChosenAgent) → (choose_agent own y k now).failed ≡ Ok a → ⊥
  unfolding choose resting
  fails a e = by_test (meters.is_joined y.memory) refl e
    where
      by_kth : (o : Option (ℕ × ℕ)) → meters.is_joined y.memory ≡ false → (joins_by own y now o).failed ≡ Ok a → ⊥
      by_kth None t e = not_ok choices.Halted a e
      by_kth (Some p) t e = refuses (record { address = p.0; total = p.1 }) a joins.Halted (rw t at e)

      by_test : (b : Bool) → meters.is_joined y.memory ≡ b → (choose_agent own y k now).failed ≡ Ok a → ⊥
      by_test true t e = not_ok choices.Halted a (rw t at e)
      by_test false t e = by_kth (kth_of y.beside.scan.agents k) t (rw t at e)

-- # A node that chose

-- A node after a good answer runs, and remembers what its plan says.
record Ran (x : Node) (b : Beside) (own : meters.Identity) (k now : ℕ) (a : ChosenAgent) (left : Node) : Type 0 where
  memory : Memory
  there : x.memory ≡ Some memory
  answer : (choose_agent own (record { memory = memory; beside = b }) k now).answer ≡ Ok a
  runs : left.memory ≡ Some (choose_agent own (record { memory = memory; beside = b }) k now).memory.memory

abbrev choice : Node → Beside → meters.Identity → (k now : ℕ) → NodeStep (Result ChosenAgent ChooseRefusal)
choice x b own k now = reaches x b (Err choices.Halted) (λ y. choose_agent own y k now)

ran : (x : Node) (b : Beside) (own : meters.Identity) (k now : ℕ) (a : ChosenAgent) → (choice x b own k now).answer ≡ Ok a
    → Ran x b own k now a (choice x b own k now).node
unfolding acts
ran x b own k now a = by_memory x.memory refl
  where
    plan : Memory → Plan Memory (Result ChosenAgent ChooseRefusal)
    plan = with_beside b (λ y. choose_agent own y k now)

    by_memory : (o : Option Memory) → x.memory ≡ o
        → (option_map_or (λ m. left_by x (carry_out x.store.records x.store.cut (plan m))) o (stays x (Err choices.Halted))).answer ≡ Ok a
        → Ran x b own k now a (option_map_or (λ m. left_by x (carry_out x.store.records x.store.cut (plan m))) o (stays x (Err choices.Halted))).node
    by_memory None there e = absurd (cc)
    by_memory (Some m) there e = ⊎_elim
        (λ (h : IsWhole x.store.records x.store.cut (plan m) (carry_out x.store.records x.store.cut (plan m))).
        record { memory = m; there = there; answer = sym h.answer ∙ e; runs = h.memory })
        (λ (h : IsCutOff x.store.records x.store.cut (plan m) (carry_out x.store.records x.store.cut (plan m))). absurd
        (fails own (record { memory = m; beside = b }) k now a (sym h.answer ∙ e)))
        (clean x.store.records x.store.cut (plan m))

-- # The event

-- an agent that is reported stands at its place among those of the node, and the meter joins by it
abbrev IsOfScan : World → (v : World) → (number k : ℕ) → AgentLine → Type 0
IsOfScan w v number k line =
    (line.node ≡ number) × (kth_of (beside_at w number).scan.agents k ≡ Some (line.address, line.total)) × JoinsBy v number line.address

abbrev ChoiceIn : World → (number k : ℕ) → Step → Type 0
ChoiceIn w number k (Ok r) = (is_some r.1.happenings.agent ≡ is_asked r.1.happenings.answer) × IfSome r.1.happenings.agent (IsOfScan w r.0 number k)
ChoiceIn w number k (Err fault) = Unit {0}

within : {A : Type 0} (xs : List A) (n : ℕ) (x : A) → slice_get xs n ≡ Some x → n < length xs
within [] n x e = absurd (cc)
within (y ∷ ys) zero x e = omega arith
within (y ∷ ys) (suc n) x e = let less = within ys n x e in omega arith

module _ (ciphers : Ciphers) (w : World) (number k : ℕ) where
  by_psk : (x : Node) → node_at w number ≡ Some x → (o : Option Key) → ChoiceIn w number k (Ok (chooses_by ciphers w number x k o))
  unfolding world_after
  by_psk x there None = (refl, tt)
  by_psk x there (Some psk) = by_answer (choice x (beside_at w number) (identity ciphers x psk) k w.clock).answer refl
    where
      b : Beside
      b = beside_at w number

      d : NodeStep (Result ChosenAgent ChooseRefusal)
      d = choice x b (identity ciphers x psk) k w.clock

      after : World
      after = (chooses_by ciphers w number x k (Some psk)).0

      left_there : node_at after number ≡ Some d.node
      left_there = slice_get-set w.nodes number d.node (within w.nodes number x there)

      joins : (a : ChosenAgent) → d.answer ≡ Ok a → Ran x b (identity ciphers x psk) k w.clock a d.node
          → (kth_of b.scan.agents k ≡ Some (a.address, a.total)) × JoinsBy after number a.address
      joins a e r =
          let y : Reaching Memory = record { memory = r.memory; beside = b } in
          let c = chose (identity ciphers x psk) y k w.clock a r.answer in (
            c.kth,
            record {
              node = d.node;
              there = left_there;
              memory = (choose_agent (identity ciphers x psk) y k w.clock).memory.memory;
              runs = r.runs;
              session = c.session;
              is = c.is;
              by = c.by;
            },
          )

      by_answer : (answer : Result ChosenAgent ChooseRefusal) → d.answer ≡ answer → ChoiceIn w number k (Ok (chooses_by ciphers w number x k (Some psk)))
      by_answer (Ok a) e =
          let j = joins a e (ran x b (identity ciphers x psk) k w.clock a e) in (
            ap (λ z. is_some (agent_line number z)) e ∙ sym (ap (λ z. is_asked (choice_word z)) e),
            subst (λ z. IfSome (agent_line number z) (IsOfScan w after number k)) (sym e) (refl, j.0, j.1),
          )
      by_answer (Err reason) e = (
        ap (λ z. is_some (agent_line number z)) e ∙ by_reason reason ∙ sym (ap (λ z. is_asked (choice_word z)) e),
        subst (λ z. IfSome (agent_line number z) (IsOfScan w after number k)) (sym e) tt,
      )
        where
          by_reason : (reason : ChooseRefusal) → false ≡ is_asked (choice_word (Err reason))
          by_reason choices.Halted = refl
          by_reason choices.AlreadyJoined = refl
          by_reason choices.NoBeacon = refl

  choice_in : ChoiceIn w number k (line_step ciphers w (events.Choose number k))
  unfolding further.choose
  choice_in = by_begun (has_begun w) (number == 0) (node_at w number) refl
    where
      by_begun : (begun first : Bool) (o : Option Node) → node_at w number ≡ o
          → ChoiceIn w number k (if begun then (if first then Err faults.Node else option_map_or (λ x. Ok (chooses_by ciphers w number x k (psk_of x))) o
          (Err faults.Node)) else Err faults.Setup)
      by_begun false first o there = tt
      by_begun true true o there = tt
      by_begun true false None there = tt
      by_begun true false (Some x) there = by_psk x there (psk_of x)

-- # Runs

of_history : (before : List Entry) (w : World) (number k : ℕ) (v : World) (line : AgentLine) → IsOfHistory before w → IsOfScan w v number k line
    → IsChosen before v number k line
of_history before w number k v line of h = record {
  node = h.0;
  kth = subst (λ (s : Scanned). kth_of s.agents k ≡ Some (line.address, line.total)) (of.scan number) h.1;
  joins = h.2;
}

right_by : (before : List Entry) (w : World) → IsOfHistory before w → (x : Entry) → line_step network w x.event ≡ Ok (x.after, x.trace)
    → (event : Event) → x.event ≡ event → IsChosenRight before x event
right_by before w of x step (events.Choose number k) is =
    let h : ChoiceIn w number k (Ok (x.after, x.trace)) =
    subst (ChoiceIn w number k) (ap (line_step network w) (sym is) ∙ step) (choice_in network w number k) in
    (h.0, by_line x.trace.happenings.agent h.1)
  where
    by_line : (o : Option AgentLine) → IfSome o (IsOfScan w x.after number k) → IfSome o (IsChosen before x.after number k)
    by_line None h = tt
    by_line (Some line) h = of_history before w number k x.after line of h
right_by before w of x step _ is = tt

pub chosen_from : (before : List Entry) (w : World) → IsOfHistory before w → (entries : List Entry) → IsRun network w entries
    → AreOfHistoryAfter before entries → AreChosenRightAfter before entries
chosen_from before w of [] run after = tt
chosen_from before w of (x ∷ xs) run after =
    (right_by before w of x run.2 x.event refl, chosen_from (before ++ x ∷ []) x.after after.0 xs run.3 after.1)
