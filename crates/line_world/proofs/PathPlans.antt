-- What a station does about commands that it hears: a plan that sends one command at most, or changes only what stands beside it.
use Rattle.std.proofs.Common.{◌≡◌, ℕ, Bool, true, false, List, [], ◌∷◌, Option, Some, None, Result, Ok, Err, refl, sym, ap, subst, ◌∙◌, arith}
use Rattle.std.specs.Prelude.{◌==◌, ◌≢◌, IfSome, MatchResult, OnErr, is_err, is_some, nat_lt, if◌then◌else◌}
use Rattle.std.specs.Option.{option_map, option_map_or}
use Rattle.std.proofs.lemmas.Bool.{eq-eqb, ne_eqb}
use Rattle.plc_base.specs.Grant.{Granted}
use Rattle.group_keys.specs.KeyRing.{Ring}
use Rattle.plc_base.specs.declared.out_frame.Out.{Out}
use Rattle.neighbour_checks.specs.Acks.{ack_in}
use Rattle.neighbour_checks.specs.Neighbours.{Neighbours, acked_after, is_awaited}
use Rattle.broadcast_log.specs.Log.{Log, empty_log}
use Rattle.path_requests.specs.declared.message.PathMessage.{PathMessage}
use Rattle.path_requests.specs.declared.message.PathMessage.TheVariants.{Ask}
use Rattle.path_requests.specs.Messages.{path_spelling}
use Rattle.path_requests.specs.Reader.{path_in}
use Rattle.path_requests.specs.PathSteps.{taken}
use Rattle.node_rules.specs.declared.refusal.Dropped.TheVariants.{BadUnit, Store, CounterSpent}
use Rattle.node_rules.specs.declared.refusal.LocalRefusal.{LocalRefusal}
use Rattle.node_rules.specs.declared.refusal.LocalRefusal.TheVariants as locals
use Rattle.node_rules.specs.CarriedPlans.{Carries, given, nothing}
use Rattle.node_rules.specs.Drafts.{alone, choose, counters_left, empty_draft, goes, refused, sealed, sealing}
use Rattle.node_rules.specs.Memory.{StationMemory, address_of, station_route}
use Rattle.node_rules.specs.Neighbours.{CarriesAfter, followed, local_draft, local_ends, send_local}
use Rattle.node_rules.specs.Plans.{Plan, resting, within}
use Rattle.node_rules.specs.States.{State}
use Rattle.plc_station.proofs.CarriedPlans.{at_some, resting_carried}
use Rattle.reach_rules.specs.declared.heard.CommandHeard.{CommandHeard}
use Rattle.reach_rules.specs.declared.heard.CommandHeard.TheVariants as commands
use Rattle.reach_rules.specs.declared.refusal.AskRefusal.{AskRefusal}
use Rattle.reach_rules.specs.declared.refusal.AskRefusal.TheVariants as asks
use Rattle.reach_rules.specs.declared.refusal.ReachDropped.{ReachDropped}
use Rattle.reach_rules.specs.declared.refusal.ReachDropped.TheVariants.{Known, NotAwaited}
use Rattle.reach_rules.specs.Broadcasts.{hear_broadcast}
use Rattle.reach_rules.specs.CheckedReplies.{hear_acknowledgement, hear_acknowledgement_in}
use Rattle.reach_rules.specs.PathRequests.{ask_ends, ask_path, follows_path, hear_path, hear_path_in, next_toward, send_path}
use Rattle.reach_rules.specs.ReachingNodes.{Beside, Reaching, drop_it, reach_ends, remembers, with_checks}
use Rattle.reach_rules.specs.FurtherReceptions.{NeighbourCommand, hear_command, hear_command_at}
use Rattle.line_rules.specs.Answers.{reach_drop_word}
use Rattle.line_rules.specs.Further.{without_log}
use Rattle.line_world.specs.declared.nodes.command.Commanded.{Commanded}
use Rattle.line_world.specs.declared.nodes.station_further.PathHeard.{PathHeard}
use Rattle.line_world.specs.FurtherOutcomes.{EndsCheck, Reaches, ReachesCommand, ReachesFirst, ReportsCommand, answer_as, beside_left, check_ended, of_held}
use Rattle.line_world.specs.FurtherOutcomes.{path_heard, ended_by}
use Rattle.line_world.proofs.FurtherPlans.{asks_hop, before_stays, checks_alone, ends_awaited, ends_unawaited, none_stayed, own_of, sealed_answer, sent_after}
use Rattle.line_world.proofs.FurtherPlans.{sent_first, some_is, local_answer}

-- # What then stands beside a station

-- a halted one knows nothing of its log
pub log_left : (running : Bool) (b : Beside) (log : Log) → log ≡ (if running then b.log else empty_log)
    → record b { log = log } ≡ (if running then b else without_log b)
log_left running b log is = ap (λ (l : Log). record b { log = l }) is ∙ by running
  where
    by : (r : Bool) → record b { log = if r then b.log else empty_log } ≡ (if r then b else without_log b)
    by true = refl
    by false = refl

-- # Answers

-- a command that was sent, in the words of a command that was heard
pub sent_ended : (heard : PathHeard) (sent : Result (Unit {0}) LocalRefusal) (dropped : Result (Unit {0}) ReachDropped) (result : Result PathHeard ReachDropped)
    → dropped ≡ ended_by (Known CounterSpent) (Known Store) sent → result ≡ answer_as (λ _. heard) dropped
    → local_answer reach_ends (path_heard heard) sent ≡ answer_as path_heard result
sent_ended heard sent dropped result is answers =
    by sent ∙ sym (ap (λ (r : Result (Unit {0}) ReachDropped). answer_as path_heard (answer_as (λ _. heard) r)) is) ∙ sym (ap (answer_as path_heard) answers)
  where
    by : (r : Result (Unit {0}) LocalRefusal)
        → local_answer reach_ends (path_heard heard) r ≡ answer_as path_heard (answer_as (λ _. heard) (ended_by (Known CounterSpent) (Known Store) r))
    by (Ok u) = refl
    by (Err locals.Halted) = refl
    by (Err locals.NotJoined) = refl
    by (Err locals.CounterSpent) = refl
    by (Err locals.Store) = refl

pub ask_ended : (sent : Result (Unit {0}) LocalRefusal) → local_answer ask_ends tt sent ≡ ended_by asks.CounterSpent asks.Store sent
ask_ended (Ok u) = refl
ask_ended (Err locals.Halted) = refl
ask_ended (Err locals.NotJoined) = refl
ask_ended (Err locals.CounterSpent) = refl
ask_ended (Err locals.Store) = refl

-- nothing but a word is reported of a command that is dropped
pub only_dropped : (reported : Commanded) (number : ℕ) (reason : ReachDropped) → reported ≡ record { answer = reach_drop_word reason; bup = None; path = None }
    → ReportsCommand reported number (Err reason)
only_dropped reported number reason is =
    record { answer = ap (λ (t : Commanded). t.answer) is; bup = ap (λ (t : Commanded). t.bup) is; path = ap (λ (t : Commanded). t.path) is }

-- # Plans of a station

carried_as : {A : Type 0} (s t : State StationMemory) (b : Beside) (answer : A) (before out : Out)
    (p q : Reaching StationMemory → Plan (Reaching StationMemory) A)
    → ((l : StationMemory) → s.memory ≡ Some l → p (record { memory = l; beside = b }) ≡ q (record { memory = l; beside = b })) → (o : Option StationMemory)
    → s.memory ≡ o
    → IfSome o (λ l. CarriesAfter s (of_held b p l) answer before out t) → IfSome o (λ l. CarriesAfter s (of_held b q l) answer before out t)
carried_as {A} s t b answer before out p q same None e h = tt
carried_as {A} s t b answer before out p q same (Some l) e h =
    subst (λ (k : Plan (Reaching StationMemory) A). CarriesAfter s (within (λ y. y.memory) (λ a. a) k) answer before out t) (same l e) h

beside_as : {A : Type 0} (s t : State StationMemory) (b c : Beside) (p q : Reaching StationMemory → Plan (Reaching StationMemory) A)
    → ((l : StationMemory) → s.memory ≡ Some l → p (record { memory = l; beside = b }) ≡ q (record { memory = l; beside = b })) → (o : Option StationMemory)
    → s.memory ≡ o
    → IfSome o (λ l. c ≡ beside_left b p l t.memory) → IfSome o (λ l. c ≡ beside_left b q l t.memory)
beside_as {A} s t b c p q same None e h = tt
beside_as {A} s t b c p q same (Some l) e h =
    subst (λ (k : Plan (Reaching StationMemory) A). c ≡ (if is_some t.memory then k.memory.beside else without_log b)) (same l e) h

-- one plan is another where the station runs
pub reaches_as : {A : Type 0} {s t : State StationMemory} {b c : Beside} {halted answer : A} {before out : Out}
    (p q : Reaching StationMemory → Plan (Reaching StationMemory) A)
    → ((l : StationMemory) → s.memory ≡ Some l → p (record { memory = l; beside = b }) ≡ q (record { memory = l; beside = b }))
    → Reaches s b halted p answer before out t c → Reaches s b halted q answer before out t c
reaches_as {A} {s} {t} {b} {c} {halted} {answer} {before} {out} p q same r = record {
  stayed = r.stayed;
  carried = carried_as s t b answer before out p q same s.memory refl r.carried;
  beside = beside_as s t b c p q same s.memory refl r.beside;
}

pub command_as : {s t : State StationMemory} {b c : Beside} {reported : Commanded} {number : ℕ} {before out : Out}
    (p q : Reaching StationMemory → Plan (Reaching StationMemory) (Result CommandHeard ReachDropped))
    → ((l : StationMemory) → s.memory ≡ Some l → p (record { memory = l; beside = b }) ≡ q (record { memory = l; beside = b }))
    → ReachesCommand s b p reported number before out t c → ReachesCommand s b q reported number before out t c
command_as p q same r = record { answer = r.answer; reports = r.reports; reaches = reaches_as p q same r.reaches }

-- nothing is stored or sent, and this then stands beside the station
pub remembers_after : {A : Type 0} (s : State StationMemory) (b c : Beside) (halted : A) (plan : Reaching StationMemory → Plan (Reaching StationMemory) A)
    (l : StationMemory) (answer failed : A) (before : Out)
    → s.memory ≡ Some l → plan (record { memory = l; beside = b }) ≡ resting (record { memory = l; beside = c }) answer failed
    → Reaches s b halted plan answer before before s c
unfolding resting
remembers_after {A} s b c halted plan l answer failed before running is = record {
  stayed = none_stayed s b halted plan l running _;
  carried = some_is s b halted plan l running (λ k. CarriesAfter s (of_held b plan k) answer before before s) (record {
    added = nothing;
    carries = subst (λ (p : Plan (Reaching StationMemory) A). Carries s (within (λ y. y.memory) (λ a. a) p) answer nothing s) (sym is)
        (resting_carried s l answer failed running);
    out_is = subst (λ (o : Option StationMemory). before ≡ (if is_some o then followed before nothing else nothing)) (sym running)
        (before_stays s b halted plan l running before);
  });
  beside = some_is s b halted plan l running (λ k. c ≡ beside_left b plan k s.memory)
      (subst (λ (o : Option StationMemory). c ≡ beside_left b plan l o) (sym running) (sym (ap (λ (p : Plan (Reaching StationMemory) A). p.memory.beside) is)));
}

-- a command is dropped, and this is reported of it
pub dropped_after : (s : State StationMemory) (b : Beside) (plan : Reaching StationMemory → Plan (Reaching StationMemory) (Result CommandHeard ReachDropped))
    (l : StationMemory) (reason : ReachDropped)
    (reported : Commanded) (number : ℕ) (before : Out) → s.memory ≡ Some l
    → plan (record { memory = l; beside = b }) ≡ drop_it (record { memory = l; beside = b }) reason
    → reported ≡ record { answer = reach_drop_word reason; bup = None; path = None } → ReachesCommand s b plan reported number before before s b
dropped_after s b plan l reason reported number before running is only = record {
  answer = Err reason;
  reports = only_dropped reported number reason only;
  reaches = remembers_after s b b (Err (Known Store)) plan l (Err reason) (Err (Known Store)) before running is;
}

-- # Commands that are sent

-- no pair tag is checked for a command
pub nothing_opened : (l : StationMemory) (code : ℕ) (to : Option ℕ) (body : List ℕ) → (send_local l code to body).opened ≡ []
unfolding sealed goes empty_draft resting
nothing_opened l code to body = by (nat_lt (counters_left l) 1)
  where
    by : (t : Bool) → (if t then refused local_ends l locals.CounterSpent else sealing alone local_ends (local_draft l code to body) (tt {0})).opened ≡ []
    by true = refl
    by false = refl

-- what comes after nothing comes first
pub carries_first : {A : Type 0} (s t : State StationMemory) (p : Plan StationMemory A) (answer : A) (before out : Out) → before ≡ nothing → p.opened ≡ []
    → CarriesAfter s p answer before out t → Carries s p answer out t
carries_first {A} s t p answer before out empty none c = record {
  done = c.carries.done;
  wrote = c.carries.wrote;
  answer_is = c.carries.answer_is;
  out_is = c.out_is ∙ (λ i. if known i then followed (empty i) (c.carries.out_is i) else nothing) ∙ by c.carries.done;
  new_is = c.carries.new_is;
}
  where
    is_done : (d : Bool) → is_some (if d then Some p.memory else None) ≡ d
    is_done true = refl
    is_done false = refl

    known : is_some t.memory ≡ c.carries.done
    known = ap (λ (k : State StationMemory). is_some k.memory) c.carries.new_is ∙ is_done c.carries.done

    by : (d : Bool) → (if d then followed nothing (given p d) else nothing) ≡ given p d
    by true = refl
    by false = λ i. record { frames = []; tags = record { made = []; opened = sym none i } }

-- # Addresses

-- a station's address is the one that its ring says
pub owned : (s : State StationMemory) (r : Ring) (own : Option ℕ) (l : StationMemory) → s.memory ≡ Some l → IfSome s.memory (λ k. r ≡ k.ring)
    → own ≡ option_map (λ (g : Granted). g.address) r → address_of l ≡ own
owned s r own l running is says = own_of l r own (at_some s.memory (λ k. r ≡ k.ring) l running is) says

-- # Asking for a path

-- an ask went to the next hop, and nothing else was done
pub asked : (s t : State StationMemory) (b : Beside) (target own hop : ℕ) (l : StationMemory) (message : PathMessage) (sent : Result (Unit {0}) LocalRefusal)
    (result : Result (Unit {0}) AskRefusal) (before out : Out) (log : Log)
    → s.memory ≡ Some l → address_of l ≡ Some own → target ≢ own → station_route l target ≡ Some hop → before ≡ nothing → message ≡ Ask target (own ∷ [])
    → IfSome s.memory (λ k. CarriesAfter s (send_local k 5 (Some hop) (path_spelling message)) sent before out t)
    → log ≡ (if is_some t.memory then b.log else empty_log)
    → result ≡ ended_by asks.CounterSpent asks.Store sent
    → ReachesFirst s b (Err asks.Halted) (λ y. ask_path alone y target) result out t (record b { log = log })
asked s t b target own hop l message sent result before out log running is apart some empty begins carried left reported =
    let goes : Carries s (send_local l 5 (Some hop) (path_spelling message)) sent out t =
    carries_first s t (send_local l 5 (Some hop) (path_spelling message)) sent before out empty (nothing_opened l 5 (Some hop) (path_spelling message))
    (at_some s.memory (λ k. CarriesAfter s (send_local k 5 (Some hop) (path_spelling message)) sent before out t) l running carried) in
    subst (λ (a : Result (Unit {0}) AskRefusal). ReachesFirst s b (Err asks.Halted) (λ y. ask_path alone y target) a out t (record b { log = log }))
    (ask_ended sent ∙ sym reported)
    (sent_first s b (Err asks.Halted) (λ y. ask_path alone y target) l running (local_answer ask_ends tt)
    (send_local l 5 (Some hop) (path_spelling (Ask target (own ∷ [])))) sent out t (record b { log = log })
    (asks_hop l b target own hop is apart some)
    (subst (λ (m : PathMessage). Carries s (send_local l 5 (Some hop) (path_spelling m)) sent out t) begins goes)
    (log_left (is_some t.memory) b log left))

-- # Path messages

-- a path message went to a neighbour, and nothing else was done
pub path_went : (s t : State StationMemory) (b : Beside) (plan : Reaching StationMemory → Plan (Reaching StationMemory) (Result CommandHeard ReachDropped))
    (l : StationMemory) (to : ℕ) (message : PathMessage)
    (answer : CommandHeard) (sent : Result (Unit {0}) LocalRefusal) (r : Result CommandHeard ReachDropped) (before out : Out) (log : Log) → s.memory ≡ Some l
    → plan (record { memory = l; beside = b }) ≡ send_path alone (record { memory = l; beside = b }) to message answer
    → IfSome s.memory (λ k. CarriesAfter s (send_local k 5 (Some to) (path_spelling message)) sent before out t)
    → log ≡ (if is_some t.memory then b.log else empty_log)
    → local_answer reach_ends answer sent ≡ r → Reaches s b (Err (Known Store)) plan r before out t (record b { log = log })
path_went s t b plan l to message answer sent r before out log running is carried left reported =
    subst (λ (a : Result CommandHeard ReachDropped). Reaches s b (Err (Known Store)) plan a before out t (record b { log = log })) reported
    (sent_after s b (Err (Known Store)) plan l running (local_answer reach_ends answer) (send_local l 5 (Some to) (path_spelling message)) sent before out t
    (record b { log = log })
    (is ∙ sealed_answer reach_ends l b to 5 (path_spelling message) answer)
    (at_some s.memory (λ k. CarriesAfter s (send_local k 5 (Some to) (path_spelling message)) sent before out t) l running carried)
    (log_left (is_some t.memory) b log left))

module _ (x : Reaching StationMemory) (own from : ℕ) (all : Bool) (body : List ℕ) where
  -- a path message, by whom it went to, and what is read
  abbrev path_by : Bool → Option PathMessage → Plan (Reaching StationMemory) (Result CommandHeard ReachDropped)
  path_by to_all read = choose to_all (drop_it x (Known BadUnit)) (hear_path_in alone x own from read)

  pub hears_for_all : all ≡ true → hear_path alone x own from all body ≡ drop_it x (Known BadUnit)
  unfolding choose
  hears_for_all e = λ i. path_by (e i) (path_in body)

  pub hears_unread : all ≡ false → path_in body ≡ None → hear_path alone x own from all body ≡ drop_it x (Known BadUnit)
  unfolding choose
  hears_unread e is = λ i. path_by (e i) (is i)

  pub hears_read : (message : PathMessage) → all ≡ false → path_in body ≡ Some message
      → hear_path alone x own from all body ≡ follows_path alone x (taken own from (next_toward x.memory message) message)
  unfolding choose
  hears_read message e is = λ i. path_by (e i) (is i)

-- # Acknowledgements

module _ (l : StationMemory) (b : Beside) (c : NeighbourCommand) where
  -- the station with its checks changed as those alone are by this plan
  abbrev with_check_of : Plan (Reaching (Unit {0})) (Result CommandHeard ReachDropped) → Plan (Reaching StationMemory) (Result CommandHeard ReachDropped)
  with_check_of p = resting (record { memory = l; beside = record b { checks = p.memory.beside.checks } }) p.answer (Err (Known Store))

  abbrev at_station : Reaching StationMemory
  at_station = record { memory = l; beside = b }

  check_ends : (number origin : ℕ) (awaited : Bool)
      → (if awaited then remembers (with_checks (acked_after b.checks c.from number origin) at_station) commands.Acked else drop_it at_station NotAwaited)
      ≡ with_check_of (if awaited then remembers (with_checks (acked_after b.checks c.from number origin) (checks_alone b.checks)) commands.Acked
      else drop_it (checks_alone b.checks) NotAwaited)
  unfolding resting
  check_ends number origin true = refl
  check_ends number origin false = refl

  check_by : (all : Bool) (read : Option (ℕ × ℕ)) → choose all (drop_it at_station (Known BadUnit)) (hear_acknowledgement_in at_station c.from read)
      ≡ with_check_of (choose all (drop_it (checks_alone b.checks) (Known BadUnit)) (hear_acknowledgement_in (checks_alone b.checks) c.from read))
  unfolding choose resting
  check_by true read = refl
  check_by false None = refl
  check_by false (Some (number, origin)) = check_ends number origin (is_awaited b.checks c.from number origin)

  -- the station's plan changes its checks alone
  pub check_plan : hear_acknowledgement (record { memory = l; beside = b }) c.from c.to_all c.body
      ≡ resting (record { memory = l; beside = record b { checks = (check_ended b.checks c).1 } }) (check_ended b.checks c).0 (Err (Known Store))
  check_plan = check_by c.to_all (ack_in c.body)

-- an acknowledgement that was awaited
pub awaited_ends : {T E : Type 0} (s t : Neighbours) (c : NeighbourCommand) (number origin : ℕ) (r : Result T E) → c.to_all ≡ false
    → ack_in c.body ≡ Some (number, origin) → is_err r ≡ false
    → MatchResult r (λ _. is_awaited s c.from number origin ≡ true) (λ _. is_awaited s c.from number origin ≡ false) → t ≡ acked_after s c.from number origin
    → EndsCheck s c (Ok tt) t
awaited_ends s t c number origin (Ok u) one is ok answer value =
    subst (λ (n : Neighbours). EndsCheck s c (Ok tt) n) (sym value) (ends_awaited s c number origin one is answer)
awaited_ends s t c number origin (Err e) one is ok answer value = absurd (cc)

-- one that was not
pub unawaited_ends : {T E : Type 0} (s t : Neighbours) (c : NeighbourCommand) (number origin : ℕ) (r : Result T E) → c.to_all ≡ false
    → ack_in c.body ≡ Some (number, origin) → is_err r ≡ true
    → MatchResult r (λ _. is_awaited s c.from number origin ≡ true) (λ _. is_awaited s c.from number origin ≡ false) → OnErr r (t ≡ s)
    → EndsCheck s c (Err NotAwaited) t
unawaited_ends s t c number origin (Ok u) one is err answer same = absurd (cc)
unawaited_ends s t c number origin (Err e) one is err answer same =
    subst (λ (n : Neighbours). EndsCheck s c (Err NotAwaited) n) (sym same) (ends_unawaited s c number origin one is answer)

-- # Commands by their codes

module _ (x : Reaching StationMemory) (own : ℕ) (c : NeighbourCommand) where
  abbrev by_code : (three four five : Bool) → Plan (Reaching StationMemory) (Result CommandHeard ReachDropped)
  by_code three four five =
      choose three (hear_acknowledgement x c.from c.to_all c.body)
      (choose four (hear_broadcast alone x own c.to_all c.body) (choose five (hear_path alone x own c.from c.to_all c.body) (drop_it x (Known BadUnit))))

  pub by_3 : c.code ≡ 3 → hear_command_at alone x own c ≡ hear_acknowledgement x c.from c.to_all c.body
  unfolding choose
  by_3 is = let e : (c.code == 3) ≡ true = eq-eqb c.code 3 is in λ i. by_code (e i) (c.code == 4) (c.code == 5)

  pub by_4 : c.code ≡ 4 → hear_command_at alone x own c ≡ hear_broadcast alone x own c.to_all c.body
  unfolding choose
  by_4 is =
      let three : c.code ≢ 3 = omega arith in
      let e : (c.code == 3) ≡ false = ne_eqb c.code 3 three in
      let f : (c.code == 4) ≡ true = eq-eqb c.code 4 is in
      λ i. by_code (e i) (f i) (c.code == 5)

  pub by_5 : c.code ≡ 5 → hear_command_at alone x own c ≡ hear_path alone x own c.from c.to_all c.body
  unfolding choose
  by_5 is =
      let three : c.code ≢ 3 = omega arith in
      let four : c.code ≢ 4 = omega arith in
      let e : (c.code == 3) ≡ false = ne_eqb c.code 3 three in
      let f : (c.code == 4) ≡ false = ne_eqb c.code 4 four in
      let g : (c.code == 5) ≡ true = eq-eqb c.code 5 is in
      λ i. by_code (e i) (f i) (g i)

  pub by_none : c.code ≢ 3 → c.code ≢ 4 → c.code ≢ 5 → hear_command_at alone x own c ≡ drop_it x (Known BadUnit)
  unfolding choose
  by_none three four five =
      let e : (c.code == 3) ≡ false = ne_eqb c.code 3 three in
      let f : (c.code == 4) ≡ false = ne_eqb c.code 4 four in
      let g : (c.code == 5) ≡ false = ne_eqb c.code 5 five in
      λ i. by_code (e i) (f i) (g i)

module _ (l : StationMemory) (b : Beside) (c : NeighbourCommand) where
  pub heard_unjoined : address_of l ≡ None
      → hear_command alone (record { memory = l; beside = b }) c ≡ drop_it (record { memory = l; beside = b }) (Known BadUnit)
  heard_unjoined is =
      ap (λ (o : Option ℕ). option_map_or (λ own. hear_command_at alone (record { memory = l; beside = b }) own c) o
      (drop_it (record { memory = l; beside = b }) (Known BadUnit))) is

-- an acknowledgement that was heard changes the checks alone
pub ended_command : (s : State StationMemory) (b : Beside) (c : NeighbourCommand) (own number : ℕ) (l : StationMemory) (reported : Commanded)
    (r : Result (Unit {0}) ReachDropped) (checks : Neighbours) (before : Out)
    → s.memory ≡ Some l → c.code ≡ 3 → EndsCheck b.checks c r checks → ReportsCommand reported number (answer_as (λ _. commands.Acked) r)
    → ReachesCommand s b (λ y. hear_command_at alone y own c) reported number before before s (record b { checks = checks })
ended_command s b c own number l reported r checks before running is ends reporting = record {
  answer = answer_as (λ _. commands.Acked) r;
  reports = reporting;
  reaches =
      remembers_after s b (record b { checks = checks }) (Err (Known Store)) (λ y. hear_command_at alone y own c) l (answer_as (λ _. commands.Acked) r)
      (Err (Known Store)) before running
      (by_3 (record { memory = l; beside = b }) own c is ∙ check_plan l b c
      ∙ (λ i. resting (record { memory = l; beside = record b { checks = sym ends.checks i } }) (sym ends.answer i) (Err (Known Store))));
}

-- a path message that was heard
pub path_command : (s t : State StationMemory) (b d : Beside) (c : NeighbourCommand) (own number : ℕ) (reported : Commanded)
    (r : Result CommandHeard ReachDropped)
    (before out : Out)
    → c.code ≡ 5 → Reaches s b (Err (Known Store)) (λ y. hear_path alone y own c.from c.to_all c.body) r before out t d → ReportsCommand reported number r
    → ReachesCommand s b (λ y. hear_command_at alone y own c) reported number before out t d
path_command s t b d c own number reported r before out is reached reporting = record {
  answer = r;
  reports = reporting;
  reaches = reaches_as (λ y. hear_path alone y own c.from c.to_all c.body) (λ y. hear_command_at alone y own c)
      (λ l _. sym (by_5 (record { memory = l; beside = b }) own c is)) reached;
}

-- a broadcast that was heard
pub broadcast_command : (s t : State StationMemory) (b d : Beside) (c : NeighbourCommand) (own number : ℕ) (reported : Commanded) (before out : Out)
    → c.code ≡ 4 → ReachesCommand s b (λ y. hear_broadcast alone y own c.to_all c.body) reported number before out t d
    → ReachesCommand s b (λ y. hear_command_at alone y own c) reported number before out t d
broadcast_command s t b d c own number reported before out is reached =
    command_as (λ y. hear_broadcast alone y own c.to_all c.body) (λ y. hear_command_at alone y own c)
    (λ l _. sym (by_4 (record { memory = l; beside = b }) own c is)) reached
