-- What the history has of an event, as far as grants go: which one a meter took, and of which ones the coordinator made tags.
use Rattle.std.proofs.Common.{◌≡◌, ℕ, ◌+◌, Bool, true, false, List, [], ◌++◌, Option, Some, None, Result, Ok, Err, refl, sym, ap, subst, ◌∙◌}
use Rattle.std.specs.Prelude.{IfSome, is_some, if◌then◌else◌, slice_get, slice_set, ◌==◌, ⊤, All}
use Rattle.std.specs.Option.{option_map}
use Rattle.store_tables.proofs.SlotTables.{slice_get-set}
use Rattle.plc_base.specs.Grant.{Granted}
use Rattle.plc_base.specs.declared.address.Eui.{Eui}
use Rattle.plc_base.specs.declared.key.Key.{Key}
use Rattle.plc_base.specs.declared.tags.PairTag.{PairTag}
use Rattle.plc_base.specs.declared.tags.PairTag.TheVariants as tags
use Rattle.eap_psk.specs.Messages.{granting_text}
use Rattle.eap_psk.specs.declared.server.Agreed.{Agreed}
use Rattle.loadng_messages.specs.declared.message.Message.{Message}
use Rattle.line_events.specs.Events.{IsEvent}
use Rattle.line_events.specs.declared.event.Answer.{Answer}
use Rattle.line_events.specs.declared.event.Answer.TheVariants as answers
use Rattle.line_events.specs.declared.event.Event.{Event}
use Rattle.node_rules.specs.Accepted.{Accepted}
use Rattle.node_rules.specs.Acceptance.{accept}
use Rattle.node_rules.specs.Calls as calls
use Rattle.node_rules.specs.Ciphers.{Ciphers}
use Rattle.node_rules.specs.Drafts.{choose, refused}
use Rattle.node_rules.specs.Frames.{arrived}
use Rattle.node_rules.specs.Memory.{Memory, Meter, Coordinator, Node}
use Rattle.node_rules.specs.MemoryDrafts.{in_memory}
use Rattle.node_rules.specs.Meters as meters
use Rattle.node_rules.specs.NodeSteps.{NodeStep, acts, answering, of_station}
use Rattle.node_rules.specs.Plans.{Plan, resting}
use Rattle.node_rules.specs.declared.heard.Path.{Path}
use Rattle.node_rules.specs.declared.heard.Path.TheVariants as paths
use Rattle.node_rules.specs.declared.heard.Reply.{Reply}
use Rattle.node_rules.specs.declared.refusal.Dropped.TheVariants as drops
use Rattle.node_rules.specs.declared.refusal.FrameRefusal.{FrameRefusal}
use Rattle.node_rules.specs.declared.refusal.FrameRefusal.TheVariants as frames
use Rattle.node_rules.specs.declared.refusal.LocalRefusal.{LocalRefusal}
use Rattle.node_rules.specs.declared.refusal.SendRefusal.TheVariants as sends
use Rattle.reach_rules.specs.Beacons.{ChosenAgent, choose_agent, choosing_ends, joins_by}
use Rattle.reach_rules.specs.Broadcasts.{broadcast}
use Rattle.reach_rules.specs.CheckedReplies.{message_of}
use Rattle.reach_rules.specs.FurtherReceptions.{hear_command}
use Rattle.reach_rules.specs.PathRequests.{ask_path}
use Rattle.reach_rules.specs.ReachingNodes.{Beside}
use Rattle.reach_rules.specs.declared.heard.CommandHeard.{CommandHeard}
use Rattle.reach_rules.specs.declared.heard.CommandHeard.TheVariants as heard_of
use Rattle.reach_rules.specs.declared.refusal.AskRefusal.TheVariants as asks
use Rattle.reach_rules.specs.declared.refusal.BroadcastRefusal.TheVariants as broadcasts
use Rattle.reach_rules.specs.declared.refusal.ChooseRefusal.TheVariants as choices
use Rattle.reach_rules.specs.declared.refusal.ReachDropped.{ReachDropped}
use Rattle.reach_rules.specs.declared.refusal.ReachDropped.TheVariants as reach_drops
use Rattle.pan_discovery.specs.Agents.{kth_of}
use Rattle.line_rules.specs.Answers.{Reception, command_word, sent_word}
use Rattle.line_rules.specs.Forgery.{Comes, accepting}
use Rattle.line_rules.specs.Further.{acknowledging, adds_frames, beside_at, broadcasts_by, chooses_by, commanded, discovers_by, due, due_of, is_reply_taken}
use Rattle.line_rules.specs.Further.{of_memory, scans_by}
use Rattle.line_rules.specs.Further.{asks_by, sends_nothing, with_beside}
use Rattle.line_rules.specs.Steps.{Step, hearing_outcome, hearing_step, identity, is_taken, issued_at, issued_by, issued_of, node_outcome, note_by, sent_if}
use Rattle.line_rules.specs.Steps.{tag_of}
use Rattle.line_rules.specs.Steps.{world_after}
use Rattle.line_rules.specs.Traces.{is_issue, is_took}
use Rattle.line_rules.specs.Worlds.{Issued, Pairing, Trace, World, node_at}
use Rattle.line_laws.specs.Keyed.{Each, Keyed, PeerIs}
use Rattle.line_laws.specs.Lines.{FlightFits, NodeOk, WorldOk}
use Rattle.line_laws.specs.Owed.{AreOctets, KeepsRanges}
use Rattle.line_laws.specs.Stores.{IsReadable}
use Rattle.line_laws.proofs.AgreeSteps.{acts_nothing}
use Rattle.line_laws.proofs.CommandTags.{acts_made}
use Rattle.line_laws.proofs.CoordinatorCalls.{accept_ok}
use Rattle.line_laws.proofs.FlightFolds.{came_octets}
use Rattle.line_laws.proofs.FurtherEvents.{IsAnswered, IsChecked, IsCommand, IsFurtherStep, IsHeard, IsPlain, IsUnbelieved, Finds, Looks, Old, Picks, Puts}
use Rattle.line_laws.proofs.FurtherEvents.{Seeks}
use Rattle.line_laws.proofs.FurtherEvents.{Spreads, Takes as TakesIn, TurnsOn, Unread, checks_so}
use Rattle.line_laws.proofs.FurtherForms.{AnyUnits, ask_is, broadcast_is}
use Rattle.line_laws.proofs.FurtherStepKinds.{makes_none}
use Rattle.line_laws.proofs.IssueCalls.{accept_quietly}
use Rattle.line_laws.proofs.IssueMeters.{joins_made, leaves_made}
use Rattle.line_laws.proofs.IssueSteps.{quiet_meter_did}
use Rattle.line_laws.proofs.IssueWords.{each_weaker}
use Rattle.line_laws.proofs.Nodes.{DidOk, acts_ok}
use Rattle.line_laws.proofs.StepKinds.{AskActivate, AskChallenge, AskJoin, AskKick, AskLeave, AskRandom, AskRekey, AskTurn, IsAsked, IsStep}
use Rattle.line_laws.proofs.StepKinds.{Fails, Makes, Rests, Shows, Acts, BreaksLink, SendsFrom, AllowsMeter, Sets, SetsTwo, Provides, TurnsDown, Hears}
use Rattle.line_laws.proofs.StepKinds.{Loses, Ticks, Restarts, Cuts}
use Rattle.line_laws.proofs.TracesRight.{drop_fits, false_true}
use Rattle.line_laws.proofs.Untagged.{activate_self_untagged, activate_untagged, acts_untagged, challenge_untagged, kick_untagged, random_untagged}
use Rattle.line_laws.proofs.Untagged.{rekey_untagged, rested_untagged, send_untagged}
use Rattle.line_laws.proofs.Worlds.{at_place, within as place_within}
use Rattle.run_laws.proofs.GrantsTold.{HearingTells, IsSentWith, Takes, hearing_eui, hearing_tells}

-- # What is said of an event

-- A grant was taken by the node of a number, which holds it.
pub record TakenAt (nodes : List Node) (opened : List PairTag) (p : Pairing) : Type 0 where
  pub node : Node
  pub there : slice_get nodes p.node ≡ Some node
  pub taken : Takes node.eui opened node.memory p.agreed

-- The text of a third message's channel is that of a grant whose keys were issued.
pub record SentIn (answer : Answer) (issued : List Issued) (eui : Eui) (text : List ℕ) : Type 0 where
  pub granted : Granted
  pub is : text ≡ granting_text granted
  pub readable : IsReadable granted
  pub word : answer ≡ answers.Keyed
  pub keys : issued ≡ issued_by eui granted

abbrev pub IsSentIn : Answer → List Issued → PairTag → Type 0
IsSentIn word issued (tags.MacP eui octets) = ⊤
IsSentIn word issued (tags.MacS eui octets) = ⊤
IsSentIn word issued (tags.Channel eui rand_p nonce header text) = nonce ≡ 0 → SentIn word issued eui text

pub record TraceTells (nodes : List Node) (t : Trace) : Type 0 where
  pub took : IfSome t.taken (TakenAt nodes t.opened)
  pub made : Each (IsSentIn t.happenings.answer t.issued) t.made

nothing : (nodes : List Node) (t : Trace) → t.taken ≡ None → t.made ≡ [] → TraceTells nodes t
nothing nodes t none bare = record {
  took = subst (λ o. IfSome o (TakenAt nodes t.opened)) (sym none) tt;
  made = subst (Each (IsSentIn t.happenings.answer t.issued)) (sym bare) tt;
}

-- # A grant has a key

first_issued : (eui : Eui) (key : Key) (rest : List Issued) → issued_at eui 0 (Some key) ++ rest ≡ [] → ⊥
first_issued eui key rest e = cc (e)

issued_some : (eui : Eui) (g : Granted) → IsReadable g → issued_by eui g ≡ [] → ⊥
issued_some eui g readable = by_keys g.key0 g.key1 readable.grant.held
  where
    by_keys : (a b : Option Key) → is_some (if g.active == 0 then a else b) ≡ true → issued_at eui 0 a ++ issued_at eui 1 b ≡ [] → ⊥
    by_keys (Some key) b held e = first_issued eui key (issued_at eui 1 b) e
    by_keys None (Some key) held e = cc (e)
    by_keys None None held e = by_active (g.active == 0) held
      where
        by_active : (t : Bool) → (let none : Option Key = None in is_some (if t then none else none)) ≡ true → ⊥
        by_active true h = false_true h
        by_active false h = false_true h

-- where no keys were issued, no such tag was made
none_out : (a b : Answer) (issued : List Issued) → issued ≡ [] → (t : PairTag) → IsSentIn a issued t → IsSentIn b issued t
none_out a b issued none (tags.MacP eui octets) h = tt
none_out a b issued none (tags.MacS eui octets) h = tt
none_out a b issued none (tags.Channel eui rand_p nonce header text) h =
    λ e. let s = h e in absurd (issued_some eui s.granted s.readable (sym s.keys ∙ none))

sent_in : (r : Reception) (t : PairTag) → IsSentWith r t → IsSentIn r.answer (issued_of r.keyed) t
sent_in r (tags.MacP eui octets) h = tt
sent_in r (tags.MacS eui octets) h = tt
sent_in r (tags.Channel eui rand_p nonce header text) h =
    λ e. let s = h e in record { granted = s.granted; is = s.is; readable = s.readable; word = s.answer; keys = ap issued_of s.keyed }

-- # Events without further reach

abbrev TellsIn : Step → Type 0
TellsIn (Ok r) = TraceTells r.0.nodes r.1
TellsIn (Err fault) = Unit {0}

-- a call that is an event by itself makes no tag
asked_bare : {A : Type 0} (ciphers : Ciphers) (w : World) (number : ℕ) (x : Node) (halted : A) (plan : Memory → Plan Memory A)
    → IsAsked ciphers w number x A halted plan → (acts x halted plan).made ≡ []
asked_bare ciphers w number x halted plan (AskRandom value are) = (acts_untagged x _ _ (λ m. random_untagged m value)).0
asked_bare ciphers w number x halted plan (AskJoin psk a ne pair at) =
    acts_nothing x _ _ (λ m there. joins_made (identity ciphers x psk) m a w.clock)
asked_bare ciphers w number x halted plan (AskLeave ne) = acts_nothing x _ _ (λ m there. leaves_made m)
asked_bare ciphers w number x halted plan (AskRekey index key first low is) = (acts_untagged x _ _ (λ m. rekey_untagged m index key)).0
asked_bare ciphers w number x halted plan (AskTurn index first low) = (acts_untagged x _ _ (λ m. activate_self_untagged m index)).0
asked_bare ciphers w number x halted plan (AskChallenge meter y first at) =
    (acts_untagged x _ _ (λ m. challenge_untagged m x.eui y.eui w.clock)).0
asked_bare ciphers w number x halted plan (AskActivate meter y index first at low) =
    (acts_untagged x _ _ (λ m. activate_untagged m y.eui index w.clock)).0
asked_bare ciphers w number x halted plan (AskKick meter y first at) = (acts_untagged x _ _ (λ m. kick_untagged m y.eui)).0

module _ (ciphers : Ciphers) (fits : KeepsRanges ciphers) (w : World) (ok : WorldOk w) (flown : All FlightFits w.flights) (given : List Issued)
    (k : Keyed w given) where
  not_meter : (psk : Key) → Coordinator ≡ Meter psk → ⊥
  not_meter psk e = cc

  heard_tells : (event : Event) (number : ℕ) (x : Node) (octets : List ℕ) (cost : ℕ) (got : Accepted) → node_at w number ≡ Some x → IsEvent event
      → Comes w event number octets → TellsIn (Ok (hearing_outcome ciphers w number (accepting ciphers x octets).node octets got cost))
  unfolding world_after
  heard_tells event number x octets cost got there says comes = record {
    took = by_took d.answer.took h.takes_so;
    made = each_weaker (IsSentWith d.answer) (IsSentIn d.answer.answer (issued_of d.answer.keyed)) (sent_in d.answer) d.made h.made_so;
  }
    where
      plan : Memory → Plan Memory (Result Accepted FrameRefusal)
      plan m = of_station m (accept m.station x.eui (arrived ciphers octets))

      are : AreOctets octets
      are = came_octets ciphers fits w ok flown event number octets says comes

      good : NodeOk x
      good = at_place NodeOk w.nodes number x there ok.nodes

      did : DidOk x (acts x (Err frames.Halted) plan)
      did = acts_ok x (Err frames.Halted) plan good (λ m here kept sized. accept_ok ciphers fits octets are x.role m x.eui sized)

      y : Node
      y = (accepting ciphers x octets).node

      peer : (psk : Key) → y.role ≡ Meter psk → IfSome y.memory (λ (m : Memory). PeerIs y.eui m.session)
      peer psk is =
          (quiet_meter_did ciphers fits w ok flown given k x (Err frames.Halted) plan k.book good
          (k.meters number x
          (λ e. not_meter psk (sym (k.coordinator x (ap (slice_get w.nodes) (sym e) ∙ there)).role ∙ sym did.role ∙ is)) there)
          (λ m sized. accept_quietly ciphers fits octets are m x.eui)).node.session

      d : NodeStep Reception
      d = hearing_step ciphers y got cost (note_by w octets got.path) w.clock

      h : HearingTells y.eui d.answer d.opened d.made d.node.memory
      h = hearing_tells ciphers y got cost (note_by w octets got.path) w.clock did.node peer

      by_took : (o : Option Agreed) → IfSome o (Takes y.eui d.opened d.node.memory)
          → IfSome (option_map (λ (a : Agreed). record { node = number; agreed = a }) o) (TakenAt (slice_set w.nodes number d.node) d.opened)
      by_took None h = tt
      by_took (Some a) h = record {
        node = d.node;
        there = slice_get-set w.nodes number d.node (place_within w.nodes number x there);
        taken = subst (λ (e : Eui). Takes e d.opened d.node.memory a)
            (sym (hearing_eui ciphers y got cost (note_by w octets got.path) w.clock did.node)) h;
      }

  step_tells : (event : Event) (s : Step) → IsStep ciphers w event s → TellsIn s
  step_tells event s (Fails e fault) = tt
  step_tells event s (Makes e x is) = record { took = tt; made = tt }
  step_tells event s (Rests e quiet) = record { took = tt; made = tt }
  step_tells event s (Shows number x) = record { took = tt; made = tt }
  step_tells event s (Acts e number x A halted plan reads there call word asked) =
      let r = node_outcome ciphers w number (answering reads (acts x halted plan)) in
      nothing r.0.nodes r.1 refl (asked_bare ciphers w number x halted plan asked)
  step_tells event s (BreaksLink number next x a there call) =
      let plan : Memory → Plan Memory Answer = λ m. resting (record m { station = calls.broke a m.station }) answers.Broken answers.Broken in
      let r = node_outcome ciphers w number (acts x answers.Halted plan) in
      nothing r.0.nodes r.1 refl (acts_untagged x answers.Halted plan (λ m. rested_untagged (record m { station = calls.broke a m.station }) answers.Broken
      answers.Broken)).0
  step_tells event s (SendsFrom from to datagram x a there call target) =
      let d = acts x (Err sends.Halted) (λ m. of_station m (calls.send m.station a datagram (w.sends + 1) w.clock)) in
      let r = node_outcome ciphers w from (answering sent_word d) in
      sent_tells from to datagram (tag_of x) (is_taken (sent_word d.answer)) r (nothing r.0.nodes r.1 refl
      (acts_untagged x (Err sends.Halted) (λ m. of_station m (calls.send m.station a datagram (w.sends + 1) w.clock))
      (λ m. send_untagged m a datagram (w.sends + 1) w.clock)).0)
    where
      sent_tells : (from to : ℕ) (datagram : List ℕ) (tag : ℕ) (b : Bool) (r : World × Trace) → TraceTells r.0.nodes r.1
          → TellsIn (Ok (sent_if w from to datagram tag b r))
      sent_tells from to datagram tag true r h = record { took = h.took; made = h.made }
      sent_tells from to datagram tag false r h = h
  step_tells event s (AllowsMeter number y c psk there call meter) = record { took = tt; made = tt }
  step_tells event s (Sets e quiet number x plan there open_is is) = record { took = tt; made = tt }
  step_tells event s (SetsTwo e quiet a b cost x y p q hx hy apart open_is first second fresh near) = record { took = tt; made = tt }
  step_tells event s (Provides number x c psk g d ne open_is hx hc pair same is) = record { took = tt; made = tt }
  step_tells event s (TurnsDown e number x octets reason d there says comes same is) = record { took = tt; made = tt }
  step_tells event s (Hears e number x octets cost got there says comes low is) = heard_tells e number x octets cost got there says comes
  step_tells event s (Loses number f there) = record { took = tt; made = tt }
  step_tells event s (Ticks seconds) = record { took = tt; made = tt }
  step_tells event s (Restarts number x there) = record { took = tt; made = tt }
  step_tells event s (Cuts number nth keeps_new x there) = record { took = tt; made = tt }

-- # Events of further reach

-- What the report says of a grant that was taken, and of keys that were issued.
pub record Reports (t : Trace) : Type 0 where
  pub took : is_some t.taken ≡ is_took t.happenings.answer
  pub none_issued : is_issue t.happenings.answer ≡ false → t.issued ≡ []

abbrev pub FurtherTells : Step → Type 0
FurtherTells (Ok r) = Reports r.1 → TraceTells r.0.nodes r.1
FurtherTells (Err fault) = Unit {0}

-- neither a grant that is taken nor one that goes out
abbrev IsPlainWord : Answer → Type 0
IsPlainWord a = (is_took a ≡ false) × (is_issue a ≡ false)

command_plain : (r : Result CommandHeard ReachDropped) → IsPlainWord (command_word r)
command_plain (Ok heard_of.Acked) = (refl, refl)
command_plain (Ok (heard_of.Broadcast origin number octets)) = (refl, refl)
command_plain (Ok heard_of.Relayed) = (refl, refl)
command_plain (Ok heard_of.Answered) = (refl, refl)
command_plain (Ok (heard_of.Path walk)) = (refl, refl)
command_plain (Err (reach_drops.Known reason)) = let p = drop_fits reason in (p.2, p.4)
command_plain (Err reach_drops.Blacklisted) = (refl, refl)
command_plain (Err reach_drops.NotAwaited) = (refl, refl)
command_plain (Err reach_drops.Old) = (refl, refl)
command_plain (Err reach_drops.OriginsFull) = (refl, refl)
command_plain (Err reach_drops.Revisited) = (refl, refl)
command_plain (Err reach_drops.PathLong) = (refl, refl)

reply_plain : (a : Answer) → is_reply_taken a ≡ true → IsPlainWord a
reply_plain answers.Learned e = (refl, refl)
reply_plain answers.Relayed e = (refl, refl)
reply_plain _ e = absurd (false_true e)

due_plain : (p : Path) (m : Option Message) (a : Answer) (reply : Reply) → due p m a ≡ Some reply → IsPlainWord a
due_plain (paths.Sealed from false key) m a reply e = by_taken (is_reply_taken a) refl e
  where
    by_taken : (b : Bool) → is_reply_taken a ≡ b → (if b then due_of from m else None) ≡ Some reply → IsPlainWord a
    by_taken true taken h = reply_plain a taken
    by_taken false taken h = absurd (cc (h))
due_plain (paths.Sealed from true key) m a reply e = absurd (cc (e))
due_plain (paths.Up from) m a reply e = absurd (cc (e))
due_plain (paths.Down from) m a reply e = absurd (cc (e))

no_taking : (o : Option Pairing) → is_some o ≡ false → o ≡ None
no_taking None e = refl
no_taking (Some p) e = absurd (false_true (sym e))

-- the same event, told in a plain word
reworded : (nodes later : List Node) (t u : Trace) → TraceTells nodes t → Reports u → IsPlainWord u.happenings.answer → u.made ≡ t.made → u.issued ≡ t.issued
    → TraceTells later u
reworded nodes later t u h says plain same keys =
    let none : u.issued ≡ [] = says.none_issued plain.1 in
    record {
      took = subst (λ o. IfSome o (TakenAt later u.opened)) (sym (no_taking u.taken (says.took ∙ plain.0))) tt;
      made = subst (Each (IsSentIn u.happenings.answer u.issued)) (sym same)
          (subst (λ (is : List Issued). Each (IsSentIn u.happenings.answer is) t.made) (sym keys)
          (each_weaker (IsSentIn t.happenings.answer t.issued) (IsSentIn u.happenings.answer t.issued)
          (none_out t.happenings.answer u.happenings.answer t.issued (sym keys ∙ none)) t.made h.made));
    }

module _ (ciphers : Ciphers) (fits : KeepsRanges ciphers) (w : World) (ok : WorldOk w) (flown : All FlightFits w.flights) (given : List Issued)
    (k : Keyed w given) where
  looks_tell : (number : ℕ) (o : Option Memory) → TellsIn (Ok (scans_by w number o))
  looks_tell number None = record { took = tt; made = tt }
  looks_tell number (Some m) = record { took = tt; made = tt }

  finds_tell : (number : ℕ) (x : Node) (octets : List ℕ) (link : ℕ) (o : Option Memory) → TellsIn (Ok (discovers_by w number x octets link o))
  finds_tell number x octets link None = record { took = tt; made = tt }
  finds_tell number x octets link (Some m) = record { took = tt; made = tt }

  seeks_tell : (number : ℕ) (x : Node) (target : Option ℕ) → TellsIn (Ok (asks_by ciphers w number x target))
  seeks_tell number x None = record { took = tt; made = tt }
  seeks_tell number x (Some target) =
      let r = asks_by ciphers w number x (Some target) in
      nothing r.0.nodes r.1 refl (makes_none AnyUnits x (Err asks.Halted) (with_beside (beside_at w number) (λ y. ask_path in_memory y target))
      (λ m here. ask_is AnyUnits (beside_at w number) target m (λ own hop at route. tt))).0

  chosen_bare : (m : Memory) (own : meters.Identity) (b : Beside) (n now : ℕ) → (with_beside b (λ y. choose_agent own y n now) m).made ≡ []
  unfolding choose resting
  chosen_bare m own b n now = by_joined (meters.is_joined m)
    where
      by_agent : (o : Option (ℕ × ℕ)) → (of_memory (joins_by own (record { memory = m; beside = b }) now o)).made ≡ []
      by_agent None = refl
      by_agent (Some (address, total)) = joins_made own m address now

      by_joined : (t : Bool)
          → (of_memory (if t then refused {H = ChosenAgent} choosing_ends (record { memory = m; beside = b }) choices.AlreadyJoined else joins_by own
          (record { memory = m; beside = b }) now (kth_of b.scan.agents n))).made ≡ []
      by_joined true = refl
      by_joined false = by_agent (kth_of b.scan.agents n)

  picks_tell : (number n : ℕ) (x : Node) (psk : Option Key) → TellsIn (Ok (chooses_by ciphers w number x n psk))
  picks_tell number n x None = record { took = tt; made = tt }
  picks_tell number n x (Some psk) =
      let r = chooses_by ciphers w number x n (Some psk) in
      nothing r.0.nodes r.1 refl (acts_made x (Err choices.Halted) (with_beside (beside_at w number) (λ y. choose_agent (identity ciphers x psk) y n w.clock))
      (λ m. chosen_bare m (identity ciphers x psk) (beside_at w number) n w.clock))

  accepted_tell : (event : Event) (number : ℕ) (x : Node) (octets : List ℕ) (cost : ℕ) (got : Accepted) (r : World × Trace) → node_at w number ≡ Some x
      → IsEvent event → Comes w event number octets → IsHeard ciphers w number x octets got cost r → FurtherTells (Ok r)
  unfolding world_after
  accepted_tell event number x octets cost got r there says comes how = by_how r how
    where
      y : Node
      y = (accepting ciphers x octets).node

      d : NodeStep Reception
      d = hearing_step ciphers y got cost (note_by w octets got.path) w.clock

      heard : World × Trace
      heard = hearing_outcome ciphers w number y octets got cost

      told : TraceTells heard.0.nodes heard.1
      told = heard_tells ciphers fits w ok flown given k event number x octets cost got there says comes

      by_how : (r : World × Trace) → IsHeard ciphers w number x octets got cost r → FurtherTells (Ok r)
      by_how r IsUnbelieved = λ says. record { took = tt; made = tt }
      by_how r IsPlain = λ says. told
      by_how r (IsCommand c e) = λ says.
          let dropped : Result CommandHeard ReachDropped = Err (reach_drops.Known drops.Store) in
          let a = acts d.node dropped (with_beside (beside_at heard.0 number) (λ z. hear_command in_memory z c)) in
          let s = commanded ciphers number d.node c heard in
          reworded heard.0.nodes s.0.nodes heard.1 s.1 told says (command_plain a.answer) refl refl
      by_how r IsChecked = λ says. record { took = told.took; made = told.made }
      by_how r (IsAnswered reply e) = by_runs (is_some a.node.memory)
        where
          a : NodeStep (Result (Unit {0}) LocalRefusal)
          a = acknowledging d.node reply

          checked : World × Trace
          checked = checks_so ciphers w number x octets got cost

          v : World
          v = world_after ciphers checked.0 number a

          by_runs : (b : Bool) → FurtherTells (Ok (if b then adds_frames v checked.1 a else sends_nothing w (v, checked.1)))
          by_runs true = λ says. let s = adds_frames v checked.1 a in
              reworded heard.0.nodes s.0.nodes heard.1 s.1 told says (due_plain got.path (message_of got) d.answer.answer reply e) refl refl
          by_runs false = λ says. let s = sends_nothing w (v, checked.1) in
              record { took = subst (λ o. IfSome o (TakenAt s.0.nodes s.1.opened)) (sym (no_taking s.1.taken says.took)) tt; made = tt }

  old_tells : (event : Event) (s : Step) → IsStep ciphers w event s → FurtherTells s
  old_tells event (Ok r) is = λ says. step_tells ciphers fits w ok flown given k event (Ok r) is
  old_tells event (Err fault) is = tt

  pub line_tells : (event : Event) (s : Step) → IsFurtherStep ciphers w event s → FurtherTells s
  line_tells event s (Old e t is) = old_tells e t is
  line_tells event s (TurnsOn begun) = λ says. record { took = tt; made = tt }
  line_tells event s (Spreads number x datagram there) = λ says.
      let r = broadcasts_by ciphers w number x datagram in
      nothing r.0.nodes r.1 refl (makes_none AnyUnits x (Err broadcasts.Halted) (with_beside (beside_at w number) (λ y. broadcast in_memory y datagram))
      (λ m here. broadcast_is AnyUnits (beside_at w number) datagram m (λ own at fault. tt))).0
  line_tells event s (Seeks number to x target there) = λ says. seeks_tell number x target
  line_tells event s (Looks number x there) = λ says. looks_tell number x.memory
  line_tells event s (Picks number n x psk ne there e) = λ says. picks_tell number n x psk
  line_tells event s (Finds e number x octets link there says comes is) = λ reports. finds_tell number x octets link x.memory
  line_tells event s (TakesIn e number x octets cost got r there says comes low is how) = accepted_tell e number x octets cost got r there says comes how
  line_tells event s (Puts e r bs quiet is) = λ says.
      let h = step_tells ciphers fits w ok flown given k e (Ok r) is in record { took = h.took; made = h.made }
  line_tells event s (Unread number x bad there e) = λ says. record { took = tt; made = tt }
