-- Further reach takes no tag of a datagram, so the tags of a line with it rise as those of a line without.
use Rattle.std.proofs.Common.{◌≡◌, ◌≢◌, ⊎_elim, ℕ, ◌+◌, ◌<◌, Bool, true, false, List, length, Option, Some, None, Result, Ok, Err, refl, sym, ap, ◌∙◌, subst}
use Rattle.std.proofs.Common.{arith}
use Rattle.std.specs.Prelude.{if◌then◌else◌, slice_get, slice_set}
use Rattle.std.specs.Option.{option_map_or}
use Rattle.std.specs.FinMap.{get}
use Rattle.std.proofs.lemmas.Bool.{cases_eq}
use Rattle.std.proofs.lemmas.List.{length-set}
use Rattle.std.proofs.lemmas.Option.{same_Some}
use Rattle.store_tables.proofs.SlotTables.{slice_get-set, slice_get-set_other}
use Rattle.pan_discovery.specs.declared.message.Discovery.{Discovery}
use Rattle.node_rules.specs.Ciphers.{Ciphers}
use Rattle.node_rules.specs.Drafts.{UnsealedUnit, refused}
use Rattle.node_rules.specs.Memory.{Memory, Node}
use Rattle.node_rules.specs.Meters as meters
use Rattle.node_rules.specs.NodeSteps.{NodeStep, acts, left_by, stays}
use Rattle.node_rules.specs.Plans.{Plan, carry_out, resting}
use Rattle.node_rules.specs.RestartStates.{tag_in}
use Rattle.pan_discovery.specs.Agents.{kth_of}
use Rattle.reach_rules.specs.declared.refusal.ChooseRefusal.{ChooseRefusal}
use Rattle.reach_rules.specs.declared.refusal.ChooseRefusal.TheVariants as choices
use Rattle.reach_rules.specs.Beacons.{ChosenAgent, choose_agent, choosing_ends, joins_by}
use Rattle.reach_rules.specs.ReachingNodes.{Beside}
use Rattle.node_rules.specs.Drafts.{choose as choose_plan}
use Rattle.line_rules.specs.Answers.{only}
use Rattle.line_events.specs.declared.event.Answer.TheVariants as answers
use Rattle.line_events.specs.declared.event.Event.{Event}
use Rattle.line_rules.specs.Forgery.{accepting}
use Rattle.line_rules.specs.Further.{line_step, chooses_by, sends_nothing, beside_at, of_memory, reaches, with_beside}
use Rattle.line_rules.specs.Steps.{Step, running_world, set_up, world_after, identity}
use Rattle.line_rules.specs.Worlds.{World, Sending, node_at}
use Rattle.line_laws.specs.LineAccounts.{LineTagsRise, TagsIn}
use Rattle.line_laws.specs.Keyed.{Each}
use Rattle.line_laws.specs.Lines.{WorldOk}
use Rattle.line_laws.specs.Owed.{KeepsRanges}
use Rattle.line_laws.specs.Tags.{TagsOk}
use Rattle.line_laws.proofs.FurtherForms.{AnyUnits}
use Rattle.line_laws.proofs.FurtherGrowth.{any_line}
use Rattle.line_laws.proofs.FurtherSenders.{AnyFrame}
use Rattle.line_laws.proofs.FurtherSeals.{further_away}
use Rattle.line_laws.proofs.FurtherStepKinds.{IsLineStep, Moves}
use Rattle.line_laws.proofs.FurtherStepKinds.{Known, Opens, Anew, After, Unsends, Unbelieves, Chooses, Stays, Carries, Flies, Besides, Turns}
use Rattle.line_laws.proofs.TagPuts.{Away, carried_puts, join_away}
use Rattle.line_laws.proofs.TagRuns.{Moved, IsNew, Was, StepTags, TagNow, TagStays, accepts_stays, event_tags, next_tags, none_took, put_same, same_moved}
use Rattle.line_laws.proofs.TagRuns.{after_tags}
use Rattle.line_laws.proofs.TagRuns.{Stays as Remains, Rises}
use Rattle.line_laws.proofs.StepKinds.{IsStep}
use Rattle.line_laws.proofs.TracesRight.{Good, right}
use Rattle.line_laws.proofs.Worlds.{within as place_within}

-- # One node

-- its plan leaves the slot of the tag alone
acts_leave : {A : Type 0} (x : Node) (halted : A) (plan : Memory → Plan Memory A) → ((m : Memory) → x.memory ≡ Some m → Each Away (plan m).puts)
    → TagStays x (acts x halted plan).node
unfolding acts
acts_leave {A = A} x halted plan f t is = by_memory x.memory refl
  where
    by_memory : (o : Option Memory) → x.memory ≡ o
        → tag_in (get (option_map_or (λ m. left_by x (carry_out x.store.records x.store.cut (plan m))) o (stays x halted)).node.store.records 4) ≡ Ok t
    by_memory None e = is
    by_memory (Some m) e = carried_puts Away (λ w ne. ne) (λ r. tag_in (get r 4) ≡ Ok t) (put_same t) x.store.records x.store.cut (plan m) (f m e) is

-- a choice is a joining, or nothing
choice_away : (m : Memory) (own : meters.Identity) (b : Beside) (k now : ℕ) → Each Away (with_beside b (λ y. choose_agent own y k now) m).puts
unfolding choose_plan resting
choice_away m own b k now = by_joined (meters.is_joined m)
  where
    by_agent : (o : Option (ℕ × ℕ)) → Each Away (of_memory (joins_by own (record { memory = m; beside = b }) now o)).puts
    by_agent None = tt
    by_agent (Some (address, total)) = join_away m own address now

    by_joined : (t : Bool)
        → Each Away (of_memory
        (if t then refused {H = ChosenAgent} choosing_ends (record { memory = m; beside = b }) choices.AlreadyJoined else joins_by own
        (record { memory = m; beside = b }) now (kth_of b.scan.agents k))).puts
    by_joined true = tt
    by_joined false = by_agent (kth_of b.scan.agents k)

later_now : (t : ℕ) (x y : Node) → TagNow t x.store.records → TagStays x y → TagNow t y.store.records
later_now t x y (Remains e) stays_so = Remains (stays_so t e)
later_now t x y (Rises e) stays_so = Rises (stays_so _ e)

-- # Moves

-- Each node has the tag that it had, and no node and no event is more.
record TagsKept (v u : World) : Type 0 where
  at : (n : ℕ) (y : Node) → node_at u n ≡ Some y → (x : Node) × (node_at v n ≡ Some x) × TagStays x y
  more : length u.nodes ≡ length v.nodes
  events : u.events ≡ v.events

same_kept : (v u : World) → u.nodes ≡ v.nodes → u.events ≡ v.events → TagsKept v u
same_kept v u nodes events = record { at = λ n y here. (y, sym (ap (λ ns. slice_get ns n) nodes) ∙ here, λ t e. e); more = ap length nodes; events = events }

after_kept : {A : Type 0} (ciphers : Ciphers) (v : World) (number : ℕ) (x : Node) (d : NodeStep A) → node_at v number ≡ Some x → TagStays x d.node
    → TagsKept v (world_after ciphers v number d)
unfolding world_after
after_kept ciphers v number x d there leaves = record { at = at; more = length-set v.nodes number d.node; events = refl }
  where
    at : (n : ℕ) (y : Node) → slice_get (slice_set v.nodes number d.node) n ≡ Some y → (z : Node) × (node_at v n ≡ Some z) × TagStays z y
    at n y here = ⊎_elim
        (λ (e : n ≡ number).
        let got : d.node ≡ y = same_Some _ _
        (sym (slice_get-set v.nodes number d.node (place_within v.nodes number x there)) ∙ ap (slice_get (slice_set v.nodes number d.node))
        (sym e) ∙ here) in
        (x, ap (node_at v) e ∙ there, subst (TagStays x) got leaves))
        (λ (ne : n ≢ number). (y, sym (slice_get-set_other v.nodes number n d.node ne) ∙ here, λ t e. e))
        (cases_eq n number)

moved_kept : (U : List UnsealedUnit → Type 0) (D : Discovery → Type 0) (ciphers : Ciphers) (v u : World) → Moves U D ciphers v u → TagsKept v u
moved_kept U D ciphers v u (Stays z) = same_kept v v refl refl
moved_kept U D ciphers v u (Carries z number x A halted does there is) = after_kept ciphers v number x (acts x halted does) there
    (acts_leave x halted does (λ m here. further_away m (does m) (is m here)))
moved_kept U D ciphers v u (Flies z number x frame there known) = same_kept v u refl refl
moved_kept U D ciphers v u (Besides z on bs) = same_kept v u refl refl
moved_kept U D ciphers v u (Turns z between y first rest) =
    let a = moved_kept U D ciphers v between first in
    let b = moved_kept U D ciphers between u rest in
    record {
      at = λ n y here.
          let k = b.at n y here in
          let j = a.at n k.0 k.1 in
          (j.0, j.1, λ t e. k.2 t (j.2 t e));
      more = b.more ∙ a.more;
      events = b.events ∙ a.events;
    }

moved_on : (w : World) (n : ℕ) (x y : Node) → Moved w n x → TagStays x y → Moved w n y
moved_on w n x y (Was z there moves) stays_so = Was z there (λ t e. later_now t x y (moves t e) stays_so)
moved_on w n x y (IsNew at is) stays_so = IsNew at (stays_so 0 is)

-- what an event did to the tags, where moves follow it
then_kept : (w v u : World) (sent now : Option Sending) → StepTags w v sent → TagsKept v u → now ≡ sent → StepTags w u now
then_kept w v u sent now s k same = record {
  nodes = λ n y here. let h = k.at n y here in moved_on w n h.0 y (s.nodes n h.0 h.1) h.2;
  more = let m = k.more in let le = s.more in omega arith;
  took = λ one is.
      let o = s.took one (sym same ∙ is) in
      record {
        node = o.node;
        there = o.there;
        takes = λ y here.
            let h = k.at one.from y here in
            let q = o.takes h.0 h.1 in
            record { old = q.old; new = λ long. h.2 _ (q.new long) };
      };
}

-- # Every event

module _ (U : List UnsealedUnit → Type 0) (D : Discovery → Type 0) (ciphers : Ciphers) (fits : KeepsRanges ciphers) (w : World) (ok : WorldOk w) where
  -- the tags, and that one event more is counted
  abbrev Counts : Step → Type 0
  Counts (Ok r) = StepTags w r.0 r.1.sent × (r.0.events ≡ w.events + 1)
  Counts (Err fault) = Unit {0}

  old_tags : (event : Event) (s : Step) → IsStep ciphers w event s → Counts s
  old_tags event (Ok r) is = let q : Good ciphers w 0 event (Ok r) = right ciphers w event (Ok r) is 0 in
      (event_tags ciphers fits w ok event (Ok r) is, q.adds.events)
  old_tags event (Err fault) is = tt

  ran_tags : StepTags w (running_world w) None
  ran_tags = record { nodes = same_moved ciphers w; more = omega arith; took = none_took w (running_world w) }

  -- what else changes is of no account
  as_sent : (v u : World) (sent : Option Sending) → StepTags w v sent → u.nodes ≡ v.nodes → StepTags w u sent
  as_sent v u sent s e = record {
    nodes = λ n y here. s.nodes n y (sym (ap (λ ns. slice_get ns n) e) ∙ here);
    more = let m : length u.nodes ≡ length v.nodes = ap length e in let le = s.more in omega arith;
    took = λ one is. let o = s.took one is in record {
      node = o.node;
      there = o.there;
      takes = λ y here. o.takes y
          (sym (ap (λ ns. slice_get ns one.from) e) ∙ here);
    };
  }

  chooses_tags : (number k : ℕ) (x : Node) (own : meters.Identity) → node_at w number ≡ Some x
      → StepTags w (world_after ciphers (running_world w) number (reaches x (beside_at w number) (Err choices.Halted) (λ y. choose_agent own y k w.clock))) None
  chooses_tags number k x own there =
      let d : NodeStep (Result ChosenAgent ChooseRefusal) = reaches x (beside_at w number) (Err choices.Halted) (λ y. choose_agent own y k w.clock) in
      let leaves = acts_leave x (Err choices.Halted) (with_beside (beside_at w number) (λ y. choose_agent own y k w.clock))
      (λ m here. choice_away m own (beside_at w number) k w.clock) in
      then_kept w (running_world w) (world_after ciphers (running_world w) number d) None None ran_tags
      (after_kept ciphers (running_world w) number x d there leaves) refl

  pub line_tags : (event : Event) (s : Step) → IsLineStep U D ciphers w event s → Counts s
  unfolding world_after
  line_tags event s (Known e t is) = old_tags e t is
  line_tags event s (Opens begun) =
      (record { nodes = same_moved ciphers w; more = omega arith; took = none_took w (record (set_up w) { checks_on = true }) }, refl)
  line_tags event s (Anew e v t moves silent) = let k = moved_kept U D ciphers (running_world w) v moves in
      (then_kept w (running_world w) v None t.sent ran_tags k silent.sent, k.events)
  line_tags event s (After e r v t is good runs moves same_words) =
      let o = old_tags e (Ok r) is in
      let k = moved_kept U D ciphers r.0 v moves in
      (then_kept w r.0 v r.1.sent t.sent o.0 k same_words.sent, k.events ∙ o.1)
  line_tags event s (Unsends e r v t is good runs moves same_words) =
      let o = old_tags e (Ok r) is in
      let k = moved_kept U D ciphers r.0 v moves in
      let a = then_kept w r.0 v r.1.sent t.sent o.0 k same_words.sent in
      (as_sent v (sends_nothing w (v, t)).0 t.sent a refl, k.events ∙ o.1)
  line_tags event s (Unbelieves e number x octets got there says comes is) =
      let d = stays (accepting ciphers x octets).node (only answers.Blacklisted) in
      let a = after_tags ciphers fits w ok (running_world w) number x d (same_moved ciphers w) refl there
      (λ t q. Remains (accepts_stays ciphers fits w ok x octets t q)) in
      (as_sent (world_after ciphers (running_world w) number d) _ None a refl, refl)
  line_tags event s (Chooses number k x psk ne there e) =
      let own = identity ciphers x psk in
      let d : NodeStep (Result ChosenAgent ChooseRefusal) = reaches x (beside_at w number) (Err choices.Halted) (λ y. choose_agent own y k w.clock) in (
        as_sent (world_after ciphers (running_world w) number d) (chooses_by ciphers w number x k (Some psk)).0 None (chooses_tags number k x own there) refl,
        refl,
      )

  tags_in : (sent : List Sending) → TagsOk w sent → w.events < 50000 → (s : Step) → Counts s → TagsIn sent s
  tags_in sent tags few (Ok r) c = next_tags w r.0 sent tags few c.1 r.1.sent c.0
  tags_in sent tags few (Err fault) c = tt

pub line_tags_rise : LineTagsRise
line_tags_rise ciphers fits w ok flown logs sent tags few event says =
    tags_in AnyUnits AnyFrame ciphers fits w ok sent tags few (line_step ciphers w event)
    (line_tags AnyUnits AnyFrame ciphers fits w ok event (line_step ciphers w event) (any_line ciphers fits w ok flown logs event says))
