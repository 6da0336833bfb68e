-- A plan that is carried out is the step that the rules of the line have.
use Rattle.std.proofs.Common.{◌≡◌, Option, Some, None, Result, refl, sym, ap, subst, ◌∙◌}
use Rattle.std.specs.Prelude.{IfSome, IfNone, IsSome, MatchResult}
use Rattle.plc_base.specs.declared.address.Eui.{Eui}
use Rattle.plc_base.specs.declared.keeper.Cut.{Cut}
use Rattle.plc_base.specs.declared.keeper.BadStore.{BadStore}
use Rattle.plc_base.specs.declared.out_frame.Out.{Out}
use Rattle.plc_base.specs.Keeper.{Records}
use Rattle.node_rules.specs.Memory.{Memory, Node, Role}
use Rattle.node_rules.specs.NodeSteps.{NodeStep, acts, left_by}
use Rattle.node_rules.specs.Plans.{Plan, Outcome, carry_out}
use Rattle.node_rules.specs.States.{State}
use Rattle.node_rules.specs.CarriedPlans.{Carries, IsCarriedOut, nothing}
use Rattle.node_rules.specs.Tables.{HasShortTables, HasGaplessTables, HoldsTables, WritesInPlace}
use Rattle.node_rules.proofs.Outcomes.{carried}
use Rattle.node_rules.proofs.Tables.{writes_keep_tables}
use Rattle.line_events.specs.declared.event.Answer.{Answer}
use Rattle.line_events.specs.declared.event.Answer.TheVariants as answers
use Rattle.line_world.specs.Nodes.{cut_ahead, node_in}
use Rattle.line_world.specs.NodeOutcomes.{given_by}
use Rattle.line_world.specs.Soundness.{NodeAgreesWith, IsSound}

-- # What is there

pub known_cut_of : (o : Option (Option Cut)) → IsSome o → (c : Option Cut) × (o ≡ Some c)
known_cut_of (Some c) is = (c, refl)
known_cut_of None is = absurd (cc)

pub at : {M : Type 0} (o : Option M) (P : M → Type 0) (m : M) → o ≡ Some m → IfSome o P → P m
at {M} o P m e h = subst (λ (k : Option M). IfSome k P) e h

some_is : {M : Type 0} (o : Option M) (m : M) → o ≡ Some m → IsSome o
some_is {M} o m e = subst (λ (k : Option M). IsSome k) (sym e) (cc)

-- a node of these parts
node_is : (role : Role) (y : State Memory) (eui : Eui) (records : Records) (cut : Option Cut) (memory : Option Memory)
    → y.eui ≡ eui → y.store.records ≡ records → y.store.known_cut ≡ Some cut → y.memory ≡ memory
    → node_in role y ≡ record { role = role; eui = eui; store = record { records = records; cut = cut }; memory = memory }
node_is role y eui records cut memory e r t m = λ i. record { role = role; eui = e i; store = record { records = r i; cut = cut_ahead (t i) }; memory = m i }

-- # Steps of one node

-- A node took this step: this is what it answered and gave out, and what became of it.
pub record Took {A : Type 0} (step : NodeStep A) (answer : A) (out : Out) (node : Node) : Type 0 where
  pub answer_is : answer ≡ step.answer
  pub out_is : out ≡ given_by step
  pub node_is : node ≡ step.node

-- # One plan

-- the step that a plan gives
abbrev step_of : {A : Type 0} → Role → State Memory → A → (Memory → Plan Memory A) → Option Memory → NodeStep A
step_of role x halted p o = acts (record (node_in role x) { memory = o }) halted p

by_cut : {A : Type 0} (role : Role) (x y : State Memory) (p : Plan Memory A) (answer : A) (out : Out) (cut : Option Cut) → x.store.known_cut ≡ Some cut
    → (is : IsCarriedOut x p answer out y) → cut ≡ is.cut
    → Took (left_by (node_in role x) (carry_out x.store.records (cut_ahead x.store.known_cut) p)) answer out (node_in role y)
by_cut {A} role x y p answer out cut cut_known is same =
    let known_cut_is : x.store.known_cut ≡ Some is.cut = cut_known ∙ ap (λ c. Some c) same in
    let o : Outcome Memory A = carry_out x.store.records is.cut p in
    let e : o ≡ carry_out x.store.records (cut_ahead x.store.known_cut) p = ap (λ c. carry_out x.store.records (cut_ahead c) p) (sym known_cut_is) in
    let y_known : y.store.known_cut ≡ Some o.cut = at x.store.known_cut (λ c. y.store.known_cut ≡ Some o.cut) cut cut_known is.shows.known_cut_is in
    let t : Took (left_by (node_in role x) o) answer out (node_in role y) = record {
      answer_is = is.shows.answer_is;
      out_is = is.shows.out_is;
      node_is = node_is role y x.eui o.records o.cut o.memory is.shows.eui_is is.shows.records_is y_known is.shows.memory_is;
    } in
    subst (λ (k : Outcome Memory A). Took (left_by (node_in role x) k) answer out (node_in role y)) e t

-- a plan that was carried out is the step that it gives
pub took_plan : {A : Type 0} (role : Role) (x y : State Memory) (p : Plan Memory A) (answer : A) (out : Out) → IsSome x.store.known_cut
    → Carries x p answer out y
    → Took (left_by (node_in role x) (carry_out x.store.records (cut_ahead x.store.known_cut) p)) answer out (node_in role y)
took_plan role x y p answer out cut_known c =
    let k = known_cut_of x.store.known_cut cut_known in
    let is = carried x p answer out y c in
    by_cut role x y p answer out k.0 k.1 is (at x.store.known_cut (λ d. d ≡ is.cut) k.0 k.1 is.known_cut)

-- what the keeper tells afterwards
pub still_known : {A : Type 0} (x y : State Memory) (p : Plan Memory A) (answer : A) (out : Out) → IsSome x.store.known_cut → Carries x p answer out y
    → IsSome y.store.known_cut
still_known {A} x y p answer out cut_known c =
    let k = known_cut_of x.store.known_cut cut_known in
    let is = carried x p answer out y c in
    let o : Outcome Memory A = carry_out x.store.records is.cut p in
    some_is y.store.known_cut o.cut (at x.store.known_cut (λ d. y.store.known_cut ≡ Some o.cut) k.0 k.1 is.shows.known_cut_is)

-- # A call, of a node that is halted or not

-- What a call did, if the node was halted.
abbrev pub StayedHalted : {A : Type 0} → State Memory → A → A → Out → State Memory → Type 0
StayedHalted x halted answer out y = IfNone x.memory ((answer ≡ halted) × (out ≡ nothing) × (y ≡ x))

-- A call took the step of its rule.
pub took : {A : Type 0} (role : Role) (x y : State Memory) (halted : A) (p : Memory → Plan Memory A) (answer : A) (out : Out) → IsSome x.store.known_cut
    → StayedHalted x halted answer out y → IfSome x.memory (λ m. Carries x (p m) answer out y)
    → Took (acts (node_in role x) halted p) answer out (node_in role y)
unfolding acts
took {A} role x y halted p answer out cut_known stayed carries = by x.memory refl stayed carries
  where
    by : (o : Option Memory) → x.memory ≡ o → IfNone o ((answer ≡ halted) × (out ≡ nothing) × (y ≡ x)) → IfSome o (λ m. Carries x (p m) answer out y)
        → Took (acts (node_in role x) halted p) answer out (node_in role y)
    by None e s c =
        subst (λ (o : Option Memory). Took (step_of role x halted p o) answer out (node_in role y)) (sym e) (record {
          answer_is = s.0;
          out_is = s.1;
          node_is = ap (λ (z : State Memory). node_in role z) s.2 ∙ ap (λ (o : Option Memory). record (node_in role x) { memory = o }) e;
        })
    by (Some m) e s c =
        subst (λ (o : Option Memory). Took (step_of role x halted p o) answer out (node_in role y)) (sym e) (took_plan role x y (p m) answer out cut_known c)

-- # What a call leaves

-- What a station that agrees holds of its tables is what its records give, and each entry has a slot.
pub holds_tables : (role : Role) (m : Memory) (records : Records) → NodeAgreesWith role m records → HoldsTables role m.station m.book records
holds_tables role m records a = record { marks = a.station.marks; ranks = a.station.routing.ranks; entries = a.book }

pub short_tables : (role : Role) (m : Memory) (records : Records) → NodeAgreesWith role m records → HasShortTables m.station
short_tables role m records a = record { marks = a.station.marks.short; ranks = a.station.routing.ranks.short }

-- each write of a plan is in place
abbrev pub Places : {A : Type 0} → (Memory → Plan Memory A) → Type 0
Places p = (m : Memory) → HasShortTables m.station → WritesInPlace m.station m.book (p m)

pub known_after : {A : Type 0} (role : Role) (x y : State Memory) (halted : A) (p : Memory → Plan Memory A) (answer : A) (out : Out) → IsSound role x
    → StayedHalted x halted answer out y → IfSome x.memory (λ m. Carries x (p m) answer out y) → IsSome y.store.known_cut
known_after {A} role x y halted p answer out sound stayed carries = by x.memory stayed carries
  where
    by : (o : Option Memory) → IfNone o ((answer ≡ halted) × (out ≡ nothing) × (y ≡ x)) → IfSome o (λ m. Carries x (p m) answer out y)
        → IsSome y.store.known_cut
    by None s c = subst (λ (z : State Memory). IsSome z.store.known_cut) (sym s.2) sound.known_cut
    by (Some m) s c = still_known x y (p m) answer out sound.known_cut c

pub tables_after : {A : Type 0} (role : Role) (x y : State Memory) (halted : A) (p : Memory → Plan Memory A) (answer : A) (out : Out) → Places p
    → IsSound role x
    → StayedHalted x halted answer out y → IfSome x.memory (λ m. Carries x (p m) answer out y) → HasGaplessTables role y.store.records
tables_after {A} role x y halted p answer out places sound stayed carries = by x.memory sound.agrees stayed carries
  where
    by : (o : Option Memory) → IfSome o (λ m. NodeAgreesWith role m x.store.records) → IfNone o ((answer ≡ halted) × (out ≡ nothing) × (y ≡ x))
        → IfSome o (λ m. Carries x (p m) answer out y) → HasGaplessTables role y.store.records
    by None a s c = subst (λ (z : State Memory). HasGaplessTables role z.store.records) (sym s.2) sound.tables
    by (Some m) a s c =
        writes_keep_tables role m.station m.book x.store (p m).puts c.done y.store (holds_tables role m x.store.records a)
        (places m (short_tables role m x.store.records a)) c.wrote

-- # A call that a halted node does not get to

pub not_some : {M : Type 0} (o : Option M) (P : M → Type 0) → o ≡ None → IfSome o P
not_some {M} o P e = subst (λ (k : Option M). IfSome k P) (sym e) tt

pub not_none : {M : Type 0} (o : Option M) (P : Type 0) → IsSome o → IfNone o P
not_none (Some m) P is = tt
not_none None P is = absurd (cc)

pub if_none : {M : Type 0} (o : Option M) (P : Type 0) → P → IfNone o P
if_none (Some m) P h = tt
if_none None P h = h

-- a call that gives nothing out
pub gives_nothing : {M : Type 0} (o : Option M) (P Q : Type 0) → IfNone o (P × Q) → IfNone o (P × (◌≡◌ {A = Out} nothing nothing) × Q)
gives_nothing (Some m) P Q h = tt
gives_nothing None P Q h = (h.0, refl, h.1)

-- # Restarts

-- the word of an answer of a restart
abbrev pub IsRestartWord : Result (Unit {0}) BadStore → Answer → Type 0
IsRestartWord read word = MatchResult read (λ _. word ≡ answers.Restarted) (λ _. word ≡ answers.BadStore)
