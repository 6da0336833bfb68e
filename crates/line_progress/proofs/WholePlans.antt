-- A node that acts does all of its plan, or a write fails; with no loss of power to come it does all of it.
use Rattle.std.proofs.Common.{◌≡◌, Bool, true, false, List, [], ◌∷◌, Some, None, refl, sym, subst, ◌∙◌}
use Rattle.std.specs.Prelude.{if◌then◌else◌}
use Rattle.std.specs.Option.{option_map_or}
use Rattle.std.specs.FinMap.{insert}
use Rattle.plc_base.specs.Keeper.{Records, Write}
use Rattle.store_tables.specs.Writes.{Written, write}
use Rattle.node_rules.specs.Memory.{Memory, Node}
use Rattle.node_rules.specs.Plans.{Plan, carry_out, finished, halted, outcome_of}
use Rattle.node_rules.specs.NodeSteps.{NodeStep, acts, stays, left_by}

-- puts none of which fails
record IsMade (w : Written) : Type 0 where
  whole : w.whole ≡ true
  cut : w.cut ≡ None

all_made : (puts : List Write) (records : Records) → IsMade (write puts None records)
all_made [] records = record { whole = refl; cut = refl }
all_made (w ∷ rest) records =
    let more = all_made rest (insert records w.slot w.octets) in record { whole = more.whole; cut = more.cut }

-- what a node did that carried out all of a plan
abbrev pub acted : {A : Type 0} → Node → Plan Memory A → NodeStep A
acted x p = record {
  node = record x { store = record { records = (write p.puts None x.store.records).records; cut = None }; memory = Some p.memory };
  answer = p.answer;
  frames = p.frames;
  made = p.made;
  opened = p.opened;
}

pub acts_whole : {A : Type 0} (x : Node) (m : Memory) (halts : A) (plan : Memory → Plan Memory A) → x.memory ≡ Some m → x.store.cut ≡ None
    → acts x halts plan ≡ acted x (plan m)
unfolding acts carry_out
acts_whole x m halts plan e c =
    let p = plan m in
    let made = all_made p.puts x.store.records in
    let w : Written = write p.puts None x.store.records in
    (λ i. option_map_or (λ n. left_by x (outcome_of (write (plan n).puts (c i) x.store.records) (plan n))) (e i) (stays x halts))
    ∙ (λ i. left_by x (if made.whole i then finished w p else halted w p))
    ∙ (λ i. record {
      node = record x { store = record { records = w.records; cut = made.cut i }; memory = Some p.memory };
      answer = p.answer;
      frames = p.frames;
      made = p.made;
      opened = p.opened;
    })

-- # Whatever power is lost

-- the plan was carried out, or a write failed and the node has halted
pub data Acted {A : Type 0} (p : Plan Memory A) (d : NodeStep A) : Type 0 where
  Whole : d.answer ≡ p.answer → d.frames ≡ p.frames → d.node.memory ≡ Some p.memory → Acted p d
  Failed : d.answer ≡ p.failed → d.frames ≡ [] → d.node.memory ≡ None → Acted p d

pub acts_either : {A : Type 0} (x : Node) (m : Memory) (halts : A) (plan : Memory → Plan Memory A) → x.memory ≡ Some m
    → Acted (plan m) (acts x halts plan)
unfolding acts carry_out
acts_either x m halts plan e =
    let p = plan m in
    let w : Written = write p.puts x.store.cut x.store.records in
    subst (λ o. Acted p (option_map_or (λ n. left_by x (outcome_of (write (plan n).puts x.store.cut x.store.records) (plan n))) o (stays x halts))) (sym e)
    (by_whole w w.whole)
  where
    by_whole : (w : Written) (b : Bool) → Acted (plan m) (left_by x (if b then finished w (plan m) else halted w (plan m)))
    by_whole w true = Whole refl refl refl
    by_whole w false = Failed refl refl refl
