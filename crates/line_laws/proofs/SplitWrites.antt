-- A plan whose writes come in two parts does what two plans do, one after the other: the first stores its part, and the second does the rest.
use Rattle.std.proofs.Common.{◌≡◌, Bool, true, false, List, [], ◌∷◌, ◌++◌, Option, Some, None, refl}
use Rattle.std.specs.Prelude.{if◌then◌else◌}
use Rattle.plc_base.specs.declared.address.Eui.{Eui}
use Rattle.plc_base.specs.declared.keeper.Cut.{Cut}
use Rattle.plc_base.specs.Keeper.{Records, Write, succeeds, cut_after, records_after}
use Rattle.store_tables.specs.Writes.{Written, write}
use Rattle.node_rules.specs.Memory.{Memory, Node, Role, Stored}
use Rattle.node_rules.specs.ComposedPlans.{behind}
use Rattle.node_rules.specs.NodeSteps.{acts, left_by}
use Rattle.node_rules.specs.Plans.{Plan, carry_out, outcome_of}
use Rattle.line_laws.specs.Later.{IsSplit, PlansSplit}
use Rattle.line_laws.proofs.LaterStores.{storing}

-- the writes of both parts are those of the first, and then those of the second where the first was stored
pub write_append : (ps qs : List Write) (cut : Option Cut) (r : Records)
    → write (ps ++ qs) cut r ≡ (if (write ps cut r).whole then write qs (write ps cut r).cut (write ps cut r).records else write ps cut r)
write_append [] qs cut r = refl
write_append (p ∷ ps) qs cut r = by_test (succeeds cut) (write_append ps qs (cut_after cut) (records_after cut r p.slot p.octets))
  where
    lost : Written
    lost = record { whole = false; records = records_after cut r p.slot p.octets; cut = cut_after cut }

    next : List Write → Written
    next ws = write ws (cut_after cut) (records_after cut r p.slot p.octets)

    by_test : (b : Bool) → next (ps ++ qs) ≡ (if (next ps).whole then write qs (next ps).cut (next ps).records else next ps)
        → (if b then next (ps ++ qs) else lost)
        ≡ (if (if b then next ps else lost).whole then write qs (if b then next ps else lost).cut (if b then next ps else lost).records
        else (if b then next ps else lost))
    by_test true e = e
    by_test false e = refl

module _ {A : Type 0} (answer : A) (ps : List Write) (q : Memory → Plan Memory A) (role : Role) (eui : Eui) (store : Stored) where
  abbrev node_with : Option Memory → Node
  node_with o = record { role = role; eui = eui; store = store; memory = o }

  -- by what became of the first writes
  by_first : (m : Memory) (a : Written) (t : Bool) → a.whole ≡ t
      → IsSplit (left_by (node_with (Some m)) (outcome_of (if a.whole then write (q m).puts a.cut a.records else a) (behind ps (q m))))
      (left_by (node_with (Some m)) (outcome_of a (storing ps m)))
      (acts (left_by (node_with (Some m)) (outcome_of a (storing ps m))).node answer q)
  unfolding acts carry_out
  by_first m a true e = rw e (record { node = both _ refl; frames = sent _ refl; made = tags _ refl; silent = refl; none_made = refl })
    where
      rest : Written
      rest = write (q m).puts a.cut a.records

      both : (t : Bool) → rest.whole ≡ t → (left_by (node_with (Some m)) (outcome_of rest (behind ps (q m)))).node
          ≡ (left_by (record (node_with (Some m)) { store = record { records = a.records; cut = a.cut }; memory = Some m }) (outcome_of rest (q m))).node
      both true e = rw e refl
      both false e = rw e refl

      sent : (t : Bool) → rest.whole ≡ t → (outcome_of rest (behind ps (q m))).frames ≡ (outcome_of rest (q m)).frames
      sent true e = rw e refl
      sent false e = rw e refl

      tags : (t : Bool) → rest.whole ≡ t → (outcome_of rest (behind ps (q m))).made ≡ (outcome_of rest (q m)).made
      tags true e = rw e refl
      tags false e = rw e refl
  by_first m a false e = rw e (record { node = refl; frames = refl; made = refl; silent = refl; none_made = refl })

  by_memory : (o : Option Memory) → IsSplit (acts (node_with o) answer (λ m. behind ps (q m))) (acts (node_with o) tt (storing ps))
      (acts (acts (node_with o) tt (storing ps)).node answer q)
  unfolding acts carry_out
  by_memory None = record { node = refl; frames = refl; made = refl; silent = refl; none_made = refl }
  by_memory (Some m) = rw (write_append ps (q m).puts store.cut store.records) (by_first m (write ps store.cut store.records) _ refl)

-- a node carries out a plan of two parts
pub plans_split : {A : Type 0} → PlansSplit A
plans_split x answer ps q = by_memory answer ps q x.role x.eui x.store x.memory
