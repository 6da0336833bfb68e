-- An acknowledgement goes out, if one is due, and a reply that was sent begins a check.
use Rattle.std.proofs.Common.{◌≡◌, ℕ, Bool, true, false, List, Option, Some, None, Result, Err, refl, sym, ap, subst, ◌∙◌, if◌then◌else◌, length}
use Rattle.std.specs.Prelude.{IfSome, is_some, nat_lt, slice_get, slice_set}
use Rattle.std.specs.Option.{option_map_or}
use Rattle.plc_base.specs.declared.out_frame.Out.{Out}
use Rattle.store_tables.specs.Writes.{Written, write}
use Rattle.neighbour_checks.specs.Acks.{ack_spelling}
use Rattle.neighbour_checks.specs.Neighbours.{Neighbours, sent_after}
use Rattle.node_rules.specs.declared.heard.Reply.{Reply}
use Rattle.node_rules.specs.declared.refusal.LocalRefusal.{LocalRefusal}
use Rattle.node_rules.specs.declared.refusal.LocalRefusal.TheVariants as locals
use Rattle.node_rules.specs.Drafts.{alone, counters_left, refused, sealed, sealing}
use Rattle.node_rules.specs.Memory.{Memory, Node}
use Rattle.node_rules.specs.MemoryDrafts.{in_memory, with_station}
use Rattle.node_rules.specs.Neighbours.{local_draft, local_ends}
use Rattle.node_rules.specs.NodeSteps.{NodeStep, acts, left_by, stays}
use Rattle.node_rules.specs.Plans.{Plan, carry_out, finished, halted as cut_off, resting, within}
use Rattle.reach_rules.specs.CheckedReplies.{acknowledges}
use Rattle.reach_rules.specs.ReachingNodes.{Beside}
use Rattle.line_rules.specs.Further.{acknowledging, beside_at}
use Rattle.line_rules.specs.Worlds.{World}
use Rattle.line_world.specs.Arrivals.{Acknowledges, is_stored, with_check_of}
use Rattle.line_world.specs.FurtherOutcomes.{DidAfter}
use Rattle.line_world.proofs.HeardCommands.{beside_same, set_same}

-- an acknowledgement fails where its node halts
pub ack_stored : (x : Node) (reply : Reply) → is_stored (acknowledging x reply).answer ≡ is_some (acknowledging x reply).node.memory
unfolding acts carry_out sealed resting
ack_stored x reply = by_memory x.memory refl
  where
    plan : Bool → Memory → Plan Memory (Result (Unit {0}) LocalRefusal)
    plan spent m =
        within (λ l. with_station l m) (λ a. a)
        (if spent then refused local_ends m.station local_ends.spent
        else sealing alone local_ends (local_draft m.station 3 (Some reply.to) (ack_spelling reply.number reply.origin)) tt)

    by_whole : (spent whole : Bool) (m : Memory) (w : Written)
        → is_stored (if whole then finished w (plan spent m) else cut_off w (plan spent m)).answer
        ≡ is_some (if whole then finished w (plan spent m) else cut_off w (plan spent m)).memory
    by_whole true true m w = refl
    by_whole true false m w = refl
    by_whole false true m w = refl
    by_whole false false m w = refl

    by_spent : (spent : Bool) (m : Memory) → is_stored (left_by x (carry_out x.store.records x.store.cut (plan spent m))).answer
        ≡ is_some (left_by x (carry_out x.store.records x.store.cut (plan spent m))).node.memory
    by_spent spent m =
        let w : Written = write (plan spent m).puts x.store.cut x.store.records in
        by_whole spent w.whole m w

    did : Option Memory → NodeStep (Result (Unit {0}) LocalRefusal)
    did o = option_map_or (λ m. left_by x (carry_out x.store.records x.store.cut (acknowledges in_memory reply.to reply.number reply.origin m))) o
        (stays x (Err locals.Store))

    by_memory : (o : Option Memory) → x.memory ≡ o → is_stored (did o).answer ≡ is_some (did o).node.memory
    by_memory None e = sym (ap is_some e)
    by_memory (Some m) e =
        by_spent (nat_lt (counters_left m.station) (length (local_draft m.station 3 (Some reply.to) (ack_spelling reply.number reply.origin)).units)) m

-- none is due
pub none_due : (w : World) (number : ℕ) (x : Node) (out : Out) → slice_get w.nodes number ≡ Some x → Acknowledges w number x None out true out w
none_due w number x out at = record {
  world_is = ap (λ ns. record w { nodes = ns }) (sym (set_same w.nodes number x at));
  done_is = refl;
  out_is = tt;
  kept = refl;
}

-- one was sent
pub one_due : (w new : World) (number : ℕ) (x : Node) (reply : Reply) (answer : Result (Unit {0}) LocalRefusal) (before out : Out) (nodes : List Node)
    (done : Bool) → done ≡ is_stored answer
    → DidAfter (acknowledging x reply) w.nodes number answer before out nodes → new ≡ record w { nodes = nodes }
    → Acknowledges w number x (Some reply) before done out new
one_due w new number x reply answer before out nodes done is did left = record {
  world_is = left ∙ ap (λ ns. record w { nodes = ns }) did.nodes_are;
  done_is = is ∙ ap is_stored did.answer_is ∙ ack_stored x reply;
  out_is = did.out_is;
  kept = tt;
}

-- the same of the node of a number, if there is one
pub none_due_at : (w : World) (number : ℕ) (due : Option Reply) (out : Out) → due ≡ None
    → IfSome (slice_get w.nodes number) (λ x. Acknowledges w number x due out true out w)
none_due_at w number due out none = by (slice_get w.nodes number) refl
  where
    by : (o : Option Node) → slice_get w.nodes number ≡ o → IfSome o (λ x. Acknowledges w number x due out true out w)
    by None at = tt
    by (Some x) at = subst (λ (d : Option Reply). Acknowledges w number x d out true out w) (sym none) (none_due w number x out at)

pub one_due_at : (w new : World) (number : ℕ) (due : Option Reply) (reply : Reply) (answer : Result (Unit {0}) LocalRefusal) (before out : Out)
    (nodes : List Node) (done : Bool) → due ≡ Some reply → done ≡ is_stored answer
    → IfSome (slice_get w.nodes number) (λ x. DidAfter (acknowledging x reply) w.nodes number answer before out nodes) → new ≡ record w { nodes = nodes }
    → IfSome (slice_get w.nodes number) (λ x. Acknowledges w number x due before done out new)
one_due_at w new number due reply answer before out nodes done one is did left = by (slice_get w.nodes number) did
  where
    by : (o : Option Node) → IfSome o (λ x. DidAfter (acknowledging x reply) w.nodes number answer before out nodes)
        → IfSome o (λ x. Acknowledges w number x due before done out new)
    by None d = tt
    by (Some x) d = subst (λ (q : Option Reply). Acknowledges w number x q before done out new) (sym one)
        (one_due w new number x reply answer before out nodes done is d left)

-- no reply was sent
pub no_check : (w : World) (number : ℕ) → w ≡ with_check_of w number None
no_check w number = ap (λ bs. record w { beside = bs }) (sym (beside_same w.beside number))

-- one was, and its neighbour is checked
pub one_check : (w : World) (number : ℕ) (reply : Reply) (b : Beside) (checks : Neighbours) → b ≡ beside_at w number
    → checks ≡ sent_after b.checks reply.to reply.number reply.origin w.clock
    → record w { beside = slice_set w.beside number (record b { checks = checks }) } ≡ with_check_of w number (Some reply)
one_check w number reply b checks held is =
    ap (λ (c : Neighbours). record w { beside = slice_set w.beside number (record b { checks = c }) }) is
    ∙ ap (λ (k : Beside). record w {
      beside = slice_set w.beside number (record k { checks = sent_after k.checks reply.to reply.number reply.origin w.clock });
    }) held
