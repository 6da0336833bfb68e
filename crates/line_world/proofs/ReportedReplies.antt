-- The reply that a node reports, where it heard a route message, is the one among the frames of its step.
use Rattle.std.proofs.Common.{◌≡◌, ℕ, Bool, true, false, List, Option, Some, None, Result, Ok, Err, refl, sym, ap, subst, ◌∙◌, arith}
use Rattle.std.specs.Prelude.{◌==◌, IsSome, if◌then◌else◌}
use Rattle.std.specs.Option.{option_and_then, option_map, option_map_or}
use Rattle.std.proofs.lemmas.Bool.{eqb-true, ne_eqb}
use Rattle.mesh_header.specs.declared.unit.Unit.{Unit as MeshUnit}
use Rattle.mesh_header.specs.declared.unit.Unit.TheVariants as units
use Rattle.mesh_header.specs.Reader.{unit_in}
use Rattle.loadng_messages.specs.Reader.{message_in}
use Rattle.node_rules.specs.Accepted.{Accepted}
use Rattle.node_rules.specs.declared.heard.Heard.{Heard}
use Rattle.node_rules.specs.declared.heard.Heard.TheVariants as heard
use Rattle.node_rules.specs.declared.heard.Path.{Path}
use Rattle.node_rules.specs.declared.heard.Path.TheVariants as paths
use Rattle.node_rules.specs.declared.heard.Reply.{Reply}
use Rattle.node_rules.specs.declared.refusal.Dropped.{Dropped}
use Rattle.node_rules.specs.declared.refusal.Dropped.TheVariants.{BadUnit, Store}
use Rattle.node_rules.specs.Drafts.{choose}
use Rattle.node_rules.specs.HearingRules.{Hearing, drop_it, hear, hear_command, hear_message_in, hear_plain, hear_unit_in}
use Rattle.node_rules.specs.Memory.{StationMemory, Memory, Node, address_of}
use Rattle.node_rules.specs.MemoryDrafts.{unread}
use Rattle.node_rules.specs.NodeSteps.{acts, left_by, stays}
use Rattle.node_rules.specs.Plans.{Plan, carry_out, finished, halted as cut_off, resting}
use Rattle.node_rules.specs.Replies.{reply_among, reply_sent, route_message}
use Rattle.node_rules.proofs.OwnAnswers.{Own, ByAnswer, IsOwn, message_in_own}
use Rattle.reach_rules.specs.CheckedReplies.{message_of}
use Rattle.store_tables.specs.Writes.{Written, write}

-- # A route message is not handed on

own_answer : (r : Result Heard Dropped) → ((h : Heard) → r ≡ Ok h → IsOwn h) → unread r ≡ None
own_answer (Err reason) own = refl
own_answer (Ok (heard.Joining way body)) own = absurd (own (heard.Joining way body) refl)
own_answer (Ok (heard.Up from note octets)) own = refl
own_answer (Ok heard.Held) own = refl
own_answer (Ok heard.Relayed) own = refl
own_answer (Ok heard.Answered) own = refl
own_answer (Ok heard.Learned) own = refl
own_answer (Ok heard.Broken) own = refl
own_answer (Ok heard.Reported) own = refl
own_answer (Ok (heard.Local from all code body)) own = refl

own_unread : (p : Hearing) → Own p → unread p.answer ≡ None
own_unread p (ByAnswer q own) = own_answer q.answer own

module _ (l : StationMemory) (cost note now : ℕ) where
  drop_unread : unread (drop_it l BadUnit).answer ≡ None
  unfolding resting
  drop_unread = refl

  by_code : (own from : ℕ) (all : Bool) (code : ℕ) (body : List ℕ) (t : Bool) → IsSome (if t then message_in body else None)
      → unread (choose t (hear_message_in l own from all cost now (message_in body))
      (choose (code == 2) (drop_it l BadUnit) (resting l (Ok (heard.Local from all code body)) (Err Store)))).answer ≡ None
  unfolding choose
  by_code own from all code body true is = own_unread _ (message_in_own l own from all cost now (message_in body))
  by_code own from all code body false is = absurd (cc)

  by_address : (from : ℕ) (all : Bool) (code : ℕ) (body : List ℕ) (o : Option ℕ) → IsSome (route_message (units.Local code body))
      → unread (option_map_or (λ own. hear_command l own from all code body cost now) o (drop_it l BadUnit)).answer ≡ None
  by_address from all code body None is = drop_unread
  by_address from all code body (Some own) is = by_code own from all code body (code == 1) is

  -- a command of another code is no joining command
  other_code : (code : ℕ) (body : List ℕ) → IsSome (route_message (units.Local code body)) → (code == 2) ≡ false
  other_code code body is = by_one (code == 1) refl is
    where
      by_one : (t : Bool) → (code == 1) ≡ t → IsSome (if t then message_in body else None) → (code == 2) ≡ false
      by_one true e some = let one = eqb-true code 1 e in ne_eqb code 2 (λ two. omega (arith, one, two))
      by_one false e some = absurd (cc)

  plain_unread : (answer : List ℕ → Heard) (code : ℕ) (body : List ℕ) (t : Bool) → t ≡ false
      → unread (hear_plain l answer (if t then Some body else None)).answer ≡ None
  plain_unread answer code body true e = absurd (cc)
  plain_unread answer code body false e = drop_unread

  unit_unread : (p : Path) (u : Option MeshUnit) → IsSome (option_and_then route_message u) → unread (hear_unit_in l p u cost note now).answer ≡ None
  unit_unread p None is = absurd (cc)
  unit_unread p (Some (units.Whole mesh octets)) is = absurd (cc)
  unit_unread p (Some (units.Part mesh piece)) is = absurd (cc)
  unit_unread p (Some (units.Carried mesh body)) is = absurd (cc)
  unit_unread (paths.Sealed from all key) (Some (units.Local code body)) is = by_address from all code body (address_of l) is
  unit_unread (paths.Up from) (Some (units.Local code body)) is = plain_unread _ code body (code == 2) (other_code code body is)
  unit_unread (paths.Down from) (Some (units.Local code body)) is = plain_unread _ code body (code == 2) (other_code code body is)

  pub messages_unread : (got : Accepted) → IsSome (message_of got) → unread (hear l got cost note now).answer ≡ None
  messages_unread got is = unit_unread got.path (unit_in got.payload) is

-- # The reply of a step

-- the reply that a plan sent is among the frames of its step
acts_reply : {A : Type 0} (x : Node) (halted : A) (p : Memory → Plan Memory A) (m : Memory) → x.memory ≡ Some m
    → reply_sent (p m) (acts x halted p).node.memory ≡ reply_among (acts x halted p).frames
unfolding acts carry_out
acts_reply {A} x halted p m e =
    subst (λ (o : Option Memory). reply_sent (p m) (option_map_or (λ n. left_by x (carry_out x.store.records x.store.cut (p n))) o (stays x halted)).node.memory
    ≡ reply_among (option_map_or (λ n. left_by x (carry_out x.store.records x.store.cut (p n))) o (stays x halted)).frames) (sym e)
    (by (write (p m).puts x.store.cut x.store.records) (write (p m).puts x.store.cut x.store.records).whole)
  where
    by : (w : Written) (whole : Bool) → reply_sent (p m) (if whole then finished w (p m) else cut_off w (p m)).memory
        ≡ reply_among (if whole then finished w (p m) else cut_off w (p m)).frames
    by w true = refl
    by w false = refl

-- what a node that is not halted holds
pub there_is : (o : Option Memory) → IsSome o → (m : Memory) × (o ≡ Some m)
there_is None is = absurd (cc)
there_is (Some m) is = (m, refl)

-- a reply, as a station tells it
abbrev pub parts_of : Option Reply → Option (ℕ × ℕ × ℕ)
parts_of o = option_map (λ (r : Reply). (r.to, r.number, r.origin)) o

same_reply : (a z : Option Reply) → parts_of a ≡ parts_of z → a ≡ z
same_reply None None e = refl
same_reply None (Some z) e = absurd (cc)
same_reply (Some a) None e = absurd (cc)
same_reply (Some a) (Some z) e = ap (λ (o : Option (ℕ × ℕ × ℕ)). option_map (λ (t : ℕ × ℕ × ℕ). record { to = t.0; number = t.1; origin = t.2 }) o) e

-- what a node tells of the reply that its station sent
pub reply_is : {A : Type 0} (x : Node) (halted : A) (p : Memory → Plan Memory A) (m : Memory) (left : Option Memory) (last reported : Option Reply)
    → x.memory ≡ Some m → left ≡ (acts x halted p).node.memory
    → last ≡ reply_sent (p m) left → parts_of reported ≡ parts_of last → reported ≡ reply_among (acts x halted p).frames
reply_is x halted p m left last reported there after is same =
    same_reply reported last same ∙ is ∙ ap (λ (o : Option Memory). reply_sent (p m) o) after ∙ acts_reply x halted p m there
