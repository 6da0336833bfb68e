-- Each kind of event keeps the logs: what nodes without further reach write leaves them, and what further rules write leads from one log to
-- another.
use Rattle.std.proofs.Common.{inl, inr, ◌≡◌, ℕ, zero, suc, Bool, true, false, List, [], ◌∷◌, ◌++◌, Option, Some, None, Result, Ok, Err, refl, sym}
use Rattle.std.proofs.Common.{ap, ◌∙◌, subst, arith}
use Rattle.std.specs.Prelude.{if◌then◌else◌, slice_get, slice_set, is_some, map, unwrap_or, All}
use Rattle.std.specs.Option.{option_map_or}
use Rattle.std.specs.FinMap.{insert}
use Rattle.std.proofs.lemmas.Option.{same_Some}
use Rattle.plc_base.specs.declared.keeper.BadStore.{BadStore}
use Rattle.plc_base.specs.Keeper.{Records, Write}
use Rattle.store_tables.specs.Writes.{Written, write}
use Rattle.store_tables.specs.SlotTables.{slot_of}
use Rattle.store_tables.specs.LeadingPuts.{Reads, PutsLead, Left}
use Rattle.store_tables.proofs.LeadingPuts.{leads_append, leads_beside, left_by}
use Rattle.broadcast_log.specs.Log.{Log, opened}
use Rattle.broadcast_log.specs.NextNumber.{limit_in}
use Rattle.broadcast_log.specs.OriginMarks.{marks}
use Rattle.broadcast_log.specs.Laws.{IsLogIn}
use Rattle.broadcast_log.proofs.ReopenedLogs.{opened_in}
use Rattle.node_rules.specs.Memory.{Memory, Node}
use Rattle.node_rules.specs.LogSlots.{SameLog, IsBesideLog, LeavesLog}
use Rattle.node_rules.specs.NodeSteps.{NodeStep, acts, stays, left_by as node_left}
use Rattle.node_rules.specs.Plans.{Plan, Outcome, carry_out, outcome_of, finished, halted as cut_off}
use Rattle.node_rules.proofs.LogPuts.{carrying_out_leaves_log, same_put}
use Rattle.reach_rules.specs.ReachingNodes.{Beside, Reaching, nothing_beside, restarted, restarted_by}
use Rattle.line_rules.specs.Further.{beside_after, reaches, with_beside, without_log}
use Rattle.line_rules.specs.Logs.{LogIn, AreLogged}

-- # Lists of logs

-- the log at a place
abbrev pub log_at : List Beside → ℕ → Log
log_at bs n = (unwrap_or (slice_get bs n) nothing_beside).log

abbrev pub NodeIn : Log → Node → Type 0
NodeIn log x = LogIn log x.store.records x.memory

pub logged_at : (bs : List Beside) (ns : List Node) (n : ℕ) (x : Node) → AreLogged bs ns → slice_get ns n ≡ Some x → NodeIn (log_at bs n) x
logged_at [] [] n x h e = absurd (cc)
logged_at [] (y ∷ ns) n x h e = absurd h
logged_at (b ∷ bs) [] n x h e = absurd h
logged_at (b ∷ bs) (y ∷ ns) zero x h e = subst (NodeIn b.log) (same_Some _ _ e) h.0
logged_at (b ∷ bs) (y ∷ ns) (suc n) x h e = logged_at bs ns n x h.1 e

pub set_node : (bs : List Beside) (ns : List Node) (n : ℕ) (y : Node) → AreLogged bs ns → NodeIn (log_at bs n) y → AreLogged bs (slice_set ns n y)
set_node [] [] n y h l = tt
set_node [] (x ∷ ns) n y h l = absurd h
set_node (b ∷ bs) [] n y h l = absurd h
set_node (b ∷ bs) (x ∷ ns) zero y h l = (l, h.1)
set_node (b ∷ bs) (x ∷ ns) (suc n) y h l = (h.0, set_node bs ns n y h.1 l)

-- something else is held beside, with the same log
pub set_aside : (bs : List Beside) (ns : List Node) (n : ℕ) (c : Beside) → AreLogged bs ns → c.log ≡ log_at bs n → AreLogged (slice_set bs n c) ns
set_aside [] [] n c h e = tt
set_aside [] (x ∷ ns) n c h e = absurd h
set_aside (b ∷ bs) [] n c h e = absurd h
set_aside (b ∷ bs) (x ∷ ns) zero c h e = (subst (λ (l : Log). NodeIn l x) (sym e) h.0, h.1)
set_aside (b ∷ bs) (x ∷ ns) (suc n) c h e = (h.0, set_aside bs ns n c h.1 e)

pub set_both : (bs : List Beside) (ns : List Node) (n : ℕ) (c : Beside) (y : Node) → AreLogged bs ns → NodeIn c.log y
    → AreLogged (slice_set bs n c) (slice_set ns n y)
set_both [] [] n c y h l = tt
set_both [] (x ∷ ns) n c y h l = absurd h
set_both (b ∷ bs) [] n c y h l = absurd h
set_both (b ∷ bs) (x ∷ ns) zero c y h l = (l, h.1)
set_both (b ∷ bs) (x ∷ ns) (suc n) c y h l = (h.0, set_both bs ns n c y h.1 l)

pub one_more : (bs : List Beside) (ns : List Node) (c : Beside) (y : Node) → AreLogged bs ns → NodeIn c.log y → AreLogged (bs ++ c ∷ []) (ns ++ y ∷ [])
one_more [] [] c y h l = (l, tt)
one_more [] (x ∷ ns) c y h l = absurd h
one_more (b ∷ bs) [] c y h l = absurd h
one_more (b ∷ bs) (x ∷ ns) c y h l = (h.0, one_more bs ns c y h.1 l)

pub all_changed : (f : Beside → Beside) (g : Node → Node) → ((b : Beside) (x : Node) → NodeIn b.log x → NodeIn (f b).log (g x))
    → (bs : List Beside) (ns : List Node) → AreLogged bs ns → AreLogged (map f bs) (map g ns)
all_changed f g one [] [] h = tt
all_changed f g one [] (x ∷ ns) h = absurd h
all_changed f g one (b ∷ bs) [] h = absurd h
all_changed f g one (b ∷ bs) (x ∷ ns) h = (one b x h.0, all_changed f g one bs ns h.1)

-- # What is not written

pub moved : (log : Log) (r s : Records) → SameLog r s → IsLogIn log r → IsLogIn log s
moved log r s same h = record {
  kept = record {
    numbering = record { limit = ap limit_in (same 6 (inl refl)) ∙ h.kept.numbering.limit; below = h.kept.numbering.below };
    marks = record {
      short = h.kept.marks.short;
      each = λ place within. rw (same (slot_of marks place) (inr (omega arith, omega arith))) (h.kept.marks.each place within);
    };
  };
  fits = h.fits;
  sound = h.sound;
}

-- The log's records are as they were, and a halted node stays so.
pub record Quiet (x y : Node) : Type 0 where
  pub same : SameLog x.store.records y.store.records
  pub down : x.memory ≡ None → y.memory ≡ None

pub quiet_in : (log : Log) (x y : Node) → Quiet x y → NodeIn log x → NodeIn log y
quiet_in log x y q h = by_memory x.memory y.memory q.down h
  where
    by_memory : (o p : Option Memory) → (o ≡ None → p ≡ None) → LogIn log x.store.records o → LogIn log y.store.records p
    by_memory None None d k = record { value = k.value; kept = moved k.value _ _ q.same k.kept }
    by_memory None (Some n) d k = absurd (cc (d refl))
    by_memory (Some m) None d k = record { value = log; kept = moved log _ _ q.same k }
    by_memory (Some m) (Some n) d k = moved log _ _ q.same k

pub quiet_same : (x : Node) → Quiet x x
quiet_same x = record { same = λ slot is. refl; down = λ e. e }

pub quiet_on : (x y z : Node) → Quiet x y → Quiet y z → Quiet x z
quiet_on x y z q r = record { same = λ slot is. r.same slot is ∙ q.same slot is; down = λ e. r.down (q.down e) }

pub acts_quiet : {A : Type 0} (x : Node) (halted : A) (plan : Memory → Plan Memory A) → ((m : Memory) → x.memory ≡ Some m → LeavesLog (plan m))
    → Quiet x (acts x halted plan).node
unfolding acts
acts_quiet x halted plan leaves = by_memory x.memory refl
  where
    by_memory : (o : Option Memory) → x.memory ≡ o
        → Quiet x (option_map_or (λ m. node_left x (carry_out x.store.records x.store.cut (plan m))) o (stays x halted)).node
    by_memory None e = quiet_same x
    by_memory (Some m) e = record { same = carrying_out_leaves_log x.store.records x.store.cut (plan m) (leaves m e); down = λ none. absurd (cc (e, none)) }

-- # What is written

abbrev pub Leads : Log → List Write → Log → Type 0
Leads log ps after = PutsLead IsLogIn log ps after

-- other writes leave the log
pub others_lead : (log : Log) (ps : List Write) → All IsBesideLog ps → Leads log ps log
others_lead log [] h = leads_beside IsLogIn log log (λ r k. k)
others_lead log (p ∷ ps) h = record {
  run = λ r k.
      let kept : IsLogIn log (insert r p.slot p.octets) = moved log r _ (same_put r p (h 0 p (omega arith)) r (λ slot is. refl)) k in
      let rest = (others_lead log ps (λ i d within. h (suc i) d (omega arith))).run (insert r p.slot p.octets) kept in
      ((record { value = log; kept = k }, rest.0), rest.1);
}

pub then_others : (log after : Log) (ps qs : List Write) → Leads log ps after → All IsBesideLog qs → Leads log (ps ++ qs) after
then_others log after ps qs l h = leads_append IsLogIn log after after ps qs l (others_lead after qs h)

-- A further plan leads from the log that the node holds to the one that it leaves.
pub further_in : {A : Type 0} (x : Node) (b : Beside) (halted : A) (plan : Reaching Memory → Plan (Reaching Memory) A)
    → ((m : Memory) → x.memory ≡ Some m → let p : Plan (Reaching Memory) A = plan (record { memory = m; beside = b }) in Leads b.log p.puts p.memory.beside.log)
    → NodeIn b.log x → NodeIn (beside_after x b plan (reaches x b halted plan).node).log (reaches x b halted plan).node
unfolding acts beside_after carry_out
further_in {A} x b halted plan leads h = by_memory x.memory refl h
  where
    held : Option Memory → NodeStep A
    held o = option_map_or (λ m. node_left x (carry_out x.store.records x.store.cut (with_beside b plan m))) o (stays x halted)

    after : Option Memory → Option Memory → Beside
    after o left = option_map_or (λ m. if is_some left then (plan (record { memory = m; beside = b })).memory.beside else without_log b) o b

    by_memory : (o : Option Memory) → x.memory ≡ o → LogIn b.log x.store.records o → NodeIn (after o (held o).node.memory).log (held o).node
    by_memory None e k = subst (λ (p : Option Memory). LogIn b.log x.store.records p) (sym e) k
    by_memory (Some m) e k =
        by_whole (write p.puts x.store.cut x.store.records) (left_by IsLogIn b.log p.memory.beside.log p.puts x.store.cut x.store.records k (leads m e))
      where
        p : Plan (Reaching Memory) A
        p = plan (record { memory = m; beside = b })

        by_whole : (o : Written) → Left IsLogIn o.whole p.memory.beside.log o.records
            → let out : Outcome Memory A = outcome_of o (with_beside b plan m) in
            LogIn (if is_some out.memory then p.memory.beside else without_log b).log out.records out.memory
        by_whole o l = by_done o.whole l
          where
            by_done : (t : Bool) → Left IsLogIn t p.memory.beside.log o.records
                → let out : Outcome Memory A = (if t then finished o (with_beside b plan m) else cut_off o (with_beside b plan m)) in
                LogIn (if is_some out.memory then p.memory.beside else without_log b).log out.records out.memory
            by_done true l = l
            by_done false l = l

-- # Restarts

pub restart_in : (log : Log) (x : Node) (b : Beside) (o : Option Memory) → NodeIn log x → restarted x.store.records ≡ Ok b → LogIn b.log x.store.records o
restart_in log x b o h e = by_memory (some_log x.memory h) o
  where
    some_log : (p : Option Memory) → LogIn log x.store.records p → Reads IsLogIn x.store.records
    some_log None k = k
    some_log (Some m) k = record { value = log; kept = k }

    is_opened : (r : Result Log BadStore) → restarted_by r ≡ Ok b → r ≡ Ok b.log
    is_opened (Ok l) is = cc
    is_opened (Err bad) is = absurd (cc (is))

    by_memory : Reads IsLogIn x.store.records → (p : Option Memory) → LogIn b.log x.store.records p
    by_memory k None = k
    by_memory k (Some m) = opened_in k.value b.log x.store.records k.kept (is_opened (opened x.store.records) e)

pub halted_in : (log : Log) (x : Node) → NodeIn log x → Reads IsLogIn x.store.records
halted_in log x h = by_memory x.memory h
  where
    by_memory : (p : Option Memory) → LogIn log x.store.records p → Reads IsLogIn x.store.records
    by_memory None k = k
    by_memory (Some m) k = record { value = log; kept = k }
