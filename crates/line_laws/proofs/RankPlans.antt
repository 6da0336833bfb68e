-- The account of ranks of a plan, and of a node that carries it out, whole or cut off.
use Rattle.std.proofs.Common.{◌≡◌, inl, ⊎_elim, ℕ, Bool, true, false, List, [], ◌∷◌, ◌++◌, length, Option, Some, None, Result, refl, sym, ap, ◌∙◌, subst}
use Rattle.std.specs.Prelude.{All, if◌then◌else◌}
use Rattle.std.specs.Option.{option_map, option_map_or, option_and_then}
use Rattle.std.proofs.lemmas.Option.{none-some}
use Rattle.std.proofs.lemmas.List.Elements.{All-nil, All-weaker}
use Rattle.plc_base.specs.Keeper.{Records, Write}
use Rattle.plc_base.specs.declared.address.Eui.{Eui}
use Rattle.plc_base.specs.declared.key.Key.{Key}
use Rattle.plc_base.specs.Grant.{Granted}
use Rattle.routing_set.specs.declared.rank.Rank.{Rank}
use Rattle.routing_set.specs.Ranks.{IsAtLeast}
use Rattle.routing_set.specs.RoutingSet as routing
use Rattle.routing_set.specs.Histories.{IsRouting}
use Rattle.routing_set.proofs.Histories.{opened_again}
use Rattle.routing_set.proofs.RisingRanks.{ended_held, ended_ranks}
use Rattle.node_rules.specs.Frames.{Sent}
use Rattle.node_rules.specs.Memory.{Memory, Node, address_of}
use Rattle.node_rules.specs.Plans.{Plan, Outcome, carry_out, resting}
use Rattle.node_rules.specs.Drafts.{Draft, Ends}
use Rattle.node_rules.specs.MemoryDrafts.{in_memory}
use Rattle.node_rules.specs.Laws.{all_put, IsWhole, IsCutOff}
use Rattle.node_rules.specs.NodeSteps.{NodeStep, acts, stays, left_by}
use Rattle.node_rules.proofs.FailedWrites.{clean}
use Rattle.line_laws.specs.Stores.{IsKept}
use Rattle.line_laws.proofs.KeptMemory.{Reads, Left, Leads, leads_beside, leads_append, front_reads}
use Rattle.line_laws.proofs.Planned.{Planned, Refuses, Keeps, Ended}
use Rattle.line_laws.proofs.Made.{RingWord, Install, Given, Offered}
use Rattle.line_laws.proofs.MadeIn.{MadeIn}
use Rattle.line_laws.proofs.Nodes.{NodeOk}
use Rattle.line_laws.proofs.RankOrder.{at_least_trans}
use Rattle.line_laws.proofs.RankAccount.{Account, account_same, RouteCause, Stays, Began}
use Rattle.line_laws.proofs.RankWrites.{RankKept, away_leads}
use Rattle.line_laws.proofs.RankFold.{IsAt, OfferFits, counter_away, made_in_at, made_in_account, made_in_adds}
use Rattle.line_laws.proofs.RankSaid.{FrameBacked, frame_rises, frames_backed}
use Rattle.line_laws.specs.Loops.{ranks_in, stored}
use Rattle.line_laws.specs.Ranked.{via}

-- What a plan does to ranks and routes.
pub record PlanRanks (At Own : ℕ → Type 0) (C : ℕ → ℕ → Rank → Type 0) (m : Memory) {A : Type 0} (p : Plan Memory A) : Type 0 where
  pub leads : (first : routing.Routing) → Leads (RankKept Own C first) m.station.routing p.puts p.memory.station.routing
  pub account : IsRouting m.station.routing → Account Own C m.station.routing p.memory.station.routing
  pub backed : IsRouting m.station.routing → All (FrameBacked At p.memory.station.routing) p.frames
  pub here : IsAt At (address_of p.memory.station)

-- a plan that leaves ranks, routes and ring, and sends nothing
pub resting_ranks : {A : Type 0} (At Own : ℕ → Type 0) (C : ℕ → ℕ → Rank → Type 0) (m n : Memory) (answer failed : A) → n.station.routing ≡ m.station.routing
    → n.station.ring ≡ m.station.ring → IsAt At (address_of m.station)
    → PlanRanks At Own C m (resting n answer failed)
unfolding resting
resting_ranks At Own C m n answer failed same ring_same h = record {
  leads = λ first. subst (λ t. Leads (RankKept Own C first) m.station.routing [] t) (sym same)
      (leads_beside (RankKept Own C first) m.station.routing m.station.routing (λ r q. q));
  account = λ sound. subst (λ t. Account Own C m.station.routing t) (sym same) (account_same m.station.routing sound);
  backed = λ sound. All-nil (FrameBacked At n.station.routing);
  here = subst (λ r. IsAt At (option_map (λ (g : Granted). g.address) r)) (sym ring_same) h;
}

module _ (At Own : ℕ → Type 0) (C : ℕ → ℕ → Rank → Type 0) (W : RingWord → Type 0) (L : Granted → Type 0) (P : Eui → Key → Type 0) (E : Eui → Type 0)
    (g : Given) (m : Memory)
    (installs : (granted : Granted) → W (Install granted) → At granted.address)
    (offers : (address : Option ℕ) → IsAt At address → (by origin : ℕ) (rank : Rank) → Offered g address by origin rank
    → OfferFits Own C by origin rank g.now) where
  pub planned_ranks : {H F : Type 0} (ends : Ends F) (K : Memory → H → Type 0) (D : Draft Memory → H → Type 0)
      → ((n : Memory) (answer : H) → K n answer → (n.station.routing ≡ m.station.routing) × (n.station.ring ≡ m.station.ring))
      → ((d : Draft Memory) (answer : H) → D d answer → MadeIn W L P E g m d)
      → (p : Plan Memory (Result H F)) → Planned in_memory ends m K D p → IsAt At (address_of m.station) → PlanRanks At Own C m p
  planned_ranks ends K D kept made p (Refuses reason) h = resting_ranks At Own C m m _ _ refl refl h
  planned_ranks ends K D kept made p (Keeps n answer k) h = let same = kept n answer k in resting_ranks At Own C m n _ _ same.0 same.1 h
  planned_ranks ends K D kept made p (Ended d answer done left) h =
      let x = made d answer done in record {
        leads = λ first.
            let a = made_in_adds At Own C W L P E g m installs offers first d x h in
            leads_append (RankKept Own C first) m.station.routing d.memory.station.routing d.memory.station.routing d.puts _
            (subst (λ ws. Leads (RankKept Own C first) m.station.routing ws d.memory.station.routing) (sym a.puts) a.leads)
            (away_leads Own C first d.memory.station.routing _ (counter_away d.memory.station.counter (length d.units)));
        account = λ sound. made_in_account At Own C W L P E g m installs offers d x h sound;
        backed = λ sound. frames_backed At Own C W g installs offers L P E m d d.memory.station.counter.next x h sound;
        here = made_in_at At Own C W L P E g m installs offers d x h;
      }

-- # What records give

pub ranks_read : (t : routing.Routing) (r : Records) → IsRouting t → routing.AgreesWith t r → ranks_in r ≡ routing.at_rest t
unfolding ranks_in
ranks_read t r sound kept = rw (opened_again t r sound.entries kept) refl

pub held_read : (t : routing.Routing) (r : Records) → IsRouting t → routing.AgreesWith t r → (dest : ℕ) → routing.held (ranks_in r) dest ≡ routing.held t dest
held_read t r sound kept dest = ap (λ s. routing.held s dest) (ranks_read t r sound kept) ∙ ended_held (λ _. true) t dest

pub rank_read : (t : routing.Routing) (r : Records) → IsRouting t → routing.AgreesWith t r → (dest : ℕ)
    → routing.rank_of (ranks_in r) dest ≡ routing.rank_of t dest
rank_read t r sound kept dest = ap (λ s. routing.rank_of s dest) (ranks_read t r sound kept) ∙ ended_ranks (λ _. true) t dest

-- # A node

-- a valid route was there at the same stored rank, or it began by an offer of this rank
pub data NodeCause (C : ℕ → ℕ → Rank → Type 0) (x y : Node) (dest next : ℕ) : Type 0 where
  Stood : via x dest ≡ Some next → routing.rank_of (stored y) dest ≡ routing.rank_of (stored x) dest → NodeCause C x y dest next
  Came : (rank : Rank) → routing.rank_of (stored y) dest ≡ Some rank → C next dest rank → NodeCause C x y dest next

-- What became of the ranks and routes of a node, and what it sent.
pub record NodeRanks (At Own : ℕ → Type 0) (C : ℕ → ℕ → Rank → Type 0) (x y : Node) (frames : List Sent) : Type 0 where
  pub above : (dest : ℕ) → IsAtLeast (routing.held (stored y) dest) (routing.held (stored x) dest)
  pub not_own : (dest : ℕ) → Own dest → routing.rank_of (stored x) dest ≡ None → routing.rank_of (stored y) dest ≡ None
  pub routes : (dest next : ℕ) → via y dest ≡ Some next → NodeCause C x y dest next
  pub backed : All (FrameBacked At (stored y)) frames

module _ (At Own : ℕ → Type 0) (C : ℕ → ℕ → Rank → Type 0) where
  pub same_ranks : (x : Node) → NodeRanks At Own C x x []
  same_ranks x =
      record { above = λ dest. inl refl; not_own = λ dest is none. none; routes = λ dest next e. Stood e refl; backed = All-nil (FrameBacked At (stored x)) }

  -- the ranks that the records before and after give
  module _ (x y : Node) (t s : routing.Routing) (sound : IsRouting t) (kept : routing.AgreesWith t x.store.records)
      (q : RankKept Own C t s y.store.records) where
    was : (dest : ℕ) → routing.held (stored x) dest ≡ routing.held t dest
    was dest = held_read t x.store.records sound kept dest

    now : (dest : ℕ) → routing.held (stored y) dest ≡ routing.held s dest
    now dest = held_read s y.store.records q.account.sound q.kept dest

    above_by : (dest : ℕ) → IsAtLeast (routing.held (stored y) dest) (routing.held (stored x) dest)
    above_by dest = subst (λ (k : Rank). IsAtLeast k (routing.held (stored x) dest)) (sym (now dest))
        (subst (λ (k : Rank). IsAtLeast (routing.held s dest) k) (sym (was dest)) (q.account.above dest))

    not_own_by : (dest : ℕ) → Own dest → routing.rank_of (stored x) dest ≡ None → routing.rank_of (stored y) dest ≡ None
    not_own_by dest is none =
        rank_read s y.store.records q.account.sound q.kept dest ∙ q.account.not_own dest is (sym (rank_read t x.store.records sound kept dest) ∙ none)

    cause_by : (dest next : ℕ) → ((h : ℕ) → routing.next_of t dest ≡ Some h → via x dest ≡ Some h) → RouteCause C t s dest next → NodeCause C x y dest next
    cause_by dest next there (Stays e k) =
        Stood (there next e) (rank_read s y.store.records q.account.sound q.kept dest ∙ k ∙ sym (rank_read t x.store.records sound kept dest))
    cause_by dest next there (Began rank e c) = Came rank (rank_read s y.store.records q.account.sound q.kept dest ∙ e) c

    halted_by : y.memory ≡ None → NodeRanks At Own C x y []
    unfolding via
    halted_by e = record {
      above = above_by;
      not_own = not_own_by;
      routes = λ dest next k. absurd (none-some next (sym (ap (option_and_then (λ (m : Memory). routing.next_of m.station.routing dest)) e) ∙ k));
      backed = All-nil (FrameBacked At (stored y));
    }

    live_by : (n : Memory) (frames : List Sent) → y.memory ≡ Some n → n.station.routing ≡ s
        → ((dest h : ℕ) → routing.next_of t dest ≡ Some h → via x dest ≡ Some h) → All (FrameBacked At s) frames → NodeRanks At Own C x y frames
    unfolding via
    live_by n frames e is there backed = record {
      above = above_by;
      not_own = not_own_by;
      routes = λ dest next k. cause_by dest next (there dest)
          (q.account.routes dest next (sym
          (ap (option_and_then (λ (m : Memory). routing.next_of m.station.routing dest)) e ∙ ap (λ u. routing.next_of u dest) is) ∙ k));
      backed = All-weaker (FrameBacked At s) (FrameBacked At (stored y)) (λ f h. frame_rises At s (stored y) f (λ dest. inl (now dest)) h) frames backed;
    }

  pub acts_ranks : {A : Type 0} (x : Node) (halted : A) (plan : Memory → Plan Memory A) → NodeOk x
      → ((m : Memory) → x.memory ≡ Some m → IsKept x.role m x.store.records → PlanRanks At Own C m (plan m))
      → NodeRanks At Own C x (acts x halted plan).node (acts x halted plan).frames
  unfolding acts via
  acts_ranks {A = A} x halted plan ok f = by_memory x.memory refl ok.kept
    where
      append_one : (front : List Write) (one : Write) (rest : List Write) → (front ++ one ∷ []) ++ rest ≡ front ++ one ∷ rest
      append_one [] one rest = refl
      append_one (w ∷ front) one rest = ap (λ ws. w ∷ ws) (append_one front one rest)

      by_plan : (m : Memory) → x.memory ≡ Some m → IsKept x.role m x.store.records → PlanRanks At Own C m (plan m)
          → let o : Outcome Memory A = carry_out x.store.records x.store.cut (plan m) in NodeRanks At Own C x (left_by x o).node o.frames
      by_plan m there k p = ⊎_elim whole cut_off (clean x.store.records x.store.cut (plan m))
        where
          r : Records
          r = x.store.records

          t : routing.Routing
          t = m.station.routing

          o : Outcome Memory A
          o = carry_out x.store.records x.store.cut (plan m)

          sound : IsRouting t
          sound = k.station.range.routing

          at_first : RankKept Own C m.station.routing m.station.routing x.store.records
          at_first = record {
            account = account_same m.station.routing k.station.range.routing;
            ranged = record { sound = k.station.range.routing; floors = k.station.range.floors; ranks = k.station.range.ranks };
            kept = k.station.routing;
          }

          whole : IsWhole x.store.records x.store.cut (plan m) (carry_out x.store.records x.store.cut (plan m))
              → NodeRanks At Own C x (left_by x (carry_out x.store.records x.store.cut (plan m))).node (carry_out x.store.records x.store.cut (plan m)).frames
          whole w =
              let q = ((p.leads m.station.routing).run x.store.records at_first).1 in
              rw w.frames (live_by x (left_by x (carry_out x.store.records x.store.cut (plan m))).node m.station.routing (plan m).memory.station.routing
              k.station.range.routing k.station.routing
              (subst (RankKept Own C m.station.routing (plan m).memory.station.routing) (sym w.left) q) (plan m).memory (plan m).frames w.memory refl
              (λ dest h e. ap (option_and_then (λ (n : Memory). routing.next_of n.station.routing dest)) there ∙ e) (p.backed k.station.range.routing))

          by_kind : (b : Bool) (front rest : List Write) (one : Write) → (plan m).puts ≡ front ++ one ∷ rest
              → Reads (RankKept Own C m.station.routing) (if b then all_put (front ++ one ∷ []) x.store.records else all_put front x.store.records)
          by_kind true front rest one e = front_reads (RankKept Own C m.station.routing) (plan m).puts (front ++ one ∷ []) rest x.store.records
              (e ∙ sym (append_one front one rest)) ((p.leads m.station.routing).run x.store.records at_first).0
          by_kind false front rest one e = front_reads (RankKept Own C m.station.routing) (plan m).puts front (one ∷ rest) x.store.records e
              ((p.leads m.station.routing).run x.store.records at_first).0

          cut_off : IsCutOff x.store.records x.store.cut (plan m) (carry_out x.store.records x.store.cut (plan m))
              → NodeRanks At Own C x (left_by x (carry_out x.store.records x.store.cut (plan m))).node (carry_out x.store.records x.store.cut (plan m)).frames
          cut_off c =
              let q = by_kind c.by.keeps_new c.front c.rest c.write c.split in
              rw c.frames (halted_by x (left_by x (carry_out x.store.records x.store.cut (plan m))).node m.station.routing q.memory k.station.range.routing
              k.station.routing
              (subst (RankKept Own C m.station.routing q.memory) (sym c.left) q.kept) c.memory)

      by_memory : (o : Option Memory) → x.memory ≡ o → Left (IsKept x.role) x.store.records o
          → let d : NodeStep A = option_map_or (λ m. left_by x (carry_out x.store.records x.store.cut (plan m))) o (stays x halted) in
          NodeRanks At Own C x d.node d.frames
      by_memory None e kept = same_ranks x
      by_memory (Some m) e kept = by_plan m e kept (f m e kept)

  -- one after the other
  pub ranks_trans : (x y z : Node) (sent more : List Sent) → NodeRanks At Own C x y sent → NodeRanks At Own C y z more → NodeRanks At Own C x z more
  ranks_trans x y z sent more a b = record {
    above = λ dest. at_least_trans _ _ _ (b.above dest) (a.above dest);
    not_own = λ dest is none. b.not_own dest is (a.not_own dest is none);
    routes = λ dest next e. by_cause dest next (b.routes dest next e);
    backed = b.backed;
  }
    where
      moved : (dest next : ℕ) → routing.rank_of (stored z) dest ≡ routing.rank_of (stored y) dest → NodeCause C x y dest next → NodeCause C x z dest next
      moved dest next same (Stood e k) = Stood e (same ∙ k)
      moved dest next same (Came rank e c) = Came rank (same ∙ e) c

      by_cause : (dest next : ℕ) → NodeCause C y z dest next → NodeCause C x z dest next
      by_cause dest next (Stood e k) = moved dest next k (a.routes dest next e)
      by_cause dest next (Came rank e c) = Came rank e c
