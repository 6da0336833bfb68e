-- How what a meter hears is carried out.
use Rattle.std.proofs.Common.{◌≡◌, ℕ, Bool, true, false, List, [], Option, Some, None, Result, Ok, Err, refl, sym, ap, subst, ◌∙◌}
use Rattle.std.specs.Prelude.{if◌then◌else◌, IfSome, IsSome, is_some}
use Rattle.std.specs.Option.{option_map}
use Rattle.plc_base.specs.Grant.{Granted}
use Rattle.plc_base.specs.declared.key.Key.{Key}
use Rattle.plc_base.specs.Keeper.{Store}
use Rattle.store_tables.specs.Writes.{Wrote}
use Rattle.plc_base.specs.declared.out_frame.Out.{Out}
use Rattle.store_tables.proofs.WritesLemmas.{wrote_none}
use Rattle.joining_messages.specs.Reader.{join_in}
use Rattle.mesh_header.specs.declared.unit.Unit.{Unit as MeshUnit}
use Rattle.mesh_header.specs.Reader.{unit_in}
use Rattle.node_rules.specs.Accepted.{Accepted}
use Rattle.node_rules.specs.declared.heard.Heard.{Heard}
use Rattle.node_rules.specs.declared.heard.Heard.TheVariants.{Up, Held, Relayed, Answered, Learned, Broken, Reported, Joining, Local}
use Rattle.node_rules.specs.declared.heard.MeterHeard.{MeterHeard}
use Rattle.node_rules.specs.declared.heard.Path.{Path}
use Rattle.node_rules.specs.declared.heard.Path.TheVariants as paths
use Rattle.node_rules.specs.declared.heard.Way.{Way}
use Rattle.node_rules.specs.declared.heard.Way.TheVariants.{Air, Near, Mesh}
use Rattle.node_rules.specs.declared.refusal.Dropped.{Dropped}
use Rattle.node_rules.specs.declared.refusal.Dropped.TheVariants as drops
use Rattle.node_rules.specs.Memory.{StationMemory, Memory}
use Rattle.node_rules.specs.Plans.{Plan, resting}
use Rattle.node_rules.specs.Replies.{reply_among, reply_sent}
use Rattle.node_rules.specs.HearingRules.{hear, hear_unit_in, hear_plain, is_joining}
use Rattle.node_rules.specs.MemoryDrafts.{Unread, unread}
use Rattle.node_rules.specs.Meters as meters
use Rattle.node_rules.specs.States.{State}
use Rattle.node_rules.specs.CarriedPlans.{Carries, given, nothing}
use Rattle.node_rules.proofs.ComposedPlans.{carries_behind}
use Rattle.node_rules.proofs.Unread.{hear_hands_on}
use Rattle.node_rules.proofs.Refusals.{drops as drops_cleanly}
use Rattle.plc_station.proofs.CarriedPlans.{at_some}
use Rattle.meter_node.specs.MeterStates.{MeterState, memory_with, node_of, identity_of}
use Rattle.meter_node.specs.MeterAnswers.{CameUp, CameBy}
use Rattle.meter_node.proofs.Carried.{as_station}

-- # A plan by another name

pub same_plan : (x y : MeterState) (p q : Memory → meters.Hearing) (r : Result MeterHeard Dropped) (out : Out)
    → ((l : StationMemory) → p (memory_with x l) ≡ q (memory_with x l))
    → IfSome (node_of x).memory (λ m. Carries (node_of x) (p m) r out (node_of y))
    → IfSome (node_of x).memory (λ m. Carries (node_of x) (q m) r out (node_of y))
same_plan x y p q r out e h = by x.station.memory h
  where
    by : (o : Option StationMemory) → IfSome (option_map (memory_with x) o) (λ m. Carries (node_of x) (p m) r out (node_of y))
        → IfSome (option_map (memory_with x) o) (λ m. Carries (node_of x) (q m) r out (node_of y))
    by None k = tt
    by (Some l) k = subst (λ (f : meters.Hearing). Carries (node_of x) f r out (node_of y)) (e l) k

-- what a node that is not halted holds
pub some_at : {M : Type 0} (o : Option M) → IsSome o → (m : M) × (o ≡ Some m)
some_at (Some m) is = (m, refl)
some_at None is = absurd (cc)

-- # What a station that rests leaves

pub record Rested {A : Type 0} (s : State StationMemory) (l : StationMemory) (a answer : A) (out : Out) (t : State StationMemory) : Type 0 where
  pub store : t.store ≡ s.store
  pub eui : t.eui ≡ s.eui
  pub memory : t.memory ≡ Some l
  pub answer_is : answer ≡ a
  pub out_is : out ≡ nothing

true_false : (d : Bool) → d ≡ true → d ≡ false → ⊥
true_false d a b = cc

rested : {A : Type 0} (s t : State StationMemory) (l : StationMemory) (a f answer : A) (out : Out) → Carries s (resting l a f) answer out t
    → Rested s l a answer out t
unfolding resting
rested {A} s t l a f answer out c = by c.done refl
  where
    by : (d : Bool) → c.done ≡ d → Rested s l a answer out t
    by true e = record {
      store = c.wrote.by.1;
      eui = ap (λ (k : State StationMemory). k.eui) c.new_is;
      memory = ap (λ (k : State StationMemory). k.memory) c.new_is ∙ ap (λ (d : Bool). if d then Some l else None) e;
      answer_is = c.answer_is ∙ ap (λ (d : Bool). if d then a else f) e;
      out_is = c.out_is ∙ ap (given (resting l a f)) e;
    }
    by false e = absurd (true_false c.done c.wrote.by.0 e)

-- # What a station hands on

none_some : (u : Unread) → ◌≡◌ {A = Option Unread} None (Some u) → ⊥
none_some u h = cc

unread_is : (h : Result Heard Dropped) (way : Way) (body : List ℕ) → unread h ≡ Some (record { way = way; body = body }) → h ≡ Ok (Joining way body)
unread_is (Err reason) way body e = absurd (none_some _ e)
unread_is (Ok (Joining w b)) way body e =
    ap (λ (u : Unread). Ok (Joining u.way u.body)) (same_unread (record { way = w; body = b }) (record { way = way; body = body }) e)
  where
    same_unread : (u v : Unread) → ◌≡◌ {A = Option Unread} (Some u) (Some v) → u ≡ v
    same_unread u v k = cc
unread_is (Ok (Up from note octets)) way body e = absurd (none_some _ e)
unread_is (Ok Held) way body e = absurd (none_some _ e)
unread_is (Ok Relayed) way body e = absurd (none_some _ e)
unread_is (Ok Answered) way body e = absurd (none_some _ e)
unread_is (Ok Learned) way body e = absurd (none_some _ e)
unread_is (Ok Broken) way body e = absurd (none_some _ e)
unread_is (Ok Reported) way body e = absurd (none_some _ e)
unread_is (Ok (Local from all code octets)) way body e = absurd (none_some _ e)

module _ (l : StationMemory) (got : Accepted) (cost note now : ℕ) where
  -- what came to a meter that is joined
  pub came_by : (way : Way) (body : List ℕ) → CameUp got.path l → (hear l got cost note now).answer ≡ Ok (Joining way body) → CameBy way l
  unfolding resting
  came_by way body up e = by got.path (unit_in got.payload) up e
    where
      joined : (way : Way) → IsSome l.ring → CameBy way l
      joined (Air from) j = j
      joined (Near agent) j = tt
      joined (Mesh origin) j = j

      refused_never : (way : Way) (body : List ℕ) → ◌≡◌ {A = Result Heard Dropped} (Err drops.BadUnit) (Ok (Joining way body)) → ⊥
      refused_never way body h = cc

      by_ring : (r : Option Granted) (way : Way) (from : ℕ) (all : Bool) (key : Key) (unit : MeshUnit) → l.ring ≡ r
          → (hear_unit_in l (paths.Sealed from all key) (Some unit) cost note now).answer ≡ Ok (Joining way body) → CameBy way l
      by_ring (Some g) way from all key unit r h = joined way (subst (λ o. IsSome o) (sym r) refl)
      by_ring None way from all key unit r h = absurd (refused_never way body (rw r at h))

      near : (way : Way) (from : ℕ) (o : Option (List ℕ)) → (hear_plain l (λ b. Joining (Near from) b) o).answer ≡ Ok (Joining way body) → CameBy way l
      near way from None h = absurd (refused_never way body h)
      near (Near agent) from (Some b) h = tt
      near (Air eui) from (Some b) h = absurd (differ h)
        where
          differ : ◌≡◌ {A = Result Heard Dropped} (Ok (Joining (Near from) b)) (Ok (Joining (Air eui) body)) → ⊥
          differ k = cc
      near (Mesh origin) from (Some b) h = absurd (differ h)
        where
          differ : ◌≡◌ {A = Result Heard Dropped} (Ok (Joining (Near from) b)) (Ok (Joining (Mesh origin) body)) → ⊥
          differ k = cc

      by : (p : Path) (u : Option MeshUnit) → CameUp p l → (hear_unit_in l p u cost note now).answer ≡ Ok (Joining way body) → CameBy way l
      by p None up h = absurd (refused_never way body h)
      by (paths.Sealed from all key) (Some unit) up h = by_ring l.ring way from all key unit refl h
      by (paths.Up from) (Some unit) up h = joined way up
      by (paths.Down from) (Some unit) up h = near way from (is_joining unit) h

  module _ (s t : State StationMemory) (h : Result Heard Dropped) (out : Out) (c : Carries s (hear l got cost note now) h out t) where
    -- a joining command
    module _ (way : Way) (body : List ℕ) (is : unread h ≡ Some (record { way = way; body = body })) where
      pub handed_on : (hear l got cost note now).answer ≡ Ok (Joining way body)
      handed_on = by c.done refl
        where
          failed_never : ◌≡◌ {A = Result Heard Dropped} (Err drops.Store) (Ok (Joining way body)) → ⊥
          failed_never k = cc

          by : (d : Bool) → c.done ≡ d → (hear l got cost note now).answer ≡ Ok (Joining way body)
          by true e = sym (c.answer_is ∙ ap (λ (d : Bool). if d then (hear l got cost note now).answer else (hear l got cost note now).failed) e)
              ∙ unread_is h way body is
          by false e = absurd (failed_never
              (sym (c.answer_is ∙ ap (λ (d : Bool). if d then (hear l got cost note now).answer else (hear l got cost note now).failed) e
              ∙ (drops_cleanly l got cost note now).0)
              ∙ unread_is h way body is))

      pub at_rest : Rested s l (Ok (Joining way body)) h out t
      at_rest = rested s t l (Ok (Joining way body)) (Err drops.Store) h out
          (subst (λ (p : Plan StationMemory (Result Heard Dropped)). Carries s p h out t) ((hear_hands_on l got cost note now).rests way body handed_on).1 c)

      pub came : CameUp got.path l → IfSome t.memory (λ k. CameBy way k)
      came up = subst (λ (o : Option StationMemory). IfSome o (λ k. CameBy way k)) (sym at_rest.memory) (came_by way body up handed_on)

      pub running_on : IsSome t.memory
      running_on = subst (λ (o : Option StationMemory). IsSome o) (sym at_rest.memory) refl

    -- anything else
    pub kept : unread h ≡ None → unread (hear l got cost note now).answer ≡ None
    kept none = by (unread (hear l got cost note now).answer) refl
      where
        by : (o : Option Unread) → unread (hear l got cost note now).answer ≡ o → unread (hear l got cost note now).answer ≡ None
        by None e = e
        by (Some u) e = absurd (none_some u (sym none ∙ ap unread again ∙ e))
          where
            answer : (hear l got cost note now).answer ≡ Ok (Joining u.way u.body)
            answer = unread_is (hear l got cost note now).answer u.way u.body e

            calm : Rested s l (Ok (Joining u.way u.body)) h out t
            calm = rested s t l (Ok (Joining u.way u.body)) (Err drops.Store) h out
                (subst (λ (p : Plan StationMemory (Result Heard Dropped)). Carries s p h out t)
                ((hear_hands_on l got cost note now).rests u.way u.body answer).1 c)

            again : h ≡ (hear l got cost note now).answer
            again = calm.answer_is ∙ sym answer

-- # What a meter hears

module _ (x : MeterState) (t : State StationMemory) (l : StationMemory) (got : Accepted) (cost note now : ℕ) (h : Result Heard Dropped) (between : Out)
    (running : x.station.memory ≡ Some l)
    (c : Carries x.station (hear l got cost note now) h between t) where
  abbrev pub After : MeterState
  After = record x { station = t }

  pub heard_joining : (y : MeterState) (way : Way) (body : List ℕ) (r : Result MeterHeard Dropped) (out : Out)
      → unread h ≡ Some (record { way = way; body = body })
      → IfSome (node_of After).memory (λ m. Carries (node_of After) (meters.hear_join_in (identity_of After) m way (join_in body) now) r out (node_of y))
      → Carries (node_of x) (meters.hear_meter (identity_of x) (memory_with x l) got cost note now) r out (node_of y)
  heard_joining y way body r out is k =
      let calm : Rested x.station l (Ok (Joining way body)) h between t = at_rest l got cost note now x.station t h between c way body is in
      let answer : unread (hear l got cost note now).answer
      ≡ Some (record { way = way; body = body }) = ap unread (handed_on l got cost note now x.station t h between c way body is) in
      let there : Carries (node_of After) (meters.hear_join_in (identity_of After) (memory_with x l) way (join_in body) now) r out (node_of y) =
      at_some (node_of After).memory (λ m. Carries (node_of After) (meters.hear_join_in (identity_of After) m way (join_in body) now) r out (node_of y))
      (memory_with x l)
      (ap (option_map (memory_with x)) calm.memory) k in
      let named : Carries (node_of After) (meters.hear_join_in (identity_of x) (memory_with x l) way (join_in body) now) r out (node_of y) =
      subst (λ e. Carries (node_of After) (meters.hear_join_in (record (identity_of x) { eui = e }) (memory_with x l) way (join_in body) now) r out (node_of y))
      calm.eui there in
      subst (λ (p : meters.Hearing). Carries (node_of x) p r out (node_of y))
      (ap (λ o. meters.heard_by (identity_of x) (memory_with x l) now (hear l got cost note now) o) (sym answer))
      (carries_behind (node_of x) (node_of After) (node_of y) [] (meters.hear_join_in (identity_of x) (memory_with x l) way (join_in body) now) r out
      (subst (λ (k : Store). Wrote x.station.store [] true k) (sym calm.store) (wrote_none x.station.store)) (sym calm.eui) named)

  pub heard_other : unread h ≡ None
      → Carries (node_of x) (meters.hear_meter (identity_of x) (memory_with x l) got cost note now) (meters.heard_by_station h) between (node_of After)
  heard_other none =
      as_station meters.heard_by_station x After (hear l got cost note now) (meters.hear_meter (identity_of x) (memory_with x l) got cost note now) h between
      (ap (λ o. meters.heard_by (identity_of x) (memory_with x l) now (hear l got cost note now) o)
      (sym (kept l got cost note now x.station t h between c none))) c

  -- a joining command is handed on
  pub never_itself : (way : Way) (body : List ℕ) → unread h ≡ Some (record { way = way; body = body }) → unread (hear l got cost note now).answer ≡ None → ⊥
  never_itself way body is none =
      none_some (record { way = way; body = body }) (sym none ∙ ap unread (handed_on l got cost note now x.station t h between c way body is))

  is_left : (o : Option StationMemory) → is_some o ≡ is_some (option_map (memory_with x) o)
  is_left None = refl
  is_left (Some k) = refl

  -- the reply that the station sent is the one that the rule of the meter sends
  pub replied_other : unread h ≡ None → t.replied ≡ reply_sent (hear l got cost note now) t.memory
      → t.replied ≡ reply_sent (meters.hear_meter (identity_of x) (memory_with x l) got cost note now) (node_of After).memory
  replied_other none is =
      is ∙ ap (λ (b : Bool). if b then reply_among (hear l got cost note now).frames else None) (is_left t.memory)
      ∙ ap (λ o. reply_sent (meters.heard_by (identity_of x) (memory_with x l) now (hear l got cost note now) o) (node_of After).memory)
      (sym (kept l got cost note now x.station t h between c none))
