-- How what the coordinator hears is carried out.
use Rattle.std.proofs.Common.{◌≡◌, ℕ, Bool, true, false, List, [], ◌∷◌, length, Option, Some, None, Result, Ok, Err, refl, sym, ap, subst, ◌∙◌}
use Rattle.std.specs.Prelude.{if◌then◌else◌, IfSome, IsSome, is_some}
use Rattle.std.specs.Option.{option_map}
use Rattle.plc_base.specs.Keeper.{Store}
use Rattle.store_tables.specs.Writes.{Wrote}
use Rattle.plc_base.specs.declared.address.Eui.{Eui}
use Rattle.plc_base.specs.declared.out_frame.Out.{Out}
use Rattle.store_tables.proofs.WritesLemmas.{wrote_none}
use Rattle.group_keys.specs.KeyBook as book
use Rattle.joining_messages.specs.declared.message.JoinMessage.{JoinMessage}
use Rattle.joining_messages.specs.declared.message.JoinBody.TheVariants as body
use Rattle.joining_messages.specs.Reader.{join_in}
use Rattle.node_rules.specs.Accepted.{Accepted}
use Rattle.node_rules.specs.declared.heard.Heard.{Heard}
use Rattle.node_rules.specs.declared.heard.Heard.TheVariants.{Up, Held, Relayed, Answered, Learned, Broken, Reported, Joining, Local}
use Rattle.node_rules.specs.declared.heard.CoordinatorHeard.{CoordinatorHeard}
use Rattle.node_rules.specs.declared.heard.Way.{Way}
use Rattle.node_rules.specs.declared.refusal.Dropped.{Dropped}
use Rattle.node_rules.specs.declared.refusal.Dropped.TheVariants as drops
use Rattle.node_rules.specs.Ciphers.{network}
use Rattle.node_rules.specs.Memory.{StationMemory, Memory}
use Rattle.node_rules.specs.Plans.{Plan, resting}
use Rattle.node_rules.specs.Replies.{reply_among, reply_sent}
use Rattle.node_rules.specs.Drafts.{refused, choose}
use Rattle.node_rules.specs.HearingRules.{dropped, hear}
use Rattle.node_rules.specs.MemoryDrafts.{Unread, unread}
use Rattle.node_rules.specs.Coordinators as rules
use Rattle.node_rules.specs.States.{State}
use Rattle.node_rules.specs.CarriedPlans.{Carries, given, nothing}
use Rattle.node_rules.proofs.ComposedPlans.{carries_behind}
use Rattle.node_rules.proofs.Unread.{hear_hands_on}
use Rattle.node_rules.proofs.Refusals.{drops as drops_cleanly}
use Rattle.plc_station.proofs.CarriedPlans.{at_some}
use Rattle.coordinator.specs.CoordinatorStates.{CoordinatorState, memory_in, node_of, identity_of}
use Rattle.coordinator.proofs.Within.{within_carried}

-- # What a station that rests leaves

pub record Rested {A : Type 0} (s : State StationMemory) (l : StationMemory) (a answer : A) (out : Out) (t : State StationMemory) : Type 0 where
  pub store : t.store ≡ s.store
  pub eui : t.eui ≡ s.eui
  pub memory : t.memory ≡ Some l
  pub answer_is : answer ≡ a
  pub out_is : out ≡ nothing

true_false : (d : Bool) → d ≡ true → d ≡ false → ⊥
true_false d a b = cc

rested : {A : Type 0} (s t : State StationMemory) (l : StationMemory) (a f answer : A) (out : Out) → Carries s (resting l a f) answer out t
    → Rested s l a answer out t
unfolding resting
rested {A} s t l a f answer out c = by c.done refl
  where
    by : (d : Bool) → c.done ≡ d → Rested s l a answer out t
    by true e = record {
      store = c.wrote.by.1;
      eui = ap (λ (k : State StationMemory). k.eui) c.new_is;
      memory = ap (λ (k : State StationMemory). k.memory) c.new_is ∙ ap (λ (d : Bool). if d then Some l else None) e;
      answer_is = c.answer_is ∙ ap (λ (d : Bool). if d then a else f) e;
      out_is = c.out_is ∙ ap (given (resting l a f)) e;
    }
    by false e = absurd (true_false c.done c.wrote.by.0 e)

-- # What a station hands on

none_some : (u : Unread) → ◌≡◌ {A = Option Unread} None (Some u) → ⊥
none_some u h = cc

unread_is : (h : Result Heard Dropped) (way : Way) (body : List ℕ) → unread h ≡ Some (record { way = way; body = body }) → h ≡ Ok (Joining way body)
unread_is (Err reason) way body e = absurd (none_some _ e)
unread_is (Ok (Joining w b)) way body e =
    ap (λ (u : Unread). Ok (Joining u.way u.body)) (same_unread (record { way = w; body = b }) (record { way = way; body = body }) e)
  where
    same_unread : (u v : Unread) → ◌≡◌ {A = Option Unread} (Some u) (Some v) → u ≡ v
    same_unread u v k = cc
unread_is (Ok (Up from note octets)) way body e = absurd (none_some _ e)
unread_is (Ok Held) way body e = absurd (none_some _ e)
unread_is (Ok Relayed) way body e = absurd (none_some _ e)
unread_is (Ok Answered) way body e = absurd (none_some _ e)
unread_is (Ok Learned) way body e = absurd (none_some _ e)
unread_is (Ok Broken) way body e = absurd (none_some _ e)
unread_is (Ok Reported) way body e = absurd (none_some _ e)
unread_is (Ok (Local from all code octets)) way body e = absurd (none_some _ e)

module _ (l : StationMemory) (got : Accepted) (cost note now : ℕ) where
  module _ (s t : State StationMemory) (h : Result Heard Dropped) (out : Out) (c : Carries s (hear l got cost note now) h out t) where
    -- a joining command
    module _ (way : Way) (body : List ℕ) (is : unread h ≡ Some (record { way = way; body = body })) where
      pub handed_on : (hear l got cost note now).answer ≡ Ok (Joining way body)
      handed_on = by c.done refl
        where
          failed_never : ◌≡◌ {A = Result Heard Dropped} (Err drops.Store) (Ok (Joining way body)) → ⊥
          failed_never k = cc

          by : (d : Bool) → c.done ≡ d → (hear l got cost note now).answer ≡ Ok (Joining way body)
          by true e = sym (c.answer_is ∙ ap (λ (d : Bool). if d then (hear l got cost note now).answer else (hear l got cost note now).failed) e)
              ∙ unread_is h way body is
          by false e = absurd (failed_never
              (sym (c.answer_is ∙ ap (λ (d : Bool). if d then (hear l got cost note now).answer else (hear l got cost note now).failed) e
              ∙ (drops_cleanly l got cost note now).0)
              ∙ unread_is h way body is))

      pub at_rest : Rested s l (Ok (Joining way body)) h out t
      at_rest = rested s t l (Ok (Joining way body)) (Err drops.Store) h out
          (subst (λ (p : Plan StationMemory (Result Heard Dropped)). Carries s p h out t) ((hear_hands_on l got cost note now).rests way body handed_on).1 c)

      pub running_on : IsSome t.memory
      running_on = subst (λ (o : Option StationMemory). IsSome o) (sym at_rest.memory) refl

    -- anything else
    pub kept : unread h ≡ None → unread (hear l got cost note now).answer ≡ None
    kept none = by (unread (hear l got cost note now).answer) refl
      where
        by : (o : Option Unread) → unread (hear l got cost note now).answer ≡ o → unread (hear l got cost note now).answer ≡ None
        by None e = e
        by (Some u) e = absurd (none_some u (sym none ∙ ap unread again ∙ e))
          where
            answer : (hear l got cost note now).answer ≡ Ok (Joining u.way u.body)
            answer = unread_is (hear l got cost note now).answer u.way u.body e

            calm : Rested s l (Ok (Joining u.way u.body)) h out t
            calm = rested s t l (Ok (Joining u.way u.body)) (Err drops.Store) h out
                (subst (λ (p : Plan StationMemory (Result Heard Dropped)). Carries s p h out t)
                ((hear_hands_on l got cost note now).rests u.way u.body answer).1 c)

            again : h ≡ (hear l got cost note now).answer
            again = calm.answer_is ∙ sym answer

-- # What the coordinator hears

-- what the station did leaves what stands beside it
module _ (x y : CoordinatorState) (got : Accepted) (cost note now : ℕ) (h : Result Heard Dropped) (between : Out)
    (beside : y ≡ record x { station = y.station }) (l : StationMemory) (running : x.station.memory ≡ Some l)
    (c : Carries x.station (hear l got cost note now) h between y.station) where
  module _ (way : Way) (octets : List ℕ) (is : unread h ≡ Some (record { way = way; body = octets })) where
    calm : Rested x.station l (Ok (Joining way octets)) h between y.station
    calm = at_rest l got cost note now x.station y.station h between c way octets is

    pub runs_on : IsSome (node_of y).memory
    runs_on = subst (λ (o : Option StationMemory). IsSome (option_map (memory_in y.randoms y.sessions y.book) o)) (sym calm.memory) refl

    pub nothing_out : between ≡ nothing
    nothing_out = calm.out_is

    -- a joining command is heard by the coordinator
    pub heard_joining : (u : State Memory) (r : Result CoordinatorHeard Dropped) (out : Out)
        → IfSome (node_of y).memory (λ m. Carries (node_of y) (rules.hear_join_in (identity_of y) m way (join_in octets) now) r out u)
        → Carries (node_of x) (rules.hear_coordinator (identity_of x) (memory_in x.randoms x.sessions x.book l) got cost note now) r out u
    unfolding calm
    heard_joining u r out k =
        let answer : unread (hear l got cost note now).answer
        ≡ Some (record { way = way; body = octets }) = ap unread (handed_on l got cost note now x.station y.station h between c way octets is) in
        let after : IfSome (option_map (memory_in x.randoms x.sessions x.book) y.station.memory)
        (λ m. Carries (node_of y) (rules.hear_join_in (identity_of y) m way (join_in octets) now) r out u) =
        subst (λ (z : CoordinatorState). IfSome (option_map (memory_in z.randoms z.sessions z.book) y.station.memory)
        (λ m. Carries (node_of y) (rules.hear_join_in (identity_of y) m way (join_in octets) now) r out u)) beside k in
        let there : Carries (node_of y) (rules.hear_join_in (identity_of y) (memory_in x.randoms x.sessions x.book l) way (join_in octets) now) r out u =
        at_some (option_map (memory_in x.randoms x.sessions x.book) y.station.memory)
        (λ m. Carries (node_of y) (rules.hear_join_in (identity_of y) m way (join_in octets) now) r out u) (memory_in x.randoms x.sessions x.book l)
        (ap (option_map (memory_in x.randoms x.sessions x.book)) calm.memory) after in
        let named : Carries (node_of y) (rules.hear_join_in (identity_of x) (memory_in x.randoms x.sessions x.book l) way (join_in octets) now) r out u =
        subst (λ (e : Eui). Carries (node_of y) (rules.hear_join_in (record { eui = e; ciphers = network }) (memory_in x.randoms x.sessions x.book l) way
        (join_in octets) now) r out u) calm.eui there in
        subst (λ (p : rules.Hearing). Carries (node_of x) p r out u)
        (ap (λ o. rules.heard_by (identity_of x) (memory_in x.randoms x.sessions x.book l) now (hear l got cost note now) o) (sym answer))
        (carries_behind (node_of x) (node_of y) u [] (rules.hear_join_in (identity_of x) (memory_in x.randoms x.sessions x.book l) way (join_in octets) now) r
        out
        (subst (λ (k : Store). Wrote x.station.store [] true k) (sym calm.store) (wrote_none x.station.store)) (sym calm.eui) named)

  -- all else is what its station made of it
  pub heard_other : unread h ≡ None → Carries (node_of x) (rules.hear_coordinator (identity_of x) (memory_in x.randoms x.sessions x.book l) got cost note now)
      (rules.heard_by_station h) between (node_of y)
  heard_other none =
      subst (λ (z : CoordinatorState). Carries (node_of x) (rules.hear_coordinator (identity_of x) (memory_in x.randoms x.sessions x.book l) got cost note now)
      (rules.heard_by_station h) between (node_of z)) (sym beside)
      (subst (λ (p : rules.Hearing). Carries (node_of x) p (rules.heard_by_station h) between (node_of (record x { station = y.station })))
      (ap (λ o. rules.heard_by (identity_of x) (memory_in x.randoms x.sessions x.book l) now (hear l got cost note now) o)
      (sym (kept l got cost note now x.station y.station h between c none)))
      (within_carried (memory_in x.randoms x.sessions x.book) rules.heard_by_station x.station y.station (hear l got cost note now) h between c))

  -- a joining command is handed on
  pub never_itself : (way : Way) (octets : List ℕ) → unread h ≡ Some (record { way = way; body = octets }) → unread (hear l got cost note now).answer ≡ None → ⊥
  never_itself way octets is none =
      none_some (record { way = way; body = octets }) (sym none ∙ ap unread (handed_on l got cost note now x.station y.station h between c way octets is))

  is_left : (o : Option StationMemory) → is_some o ≡ is_some (option_map (memory_in y.randoms y.sessions y.book) o)
  is_left None = refl
  is_left (Some k) = refl

  -- the reply that the station sent is the one that the rule of the coordinator sends
  pub replied_other : unread h ≡ None → y.station.replied ≡ reply_sent (hear l got cost note now) y.station.memory
      → y.station.replied ≡ reply_sent (rules.hear_coordinator (identity_of x) (memory_in x.randoms x.sessions x.book l) got cost note now) (node_of y).memory
  replied_other none is =
      is ∙ ap (λ (b : Bool). if b then reply_among (hear l got cost note now).frames else None) (is_left y.station.memory)
      ∙ ap (λ o. reply_sent (rules.heard_by (identity_of x) (memory_in x.randoms x.sessions x.book l) now (hear l got cost note now) o) (node_of y).memory)
      (sym (kept l got cost note now x.station y.station h between c none))

-- # A joining message, by what is tested

module _ (own : rules.CoordinatorIdentity) (m : Memory) (way : Way) (now : ℕ) where
  pub no_message : (o : Option JoinMessage) → None ≡ o → refused {H = CoordinatorHeard} dropped m drops.BadUnit ≡ rules.hear_join_in own m way o now
  no_message o is = ap (λ (k : Option JoinMessage). rules.hear_join_in own m way k now) is

  by_coming : JoinMessage → Bool → rules.Hearing
  by_coming join may = choose may (rules.hear_join own m way join.eui join.body now) (rules.drop_it m drops.BadUnit)

  pub may_not_come : (o : Option JoinMessage) (join : JoinMessage) → Some join ≡ o → false ≡ rules.may_come way join.eui
      → refused {H = CoordinatorHeard} dropped m drops.BadUnit ≡ rules.hear_join_in own m way o now
  unfolding choose by_coming
  may_not_come o join is may = ap (by_coming join) may ∙ ap (λ (k : Option JoinMessage). rules.hear_join_in own m way k now) is

  pub comes : (o : Option JoinMessage) (join : JoinMessage) → Some join ≡ o → true ≡ rules.may_come way join.eui
      → rules.hear_join own m way join.eui join.body now ≡ rules.hear_join_in own m way o now
  unfolding choose by_coming
  comes o join is may = ap (by_coming join) may ∙ ap (λ (k : Option JoinMessage). rules.hear_join_in own m way k now) is

-- without a packet the meter asks, and with one it answers
module _ (own : rules.CoordinatorIdentity) (m : Memory) (way : Way) (eui : Eui) (now : ℕ) where
  pub asks : (packet : List ℕ) → length packet ≡ 0 → rules.join_without_packet own m way eui now ≡ rules.hear_join own m way eui (body.Join packet) now
  asks [] none = refl
  asks (x ∷ packet) none = absurd (cc)

  pub replies : (packet : List ℕ) → (length packet ≡ 0 → ⊥) → rules.join_with_packet own m eui packet now ≡ rules.hear_join own m way eui (body.Join packet) now
  replies [] some = absurd (some refl)
  replies (x ∷ packet) some = refl
