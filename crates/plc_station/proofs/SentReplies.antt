-- Which route reply a plan of hearing sends, and how it is kept.
use Rattle.std.proofs.Common.{◌≡◌, ℕ, ◌+◌, Bool, true, false, List, [], ◌∷◌, ◌++◌, Option, Some, None, Result, Ok, Err, refl, sym, ap, subst, ◌∙◌}
use Rattle.std.specs.Prelude.{IsSome, is_some, if◌then◌else◌, nat_lt, nat_le, map, length, ◌==◌}
use Rattle.std.specs.List.{filter, flat_map}
use Rattle.std.specs.Option.{option_map_or}
use Rattle.plc_base.specs.Fields.{octet}
use Rattle.plc_base.specs.Grant.{Granted}
use Rattle.plc_base.specs.declared.key.Key.{Key}
use Rattle.plc_base.specs.declared.out_frame.Out.{Out}
use Rattle.mesh_header.specs.Pieces.{Placed}
use Rattle.mesh_header.specs.declared.unit.Mesh.{Mesh}
use Rattle.mesh_header.specs.declared.unit.Unit.{Unit as MeshUnit}
use Rattle.mesh_header.specs.declared.unit.Unit.TheVariants.{Local, Whole, Part, Carried}
use Rattle.loadng_messages.specs.declared.message.Message.{Message}
use Rattle.loadng_messages.specs.declared.message.Message.TheVariants.{Rreq, Rrep, Rerr}
use Rattle.loadng_messages.specs.Faults.{message_fault}
use Rattle.loadng_messages.specs.Grammar as messages
use Rattle.loadng_messages.specs.Reader.{fields_in, message_in}
use Rattle.loadng_messages.proofs.Readings.{message_read}
use Rattle.group_keys.specs.KeyRing.{Ring}
use Rattle.routing_set.specs.declared.rank.Rank.{Rank}
use Rattle.fragment_buffers.specs.Fragmentation.{pieces_cut}
use Rattle.fragment_buffers.specs.Loads.{Load, Datagram, Command, own_mesh, units_of, UnsealedUnit, all_go}
use Rattle.fragment_buffers.specs.WaitingBodies.{Body, units_by, waits_for}
use Rattle.node_rules.specs.declared.heard.Heard.{Heard}
use Rattle.node_rules.specs.declared.heard.Heard.TheVariants as heard
use Rattle.node_rules.specs.declared.heard.Reply.{Reply}
use Rattle.node_rules.specs.declared.refusal.Dropped.{Dropped}
use Rattle.node_rules.specs.Frames.{Sent, to_all}
use Rattle.node_rules.specs.Memory.{StationMemory, next_hop}
use Rattle.node_rules.specs.Plans.{Plan, resting}
use Rattle.node_rules.specs.Drafts.{Draft, Ends, alone, checked, choose, counters_left, empty_draft, goes, leave, sealed_units, refused, sealed, sealed_by}
use Rattle.node_rules.specs.Drafts.{sealing}
use Rattle.node_rules.specs.Drafts.{sealing_key, send_message, with_own_number, with_rank, with_routing_by}
use Rattle.node_rules.specs.HearingRules.{dropped, drop_it, ends, error_hop, forward, forward_by, gathered, hear_error, hear_over_mesh, hop_less, is_spent}
use Rattle.node_rules.specs.HearingRules.{learns}
use Rattle.node_rules.specs.HearingRules.{loses, offers, offers_numbered, rank_fault, report_by, pass_error_on}
use Rattle.node_rules.specs.Replies.{first_of, reply_among, reply_of, reply_sent, reply_with, route_message}
use Rattle.node_rules.specs.States.{State}
use Rattle.node_rules.specs.CarriedPlans.{Carries, nothing}
use Rattle.plc_station.specs.Hears.{Hears}
use Rattle.plc_station.proofs.EndedSteps.{refusal, rested, answered, failed}

-- # What units carry

-- the first reply among units on their way out
abbrev reply_in : List UnsealedUnit → Option Reply
reply_in [] = None
reply_in (o ∷ os) = first_of (reply_with o.to (route_message o.unit)) (reply_in os)

sealed_units_reply : (g : Granted) (key : Key) (first : ℕ) (us : List UnsealedUnit) → reply_among (sealed_units g key first us) ≡ reply_in us
unfolding reply_of
sealed_units_reply g key first [] = refl
sealed_units_reply g key first (u ∷ us) = ap (first_of (reply_with u.to (route_message u.unit))) (sealed_units_reply g key (first + 1) us)

sealed_quiet : (r : Ring) (first : ℕ) (us : List UnsealedUnit) → reply_in us ≡ None → reply_among (sealed_by r first us) ≡ None
sealed_quiet None first us e = refl
sealed_quiet (Some g) first us e = by_key (sealing_key g)
  where
    by_key : (k : Option Key) → reply_among (option_map_or (λ key. sealed_units g key first us) k []) ≡ None
    by_key None = refl
    by_key (Some key) = sealed_units_reply g key first us ∙ e

after_quiet : (xs ys : List UnsealedUnit) → reply_in xs ≡ None → reply_in (xs ++ ys) ≡ reply_in ys
after_quiet [] ys e = refl
after_quiet (x ∷ xs) ys e = by_first (reply_with x.to (route_message x.unit)) (after_quiet xs ys) e
  where
    by_first : (r : Option Reply) → (reply_in xs ≡ None → reply_in (xs ++ ys) ≡ reply_in ys) → first_of r (reply_in xs) ≡ None
        → first_of r (reply_in (xs ++ ys)) ≡ reply_in ys
    by_first None tail h = tail h
    by_first (Some reply) tail h = cc

-- # Bodies that leave carry none

whole_quiet : (hop note : ℕ) (mesh : Mesh) (ps : List Placed) → reply_in (all_go hop note (map (λ piece. Part mesh piece) ps)) ≡ None
whole_quiet hop note mesh [] = refl
whole_quiet hop note mesh (p ∷ ps) = whole_quiet hop note mesh ps

load_quiet : (own hop note to : ℕ) (load : Load) → reply_in (all_go hop note (units_of own to load)) ≡ None
load_quiet own hop note to (Datagram octets tag) = by_size (nat_le (length octets) 375)
  where
    by_size : (b : Bool) → reply_in
        (all_go hop note (if b then Whole (own_mesh own to) octets ∷ [] else map (λ piece. Part (own_mesh own to) piece) (pieces_cut octets tag))) ≡ None
    by_size true = refl
    by_size false = whole_quiet hop note (own_mesh own to) (pieces_cut octets tag)
load_quiet own hop note to (Command octets) = refl

bodies_quiet : (own hop : ℕ) (bs : List Body) → reply_in (flat_map (units_by own hop) bs) ≡ None
bodies_quiet own hop [] = refl
bodies_quiet own hop (b ∷ bs) =
    after_quiet (units_by own hop b) (flat_map (units_by own hop) bs) (load_quiet own hop b.note b.to b.load) ∙ bodies_quiet own hop bs

-- what leaves, and one unit after it
then_one : (own hop dest : ℕ) (bs : List Body) (o : UnsealedUnit)
    → reply_in (flat_map (units_by own hop) (filter (waits_for dest) bs) ++ o ∷ []) ≡ first_of (reply_with o.to (route_message o.unit)) None
then_one own hop dest bs o = after_quiet (flat_map (units_by own hop) (filter (waits_for dest) bs)) (o ∷ []) (bodies_quiet own hop (filter (waits_for dest) bs))

-- the units of a step in which bodies leave and a message goes out
abbrev message_units : (own by origin to : ℕ) → List Body → Message → List UnsealedUnit
message_units own by origin to bs m =
    flat_map (units_by own by) (filter (waits_for origin) bs) ++ record { to = to; unit = Local 1 (messages.spelling m); note = 0 } ∷ []

message_alone : (own by origin to : ℕ) (bs : List Body) (m : Message)
    → reply_in (message_units own by origin to bs m) ≡ first_of (reply_with to (message_in (messages.spelling m))) None
message_alone own by origin to bs m = then_one own by origin bs (record { to = to; unit = Local 1 (messages.spelling m); note = 0 })

-- # Messages

request_quiet : (to number cost origin dest : ℕ) → first_of (reply_with to (message_in (messages.spelling (Rreq number cost origin dest)))) None ≡ None
unfolding message_in octet
request_quiet to number cost origin dest = by_fault (is_some (message_fault (messages.spelling (Rreq number cost origin dest))))
  where
    by_fault : (b : Bool) → first_of (reply_with to (if b then None else Some (fields_in 1 (messages.spelling (Rreq number cost origin dest))))) None ≡ None
    by_fault true = refl
    by_fault false = refl

error_quiet : (to lost target : ℕ) → first_of (reply_with to (message_in (messages.spelling (Rerr lost target)))) None ≡ None
unfolding message_in octet
error_quiet to lost target = by_fault (is_some (message_fault (messages.spelling (Rerr lost target))))
  where
    by_fault : (b : Bool) → first_of (reply_with to (if b then None else Some (fields_in 3 (messages.spelling (Rerr lost target))))) None ≡ None
    by_fault true = refl
    by_fault false = refl

reply_is_message : (to number cost origin target : ℕ) → messages.IsMessage (Rrep number cost origin target)
    → first_of (reply_with to (message_in (messages.spelling (Rrep number cost origin target)))) None
    ≡ Some (record { to = to; number = number; origin = origin })
reply_is_message to number cost origin target is = ap (λ (m : Option Message). first_of (reply_with to m) None)
    (message_read (Rrep number cost origin target) (messages.spelling (Rrep number cost origin target)) (is, refl))

-- # Plans that send none

ends_quiet : (l : StationMemory) (d : Draft StationMemory) (answer : Heard) → d.plain ≡ [] → reply_in d.units ≡ None
    → reply_among (ends l d answer).frames ≡ None
unfolding sealed resting
ends_quiet l d answer plain none = by_few (nat_lt (counters_left l) (length d.units))
  where
    by_few : (b : Bool) → reply_among (if b then refused dropped l dropped.spent else sealing alone dropped d answer).frames ≡ None
    by_few true = refl
    by_few false = ap (λ (fs : List Sent). reply_among (fs ++ sealed_by d.memory.ring d.memory.counter.next d.units)) plain
        ∙ sealed_quiet d.memory.ring d.memory.counter.next d.units none

pub errors_quiet : (l : StationMemory) (own by lost to : ℕ) → reply_among (hear_error l own by lost to).frames ≡ None
unfolding goes empty_draft with_routing_by
errors_quiet l own by lost to = by_hop (error_hop l own by lost to)
  where
    by_hop : (hop : Option ℕ) → reply_among (ends l (pass_error_on lost to hop (loses lost by l)) heard.Broken).frames ≡ None
    by_hop None = ends_quiet l (pass_error_on lost to None (loses lost by l)) _ refl refl
    by_hop (Some hop) = ends_quiet l (pass_error_on lost to (Some hop) (loses lost by l)) _ refl (error_quiet hop lost to)

chosen_quiet : (b : Bool) (p q : Plan StationMemory (Result Heard Dropped)) → reply_among p.frames ≡ None → reply_among q.frames ≡ None
    → reply_among (choose b p q).frames ≡ None
unfolding choose
chosen_quiet true p q a b = a
chosen_quiet false p q a b = b

dropped_quiet : (l : StationMemory) (reason : Dropped) → reply_among (drop_it l reason).frames ≡ None
unfolding resting
dropped_quiet l reason = refl

forward_quiet : (l : StationMemory) (own : ℕ) (mesh : Mesh) (unit : MeshUnit) (note : ℕ) → route_message unit ≡ None
    → reply_among (forward l own mesh unit note).frames ≡ None
unfolding goes empty_draft
forward_quiet l own mesh unit note none = by_hop (next_hop l mesh.to)
  where
    by_report : (hop : Option ℕ) → reply_among (report_by l mesh hop).frames ≡ None
    by_report None = dropped_quiet l _
    by_report (Some hop) = ends_quiet l (send_message hop (Rerr mesh.to mesh.origin) (empty_draft l)) _ refl (error_quiet hop mesh.to mesh.origin)

    by_hop : (hop : Option ℕ) → reply_among (forward_by l own mesh unit note hop).frames ≡ None
    by_hop None = chosen_quiet (mesh.origin == own) _ _ (dropped_quiet l _) (by_report (next_hop l mesh.origin))
    by_hop (Some hop) = chosen_quiet (is_spent mesh) _ _ (dropped_quiet l _)
        (ends_quiet l (goes hop unit note (empty_draft l)) _ refl (ap (λ (m : Option Message). first_of (reply_with hop m) None) none))

pub over_mesh_quiet : (l : StationMemory) (own : ℕ) (unit : MeshUnit) (note now : ℕ) → reply_among (hear_over_mesh l own unit note now).frames ≡ None
unfolding gathered resting
over_mesh_quiet l own (Whole mesh octets) note now = chosen_quiet (mesh.to == own) _ _ refl (forward_quiet l own mesh (Whole (hop_less mesh) octets) note refl)
over_mesh_quiet l own (Part mesh piece) note now = chosen_quiet (mesh.to == own) _ _ refl (forward_quiet l own mesh (Part (hop_less mesh) piece) note refl)
over_mesh_quiet l own (Carried mesh body) note now = chosen_quiet (mesh.to == own) _ _ refl (forward_quiet l own mesh (Carried (hop_less mesh) body) note refl)
over_mesh_quiet l own (Local code body) note now = refl

-- a rank that is learned makes bodies leave, and nothing else
pub learned_quiet : (l : StationMemory) (own by origin : ℕ) (rank : Rank) (now : ℕ)
    → reply_among (checked dropped l (rank_fault l own origin rank now) (learns l own by origin rank now)).frames ≡ None
unfolding leave with_rank empty_draft checked resting
learned_quiet l own by origin rank now = by_fault (rank_fault l own origin rank now)
  where
    by_fault : (fault : Option Dropped) → reply_among (checked dropped l fault (learns l own by origin rank now)).frames ≡ None
    by_fault None = ends_quiet l (offers own origin rank by now l) _ refl (bodies_quiet own by (filter (waits_for origin) l.waiting))
    by_fault (Some reason) = refl

-- so does a request that goes on
pub sent_on_quiet : (l : StationMemory) (own by origin dest : ℕ) (rank : Rank) (now : ℕ)
    → reply_among (sealing {H = Unit {0}} alone dropped (send_message to_all (Rreq rank.number rank.cost origin dest) (offers own origin rank by now l))
    tt).frames
    ≡ None
unfolding goes leave with_rank empty_draft
sent_on_quiet l own by origin dest rank now =
    sealed_quiet l.ring l.counter.next (message_units own by origin to_all l.waiting (Rreq rank.number rank.cost origin dest))
    (message_alone own by origin to_all l.waiting (Rreq rank.number rank.cost origin dest) ∙ request_quiet to_all rank.number rank.cost origin dest)

-- # Plans that send one

-- a ring whose key seals sends the reply of its units, whichever the key is
under_a_key : (g : Granted) (first : ℕ) (us : List UnsealedUnit) → IsSome (sealing_key g) → reply_among (sealed_by (Some g) first us) ≡ reply_in us
under_a_key g first us seals = by_key (sealing_key g) seals
  where
    by_key : (k : Option Key) → IsSome k → reply_among (option_map_or (λ q. sealed_units g q first us) k []) ≡ reply_in us
    by_key None h = absurd (cc)
    by_key (Some key) h = sealed_units_reply g key first us

pub answer_goes : (l : StationMemory) (g : Granted) (own by origin : ℕ) (rank : Rank) (now : ℕ) → l.ring ≡ Some g → IsSome (sealing_key g)
    → messages.IsMessage (Rrep (l.own_number.last + 1) 0 own origin)
    → reply_among (sealing {H = Unit {0}} alone dropped (send_message by (Rrep (l.own_number.last + 1) 0 own origin) (offers_numbered own origin rank by now l))
    tt).frames
    ≡ Some (record { to = by; number = l.own_number.last + 1; origin = own })
unfolding goes leave with_own_number with_rank empty_draft
answer_goes l g own by origin rank now ring seals is =
    let us = message_units own by origin by l.waiting (Rrep (l.own_number.last + 1) 0 own origin) in
    ap (λ (r : Ring). reply_among (sealed_by r l.counter.next us)) ring
    ∙ under_a_key g l.counter.next us seals
    ∙ message_alone own by origin by l.waiting (Rrep (l.own_number.last + 1) 0 own origin)
    ∙ reply_is_message by (l.own_number.last + 1) 0 own origin is

pub passed_goes : (l : StationMemory) (g : Granted) (own by hop origin to : ℕ) (rank : Rank) (now : ℕ) → l.ring ≡ Some g → IsSome (sealing_key g)
    → messages.IsMessage (Rrep rank.number rank.cost origin to)
    → reply_among (sealing {H = Unit {0}} alone dropped (send_message hop (Rrep rank.number rank.cost origin to) (offers own origin rank by now l)) tt).frames
    ≡ Some (record { to = hop; number = rank.number; origin = origin })
unfolding goes leave with_rank empty_draft
passed_goes l g own by hop origin to rank now ring seals is =
    let us = message_units own by origin hop l.waiting (Rrep rank.number rank.cost origin to) in
    ap (λ (r : Ring). reply_among (sealed_by r l.counter.next us)) ring
    ∙ under_a_key g l.counter.next us seals
    ∙ message_alone own by origin hop l.waiting (Rrep rank.number rank.cost origin to)
    ∙ reply_is_message hop rank.number rank.cost origin to is

-- what is kept of a reply is no part of the plan that sent it
pub restated : {A : Type 0} (s t : State StationMemory) (r : Option Reply) (p : Plan StationMemory A) (answer : A) (out : Out) → Carries s p answer out t
    → Carries s p answer out (record t { replied = r })
restated {A} s t r p answer out c = record {
  done = c.done;
  wrote = c.wrote;
  answer_is = c.answer_is;
  out_is = c.out_is;
  new_is = ap (λ (u : State StationMemory). record u { replied = r }) c.new_is;
}

-- it is the reply of the plan where that was done, and none where a put failed
pub kept_done : {E : Type 0} (ends : Ends E) (s t : State StationMemory) (d : Draft StationMemory) (u : Unit {0}) (out : Out) (r : Option Reply)
    → Carries s (sealing {H = Unit {0}} alone ends d tt) (Ok u) out t
    → reply_among (sealing {H = Unit {0}} alone ends d tt).frames ≡ r → r ≡ reply_sent (sealing {H = Unit {0}} alone ends d tt) t.memory
kept_done {E} ends s t d u out r c e = by_done c.done t.memory c.answer_is (ap (λ (k : State StationMemory). k.memory) c.new_is)
  where
    by_done : (done : Bool) (m : Option StationMemory) → ◌≡◌ {A = Result (Unit {0}) E} (Ok u) (if done then Ok tt else Err ends.store)
        → m ≡ (if done then Some (sealing {H = Unit {0}} alone ends d tt).memory else None)
        → r ≡ reply_sent (sealing {H = Unit {0}} alone ends d tt) m
    by_done true m is e' = sym e ∙ ap (λ (o : Option StationMemory). reply_sent (sealing {H = Unit {0}} alone ends d tt) o) (sym e')
    by_done false m is e' = cc

pub kept_failed : {E : Type 0} (ends : Ends E) (s t : State StationMemory) (d : Draft StationMemory) (reason : E) (out : Out) (r : Option Reply)
    → Carries s (sealing {H = Unit {0}} alone ends d tt) (Err reason) out t
    → r ≡ None → r ≡ reply_sent (sealing {H = Unit {0}} alone ends d tt) t.memory
kept_failed {E} ends s t d reason out r c e = by_done c.done t.memory c.answer_is (ap (λ (k : State StationMemory). k.memory) c.new_is)
  where
    by_done : (done : Bool) (m : Option StationMemory) → ◌≡◌ {A = Result (Unit {0}) E} (Err reason) (if done then Ok tt else Err ends.store)
        → m ≡ (if done then Some (sealing {H = Unit {0}} alone ends d tt).memory else None)
        → r ≡ reply_sent (sealing {H = Unit {0}} alone ends d tt) m
    by_done true m is e' = cc
    by_done false m is e' = e ∙ ap (λ (o : Option StationMemory). reply_sent (sealing {H = Unit {0}} alone ends d tt) o) (sym e')

-- # Hearing

none_sent : {A : Type 0} (p : Plan StationMemory A) (o : Option StationMemory) → reply_among p.frames ≡ None → None ≡ reply_sent p o
none_sent p None e = refl
none_sent p (Some m) e = sym e

pub quiet : {A : Type 0} (s t : State StationMemory) (p : Plan StationMemory A) (answer : A) (out : Out) → Carries s p answer out t → s.replied ≡ None
    → t.replied ≡ s.replied → reply_among p.frames ≡ None → Hears s p answer out t
quiet {A} s t p answer out c fresh stays none = record { carries = c; replied = stays ∙ fresh ∙ none_sent p t.memory none }

pub refusal_heard : {H E : Type 0} (ends : Ends E) (s : State StationMemory) (l : StationMemory) (reason : E) (p : Plan StationMemory (Result H E)) (out : Out)
    → s.memory ≡ Some l → refused {H = H} ends l reason ≡ p → out ≡ nothing
    → s.replied ≡ None → Hears s p (Err reason) out s
unfolding resting
refusal_heard {H} {E} ends s l reason p out m e o fresh =
    quiet s s p (Err reason) out (refusal ends s l reason p out m e o) fresh refl (sym (ap (λ (q : Plan StationMemory (Result H E)). reply_among q.frames) e))

pub rested_heard : {A : Type 0} (s : State StationMemory) (l : StationMemory) (answer fault : A) (p : Plan StationMemory A) (out : Out) → s.memory ≡ Some l
    → resting l answer fault ≡ p → out ≡ nothing
    → s.replied ≡ None → Hears s p answer out s
unfolding resting
rested_heard {A} s l answer fault p out m e o fresh =
    quiet s s p answer out (rested s l answer fault p out m e o) fresh refl (sym (ap (λ (q : Plan StationMemory A). reply_among q.frames) e))

pub heard_by : {A : Type 0} (s t : State StationMemory) (p q : Plan StationMemory A) (answer : A) (out : Out) → p ≡ q → Hears s p answer out t
    → Hears s q answer out t
heard_by {A} s t p q answer out e h = subst (λ (k : Plan StationMemory A). Hears s k answer out t) e h

-- a step that was done, with an answer of its own
pub answered_heard : {H E : Type 0} (ends : Ends E) (s t : State StationMemory) (d : Draft StationMemory) (u : Unit {0}) (answer : H) (out : Out)
    → Carries s (sealing {H = Unit {0}} alone ends d tt) (Ok u) out t
    → t.replied ≡ reply_sent (sealing {H = Unit {0}} alone ends d tt) t.memory → Hears s (sealing alone ends d answer) (Ok answer) out t
answered_heard {H} {E} ends s t d u answer out c is = record { carries = answered ends s t d u answer out c; replied = is }

pub failed_heard : {H E : Type 0} (ends : Ends E) (s t : State StationMemory) (d : Draft StationMemory) (reason : E) (answer : H) (out : Out)
    → Carries s (sealing {H = Unit {0}} alone ends d tt) (Err reason) out t
    → t.replied ≡ reply_sent (sealing {H = Unit {0}} alone ends d tt) t.memory → Hears s (sealing alone ends d answer) (Err reason) out t
failed_heard {H} {E} ends s t d reason answer out c is = record { carries = failed ends s t d reason answer out c; replied = is }

-- a request that went on is no reply
pub sent_on_kept : (before after : Option Reply) (memory : Option StationMemory) (l : StationMemory) (own by origin dest : ℕ) (rank : Rank) (now : ℕ)
    → before ≡ None → after ≡ before
    → after ≡ reply_sent (sealing {H = Unit {0}} alone dropped (send_message to_all (Rreq rank.number rank.cost origin dest) (offers own origin rank by now l))
    tt)
    memory
sent_on_kept before after memory l own by origin dest rank now fresh stays =
    stays ∙ fresh ∙ none_sent (sealing {H = Unit {0}} alone dropped
    (send_message to_all (Rreq rank.number rank.cost origin dest) (offers own origin rank by now l))
    tt) memory (sent_on_quiet l own by origin dest rank now)

-- what is kept of the last frame is no part of a plan
pub of_fresh : {A : Type 0} (s t : State StationMemory) (r : Option Reply) (p : Plan StationMemory A) (answer : A) (out : Out)
    → Carries (record s { replied = r }) p answer out t → Carries s p answer out t
of_fresh {A} s t r p answer out c = record { done = c.done; wrote = c.wrote; answer_is = c.answer_is; out_is = c.out_is; new_is = c.new_is }
