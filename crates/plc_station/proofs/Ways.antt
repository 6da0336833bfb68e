-- What sending comes to, by what is tested.
use Rattle.std.proofs.Common.{◌≡◌, ℕ, ◌+◌, ◌-◌, ◌<◌, ◌≤◌, true, false, List, length, Some, None, Result, Err, refl, sym, ap, subst, ◌∙◌, arith}
use Rattle.std.specs.Prelude.{◌==◌, ◌||◌, nat_lt}
use Rattle.std.proofs.lemmas.Bool.Decides.{nat_tests}
use Rattle.fragment_buffers.specs.Fragmentation.{pieces_of}
use Rattle.node_rules.specs.declared.heard.SentHow.TheVariants.{Sent, Waiting}
use Rattle.node_rules.specs.declared.refusal.SendRefusal.TheVariants.{NotJoined, BadSize, ToSelf, WaitingFull, SeqSpent, CounterSpent, Store}
use Rattle.node_rules.specs.declared.heard.SentHow.{SentHow}
use Rattle.node_rules.specs.declared.refusal.SendRefusal.{SendRefusal}
use Rattle.plc_base.specs.declared.out_frame.Out.{Out}
use Rattle.node_rules.specs.States.{State}
use Rattle.node_rules.specs.CarriedPlans.{Carries, nothing}
use Rattle.plc_station.proofs.CarriedPlans.{resting_carried}
use Rattle.node_rules.specs.Memory.{StationMemory, Datagram, next_hop}
use Rattle.node_rules.specs.Plans.{Plan}
use Rattle.node_rules.specs.Acceptance.{is_own}
use Rattle.node_rules.specs.Drafts.{Draft, Ends, alone, empty_draft, body_goes, waits, seeks, seeks_once, lack, no_room, numbers_spent, is_awaited}
use Rattle.node_rules.specs.Drafts.{counters_left, refused, sealing, sealed, checked, goes, with_own_number}
use Rattle.node_rules.specs.Calls.{sending_ends, send, send_from, tag_taken}
use Rattle.node_rules.proofs.Sizes.{length-all_go, length-units_of}
use Rattle.plc_station.specs.declared.next_steps.NextStep.{NextStep}
use Rattle.plc_station.specs.NextSteps.{next_step, stepping}
use Rattle.plc_station.proofs.NextStepCases as step
use Rattle.plc_station.proofs.LoadTags.{tagged_is}

-- # Sealing, by the counters that are left

pub sealed_spent : {H E : Type 0} (ends : Ends E) (l : StationMemory) (d : Draft StationMemory) (answer : H) (n : ℕ) → n ≡ length d.units
    → true ≡ nat_lt (counters_left l) n
    → refused ends l ends.spent ≡ sealed alone ends l d answer
unfolding sealed
sealed_spent ends l d answer n long few = rw (← long, ← few) refl

pub sealed_fits : {H E : Type 0} (ends : Ends E) (l : StationMemory) (d : Draft StationMemory) (answer : H) (n : ℕ) → n ≡ length d.units
    → false ≡ nat_lt (counters_left l) n
    → sealing alone ends d answer ≡ sealed alone ends l d answer
unfolding sealed
sealed_fits ends l d answer n long few = rw (← long, ← few) refl

pub never_less : (n : ℕ) → false ≡ nat_lt n 0
never_less n = grind (arith, nat_tests)

-- the tests on the counters that are left, and on the numbers
pub too_few : (left next n : ℕ) → left + next ≡ 4294967295 → left < n → true ≡ nat_lt (4294967295 - next) n
too_few left next n sum less = grind (arith, nat_tests)

pub enough : (left next n : ℕ) → left + next ≡ 4294967295 → n ≤ left → false ≡ nat_lt (4294967295 - next) n
enough left next n sum more = grind (arith, nat_tests)

-- # The tag changes no route and no body that waits

hop_kept : (l : StationMemory) (octets : List ℕ) (to : ℕ) → next_hop (tag_taken octets (empty_draft l)).memory to ≡ next_hop l to
unfolding next_hop
hop_kept l octets to = ap (λ (e : Draft StationMemory). next_hop e.memory to) (sym (tagged_is l octets))

awaited_kept : (l : StationMemory) (octets : List ℕ) (to : ℕ) → is_awaited (tag_taken octets (empty_draft l)).memory to ≡ is_awaited l to
awaited_kept l octets to = ap (λ (e : Draft StationMemory). is_awaited e.memory to) (sym (tagged_is l octets))

goes_long : (l : StationMemory) (own hop to note : ℕ) (octets : List ℕ) (tag : ℕ)
    → pieces_of (length octets) ≡ length (body_goes own hop to note (Datagram octets tag) (tag_taken octets (empty_draft l))).units
unfolding body_goes
goes_long l own hop to note octets tag =
    sym (ap (λ (e : Draft StationMemory). length (body_goes own hop to note (Datagram octets tag) e).units) (sym (tagged_is l octets))
    ∙ length-all_go hop note _ ∙ length-units_of own to (Datagram octets tag))

waits_long : (l : StationMemory) (to note : ℕ) (octets : List ℕ) (tag now : ℕ)
    → 0 ≡ length (waits to note (Datagram octets tag) now (tag_taken octets (empty_draft l))).units
unfolding waits
waits_long l to note octets tag now = ap (λ (e : Draft StationMemory). length (waits to note (Datagram octets tag) now e).units) (tagged_is l octets)

seeks_long : (l : StationMemory) (own to note : ℕ) (octets : List ℕ) (tag now : ℕ)
    → 1 ≡ length (waits to note (Datagram octets tag) now (seeks own to (tag_taken octets (empty_draft l)))).units
unfolding waits goes with_own_number
seeks_long l own to note octets tag now =
    ap (λ (e : Draft StationMemory). length (waits to note (Datagram octets tag) now (seeks own to e)).units) (tagged_is l octets)

-- # The refusals, in order, and the ways

-- the datagram is one, and for another node
pub record IsSendable (l : StationMemory) (to : ℕ) (datagram : List ℕ) : Type 0 where
  pub size : false ≡ ((length datagram == 0) || nat_lt 1280 (length datagram))
  pub other : false ≡ is_own l to

pub bad_size : (l : StationMemory) (own to : ℕ) (datagram : List ℕ) (note now : ℕ) → true ≡ ((length datagram == 0) || nat_lt 1280 (length datagram))
    → refused sending_ends l BadSize ≡ send_from l own to datagram note now
unfolding checked
bad_size l own to datagram note now e = rw (← e) refl

pub to_self : (l : StationMemory) (own to : ℕ) (datagram : List ℕ) (note now : ℕ) → false ≡ ((length datagram == 0) || nat_lt 1280 (length datagram))
    → true ≡ is_own l to
    → refused sending_ends l ToSelf ≡ send_from l own to datagram note now
unfolding checked
to_self l own to datagram note now size own_is = rw (← size, ← own_is) refl

goes_spent : (l : StationMemory) (own to : ℕ) (datagram : List ℕ) (note now hop : ℕ) → IsSendable l to datagram → Some hop ≡ next_hop l to
    → true ≡ nat_lt (counters_left l) (pieces_of (length datagram))
    → refused sending_ends l CounterSpent ≡ send_from l own to datagram note now
unfolding checked lack
goes_spent l own to datagram note now hop t by few =
    rw (← t.size, ← t.other, hop_kept l datagram to, ← by)
    (sealed_spent sending_ends l (body_goes own hop to note (Datagram datagram l.next_tag) (tag_taken datagram (empty_draft l))) Sent
    (pieces_of (length datagram)) (goes_long l own hop to note datagram l.next_tag) few)

goes_by : (l : StationMemory) (own to : ℕ) (datagram : List ℕ) (note now hop : ℕ) → IsSendable l to datagram → Some hop ≡ next_hop l to
    → false ≡ nat_lt (counters_left l) (pieces_of (length datagram))
    → sealing alone sending_ends (body_goes own hop to note (Datagram datagram l.next_tag) (tag_taken datagram (empty_draft l))) Sent
    ≡ send_from l own to datagram note now
unfolding checked lack
goes_by l own to datagram note now hop t by few =
    rw (← t.size, ← t.other, hop_kept l datagram to, ← by)
    (sealed_fits sending_ends l (body_goes own hop to note (Datagram datagram l.next_tag) (tag_taken datagram (empty_draft l))) Sent
    (pieces_of (length datagram)) (goes_long l own hop to note datagram l.next_tag) few)

full : (l : StationMemory) (own to : ℕ) (datagram : List ℕ) (note now : ℕ) → IsSendable l to datagram → None ≡ next_hop l to
    → true ≡ no_room l (length datagram)
    → refused sending_ends l WaitingFull ≡ send_from l own to datagram note now
unfolding checked lack
full l own to datagram note now t by room = rw (← t.size, ← t.other, ← by, ← room) refl

quiet : (l : StationMemory) (own to : ℕ) (datagram : List ℕ) (note now : ℕ) → IsSendable l to datagram → None ≡ next_hop l to
    → false ≡ no_room l (length datagram) → true ≡ is_awaited l to
    → sealing alone sending_ends (waits to note (Datagram datagram l.next_tag) now (tag_taken datagram (empty_draft l))) Waiting
    ≡ send_from l own to datagram note now
unfolding checked lack seeks_once
quiet l own to datagram note now t by room awaited =
    rw (← t.size, ← t.other, hop_kept l datagram to, ← by, ← room, awaited_kept l datagram to, ← awaited)
    (sealed_fits sending_ends l (waits to note (Datagram datagram l.next_tag) now (tag_taken datagram (empty_draft l))) Waiting 0
    (waits_long l to note datagram l.next_tag now) (never_less (counters_left l)))

seq_spent : (l : StationMemory) (own to : ℕ) (datagram : List ℕ) (note now : ℕ) → IsSendable l to datagram → None ≡ next_hop l to
    → false ≡ no_room l (length datagram) → false ≡ is_awaited l to
    → true ≡ numbers_spent l → refused sending_ends l SeqSpent ≡ send_from l own to datagram note now
unfolding checked lack
seq_spent l own to datagram note now t by room awaited spent = rw (← t.size, ← t.other, ← by, ← room, ← awaited, ← spent) refl

seeks_spent : (l : StationMemory) (own to : ℕ) (datagram : List ℕ) (note now : ℕ) → IsSendable l to datagram → None ≡ next_hop l to
    → false ≡ no_room l (length datagram) → false ≡ is_awaited l to
    → false ≡ numbers_spent l → true ≡ nat_lt (counters_left l) 1 → refused sending_ends l CounterSpent ≡ send_from l own to datagram note now
unfolding checked lack seeks_once
seeks_spent l own to datagram note now t by room awaited spent few =
    rw (← t.size, ← t.other, hop_kept l datagram to, ← by, ← room, awaited_kept l datagram to, ← awaited, ← spent)
    (sealed_spent sending_ends l (waits to note (Datagram datagram l.next_tag) now (seeks own to (tag_taken datagram (empty_draft l)))) Waiting 1
    (seeks_long l own to note datagram l.next_tag now) few)

seeking : (l : StationMemory) (own to : ℕ) (datagram : List ℕ) (note now : ℕ) → IsSendable l to datagram → None ≡ next_hop l to
    → false ≡ no_room l (length datagram) → false ≡ is_awaited l to
    → false ≡ numbers_spent l → false ≡ nat_lt (counters_left l) 1
    → sealing alone sending_ends (waits to note (Datagram datagram l.next_tag) now (seeks own to (tag_taken datagram (empty_draft l)))) Waiting
    ≡ send_from l own to datagram note now
unfolding checked lack seeks_once
seeking l own to datagram note now t by room awaited spent few =
    rw (← t.size, ← t.other, hop_kept l datagram to, ← by, ← room, awaited_kept l datagram to, ← awaited, ← spent)
    (sealed_fits sending_ends l (waits to note (Datagram datagram l.next_tag) now (seeks own to (tag_taken datagram (empty_draft l)))) Waiting 1
    (seeks_long l own to note datagram l.next_tag now) few)

-- # The way, by the next step

pub send_step : (l : StationMemory) (own to : ℕ) (datagram : List ℕ) (note now : ℕ) → IsSendable l to datagram
    → stepping l own to note now (Datagram datagram l.next_tag) (tag_taken datagram (empty_draft l))
    (next_step l to (length datagram) (pieces_of (length datagram)))
    ≡ send_from l own to datagram note now
send_step l own to datagram note now t = by_tests _ (step.tested l to (length datagram) (pieces_of (length datagram)))
  where
    by_tests : (r : Result NextStep SendRefusal) → step.Tests l to (length datagram) (pieces_of (length datagram)) r
        → stepping l own to note now (Datagram datagram l.next_tag) (tag_taken datagram (empty_draft l)) r ≡ send_from l own to datagram note now
    by_tests r (step.goes_spent hop e few) = goes_spent l own to datagram note now hop t e few
    by_tests r (step.goes hop e few) = goes_by l own to datagram note now hop t e few
    by_tests r (step.full e p) = full l own to datagram note now t e p
    by_tests r (step.waits e p q) = quiet l own to datagram note now t e p q
    by_tests r (step.numbers e p q n) = seq_spent l own to datagram note now t e p q n
    by_tests r (step.seeks_spent e p q n s) = seeks_spent l own to datagram note now t e p q n s
    by_tests r (step.seeks e p q n s) = seeking l own to datagram note now t e p q n s

-- # Carried out

pub refused_as : (s : State StationMemory) (l : StationMemory) (reason : SendRefusal) (p : Plan StationMemory (Result SentHow SendRefusal)) (out : Out)
    → s.memory ≡ Some l → refused {H = SentHow} sending_ends l reason ≡ p → out ≡ nothing
    → Carries s p (Err reason) out s
refused_as s l reason p out m e o =
    subst (λ (q : Plan StationMemory (Result SentHow SendRefusal)). Carries s q (Err reason) out s) e
    (subst (λ (q : Out). Carries s (refused {H = SentHow} sending_ends l reason) (Err reason) q s) (sym o) (resting_carried s l (Err reason) (Err Store) m))

pub carried_as : (s t : State StationMemory) (p q : Plan StationMemory (Result SentHow SendRefusal)) (answer : Result SentHow SendRefusal) (out : Out) → p ≡ q
    → Carries s p answer out t → Carries s q answer out t
carried_as s t p q answer out e h = subst (λ (k : Plan StationMemory (Result SentHow SendRefusal)). Carries s k answer out t) e h

pub not_joined : (l : StationMemory) (to : ℕ) (datagram : List ℕ) (note now : ℕ) → None ≡ l.ring
    → refused sending_ends l NotJoined ≡ send l to datagram note now
not_joined l to datagram note now e = rw (← e) refl
