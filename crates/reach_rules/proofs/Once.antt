-- A broadcast that was handed up is old from then on.
use Rattle.std.proofs.Common.{◌≡◌, ℕ, Bool, true, false, [], ◌∷◌, ◌++◌, length, set, Option, Some, None, Err, refl, ap, ◌∙◌, arith}
use Rattle.std.specs.Prelude.{if◌then◌else◌, ◌==◌, nat_le}
use Rattle.std.proofs.lemmas.Bool.Decides.{nat_tests}
use Rattle.std.proofs.lemmas.List.{get_or-set_same}
use Rattle.std.proofs.Math.Seq.{get_or-append_seam}
use Rattle.plc_base.specs.Faults.{◌then◌, ◌when◌}
use Rattle.store_tables.proofs.SlotTables.{found, place_of-set}
use Rattle.store_tables.proofs.LookUps.{place_push}
use Rattle.broadcast_log.specs.declared.broadcast.Broadcast.{Broadcast}
use Rattle.broadcast_log.specs.declared.fault.LogFault.TheVariants as log_faults
use Rattle.broadcast_log.specs.OriginMarks.{OriginMark, Marks, marks, place_of, mark_at, mark_ahead, advanced, room_for, kept_after}
use Rattle.node_rules.specs.Plans.{resting}
use Rattle.node_rules.specs.Drafts.{StationPlace, checked}
use Rattle.reach_rules.specs.declared.refusal.ReachDropped.{ReachDropped}
use Rattle.reach_rules.specs.declared.refusal.ReachDropped.TheVariants.{Old}
use Rattle.reach_rules.specs.ReachingNodes.{Reaching, reach_ends}
use Rattle.reach_rules.specs.Broadcasts.{broadcast_fault, mark_fault, admits_broadcast, hear_broadcast_in}
use Rattle.reach_rules.specs.Laws.{HandedUpOnce}
use Rattle.reach_rules.proofs.Commands.{admitted}

-- # Marks

-- a number that is its origin's mark is old
old_at : (table : Marks) (origin number place : ℕ) → place_of table origin ≡ Some place → (mark_at table place).mark ≡ number
    → room_for table origin number ≡ Err log_faults.Old
old_at table origin number place there same =
    let low : nat_le number (mark_at table place).mark ≡ true = grind (arith, nat_tests) in
    rw (there, low) refl

kept_old : (table : Marks) (origin number : ℕ) → room_for (kept_after table origin number) origin number ≡ Err log_faults.Old
kept_old table origin number = by_place (place_of table origin) refl
  where
    by_entry : (place : ℕ) (e : OriginMark) → place_of table origin ≡ Some place → e.address ≡ origin → e.mark ≡ number
        → room_for (set table place e) origin number ≡ Err log_faults.Old
    by_entry place e there named marked =
        let within = (found marks table origin place e there).0 in
        let here : place_of table e.address ≡ Some place = ap (λ a. place_of table a) named ∙ there in
        let after = place_of-set marks table e place origin place here there in
        let is = get_or-set_same table place e (record { address = 0; mark = 0; stored = 0 }) within in
        old_at (set table place e) origin number place after (ap (λ (o : OriginMark). o.mark) is ∙ marked)

    by_stored : (place : ℕ) (b : Bool) → place_of table origin ≡ Some place
        → room_for (set table place (if b then record (mark_at table place) { mark = number } else mark_ahead origin number)) origin number ≡ Err log_faults.Old
    by_stored place true there = by_entry place (record (mark_at table place) { mark = number }) there
        (found marks table origin place (record { address = 0; mark = 0; stored = 0 }) there).1 refl
    by_stored place false there = by_entry place (mark_ahead origin number) there refl refl

    by_place : (o : Option ℕ) → place_of table origin ≡ o → room_for (kept_after table origin number) origin number ≡ Err log_faults.Old
    by_place None new =
        let after : kept_after table origin number ≡ table ++ mark_ahead origin number ∷ [] = rw new refl in
        let there = place_push marks table (mark_ahead origin number) new in
        let is = get_or-append_seam table (mark_ahead origin number) [] (record { address = 0; mark = 0; stored = 0 }) in
        ap (λ t. room_for t origin number) after
        ∙ old_at (table ++ mark_ahead origin number ∷ []) origin number (length table) there (ap (λ (o : OriginMark). o.mark) is)
    by_place (Some place) there =
        let after : kept_after table origin number ≡ set table place (advanced (mark_at table place) origin number) = rw there refl in
        ap (λ t. room_for t origin number) after ∙ by_stored place (nat_le number (mark_at table place).stored) there

-- # Plans

-- a broadcast whose number is old is dropped so, whether it is an own one or not
dropped_old : {M : Type 0} (h : StationPlace M) (y : Reaching M) (own : ℕ) (c : Broadcast) → room_for y.beside.log.marks c.origin c.number ≡ Err log_faults.Old
    → (hear_broadcast_in h y own (Some c)).answer ≡ Err Old
unfolding checked resting broadcast_fault
dropped_old h y own c old = by_own (c.origin == own) (mark_fault (room_for y.beside.log.marks c.origin c.number)) (ap mark_fault old)
  where
    by_own : (t : Bool) (fault : Option ReachDropped) → fault ≡ Some Old
        → (checked reach_ends y (Some Old when t then fault) (admits_broadcast h y c)).answer ≡ Err Old
    by_own true fault e = refl
    by_own false fault e = ap (λ f. (checked reach_ends y f (admits_broadcast h y c)).answer) e

pub once : {M : Type 0} → HandedUpOnce M
once h x own b c got e origin number =
    let y = (hear_broadcast_in h x own (Some b)).memory in
    let now_marked : y.beside.log.marks ≡ kept_after x.beside.log.marks b.origin b.number = (admitted h x own b got e).marks in
    dropped_old h y own c (rw (now_marked, origin, number) (kept_old x.beside.log.marks b.origin b.number))
