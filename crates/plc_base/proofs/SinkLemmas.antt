-- What writes leave of a sink's plan and faults.
use Rattle.std.proofs.Common.{◌≡◌, ℕ, ◌+◌, ◌-◌, ◌≤◌, true, false, List, [], ◌++◌, length, Option, Some, None, IfSome, Ok, Err, refl, sym, ◌∙◌, ap, subst, arith}
use Rattle.std.proofs.Common.{length-append}
use Rattle.std.proofs.lemmas.Bool.{le-ltb}
use Rattle.std.specs.Io.KnownBytes.{Appends, Keeps}
use Rattle.plc_base.specs.Streams.{HasWritten, SinkState, WritePlan, write_fails, plan_after_write, FollowsWritePlan, Writes, PlansRoomFor, SinkFaults}

-- where no write is listed and there is room, the next one does not fail
room_passes : (plan : WritePlan) (count : ℕ) → plan.fails ≡ [] → count ≤ plan.room → write_fails plan count ≡ false
room_passes plan count none room = rw (le-ltb plan.room count room, none) refl

no_failure : true ≡ false → ⊥
no_failure e = cc

-- the plan after a write of a whole piece
room_after : (plan : WritePlan) (new : Option WritePlan) (count taken more : ℕ) → taken ≡ count → new ≡ Some (plan_after_write plan count) → plan.fails ≡ []
    → taken + more ≤ plan.room → PlansRoomFor more new
room_after plan new count taken more all is none room =
    let passes = room_passes plan count none (omega (arith, room, all)) in
    subst (PlansRoomFor more) (sym is) (rw passes (none, omega (arith, room, all)))

-- what a write took leaves room for what is to come
pub wrote_some : {E : Type 0} {old new : SinkState} {piece : List ℕ} (n : ℕ) → Writes {E = E} old new (Ok n) piece → SinkFaults old new n
wrote_some {E} {old} {new} {piece} n w = record { later = w.cause.later; none = λ more. by old.plan refl w.planned more }
  where
    by : (p : Option WritePlan) → old.plan ≡ p → IfSome p (λ plan. FollowsWritePlan {E = E} plan old new (Ok n) (length piece)) → (more : ℕ)
        → PlansRoomFor (n + more) p → PlansRoomFor more new.plan × (new.faults ≡ old.faults)
    by None is planned more room = absurd room
    by (Some plan) is planned more room = (
      room_after plan new.plan (length piece) n more planned.count_is planned.plan_is room.0 room.1,
      planned.faults_is ∙ rw (room_passes plan (length piece) room.0 (let all = planned.count_is in let fits = room.1 in omega (arith, all, fits))) refl,
    )

-- a write does not fail where there is room
pub wrote_none : {E : Type 0} {old new : SinkState} {piece : List ℕ} (e : E) → Writes old new (Err e) piece → SinkFaults old new (length piece)
wrote_none {E} {old} {new} {piece} e w = record { later = w.cause.later; none = λ more. by old.plan refl w.planned more }
  where
    by : (p : Option WritePlan) → old.plan ≡ p → IfSome p (λ plan. FollowsWritePlan plan old new (Err e) (length piece)) → (more : ℕ)
        → PlansRoomFor (length piece + more) p → PlansRoomFor more new.plan × (new.faults ≡ old.faults)
    by None is planned more room = absurd room
    by (Some plan) is planned more room =
        absurd (no_failure (sym (planned.ok_is ∙ rw (room_passes plan (length piece) room.0 (let fits = room.1 in omega (arith, fits))) refl)))

pub wrote_nothing : (s : SinkState) → SinkFaults s s 0
wrote_nothing s = record { later = omega arith; none = λ more room. (subst (λ n. PlansRoomFor n s.plan) (omega arith) room, refl) }

-- one text after another
pub wrote_both : {first middle last : SinkState} (m n : ℕ) → SinkFaults first middle m → SinkFaults middle last n → SinkFaults first last (m + n)
wrote_both {first} {middle} {last} m n f g = record {
  later = omega (arith, f.later, g.later);
  none = λ more room.
      let before = f.none (n + more) (subst (λ k. PlansRoomFor k first.plan) (omega arith) room) in
      let after = g.none more before.0 in
      (after.0, after.1 ∙ before.1);
}

-- room for a text is room for a part of it
fewer : (p : Option WritePlan) (m n : ℕ) → m ≤ n → PlansRoomFor n p → PlansRoomFor m p
fewer None m n less room = room
fewer (Some plan) m n less room = (room.0, let fits = room.1 in omega (arith, less, fits))

-- a text of which no more than a prefix was written
pub wrote_less : {first last : SinkState} (m n : ℕ) → m ≤ n → SinkFaults first last m → SinkFaults first last n
wrote_less {first} {last} m n less f = record {
  later = f.later;
  none = λ more room. f.none more (fewer first.plan (m + more) (n + more) (omega (arith, less)) room);
}

appends_kept : (a b c : Option (List ℕ)) (xs : List ℕ) → Appends a b xs → Keeps b c → Appends a c xs
appends_kept None b c xs p q = tt
appends_kept (Some x) None c xs p q = absurd p
appends_kept (Some x) (Some y) None xs p q = absurd q
appends_kept (Some x) (Some y) (Some z) xs p q = q ∙ p

-- a write failed after a part of a text
pub wrote_short : {T E : Type 0} {first middle last : SinkState} (text front rest : List ℕ) (e q : E) → text ≡ front ++ rest
    → Appends first.taken middle.taken front → SinkFaults first middle (length front)
    → Writes middle last (Err e) rest → HasWritten {T = T} {E = E} first last (Err q) text
wrote_short {T} {E} {first} {middle} {last} text front rest e q whole appends faults failed =
    let long : length front + length rest ≡ length text = sym (ap length whole ∙ length-append front rest) in
    record {
      front = front;
      rest = rest;
      whole = whole;
      appends = appends_kept first.taken middle.taken last.taken front appends failed.bytes;
      all = tt;
      cause = record { later = omega (arith, faults.later, failed.cause.later); failed = omega (arith, faults.later, failed.cause.failed) };
      faults = subst (SinkFaults first last) long (wrote_both (length front) (length rest) faults (wrote_none e failed));
    }

-- where there was room for more than was written, no write failed
pub spared : {first last : SinkState} (m n : ℕ) → n ≤ m → SinkFaults first last n → PlansRoomFor m first.plan → last.faults ≡ first.faults
spared {first} {last} m n less f room = (f.none (m - n) (subst (λ k. PlansRoomFor k first.plan) (omega (arith, less)) room)).1
