-- What no reservation does, and that the put of an admission leads from what the records gave to what they give.
use Rattle.std.proofs.Common.{◌≡◌, ◌≢◌, ℕ, ◌+◌, ◌<◌, ◌≤◌, ◌^◌, Bool, true, false, length, Option, Some, None, Ok, Err, ap, ◌∙◌, cond, arith}
use Rattle.std.specs.Prelude.{if◌then◌else◌, ◌==◌, nat_le}
use Rattle.std.specs.Option.{option_map_or}
use Rattle.std.proofs.lemmas.Bool.Decides.{nat_tests}
use Rattle.store_tables.specs.Writes.{puts_of}
use Rattle.store_tables.specs.LeadingPuts.{PutsLead}
use Rattle.store_tables.proofs.LeadingPuts.{leads_when}
use Rattle.store_tables.proofs.MarkEntries.{room_has}
use Rattle.store_tables.proofs.LeadingMarks.{admissions_lead}
use Rattle.frame_counters.specs.declared.fault.PeerFault.TheVariants.{Replayed, PeersFull, Store}
use Rattle.frame_counters.specs.SendCounter.{Counting, passes, raised, limit_write}
use Rattle.frame_counters.specs.PeerMarks as marks
use Rattle.frame_counters.specs.Laws.{IsNoReservation, AreMarksIn}

-- # The counter

pub no_reservation : (c : Counting) → c.next ≤ c.limit → IsNoReservation c
no_reservation c below =
    let none : passes c 0 ≡ false = grind (arith, nat_tests) in
    let zero : c.next + 0 ≡ c.next = omega arith in
    record {
      write = ap (λ b. cond b (limit_write (raised c.limit)) None) none;
      same = ap (λ b. record { limit = cond b (raised c.limit) c.limit; next = c.next + 0 }) none ∙ ap (λ n. record { limit = c.limit; next = n }) zero;
    }

-- # The marks

pub room_answers : (t : marks.Table) (from counter : ℕ) → marks.room_for t from counter ≢ Err Store
room_answers t from counter = by_place (marks.place_of t from)
  where
    by_mark : (b : Bool) → (if b then Err Replayed else Ok (tt {0})) ≢ Err Store
    by_mark true e = absurd (cc)
    by_mark false e = absurd (cc)

    by_length : (b : Bool) → (if b then Err PeersFull else Ok (tt {0})) ≢ Err Store
    by_length true e = absurd (cc)
    by_length false e = absurd (cc)

    by_place : (o : Option ℕ) → option_map_or (λ place. if nat_le counter (marks.peer_at t place).mark then Err Replayed else Ok (tt {0})) o
        (if length t == 64 then Err PeersFull else Ok (tt {0})) ≢ Err Store
    by_place None = by_length (length t == 64)
    by_place (Some place) = by_mark (nat_le counter (marks.peer_at t place).mark)

pub admission_leads : (t : marks.Table) (from counter : ℕ) → from < 0xFFFE → counter < 2 ^ 32 → marks.room_for t from counter ≡ Ok (tt {0})
    → PutsLead AreMarksIn t (puts_of (marks.keep_write t from counter)) (marks.kept_after t from counter)
admission_leads t from counter address fits room =
    leads_when AreMarksIn t (marks.kept_after t from counter) (puts_of (marks.keep_write t from counter))
    (λ r k. admissions_lead 0x0100 64 t from counter (room_has 0x0100 64 Replayed PeersFull t from counter k.sound.short room) address fits)
