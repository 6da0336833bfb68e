-- The put of a number and that of an admission lead from what the records gave to what they give.
use Rattle.std.proofs.Common.{◌≡◌, ℕ, ◌+◌, ◌<◌, ◌≤◌, Bool, true, false, List, Option, Some, None, ap, ◌∙◌, cond, arith}
use Rattle.std.specs.Prelude.{IfSome}
use Rattle.std.specs.FinMap.{insert}
use Rattle.std.proofs.lemmas.Bool.{eqb-false}
use Rattle.byteorder.specs.Endian.{big_bytes}
use Rattle.plc_base.specs.Keeper.{Records, Write}
use Rattle.store_tables.specs.Writes.{puts_of}
use Rattle.store_tables.specs.SlotTables.{slot_of}
use Rattle.store_tables.specs.Numberings.{IsCountingIn, passes, raised, limit_write}
use Rattle.store_tables.specs.Marks.{AreMarksIn, has_room}
use Rattle.store_tables.proofs.StoreLemmas.{get-insert_other}
use Rattle.store_tables.proofs.LeadingPuts.{Leaves, leads_part, leads_when}
use Rattle.store_tables.proofs.StoredLimits.{reservations_lead}
use Rattle.store_tables.proofs.MarkEntries.{room_has, keep_write-within}
use Rattle.store_tables.proofs.LeadingMarks.{admissions_lead}
use Rattle.broadcast_log.specs.declared.fault.LogFault.TheVariants.{Old, OriginsFull}
use Rattle.broadcast_log.specs.NextNumber.{Numbering, limit_at, limit_in, limit_slot, number_put, numbered, is_spent}
use Rattle.broadcast_log.specs.OriginMarks.{Marks, marks, keep_write, kept_after}
use Rattle.broadcast_log.specs.Log.{Log, numbered_log, admitted_log}
use Rattle.broadcast_log.specs.Laws.{IsLogIn, NumbersLead, AdmissionsLead}
use Rattle.broadcast_log.specs.declared.log.TheConstants.{BROADCASTS_AHEAD}

-- both parts are what the records give
both : (log : Log) (r : Records) → IsCountingIn limit_at log.numbering r → AreMarksIn 0x0300 32 log.marks r → IsLogIn log r
both log r numbering table = record { kept = record { numbering = numbering.kept; marks = table.kept }; fits = numbering.fits; sound = table.sound }

numbering_part : (log : Log) (r : Records) → IsLogIn log r → IsCountingIn limit_at log.numbering r
numbering_part log r k = record { kept = k.kept.numbering; fits = k.fits; low = omega arith }

marks_part : (log : Log) (r : Records) → IsLogIn log r → AreMarksIn 0x0300 32 log.marks r
marks_part log r k = record { kept = k.kept.marks; sound = k.sound }

-- # The number

-- the marks stay where the limit is put
marks_beside : (t : Marks) (r : Records) (octets : List ℕ) → AreMarksIn 0x0300 32 t r → AreMarksIn 0x0300 32 t (insert r limit_slot octets)
marks_beside t r octets h = record {
  kept = record {
    short = h.kept.short;
    each = λ place within. rw (get-insert_other r limit_slot (slot_of marks place) octets (omega arith)) (h.kept.each place within);
  };
  sound = h.sound;
}

number_leaves : (t : Marks) (n : Numbering) → Leaves (AreMarksIn 0x0300 32 t) (puts_of (number_put n))
number_leaves t n = by_due (passes n 1)
  where
    by_due : (b : Bool) → Leaves (AreMarksIn 0x0300 32 t) (puts_of (cond b (limit_write limit_at (raised limit_at BROADCASTS_AHEAD n.limit)) None))
    by_due true = (λ r h. marks_beside t r (big_bytes 4 (raised limit_at BROADCASTS_AHEAD n.limit)) h, tt)
    by_due false = tt

-- a number that is left is below the last one
left_below : (n : Numbering) (r : Records) → IsCountingIn limit_at n r → is_spent n ≡ false → n.next + 1 ≤ 4294967295
left_below n r k left = let other = eqb-false n.next 4294967295 left in let below = k.kept.below in let fits = k.fits in omega arith

pub number_leads : NumbersLead
number_leads log left = leads_when IsLogIn log (numbered_log log) (puts_of (number_put log.numbering)) (λ r k.
    leads_part (IsCountingIn limit_at) (AreMarksIn 0x0300 32 log.marks) IsLogIn (λ n. record log { numbering = n })
    (λ n s q p. both (record log { numbering = n }) s q p)
    (λ n s h. (numbering_part (record log { numbering = n }) s h, marks_part (record log { numbering = n }) s h))
    log.numbering (numbered log.numbering) (puts_of (number_put log.numbering)) (number_leaves log.marks log.numbering)
    (reservations_lead limit_at BROADCASTS_AHEAD log.numbering 1 (omega arith) (left_below log.numbering r (numbering_part log r k) left)))

-- # The marks

-- the limit stays where another slot is put
limit_beside : (n : Numbering) (r : Records) (slot : ℕ) (octets : List ℕ) → limit_slot < slot → IsCountingIn limit_at n r
    → IsCountingIn limit_at n (insert r slot octets)
limit_beside n r slot octets apart h =
    record {
      kept = record { limit = ap limit_in (get-insert_other r slot limit_slot octets (omega arith)) ∙ h.kept.limit; below = h.kept.below };
      fits = h.fits;
      low = h.low;
    }

mark_leaves : (n : Numbering) (write : Option Write) → IfSome write (λ w. (0x0300 ≤ w.slot) × (w.slot ≤ 0x031F))
    → Leaves (IsCountingIn limit_at n) (puts_of write)
mark_leaves n None within = tt
mark_leaves n (Some w) within = (λ r h. limit_beside n r w.slot w.octets (omega (arith, within.0)) h, tt)

pub admission_leads : AdmissionsLead
admission_leads log origin number room address fits =
    leads_when IsLogIn log (admitted_log log origin number) (puts_of (keep_write log.marks origin number)) (λ r k.
    let free : has_room 0x0300 32 log.marks origin number ≡ true = room_has 0x0300 32 Old OriginsFull log.marks origin number k.sound.short room in
    leads_part (AreMarksIn 0x0300 32) (IsCountingIn limit_at log.numbering) IsLogIn (λ m. record log { marks = m })
    (λ m s q p. both (record log { marks = m }) s p q)
    (λ m s h. (marks_part (record log { marks = m }) s h, numbering_part (record log { marks = m }) s h))
    log.marks (kept_after log.marks origin number) (puts_of (keep_write log.marks origin number))
    (mark_leaves log.numbering (keep_write log.marks origin number) (keep_write-within 0x0300 32 log.marks origin number k.sound free))
    (admissions_lead 0x0300 32 log.marks origin number free address fits))
