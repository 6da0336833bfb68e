-- What a station does by itself puts no ring and no entry of the book.
use Rattle.std.proofs.Common.{List, [], refl, sym, ◌∙◌, arith}
use Rattle.std.specs.Prelude.{All}
use Rattle.std.specs.FinMap.{get, insert}
use Rattle.std.proofs.lemmas.List.Elements.{All-nil, All-cons}
use Rattle.plc_base.specs.Keeper.{Records, Write}
use Rattle.store_tables.proofs.StoreLemmas.{get-insert_other}
use Rattle.frame_counters.specs.SendCounter as counter
use Rattle.group_keys.specs.KeyRing.{ring_slot}
use Rattle.routing_set.specs.OwnNumber as own_number
use Rattle.node_rules.specs.Memory.{StationMemory}
use Rattle.node_rules.specs.Drafts.{alone}
use Rattle.node_rules.specs.Calls as calls
use Rattle.node_rules.specs.Tables.{HasShortTables}
use Rattle.node_rules.specs.StationSlots.{IsOfStation, SameMembership, StationsWriteTheirOwn, WritesKeepMembership}
use Rattle.node_rules.proofs.Tables.{Keep, wrote_keeps}
use Rattle.node_rules.proofs.TablePuts.{Membership, PutOf, OfFloors, OfNumber, OfRing, OfMark, OfRank, OfEntry, AreOf}
use Rattle.node_rules.proofs.TablePlans.{plan_puts, accept_puts, local_puts, near_puts}
use Rattle.node_rules.proofs.HearingShapes.{hear_shape}
use Rattle.node_rules.proofs.CallShapes.{accept_shape, send_shape, send_command_shape}

-- no ring and no entry
abbrev NoMembership : Membership → Type 0
NoMembership x = ⊥

module _ (l : StationMemory) (short : HasShortTables l) where
  own_put : (w : Write) → PutOf NoMembership [] l w → IsOfStation w
  own_put w (OfFloors floors) = record { ring = λ e. omega arith; entry = omega arith }
  own_put w (OfNumber at number low high) = record { ring = λ e. omega arith; entry = omega arith }
  own_put w (OfRing r h) = absurd h
  own_put w (OfMark place peer small) = let few = short.marks in record { ring = λ e. omega arith; entry = omega arith }
  own_put w (OfRank place x small) = let few = short.ranks in record { ring = λ e. omega arith; entry = omega arith }
  own_put w (OfEntry place x small h) = absurd h

  own_puts : (puts : List Write) → AreOf NoMembership [] l puts → All IsOfStation puts
  own_puts puts are k d within = own_put _ (are k d within)

pub stations_write_their_own : StationsWriteTheirOwn
stations_write_their_own l short = record {
  accepts = λ own a. at _ (accept_puts NoMembership [] l _ (accept_shape l own a));
  hears = λ got cost note now. at _ (plan_puts NoMembership [] l alone _ l _ (hear_shape NoMembership [] l got cost note now));
  sends = λ to octets note now. at _ (plan_puts NoMembership [] l alone _ l _ (send_shape NoMembership [] l to octets note now));
  commands = λ to octets now. at _ (plan_puts NoMembership [] l alone _ l _ (send_command_shape NoMembership [] l to octets now));
  sends_local = λ code to body. at _ (local_puts NoMembership [] l code to body);
  counter = λ value. at (calls.preset_counter l value).puts
      (All-cons (PutOf NoMembership [] l) _ [] (OfNumber counter.limit_at value (omega arith) (omega arith)) (All-nil (PutOf NoMembership [] l)));
  number = λ value. at (calls.preset_number l value).puts
      (All-cons (PutOf NoMembership [] l) _ [] (OfNumber own_number.limit_at value (omega arith) (omega arith)) (All-nil (PutOf NoMembership [] l)));
  near = λ to cost now. at _ (near_puts NoMembership [] l to cost now);
}
  where
    at : (puts : List Write) → AreOf NoMembership [] l puts → All IsOfStation puts
    at puts are = own_puts l short puts are

-- # The ring and the book stay

module _ (old : Records) where
  same_put : (w : Write) → IsOfStation w → (r : Records) → SameMembership old r → SameMembership old (insert r w.slot w.octets)
  same_put w own r h = record {
    ring = get-insert_other r w.slot ring_slot w.octets (λ e. own.ring (sym e)) ∙ h.ring;
    entries = λ slot high. get-insert_other r w.slot slot w.octets (λ e. let low = own.entry in omega arith) ∙ h.entries slot high;
  }

  keep_same : (puts : List Write) → All IsOfStation puts → Keep (SameMembership old) puts
  keep_same puts own k d within = same_put _ (own k d within)

pub writes_keep_membership : WritesKeepMembership
writes_keep_membership old puts done new own wrote =
    wrote_keeps (SameMembership old.records) puts done old new (keep_same old.records puts own) (record { ring = refl; entries = λ slot high. refl }) wrote
