-- What a plan does that stores the log of broadcasts: its slots are read by no other part of a node.
use Rattle.std.proofs.Common.{inl, inr, ℕ, ◌≤◌, ◌<◌, List, [], ◌∷◌, refl, arith}
use Rattle.std.specs.FinMap.{insert}
use Rattle.plc_base.specs.Keeper.{Records, Write}
use Rattle.group_keys.specs.KeyBook as books
use Rattle.group_keys.specs.KeyRing as ring
use Rattle.node_rules.specs.Memory.{StationMemory, Memory, Role, Coordinator, Meter}
use Rattle.node_rules.specs.Plans.{Plan}
use Rattle.line_laws.specs.Later.{IsOfLog, stores}
use Rattle.line_laws.specs.Sizes.{IsMemorySized}
use Rattle.line_laws.specs.Stores.{IsStationKept, BookKept, IsKept}
use Rattle.line_laws.proofs.AddressBook.{Grown}
use Rattle.line_laws.proofs.AddressPuts as rings
use Rattle.line_laws.proofs.AddressPuts.{RingWrites}
use Rattle.line_laws.proofs.Frontiers.{High, Elsewhere}
use Rattle.line_laws.proofs.IssueCalls.{Quietly}
use Rattle.line_laws.proofs.IssueWords.{Each}
use Rattle.line_laws.proofs.KeptMemory.{Leads, leads_beside, leads_one, leads_append}
use Rattle.line_laws.proofs.MarkWrites as marks
use Rattle.line_laws.proofs.Nodes.{PlanOk}
use Rattle.line_laws.proofs.RankWrites as ranks
use Rattle.line_laws.proofs.Slots.{ring_stays, counter_stays, number_stays, tag_stays, routing_stays, marks_stay, book_stays}
use Rattle.line_laws.proofs.TagPuts.{Away}

-- # One write

station_log : (l : StationMemory) (r : Records) (p : Write) → IsOfLog p → IsStationKept l r → IsStationKept l (insert r p.slot p.octets)
station_log l r p (inl six) k = record {
  range = k.range;
  ring = ring_stays r p.slot p.octets l.ring k.ring (omega arith);
  counter = counter_stays r p.slot p.octets l.counter k.counter (omega arith);
  number = number_stays r p.slot p.octets l.own_number k.number (omega arith);
  tag = tag_stays r p.slot p.octets l.next_tag k.tag (omega arith);
  routing = routing_stays r p.slot p.octets l.routing k.routing (omega arith) (inl (omega arith));
  marks = marks_stay r p.slot p.octets l.marks k.marks (inl (omega arith));
}
station_log l r p (inr (low, high)) k = record {
  range = k.range;
  ring = ring_stays r p.slot p.octets l.ring k.ring (omega arith);
  counter = counter_stays r p.slot p.octets l.counter k.counter (omega arith);
  number = number_stays r p.slot p.octets l.own_number k.number (omega arith);
  tag = tag_stays r p.slot p.octets l.next_tag k.tag (omega arith);
  routing = routing_stays r p.slot p.octets l.routing k.routing (omega arith) (inr (omega arith));
  marks = marks_stay r p.slot p.octets l.marks k.marks (inr (omega arith));
}

below : (p : Write) → IsOfLog p → p.slot < 0x1000
below p (inl six) = omega arith
below p (inr (low, high)) = omega arith

above : (p : Write) → IsOfLog p → 6 ≤ p.slot
above p (inl six) = omega arith
above p (inr (low, high)) = omega arith

book_log : (role : Role) (m : Memory) (r : Records) (p : Write) → IsOfLog p → BookKept role m.book r → BookKept role m.book (insert r p.slot p.octets)
book_log Coordinator m r p is k = record { table = k.table; each = k.each; stored = book_stays r p.slot p.octets m.book k.stored (inl (below p is)) }
book_log (Meter psk) m r p is k = k

kept_log : (role : Role) (m : Memory) (r : Records) (p : Write) → IsOfLog p → IsKept role m r → IsKept role m (insert r p.slot p.octets)
kept_log role m r p is k = record { station = station_log m.station r p is k.station; book = book_log role m r p is k.book; sessions = k.sessions }

-- # All of them

pub log_leads : (role : Role) (m : Memory) (ps : List Write) → Each IsOfLog ps → Leads (IsKept role) m ps m
log_leads role m [] is = leads_beside (IsKept role) m m (λ r k. k)
log_leads role m (p ∷ ps) is =
    leads_append (IsKept role) m m m (p ∷ []) ps (leads_one (IsKept role) m m p (λ r k. kept_log role m r p is.0 k)) (log_leads role m ps is.1)

pub log_grown : (V : books.Book → Type 0) (m : Memory) (ps : List Write) → Each IsOfLog ps → Leads (Grown V) m ps m
log_grown V m [] is = leads_beside (Grown V) m m (λ r k. k)
log_grown V m (p ∷ ps) is =
    leads_append (Grown V) m m m (p ∷ []) ps (leads_one (Grown V) m m p (λ r k. record { kept = kept_log Coordinator m r p is.0 k.kept; grows = k.grows }))
    (log_grown V m ps is.1)

pub log_high : (floor : ℕ) (ps : List Write) → Each IsOfLog ps → High floor ps
log_high floor [] is = tt
log_high floor (p ∷ ps) is = (Elsewhere (let up = above p is.0 in omega arith), log_high floor ps is.1)

pub log_marks : (ps : List Write) → Each IsOfLog ps → marks.AreAway ps
log_marks [] is = tt
log_marks (p ∷ ps) is = (one p is.0, log_marks ps is.1)
  where
    one : (q : Write) → IsOfLog q → marks.IsAway q
    one q (inl six) = inl (omega arith)
    one q (inr (low, high)) = inr (omega arith)

pub log_ranks : (ps : List Write) → Each IsOfLog ps → ranks.AreAway ps
log_ranks [] is = tt
log_ranks (p ∷ ps) is = (one p is.0, log_ranks ps is.1)
  where
    one : (q : Write) → IsOfLog q → ranks.IsAway q
    one q (inl six) = record { floors = omega arith; ranks = inl (omega arith) }
    one q (inr (low, high)) = record { floors = omega arith; ranks = inr (omega arith) }

pub log_rings : (S : ring.Ring → Type 0) (ps : List Write) → Each IsOfLog ps → RingWrites S ps
log_rings S [] is = tt
log_rings S (p ∷ ps) is = (rings.Away p (let up = above p is.0 in omega arith), log_rings S ps is.1)

pub log_away : (ps : List Write) → Each IsOfLog ps → Each Away ps
log_away [] is = tt
log_away (p ∷ ps) is = ((let up = above p is.0 in omega arith), log_away ps is.1)

-- # The plan

abbrev pub storing : List Write → Memory → Plan Memory (Unit {0})
storing ps m = stores tt tt ps m

module _ (ps : List Write) (is : Each IsOfLog ps) where
  pub stores_quietly : (m : Memory) → Quietly m (storing ps m)
  stores_quietly m = record { leads = λ V. log_grown V m ps is; ring = λ S none here reads. log_rings S ps is; session = refl; made = refl }

  pub stores_ok : (role : Role) (m : Memory) → IsMemorySized m → PlanOk role m (storing ps m)
  stores_ok role m h = record {
    leads = log_leads role m ps is;
    sized = h;
    few = omega arith;
    rises = λ fits. record { high = log_high m.station.counter.limit ps is; with_own_number = omega arith };
    from = tt;
    marked = λ first. marks.away_leads first m m ps (log_marks ps is) refl;
  }
