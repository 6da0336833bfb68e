-- What a plan of further rules keeps, account by account: it stores its log and its counter, and sends at most one command.
use Rattle.std.proofs.Common.{zero-le, ◌≡◌, ℕ, ◌≤◌, List, [], ◌∷◌, length, Option, Some, None, refl, arith}
use Rattle.std.specs.Prelude.{All, IfSome}
use Rattle.std.specs.List.{sum_by}
use Rattle.std.specs.Option.{option_map_or}
use Rattle.std.proofs.lemmas.List.Elements.{All-nil, All-cons}
use Rattle.store_tables.specs.Writes.{puts_of}
use Rattle.plc_base.specs.declared.key.Key.{Key}
use Rattle.frame_counters.specs.SendCounter as counter
use Rattle.group_keys.specs.KeyBook as books
use Rattle.group_keys.specs.KeyRing as ring
use Rattle.mac_frames.specs.Grammar.{IsTarget}
use Rattle.mesh_header.specs.declared.unit.Unit.{Unit as MeshUnit}
use Rattle.routing_set.specs.declared.rank.Rank.{Rank}
use Rattle.node_rules.specs.Drafts.{Ends, UnsealedUnit, sealed_units, sealed_by, sealing_key}
use Rattle.node_rules.specs.Frames.{Sent}
use Rattle.node_rules.specs.Memory.{Memory, Coordinator, address_of}
use Rattle.node_rules.specs.Plans.{Plan, resting}
use Rattle.line_laws.specs.Custody.{sent_is}
use Rattle.line_laws.specs.InCustody.{StationIsTrue}
use Rattle.line_laws.specs.Later.{MayBeSealed}
use Rattle.line_laws.specs.Ranges.{IsOut, IsStationRanged}
use Rattle.line_laws.specs.Sends.{SentAs}
use Rattle.line_laws.specs.Stores.{IsReadable}
use Rattle.line_laws.proofs.AddressBook.{Grown, station_grown}
use Rattle.line_laws.proofs.AddressPuts as rings
use Rattle.line_laws.proofs.Beside.{low_when}
use Rattle.line_laws.proofs.CustodyKeeps.{PlanClean}
use Rattle.line_laws.proofs.CustodyTrue.{SentIsOf}
use Rattle.line_laws.proofs.FurtherForms.{IsFurther, Rests, Goes, counted_on}
use Rattle.line_laws.proofs.IssueCalls.{Quietly}
use Rattle.line_laws.proofs.IssueWords.{Each, each_append}
use Rattle.line_laws.proofs.KeptMemory.{Leads, leads_append, leads_beside}
use Rattle.line_laws.proofs.LaterSeals.{goes_beside, no_route, sealed_true, sealed_weighs, sealed_backed}
use Rattle.line_laws.proofs.LaterStores.{log_away, log_grown, log_ranks, log_rings}
use Rattle.line_laws.proofs.OctetDrafts.{OutSpeaks, SentOctets, sealed_speak}
use Rattle.line_laws.proofs.RangeFrames.{IsSent, sealed_fit}
use Rattle.line_laws.proofs.RangePlans.{RangeOk}
use Rattle.line_laws.proofs.RankAccount.{account_same}
use Rattle.line_laws.proofs.RankFold as ranks
use Rattle.line_laws.proofs.RankFold.{IsAt}
use Rattle.line_laws.proofs.RankPlans.{PlanRanks, resting_ranks}
use Rattle.line_laws.proofs.RankSaid.{FrameBacked}
use Rattle.line_laws.proofs.RankWrites as rank_writes
use Rattle.line_laws.proofs.RankWrites.{RankKept}
use Rattle.line_laws.proofs.StoreBook.{Rest, rest_lasts}
use Rattle.line_laws.proofs.StoreWords.{counter_leads}
use Rattle.line_laws.proofs.TagPuts as tag_puts
use Rattle.line_laws.proofs.TagPuts.{Away, away_so}

-- nothing goes out, or one command that may be sealed
pub data IsOne : List UnsealedUnit → Type 0 where
  Silent : IsOne []
  One : (to : ℕ) (unit : MeshUnit) → IsTarget to → MayBeSealed unit → IsOne (record { to = to; unit = unit; note = 0 } ∷ [])

-- nothing is sealed of nothing
none_sealed : (r : ring.Ring) (first : ℕ) → sealed_by r first [] ≡ []
none_sealed None first = refl
none_sealed (Some g) first = by_key (sealing_key g)
  where
    by_key : (key : Option Key) → option_map_or (λ (k : Key). sealed_units g k first []) key [] ≡ []
    by_key None = refl
    by_key (Some key) = refl

-- how words refuse is of no account here
abbrev ends : Ends (Unit {0})
ends = record { spent = tt; store = tt }

all_of_none : (P : Sent → Type 0) (r : ring.Ring) (first : ℕ) → All P (sealed_by r first [])
all_of_none P r first = rw (none_sealed r first) (All-nil P)

all_out : (us : List UnsealedUnit) → IsOne us → All IsOut us
all_out us Silent = All-nil IsOut
all_out us (One to unit target may) = All-cons IsOut _ []
    (record { to = target; unit = may.fit; route = no_route unit may.beside; one = goes_beside to unit may.beside }) (All-nil IsOut)

all_speak : (us : List UnsealedUnit) → IsOne us → All OutSpeaks us
all_speak us Silent = All-nil OutSpeaks
all_speak us (One to unit target may) = All-cons OutSpeaks _ [] may.octets (All-nil OutSpeaks)

module _ (m : Memory) where
  pub further_ranged : {A : Type 0} (p : Plan Memory A) → IsFurther IsOne m p → IsStationRanged m.station → RangeOk p
  unfolding resting
  further_ranged p (Rests a f) h = record { station = h; frames = All-nil IsSent }
  further_ranged p (Goes a f ps us logs one few left) h = record {
    station = record { ring = h.ring; tag = h.tag; hops = h.hops; bodies = h.bodies; number = h.number };
    frames = sealed_fit m.station.ring m.station.counter.next us h.ring left (all_out us one);
  }

  pub further_octets : {A : Type 0} (p : Plan Memory A) → IsFurther IsOne m p → IfSome m.station.ring IsReadable → All SentOctets p.frames
  unfolding resting
  further_octets p (Rests a f) reads = All-nil SentOctets
  further_octets p (Goes a f ps us logs one few left) reads = sealed_speak m.station.ring m.station.counter.next us reads (all_speak us one)

  pub further_away : {A : Type 0} {L : List UnsealedUnit → Type 0} (p : Plan Memory A) → IsFurther L m p → Each Away p.puts
  unfolding resting
  further_away p (Rests a f) = tt
  further_away p (Goes a f ps us logs one few left) =
      each_append Away ps _ (log_away ps logs) (tag_puts.counter_away Away away_so m.station.counter (length us))

  pub further_makes : {A : Type 0} {L : List UnsealedUnit → Type 0} (p : Plan Memory A) → IsFurther L m p → p.made ≡ []
  unfolding resting
  further_makes p (Rests a f) = refl
  further_makes p (Goes a f ps us logs one few left) = refl

  further_grown : {A : Type 0} {L : List UnsealedUnit → Type 0} (V : books.Book → Type 0) (p : Plan Memory A) → IsFurther L m p
      → Leads (Grown V) m p.puts p.memory
  unfolding resting
  further_grown V p (Rests a f) = leads_beside (Grown V) m m (λ r k. k)
  further_grown V p (Goes a f ps us logs one few left) =
      leads_append (Grown V) m m (counted_on (length us) m) ps (puts_of (counter.reserve_write m.station.counter (length us))) (log_grown V m ps logs)
      (station_grown V m m.station (record m.station { counter = counter.reserved m.station.counter (length us) }) _
      (low_when (Rest Coordinator m) (rest_lasts Coordinator m) _ _ _ (λ r k.
      let below = k.counter.below in
      let fits = k.range.counter in
      counter_leads (Rest Coordinator m) (rest_lasts Coordinator m) m.station (length us) (omega arith) (omega arith))))

  pub further_quietly : {A : Type 0} {L : List UnsealedUnit → Type 0} (p : Plan Memory A) → IsFurther L m p → Quietly m p
  unfolding resting
  further_quietly p (Rests a f) = record { leads = λ V. leads_beside (Grown V) m m (λ r k. k); ring = λ S none here reads. tt; session = refl; made = refl }
  further_quietly {L = L} p (Goes a f ps us logs one few left) = record {
    leads = λ V. further_grown {L = L} V _ (Goes a f ps us logs one few left);
    ring = λ S none here reads. rings.writes_append S ps _ (log_rings S ps logs) (rings.counter_away S m.station.counter (length us));
    session = refl;
    made = refl;
  }

  pub further_clean : {A : Type 0} (S : ℕ → SentAs → Type 0) (own : ℕ) (p : Plan Memory A) → IsFurther IsOne m p → IsStationRanged m.station
      → StationIsTrue S own m.station → PlanClean S own m p
  unfolding resting
  further_clean S own p (Rests a f) h is =
      record { ranged = h; fits = All-nil IsSent; station = is; frames = All-nil (SentIsOf S); kept = λ n i some. omega arith }
  further_clean S own p (Goes a f ps us logs one few left) h is = record {
    ranged = record { ring = h.ring; tag = h.tag; hops = h.hops; bodies = h.bodies; number = h.number };
    fits = sealed_fit m.station.ring m.station.counter.next us h.ring left (all_out us one);
    station = record { address = is.address; bodies = is.bodies; held = is.held };
    frames = by_one us one;
    kept = λ n i some. let none = weighs n i us one in omega arith;
  }
    where
      by_one : (us : List UnsealedUnit) → IsOne us → All (SentIsOf S) (sealed_by m.station.ring m.station.counter.next us)
      by_one us Silent = all_of_none (SentIsOf S) m.station.ring m.station.counter.next
      by_one us (One to unit target may) = sealed_true ends to unit target may S m.station.ring m.station.counter.next

      weighs : (n i : ℕ) (us : List UnsealedUnit) → IsOne us → sum_by (sent_is n i) (sealed_by m.station.ring m.station.counter.next us) ≤ 0
      weighs n i us Silent = rw (none_sealed m.station.ring m.station.counter.next) zero-le
      weighs n i us (One to unit target may) = sealed_weighs ends to unit target may n i m.station.ring m.station.counter.next

  pub further_ranks : {A : Type 0} (At Own : ℕ → Type 0) (C : ℕ → ℕ → Rank → Type 0) (p : Plan Memory A) → IsFurther IsOne m p → IsAt At (address_of m.station)
      → PlanRanks At Own C m p
  further_ranks At Own C p (Rests a f) h = resting_ranks At Own C m m a f refl refl h
  further_ranks At Own C p (Goes a f ps us logs one few left) h = record {
    leads = λ first. leads_append (RankKept Own C first) m.station.routing m.station.routing m.station.routing ps _
        (rank_writes.away_leads Own C first m.station.routing ps (log_ranks ps logs))
        (rank_writes.away_leads Own C first m.station.routing _ (ranks.counter_away m.station.counter (length us)));
    account = λ sound. account_same m.station.routing sound;
    backed = λ sound. by_one us one;
    here = h;
  }
    where
      by_one : (us : List UnsealedUnit) → IsOne us → All (FrameBacked At m.station.routing) (sealed_by m.station.ring m.station.counter.next us)
      by_one us Silent = all_of_none (FrameBacked At m.station.routing) m.station.ring m.station.counter.next
      by_one us (One to unit target may) = sealed_backed ends to unit target may At Own C m.station.routing m.station.ring m.station.counter.next h
