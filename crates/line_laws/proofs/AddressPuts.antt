-- What is written into the slot of the ring, over the words of a doing, and what the records then give.
use Rattle.std.proofs.Common.{◌≡◌, ◌≢◌, ⊎_elim, ℕ, Bool, true, false, List, [], ◌∷◌, ◌++◌, Option, Some, None, refl, sym, ap, ◌∙◌, subst, arith}
use Rattle.std.specs.Prelude.{if◌then◌else◌, IfSome}
use Rattle.std.specs.FinMap.{get, insert}
use Rattle.std.proofs.lemmas.Option.{same_Some}
use Rattle.plc_base.specs.declared.keeper.Cut.{Cut}
use Rattle.plc_base.specs.Keeper.{Records, Write}
use Rattle.store_tables.specs.Writes.{puts_of}
use Rattle.store_tables.proofs.StoreLemmas.{get-insert_same, get-insert_other}
use Rattle.frame_counters.specs.SendCounter as counter
use Rattle.group_keys.specs.declared.key_book.BookEntry.{BookEntry}
use Rattle.group_keys.specs.KeyRing as ring
use Rattle.group_keys.specs.KeyBook as book
use Rattle.group_keys.proofs.Rings.{ring_in-ring_octets}
use Rattle.routing_set.specs.declared.rank.Rank.{Rank}
use Rattle.routing_set.specs.declared.entry.RoutingEntry.{RoutingEntry}
use Rattle.routing_set.specs.RoutingSet as routing
use Rattle.routing_set.specs.OwnNumber as own_number
use Rattle.node_rules.specs.Memory.{StationMemory}
use Rattle.node_rules.specs.Plans.{Plan, carry_out}
use Rattle.node_rules.specs.Drafts.{Draft, with_rank, with_own_number, with_next_tag, with_ring, with_routing_by, goes, body_goes, waits, leave}
use Rattle.node_rules.specs.Laws.{all_put, IsWhole, IsCutOff}
use Rattle.node_rules.proofs.FailedWrites.{clean}
use Rattle.line_laws.specs.Stores.{IsReadable}
use Rattle.line_laws.proofs.Made.{Given, RingWord, RingChange, Made, Starts, Ranks, Numbers, Tags, Rings, Idles, Loses, Goes, Sends, Waits, Leaves}
pub use Rattle.line_laws.specs.Keyed.{RingIn}

-- a ring that is readable is read back
pub readable_reads : (x : ring.Ring) → IfSome x IsReadable → ring.ring_in (ring.ring_octets x) ≡ Some x
readable_reads None h = refl
readable_reads (Some g) h = ring_in-ring_octets g h.grant h.address h.key0.0 h.key1.0

-- a write leaves the slot of the ring alone, or puts there a ring that is read back and of which S holds
pub data RingWrite (S : ring.Ring → Type 0) : Write → Type 0 where
  Away : (w : Write) → w.slot ≢ 1 → RingWrite S w
  Puts : (x : ring.Ring) → IfSome x IsReadable → S x → RingWrite S (record { slot = 1; octets = ring.ring_octets x })

-- all of them do
abbrev pub RingWrites : (S : ring.Ring → Type 0) → List Write → Type 0
RingWrites S [] = Unit {0}
RingWrites S (w ∷ ws) = RingWrite S w × RingWrites S ws

pub writes_append : (S : ring.Ring → Type 0) (ps qs : List Write) → RingWrites S ps → RingWrites S qs → RingWrites S (ps ++ qs)
writes_append S [] qs h k = k
writes_append S (p ∷ ps) qs h k = (h.0, writes_append S ps qs h.1 k)

pub writes_weaker : (S T : ring.Ring → Type 0) → ((x : ring.Ring) → S x → T x) → (ps : List Write) → RingWrites S ps → RingWrites T ps
writes_weaker S T f [] h = tt
writes_weaker S T f (p ∷ ps) h = (one p h.0, writes_weaker S T f ps h.1)
  where
    one : (w : Write) → RingWrite S w → RingWrite T w
    one w (Away v ne) = Away v ne
    one w (Puts x reads s) = Puts x reads (f x s)

module _ (S : ring.Ring → Type 0) where
  put_in : (r : Records) (w : Write) → RingWrite S w → RingIn S r → RingIn S (insert r w.slot w.octets)
  put_in r w (Away v ne) h x e = h x (sym (ap ring.ring_at (get-insert_other r v.slot 1 v.octets (λ k. ne (sym k)))) ∙ e)
  put_in r w (Puts y reads s) h x e =
      let got : ring.ring_at (get (insert r 1 (ring.ring_octets y)) 1)
      ≡ Some y = ap ring.ring_at (get-insert_same r 1 1 (ring.ring_octets y) refl) ∙ readable_reads y reads in
      subst S (same_Some _ _ (sym got ∙ e)) s

  all_in : (ps : List Write) (r : Records) → RingWrites S ps → RingIn S r → RingIn S (all_put ps r)
  all_in [] r w h = h
  all_in (p ∷ ps) r w h = all_in ps (insert r p.slot p.octets) w.1 (put_in r p w.0 h)

  front_writes : (front rest : List Write) → RingWrites S (front ++ rest) → RingWrites S front
  front_writes [] rest w = tt
  front_writes (p ∷ front) rest w = (w.0, front_writes front rest w.1)

  -- whatever becomes of the writes
  pub carried_in : {M A : Type 0} (r : Records) (cut : Option Cut) (p : Plan M A) → RingWrites S p.puts → RingIn S r → RingIn S (carry_out r cut p).records
  carried_in r cut p w h = ⊎_elim whole cut_off (clean r cut p)
    where
      whole : IsWhole r cut p (carry_out r cut p) → RingIn S (carry_out r cut p).records
      whole x = subst (RingIn S) (sym x.left) (all_in p.puts r w h)

      append_one : (front : List Write) (one : Write) (rest : List Write) → (front ++ one ∷ []) ++ rest ≡ front ++ one ∷ rest
      append_one [] one rest = refl
      append_one (x ∷ front) one rest = ap (λ ws. x ∷ ws) (append_one front one rest)

      by_kind : (b : Bool) (front rest : List Write) (one : Write) → p.puts ≡ front ++ one ∷ rest
          → RingIn S (if b then all_put (front ++ one ∷ []) r else all_put front r)
      by_kind true front rest one e =
          all_in (front ++ one ∷ []) r (front_writes (front ++ one ∷ []) rest (subst (RingWrites S) (e ∙ sym (append_one front one rest)) w)) h
      by_kind false front rest one e = all_in front r (front_writes front (one ∷ rest) (subst (RingWrites S) e w)) h

      cut_off : IsCutOff r cut p (carry_out r cut p) → RingIn S (carry_out r cut p).records
      cut_off c = subst (RingIn S) (sym c.left) (by_kind c.by.keeps_new c.front c.rest c.write c.split)

  -- # Words that leave it alone

  one_away : (slot : ℕ) (octets : List ℕ) → slot ≢ 1 → RingWrites S (record { slot = slot; octets = octets } ∷ [])
  one_away slot octets ne = (Away _ ne, tt)

  due_away : (floors : List ℕ) (gone : Option RoutingEntry) → RingWrites S (puts_of (routing.floors_due floors gone))
  due_away floors None = tt
  due_away floors (Some e) = by_rise (routing.raises floors e)
    where
      by_rise : (b : Bool) → RingWrites S (puts_of (if b then Some (routing.floors_write (routing.raised floors e)) else None))
      by_rise true = (Away _ (omega arith), tt)
      by_rise false = tt

  pub offer_away : (r : routing.Routing) (dest : ℕ) (rank : Rank) (next now : ℕ) → RingWrites S (routing.offer_writes r dest rank next now)
  unfolding routing.entry_writes
  offer_away r dest rank next now = writes_append S _ _ (due_away r.floors (routing.forgotten r dest now)) (Away _ (omega arith), tt)

  pub number_away : (n : own_number.Numbering) → RingWrites S (puts_of (own_number.advance_write n))
  number_away n = by_limit (own_number.passes n)
    where
      by_limit : (b : Bool) → RingWrites S (puts_of (if b then own_number.limit_write (own_number.raised n.limit) else None))
      by_limit true = (Away _ (omega arith), tt)
      by_limit false = tt

  pub counter_away : (c : counter.Counting) (count : ℕ) → RingWrites S (puts_of (counter.reserve_write c count))
  counter_away c count = by_limit (counter.passes c count)
    where
      by_limit : (b : Bool) → RingWrites S (puts_of (if b then counter.limit_write (counter.raised c.limit) else None))
      by_limit true = (Away _ (omega arith), tt)
      by_limit false = tt

  pub entry_away : (b : book.Book) (e : BookEntry) → RingWrites S (puts_of (book.change_write b e))
  entry_away b e = by_holding (book.holds b e)
    where
      by_holding : (h : Bool) → RingWrites S (puts_of (if h then None else book.entry_write b e))
      by_holding true = tt
      by_holding false = (Away _ (omega arith), tt)

-- # The words of a line

-- of the rings that are put and of the one in memory S holds
pub record Rung (S : ring.Ring → Type 0) (d : Draft StationMemory) : Type 0 where
  pub puts : RingWrites S d.puts
  pub ring : S d.memory.ring
  pub reads : IfSome d.memory.ring IsReadable

module _ (S : ring.Ring → Type 0) (W : RingWord → Type 0) (g : Given)
    (changes : (r x : ring.Ring) → RingChange W r x → IfSome r IsReadable → S r → S x × IfSome x IsReadable) where
  pub made_rung : (s d : Draft StationMemory) → Made W g s d → Rung S s → Rung S d
  unfolding with_rank with_own_number with_next_tag with_ring with_routing_by goes body_goes waits leave
  made_rung s d Starts h = h
  made_rung s d (Ranks by origin rank e made o fits) h = let x = made_rung s e made h in
      record { puts = writes_append S e.puts _ x.puts (offer_away S e.memory.routing origin rank by g.now); ring = x.ring; reads = x.reads }
  made_rung s d (Numbers e made left) h =
      let x = made_rung s e made h in record { puts = writes_append S e.puts _ x.puts (number_away S e.memory.own_number); ring = x.ring; reads = x.reads }
  made_rung s d (Tags e made first) h =
      let x = made_rung s e made h in record { puts = writes_append S e.puts _ x.puts (Away _ (omega arith), tt); ring = x.ring; reads = x.reads }
  made_rung s d (Rings y e made change) h =
      let x = made_rung s e made h in
      let c = changes e.memory.ring y change x.reads x.ring in
      record { puts = writes_append S e.puts _ x.puts (Puts y c.1 c.0, tt); ring = c.0; reads = c.1 }
  made_rung s d (Idles e made) h = let x = made_rung s e made h in record { puts = x.puts; ring = x.ring; reads = x.reads }
  made_rung s d (Loses lost by e made) h = let x = made_rung s e made h in record { puts = x.puts; ring = x.ring; reads = x.reads }
  made_rung s d (Goes to unit note e made said alone) h = let x = made_rung s e made h in record { puts = x.puts; ring = x.ring; reads = x.reads }
  made_rung s d (Sends own hop to note load e made here there short carried alone) h =
      let x = made_rung s e made h in record { puts = x.puts; ring = x.ring; reads = x.reads }
  made_rung s d (Waits to note load now e made none room short carried alone) h =
      let x = made_rung s e made h in record { puts = x.puts; ring = x.ring; reads = x.reads }
  made_rung s d (Leaves own dest hop rank e made here offered) h = let x = made_rung s e made h in record { puts = x.puts; ring = x.ring; reads = x.reads }
