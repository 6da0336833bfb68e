-- What a doing stores is what it leaves in memory.
use Rattle.std.proofs.Common.{◌≡◌, ℕ, ◌≤◌, Bool, true, false, List, [], ◌++◌, Option, Some, None, refl, sym, ap, ◌∙◌, append_assoc, append-nil, arith}
use Rattle.std.specs.Prelude.{if◌then◌else◌, IfSome, is_some, ◌==◌}
use Rattle.plc_base.specs.declared.key.Key.{Key}
use Rattle.plc_base.specs.Grant.{Granted, keyed}
use Rattle.plc_base.specs.Keeper.{Records, Write}
use Rattle.group_keys.specs.KeyRing as ring
use Rattle.routing_set.specs.declared.rank.Rank.{Rank}
use Rattle.routing_set.specs.RoutingSet as routing
use Rattle.node_rules.specs.Memory.{StationMemory}
use Rattle.node_rules.specs.Drafts.{Draft, with_rank, with_own_number, with_next_tag, with_ring, with_routing_by, goes, body_goes, waits, leave}
use Rattle.routing_set.proofs.RouteEnds.{kept_ended}
use Rattle.routing_set.proofs.Histories.{ended_sound}
use Rattle.routing_set.specs.declared.entry.RoutingEntry.{RoutingEntry}
use Rattle.std.proofs.lemmas.List.Elements.{All-map, All-weaker}
use Rattle.line_laws.specs.Sizes.{IsAnyLoad}
use Rattle.line_laws.specs.Stores.{HasShortRank, IsHeld, IsReadable, IsStationKept}
use Rattle.line_laws.proofs.KeptMemory.{Leads, leads_beside, leads_append}
use Rattle.line_laws.proofs.Beside.{Lasts, With, low_one}
use Rattle.line_laws.proofs.StoreWords.{ring_kept, number_leads, tag_leads}
use Rattle.line_laws.proofs.StoreRanks.{EntryFits, ranks_lead}
use Rattle.line_laws.proofs.Made.{Given, Offered, RingWord, Carry, Drop, Install, Draw, Activate, RingChange, Drops, Installs, Draws, Activates, Made, Starts}
use Rattle.line_laws.proofs.Made.{Ranks, Numbers, Tags, Rings, Idles, Loses, Goes, Sends, Waits, Leaves}

-- # Rings

-- a word leaves a ring whose record is read back
abbrev pub WordFits : RingWord → Type 0
WordFits (Carry to note load) = IsAnyLoad load
WordFits Drop = Unit {0}
WordFits (Install granted) = IsReadable granted
WordFits (Draw index key) = IsHeld (Some key)
WordFits (Activate index) = index ≤ 1

keyed_readable : (gr : Granted) (index : ℕ) (key : Key) → IsReadable gr → IsHeld (Some key) → IsReadable (keyed gr index key)
keyed_readable gr index key h fits = by_index (index == 0)
  where
    held0 : (b : Bool) (k0 k1 : Option Key) → is_some (if b then k0 else k1) ≡ true → is_some (if b then Some key else k1) ≡ true
    held0 true k0 k1 e = refl
    held0 false k0 k1 e = e

    held1 : (b : Bool) (k0 k1 : Option Key) → is_some (if b then k0 else k1) ≡ true → is_some (if b then k0 else Some key) ≡ true
    held1 true k0 k1 e = e
    held1 false k0 k1 e = refl

    by_index : (b : Bool) → IsReadable (if b then record gr { key0 = Some key } else record gr { key1 = Some key })
    by_index true = record {
      grant = record { index = h.grant.index; held = held0 (gr.active == 0) gr.key0 gr.key1 h.grant.held };
      address = h.address;
      key0 = fits;
      key1 = h.key1;
    }
    by_index false = record {
      grant = record { index = h.grant.index; held = held1 (gr.active == 0) gr.key0 gr.key1 h.grant.held };
      address = h.address;
      key0 = h.key0;
      key1 = fits;
    }

module _ (W : RingWord → Type 0) (words : (w : RingWord) → W w → WordFits w) where
  pub ring_fits : (r s : ring.Ring) → RingChange W r s → IfSome r IsReadable → IfSome s IsReadable
  ring_fits r s Drops h = tt
  ring_fits r s (Installs granted w) h = words (Install granted) w
  ring_fits None s (Draws index key w) h = tt
  ring_fits (Some gr) s (Draws index key w) h = keyed_readable gr index key h (words (Draw index key) w)
  ring_fits None s (Activates index w held) h = tt
  ring_fits (Some gr) s (Activates index w held) h =
      record { grant = record { index = words (Activate index) w; held = held }; address = h.address; key0 = h.key0; key1 = h.key1 }

-- # A doing of some writes more

module _ {M : Type 0} (Q : M → Records → Type 0) where
  -- The writes that a doing has more lead from the one memory to the other.
  pub record Adds (s d : Draft M) : Type 0 where
    pub more : List Write
    pub puts : d.puts ≡ s.puts ++ more
    pub leads : Leads Q s.memory more d.memory

  pub adds_none : (s : Draft M) → Adds s s
  adds_none s = record { more = []; puts = sym (append-nil s.puts); leads = leads_beside Q s.memory s.memory (λ r q. q) }

  -- a word that stores
  pub adds_then : (s d e : Draft M) (ps : List Write) → Adds s d → e.puts ≡ d.puts ++ ps → Leads Q d.memory ps e.memory → Adds s e
  adds_then s d e ps a is leads = record {
    more = a.more ++ ps;
    puts = is ∙ ap (λ ws. ws ++ ps) a.puts ∙ append_assoc s.puts a.more ps;
    leads = leads_append Q s.memory d.memory e.memory a.more ps a.leads leads;
  }

  -- a word that stores nothing
  pub adds_beside : (s d e : Draft M) → Adds s d → e.puts ≡ d.puts → ((r : Records) → Q d.memory r → Q e.memory r) → Adds s e
  adds_beside s d e a is same = adds_then s d e [] a (is ∙ sym (append-nil d.puts)) (leads_beside Q d.memory e.memory same)

-- # The words of the line

-- routes end and bodies come and go beside the store
pub ended_kept : (l : StationMemory) (r : Records) (test : RoutingEntry → Bool) → IsStationKept l r
    → IsStationKept (record l { routing = routing.ended test l.routing }) r
ended_kept l r test k = record {
  range = record {
    ring = k.range.ring;
    counter = k.range.counter;
    number = k.range.number;
    tag = k.range.tag;
    routing = ended_sound test l.routing k.range.routing;
    floors = k.range.floors;
    ranks = All-map HasShortRank (λ e. if test e then routing.without_route e else e) l.routing.entries
        (All-weaker HasShortRank (λ e. HasShortRank (if test e then routing.without_route e else e)) (λ e h. same (test e) e h) l.routing.entries
        k.range.ranks);
    marks = k.range.marks;
  };
  ring = k.ring;
  counter = k.counter;
  number = k.number;
  tag = k.tag;
  routing = kept_ended test l.routing r k.routing;
  marks = k.marks;
}
  where
    same : (b : Bool) (e : RoutingEntry) → HasShortRank e → HasShortRank (if b then routing.without_route e else e)
    same true e h = h
    same false e h = h

-- only what waits and what is gathered are others
pub beside_kept : (l n : StationMemory) (r : Records) → IsStationKept l r → n.ring ≡ l.ring → n.counter ≡ l.counter → n.own_number ≡ l.own_number
    → n.next_tag ≡ l.next_tag → n.routing ≡ l.routing → n.marks ≡ l.marks → IsStationKept n r
beside_kept l n r k e1 e2 e3 e4 e5 e6 = record {
  range = record {
    ring = rw e1 k.range.ring;
    counter = rw e2 k.range.counter;
    number = rw e3 k.range.number;
    tag = rw e4 k.range.tag;
    routing = rw e5 k.range.routing;
    floors = rw e5 k.range.floors;
    ranks = rw e5 k.range.ranks;
    marks = rw e6 k.range.marks;
  };
  ring = rw e1 k.ring;
  counter = rw e2 k.counter;
  number = rw e3 k.number;
  tag = rw e4 k.tag;
  routing = rw e5 k.routing;
  marks = rw e6 k.marks;
}

module _ (B : Records → Type 0) (lasts : Lasts B) (W : RingWord → Type 0) (g : Given) (words : (w : RingWord) → W w → WordFits w)
    (offers : (address : Option ℕ) (by origin : ℕ) (rank : Rank) → Offered g address by origin rank
    → EntryFits (routing.offered_entry origin rank by g.now)) where
  abbrev StationAdds : Draft StationMemory → Draft StationMemory → Type 0
  StationAdds s d = Adds (With B) s d

  pub made_adds : (s d : Draft StationMemory) → Made W g s d → StationAdds s d
  unfolding with_rank with_own_number with_next_tag with_ring with_routing_by goes body_goes waits leave
  made_adds s d Starts = adds_none (With B) s
  made_adds s d (Ranks by origin rank e made o fits) =
      adds_then (With B) s e _ _ (made_adds s e made) refl (ranks_lead B lasts e.memory origin rank by g.now (offers _ by origin rank o) fits.room)
  made_adds s d (Numbers e made left) = adds_then (With B) s e _ _ (made_adds s e made) refl (number_leads B lasts e.memory left)
  made_adds s d (Tags e made first) = adds_then (With B) s e _ _ (made_adds s e made) refl (tag_leads B lasts e.memory)
  made_adds s d (Rings x e made change) = adds_then (With B) s e _ _ (made_adds s e made) refl
      (low_one B lasts _ _ _ (omega arith) (λ t h. ring_kept e.memory t x h (ring_fits W words e.memory.ring x change h.range.ring)))
  made_adds s d (Idles e made) = adds_beside (With B) s e _ (made_adds s e made) refl
      (λ r k. record { kept = beside_kept _ _ r (ended_kept e.memory r (λ _. true) k.kept) refl refl refl refl refl refl; rest = k.rest })
  made_adds s d (Loses lost by e made) =
      adds_beside (With B) s e _ (made_adds s e made) refl (λ r k. record { kept = ended_kept e.memory r _ k.kept; rest = k.rest })
  made_adds s d (Goes to unit note e made said alone) = adds_beside (With B) s e _ (made_adds s e made) refl (λ r k. k)
  made_adds s d (Sends own hop to note load e made here there short carried alone) = adds_beside (With B) s e _ (made_adds s e made) refl (λ r k. k)
  made_adds s d (Waits to note load now e made none room short carried alone) = adds_beside (With B) s e _ (made_adds s e made) refl
      (λ r k. record { kept = beside_kept e.memory _ r k.kept refl refl refl refl refl refl; rest = k.rest })
  made_adds s d (Leaves own dest hop rank e made here offered) = adds_beside (With B) s e _ (made_adds s e made) refl
      (λ r k. record { kept = beside_kept e.memory _ r k.kept refl refl refl refl refl refl; rest = k.rest })
