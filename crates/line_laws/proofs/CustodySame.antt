-- No word changes a datagram on its way: units and bodies are of their sends.
use Rattle.std.proofs.Common.{◌≡◌, ℕ, zero, suc, ◌+◌, ◌*◌, ◌<◌, Bool, true, false, not, List, [], ◌∷◌, length, take, drop, map, Some, None, refl, sym, ap, ◌∙◌}
use Rattle.std.proofs.Common.{subst, arith}
use Rattle.std.specs.Prelude.{if◌then◌else◌, nat_le, slice_get, All, ◌==◌}
use Rattle.std.specs.Int.{div_ceil}
use Rattle.std.specs.List.{filter, flat_map, range_with_len}
use Rattle.std.specs.Option.{option_map}
use Rattle.std.proofs.lemmas.Bool.{leb-false}
use Rattle.std.proofs.lemmas.Option.{same_Some, none-some}
use Rattle.std.proofs.lemmas.List.Elements.{All-nil, All-cons, All-head, All-tail, All-push, All-append, All-filter, All-map}
use Rattle.std.proofs.lemmas.List.FromFn.{length-range_with_len, get_or-range_with_len}
use Rattle.plc_base.specs.declared.key.Key.{Key}
use Rattle.plc_base.specs.Grant.{Granted, keyed}
use Rattle.group_keys.specs.KeyRing as ring
use Rattle.mesh_header.specs.declared.unit.Unit.{Unit as MeshUnit}
use Rattle.mesh_header.specs.declared.unit.Unit.TheVariants as units
use Rattle.mesh_header.specs.Pieces.{Placed}
use Rattle.fragment_buffers.specs.Fragmentation.{piece_of, pieces_cut}
use Rattle.node_rules.specs.Memory.{StationMemory, Body, Load, Datagram, Command, address_of}
use Rattle.node_rules.specs.Drafts.{Draft, own_mesh, units_of, all_go, waits_for, with_rank, with_own_number, with_next_tag, with_ring, with_routing_by, goes}
use Rattle.node_rules.specs.Drafts.{body_goes, waits, leave}
use Rattle.line_laws.specs.Sends.{SentAs, FitsAt, UnitIsOf, LoadIsOf, OutIsOf, BodyIsOf}
use Rattle.line_laws.proofs.RangeUnits.{piece_some}
use Rattle.line_laws.proofs.Made.{Given, IsCome, IsLess, Whole, Part, Carried, RingWord, Carry, Install, RingChange, Drops, Installs, Draws, Activates, IsSaid}
use Rattle.line_laws.proofs.Made.{Seeks, Answers, Relays, Passes, SaysTheSame, Forwards, Made, Starts, Ranks, Numbers, Tags, Rings, Idles, Loses, Goes, Sends}
use Rattle.line_laws.proofs.Made.{Waits}
use Rattle.line_laws.proofs.Made.{Leaves}

-- # Cutting

read_of_take : (k : ℕ) (xs : List ℕ) (j o : ℕ) → slice_get (take k xs) j ≡ Some o → slice_get xs j ≡ Some o
read_of_take zero xs j o e = absurd (none-some o e)
read_of_take (suc k) [] j o e = e
read_of_take (suc k) (x ∷ xs) zero o e = e
read_of_take (suc k) (x ∷ xs) (suc j) o e = read_of_take k xs j o e

read_of_drop : (k : ℕ) (xs : List ℕ) (j : ℕ) → slice_get (drop k xs) j ≡ slice_get xs (k + j)
read_of_drop zero xs j = let e : j ≡ 0 + j = omega arith in ap (slice_get xs) e
read_of_drop (suc k) [] j = refl
read_of_drop (suc k) (x ∷ xs) j = let e : suc (k + j) ≡ suc k + j = omega arith in read_of_drop k xs j ∙ ap (slice_get (x ∷ xs)) e

piece_fits : (d : List ℕ) (tag k : ℕ) → FitsAt (piece_of d tag k).octets (46 * k * 8) d
piece_fits d tag k = record {
  reads = λ j o e.
      let place : 368 * k + j ≡ 46 * k * 8 + j = omega arith in
      subst (λ q. slice_get d q ≡ Some o) place (sym (read_of_drop (368 * k) d j) ∙ read_of_take 368 (drop (368 * k) d) j o e);
}

module _ (S : ℕ → SentAs → Type 0) where
  -- the units of a body are of its send
  units_are_of : (own to note : ℕ) (load : Load) → LoadIsOf S own to note load → All (UnitIsOf S note) (units_of own to load)
  unfolding pieces_cut
  units_are_of own to note (Command octets) h = All-cons (UnitIsOf S note) _ [] tt (All-nil (UnitIsOf S note))
  units_are_of own to note (Datagram octets tag) h = by_size (nat_le (length octets) 375) refl
    where
      part : 375 < length octets → (k : ℕ) → k < div_ceil (length octets) 368 → UnitIsOf S note (units.Part (own_mesh own to) (piece_of octets tag k))
      part above k lt = record {
        sent = h.sent;
        is = h.is;
        from = h.from;
        target = h.target;
        content = record {
          long = subst (λ (xs : List ℕ). 375 < length xs) (sym h.content.0) above;
          size = ap length h.content.0;
          tag = h.content.1;
          some = piece_some octets tag k lt;
          fits = subst (FitsAt (piece_of octets tag k).octets (46 * k * 8)) (sym h.content.0) (piece_fits octets tag k);
        };
      }

      ks : List ℕ
      ks = range_with_len 0 (div_ceil (length octets) 368)

      parts : 375 < length octets → All (UnitIsOf S note) (map (λ piece. units.Part (own_mesh own to) piece) (map (piece_of octets tag) ks))
      parts above = All-map (UnitIsOf S note) (λ piece. units.Part (own_mesh own to) piece) (map (piece_of octets tag) ks)
          (All-map (λ (p : Placed). UnitIsOf S note (units.Part (own_mesh own to) p)) (piece_of octets tag) ks
          (λ k e lt.
          let within : k < div_ceil (length octets) 368 = omega (arith, length-range_with_len 0 (div_ceil (length octets) 368)) in
          subst (λ (j : ℕ). UnitIsOf S note (units.Part (own_mesh own to) (piece_of octets tag j)))
          (sym (get_or-range_with_len 0 (div_ceil (length octets) 368) k e within ∙ omega arith)) (part above k within)))

      by_size : (b : Bool) → nat_le (length octets) 375 ≡ b → All (UnitIsOf S note) (units_of own to (Datagram octets tag))
      by_size true t = rw t (All-cons (UnitIsOf S note) _ [] (record { sent = h.sent; is = h.is; from = h.from; target = h.target; content = h.content.0 })
          (All-nil (UnitIsOf S note)))
      by_size false t = rw t (parts (leb-false _ _ t))

  body_goes_of : (own hop to note : ℕ) (load : Load) → (LoadIsOf S own to note load) → All (OutIsOf S) (all_go hop note (units_of own to load))
  body_goes_of own hop to note load h = All-map (OutIsOf S) (λ unit. record { to = hop; unit = unit; note = note }) (units_of own to load)
      (λ k u lt. record { unit = units_are_of own to note load h k u lt })

  bodies_go_of : (own hop : ℕ) (bodies : List Body) → All (BodyIsOf S own) bodies
      → All (OutIsOf S) (flat_map (λ b. all_go hop b.note (units_of own b.to b.load)) bodies)
  bodies_go_of own hop [] all = All-nil (OutIsOf S)
  bodies_go_of own hop (b ∷ bodies) all =
      All-append (OutIsOf S) (all_go hop b.note (units_of own b.to b.load)) _
      (body_goes_of own hop b.to b.note b.load (All-head (BodyIsOf S own) b bodies all).load)
      (bodies_go_of own hop bodies (All-tail (BodyIsOf S own) b bodies all))

  less_of : (note : ℕ) (u less : MeshUnit) → IsLess u less → UnitIsOf S note u → UnitIsOf S note less
  less_of note u less (Whole mesh octets) h = record { sent = h.sent; is = h.is; from = h.from; target = h.target; content = h.content }
  less_of note u less (Part mesh piece) h = record { sent = h.sent; is = h.is; from = h.from; target = h.target; content = h.content }
  less_of note u less (Carried mesh body) h = tt

  -- What is known of a call: what came, and what is sent out, is of its send; and a ring that is installed keeps the address.
  pub record Known (W : RingWord → Type 0) (g : Given) (own : ℕ) : Type 0 where
    pub comes : (by : ℕ) (u : MeshUnit) → IsCome g by false u → UnitIsOf S g.note u
    pub carries : (to note : ℕ) (load : Load) → W (Carry to note load) → LoadIsOf S own to note load
    pub installs : (granted : Granted) → W (Install granted) → granted.address ≡ own

  -- What is being done at a node of this address is of the sends.
  pub record IsTrue (own : ℕ) (d : Draft StationMemory) : Type 0 where
    pub address : (a : ℕ) → address_of d.memory ≡ Some a → a ≡ own
    pub bodies : All (BodyIsOf S own) d.memory.waiting
    pub units : All (OutIsOf S) d.units

  -- # Rings

  abbrev AddressIs : ring.Ring → ℕ → Type 0
  AddressIs r own = (a : ℕ) → option_map (λ (gr : Granted). gr.address) r ≡ Some a → a ≡ own

  keyed_address : (gr : Granted) (index : ℕ) (key : Key) → (keyed gr index key).address ≡ gr.address
  keyed_address gr index key = by_index (index == 0)
    where
      by_index : (b : Bool) → (if b then record gr { key0 = Some key } else record gr { key1 = Some key }).address ≡ gr.address
      by_index true = refl
      by_index false = refl

  ring_address : (W : RingWord → Type 0) (g : Given) (own : ℕ) (known : Known W g own) (r s : ring.Ring) → RingChange W r s → AddressIs r own → AddressIs s own
  ring_address W g own known r s Drops h a e = absurd (none-some a e)
  ring_address W g own known r s (Installs granted w) h a e = sym (same_Some granted.address a e) ∙ known.installs granted w
  ring_address W g own known None s (Draws index key w) h a e = absurd (none-some a e)
  ring_address W g own known (Some gr) s (Draws index key w) h a e = h a (ap Some (sym (keyed_address gr index key)) ∙ e)
  ring_address W g own known None s (Activates index w held) h a e = absurd (none-some a e)
  ring_address W g own known (Some gr) s (Activates index w held) h a e = h a e

  module _ (W : RingWord → Type 0) (g : Given) (own : ℕ) (known : Known W g own) (s : Draft StationMemory) (first : IsTrue own s) where
    said_of : (d : Draft StationMemory) (to : ℕ) (unit : MeshUnit) (note : ℕ) → IsSaid W g s d to unit note → UnitIsOf S note unit
    said_of d to unit note (Seeks a dest number k load here last low carried) = tt
    said_of d to unit note (Answers a by origin number k c dest here last low came_so) = tt
    said_of d to unit note (Relays by origin dest k c rank o just came_so) = tt
    said_of d to unit note (Passes by origin t hop k c rank o just came_so there) = tt
    said_of d to unit note (SaysTheSame hop lost t dest why there) = tt
    said_of d to unit note (Forwards by hop dest u less came is there) = less_of g.note u less is (known.comes by u came)

    pub made_true : (d : Draft StationMemory) → Made W g s d → IsTrue own d
    unfolding with_rank with_own_number with_next_tag with_ring with_routing_by goes body_goes waits leave
    made_true d Starts = first
    made_true d (Ranks by origin rank e made o fits) = let h = made_true e made in record { address = h.address; bodies = h.bodies; units = h.units }
    made_true d (Numbers e made left) = let h = made_true e made in record { address = h.address; bodies = h.bodies; units = h.units }
    made_true d (Tags e made first) = let h = made_true e made in record { address = h.address; bodies = h.bodies; units = h.units }
    made_true d (Rings x e made change) =
        let h = made_true e made in record { address = ring_address W g own known e.memory.ring x change h.address; bodies = h.bodies; units = h.units }
    made_true d (Idles e made) = let h = made_true e made in record { address = h.address; bodies = All-nil (BodyIsOf S own); units = h.units }
    made_true d (Loses lost by e made) = let h = made_true e made in record { address = h.address; bodies = h.bodies; units = h.units }
    made_true d (Goes to unit note e made said alone) =
        let h = made_true e made in record {
          address = h.address;
          bodies = h.bodies;
          units = All-push (OutIsOf S) e.units _ h.units (record { unit = said_of e to unit note said });
        }
    made_true d (Sends a hop to note load e made here there short carried alone) =
        let h = made_true e made in
        let is : a ≡ own = h.address a here in
        record {
          address = h.address;
          bodies = h.bodies;
          units = All-append (OutIsOf S) e.units _ h.units
              (body_goes_of a hop to note load (subst (λ (o : ℕ). LoadIsOf S o to note load) (sym is) (known.carries to note load carried)));
        }
    made_true d (Waits to note load now e made none room short carried alone) =
        let h = made_true e made in
        record {
          address = h.address;
          bodies = All-push (BodyIsOf S own) e.memory.waiting _ h.bodies (record { load = known.carries to note load carried });
          units = h.units;
        }
    made_true d (Leaves a dest hop rank e made here o) =
        let h = made_true e made in
        let is : a ≡ own = h.address a here in
        record {
          address = h.address;
          bodies = All-filter (λ b. not (waits_for dest b)) (BodyIsOf S own) e.memory.waiting h.bodies;
          units = All-append (OutIsOf S) e.units _ h.units (bodies_go_of a hop (filter (waits_for dest) e.memory.waiting)
              (subst (λ (o : ℕ). All (BodyIsOf S o) (filter (waits_for dest) e.memory.waiting)) (sym is)
              (All-filter (waits_for dest) (BodyIsOf S own) e.memory.waiting h.bodies)));
        }
