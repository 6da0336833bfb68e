-- Whether a node accepts some octets in an event, and what it then reads: the unit of the one flight that has them.
use Rattle.std.proofs.Common.{◌≡◌, ◌⊎◌, inl, inr, ⊎_elim, ℕ, ◌-◌, Bool, true, false, List, Option, Some, None, Result, Ok, Err, refl, sym, ap, ◌∙◌, subst}
use Rattle.std.specs.Prelude.{All, AllPairs, slice_get, ◌==◌}
use Rattle.std.specs.Str.{bytes_eq}
use Rattle.std.proofs.lemmas.Option.{none-some, same_Some}
use Rattle.std.proofs.lemmas.Slice.Eq.{bytes_eq-Decides}
use Rattle.plc_base.specs.declared.key.Key.{Key}
use Rattle.mesh_header.specs.declared.unit.Unit.{Unit as MeshUnit}
use Rattle.mesh_header.specs.Reader.{unit_in}
use Rattle.node_rules.specs.Accepted.{Accepted}
use Rattle.node_rules.specs.Acceptance.{Accepting, accept, marking}
use Rattle.node_rules.specs.declared.heard.Path.{Path}
use Rattle.node_rules.specs.declared.heard.Path.TheVariants as paths
use Rattle.node_rules.specs.declared.refusal.FrameRefusal.{FrameRefusal}
use Rattle.node_rules.specs.declared.refusal.FrameRefusal.TheVariants as frames
use Rattle.node_rules.specs.Ciphers.{network}
use Rattle.node_rules.specs.Frames.{arrived, to_all}
use Rattle.node_rules.specs.Memory.{Memory, Node}
use Rattle.node_rules.specs.NodeSteps.{of_station}
use Rattle.node_rules.specs.Plans.{Plan, resting}
use Rattle.node_rules.proofs.NetworkOpens.{network_opens_again}
use Rattle.line_events.specs.declared.event.Event.{Event}
use Rattle.line_events.specs.declared.event.Event.TheVariants as events
use Rattle.line_rules.specs.Forgery.{AcceptsSealed, Comes, OfFlight, OfScript, accepting}
use Rattle.line_rules.specs.Nonces.{HasAnotherNonce, IsSpelled}
use Rattle.line_rules.specs.Steps.{note_by}
use Rattle.line_rules.specs.Worlds.{World, Flight, flight_at, node_at}
use Rattle.line_laws.specs.Places.{first_place, unit_of}
use Rattle.line_laws.specs.SealedUnits.{AreFlights, GoesToOne, IsFit, IsFlight, SpellsSealedUnit}
use Rattle.line_laws.proofs.CustodyDeliver.{WasFlown}
use Rattle.line_laws.proofs.CustodyWorld.{unit_back}
use Rattle.line_laws.proofs.IssueNodes.{acts_whole}
use Rattle.line_laws.proofs.LetterAccepts.{accepts_sealed_unit}
use Rattle.line_laws.proofs.StoreMarks.{Accepts, IsAdmitted, IsPlain, Marked, Plain, Turned, accept_is}
use Rattle.line_laws.proofs.TracesRight.{comes_is, is_same}
use Rattle.line_progress.proofs.ReachKept.{IsMarked, accepts_marks}
use Rattle.line_laws.proofs.Worlds.{at_place}
use Rattle.run_laws.proofs.FateFlights.{one_place}

-- # Whether

-- octets come to a node
record Coming (w : World) (event : Event) : Type 0 where
  number : ℕ
  octets : List ℕ
  comes : Comes w event number octets

coming : (w : World) (event : Event) → Coming w event ⊎ ((number : ℕ) (octets : List ℕ) → Comes w event number octets → ⊥)
coming w (events.Deliver flight number cost) = by_flight (flight_at w flight) refl
  where
    by_flight : (o : Option Flight) → flight_at w flight ≡ o
        → Coming w (events.Deliver flight number cost) ⊎ ((n : ℕ) (octets : List ℕ) → Comes w (events.Deliver flight number cost) n octets → ⊥)
    by_flight (Some f) e = inl (record { number = number; octets = f.octets; comes = OfFlight flight number cost f e })
    by_flight None e = inr (λ n octets c. none-some _ (sym e ∙ (comes_is w (events.Deliver flight number cost) n octets c).1.1))
coming w (events.Inject number cost octets) = inl (record { number = number; octets = octets; comes = OfScript number cost octets })
coming w _ = inr (λ n octets c. comes_is w _ n octets c)

module _ (w : World) (event : Event) (octets : List ℕ) (key : Key) where
  abbrev Accepts_it : Type 0
  Accepts_it = AcceptsSealed network w event octets key

  -- what accepts them is what comes
  is_it : (c : Coming w event) (x : Node) → node_at w c.number ≡ Some x → (a : Accepts_it)
      → (octets ≡ c.octets) × ((accepting network x c.octets).answer ≡ Ok a.got)
  is_it c x there a =
      let same = is_same w event a.number c.number octets c.octets (comes_is w event a.number octets a.comes) (comes_is w event c.number c.octets c.comes) in
      let node : a.node ≡ x = same_Some _ _ (sym a.there ∙ ap (node_at w) same.0 ∙ there) in
      (same.1, (λ i. (accepting network (sym node i) (sym same.1 i)).answer) ∙ a.is)

  err_ok : (r : FrameRefusal) (g : Accepted) → Err r ≡ Ok g → ⊥
  err_ok r g e = cc

  ok_ok : (g h : Accepted) → (let r : Result Accepted FrameRefusal = Ok g in r ≡ Ok h) → g ≡ h
  ok_ok g h e = cc

  abbrev is_sealed_by : Path → Key → Type 0
  is_sealed_by (paths.Sealed from all k) other = k ≡ other
  is_sealed_by (paths.Up from) other = ⊥
  is_sealed_by (paths.Down from) other = ⊥

  by_bytes : (c : Coming w event) (x : Node) (there : node_at w c.number ≡ Some x) (got : Accepted) → (accepting network x c.octets).answer ≡ Ok got
      → (from : ℕ) (all : Bool) (k : Key) → got.path ≡ paths.Sealed from all k → (s t : Bool) → bytes_eq octets c.octets ≡ s → bytes_eq k.0 key.0 ≡ t
      → Accepts_it ⊎ (Accepts_it → ⊥)
  by_bytes c x there got is from all k path true true es et =
      let same : octets ≡ c.octets = (bytes_eq-Decides octets c.octets).0 es in
      let keys : k ≡ key = ap (λ (os : List ℕ). record { 0 = os }) ((bytes_eq-Decides k.0 key.0).0 et) in
      inl (record {
        number = c.number;
        comes = subst (Comes w event c.number) (sym same) c.comes;
        node = x;
        there = there;
        got = got;
        is = ap (λ os. (accepting network x os).answer) same ∙ is;
        from = from;
        to_all = all;
        path = path ∙ ap (paths.Sealed from all) keys;
      })
  by_bytes c x there got is from all k path false t es et = inr (λ a.
      let same = (is_it c x there a).0 in
      let yes : bytes_eq octets c.octets ≡ true = (bytes_eq-Decides octets c.octets).1 same in cc)
  by_bytes c x there got is from all k path true false es et = inr (λ a.
      let this : got ≡ a.got = ok_ok got a.got (sym is ∙ (is_it c x there a).1) in
      let keys : k ≡ key = subst (λ p. is_sealed_by p key) (sym a.path ∙ ap (λ (g : Accepted). g.path) (sym this) ∙ path) refl in
      let yes : bytes_eq k.0 key.0 ≡ true = (bytes_eq-Decides k.0 key.0).1 (ap (λ (q : Key). q.0) keys) in cc)

  by_path : (c : Coming w event) (x : Node) (there : node_at w c.number ≡ Some x) (got : Accepted) → (accepting network x c.octets).answer ≡ Ok got
      → (p : Path) → got.path ≡ p → Accepts_it ⊎ (Accepts_it → ⊥)
  by_path c x there got is (paths.Sealed from all k) path = by_bytes c x there got is from all k path _ _ refl refl
  by_path c x there got is (paths.Up from) path = inr (λ a.
      let this : got ≡ a.got = ok_ok got a.got (sym is ∙ (is_it c x there a).1) in
      subst (λ p. is_sealed_by p key) (sym a.path ∙ ap (λ (g : Accepted). g.path) (sym this) ∙ path) refl)
  by_path c x there got is (paths.Down from) path = inr (λ a.
      let this : got ≡ a.got = ok_ok got a.got (sym is ∙ (is_it c x there a).1) in
      subst (λ p. is_sealed_by p key) (sym a.path ∙ ap (λ (g : Accepted). g.path) (sym this) ∙ path) refl)

  by_answer : (c : Coming w event) (x : Node) → node_at w c.number ≡ Some x → (r : Result Accepted FrameRefusal)
      → (accepting network x c.octets).answer ≡ r → Accepts_it ⊎ (Accepts_it → ⊥)
  by_answer c x there (Ok got) e = by_path c x there got e got.path refl
  by_answer c x there (Err reason) e = inr (λ a. err_ok reason a.got (sym e ∙ (is_it c x there a).1))

  by_node : (c : Coming w event) → (o : Option Node) → node_at w c.number ≡ o → Accepts_it ⊎ (Accepts_it → ⊥)
  by_node c (Some x) there = by_answer c x there (accepting network x c.octets).answer refl
  by_node c None none = inr (λ a.
      let same = is_same w event a.number c.number octets c.octets (comes_is w event a.number octets a.comes) (comes_is w event c.number c.octets c.comes) in
      none-some a.node (sym none ∙ ap (node_at w) (sym same.0) ∙ a.there))

  pub accepts_or_not : Accepts_it ⊎ (Accepts_it → ⊥)
  accepts_or_not = ⊎_elim (λ (c : Coming w event). by_node c (node_at w c.number) refl)
      (λ (none : (number : ℕ) (os : List ℕ) → Comes w event number os → ⊥). inr (λ a. none a.number octets a.comes)) (coming w event)

-- # What it is then

-- What accepting octets under a key leaves of the node: it runs, with all that it held.
pub record Taken (x : Node) (octets : List ℕ) (got : Accepted) (key : Key) : Type 0 where
  pub memory : Memory
  pub runs : x.memory ≡ Some memory
  pub after : Memory
  pub left : (accepting network x octets).node.memory ≡ Some after
  pub marked : IsMarked memory.station after.station
  pub from : ℕ
  pub counter : ℕ
  pub admitted : IsAdmitted memory.station (arrived network octets) from counter got

module _ (x : Node) (octets : List ℕ) (got : Accepted) (is : (accepting network x octets).answer ≡ Ok got) where
  abbrev plan_of : Memory → Plan Memory (Result Accepted FrameRefusal)
  plan_of m = of_station m (accept m.station x.eui (arrived network octets))

  failed : (m : Memory) → (plan_of m).failed ≡ Err frames.Store
  unfolding resting marking
  failed m = by_form _ (accept_is m.station x.eui (arrived network octets))
    where
      by_form : (p : Accepting) → Accepts m.station (arrived network octets) p → p.failed ≡ Err frames.Store
      by_form p (Turned reason) = refl
      by_form p (Plain got plain) = refl
      by_form p (Marked from counter got a) = refl

  not_plain : (from : ℕ) (all : Bool) (key : Key) (p : Path) → p ≡ paths.Sealed from all key → IsPlain p → ⊥
  not_plain from all key p e plain = subst IsPlain e plain

  -- Octets that were admitted.
  record Admitted (m : Memory) : Type 0 where
    from : ℕ
    counter : ℕ
    is_so : IsAdmitted m.station (arrived network octets) from counter got

  by_form : (m : Memory) (from : ℕ) (all : Bool) (key : Key) → got.path ≡ paths.Sealed from all key → (p : Accepting)
      → Accepts m.station (arrived network octets) p → p.answer ≡ Ok got → Admitted m
  unfolding resting marking
  by_form m from all key path p (Turned reason) e = absurd (cc)
  by_form m from all key path p (Plain g plain) e =
      let same : g ≡ got = cc in absurd (not_plain from all key got.path path (subst (λ (h : Accepted). IsPlain h.path) same plain.path))
  by_form m from all key path p (Marked by counter g a) e =
      let same : g ≡ got = cc in
      record { from = by; counter = counter; is_so = subst (IsAdmitted m.station (arrived network octets) by counter) same a }

  pub taken : (from : ℕ) (all : Bool) (key : Key) → got.path ≡ paths.Sealed from all key → Taken x octets got key
  taken from all key path =
      let a = acts_whole x frames.Halted frames.Store plan_of failed got is in
      let b = by_form a.memory from all key path _ (accept_is a.memory.station x.eui (arrived network octets)) a.is in
      record {
        memory = a.memory;
        runs = a.there;
        after = (plan_of a.memory).memory;
        left = a.leaves;
        marked = accepts_marks a.memory.station x.eui (arrived network octets);
        from = b.from;
        counter = b.counter;
        admitted = b.is_so;
      }

-- # What it reads

-- What a node that accepts the octets of a flight under its key reads: the flight's unit, for it alone, under the flight's note.
pub record Reads (w : World) (place : ℕ) (f : Flight) (key : Key) (got : Accepted) (from : ℕ) (all : Bool) : Type 0 where
  pub unit : MeshUnit
  pub carried : unit_of network f ≡ Some unit
  pub read : unit_in got.payload ≡ Some unit
  pub fits : IsFit unit
  pub note : note_by w f.octets got.path ≡ f.note
  pub first : first_place w.flights f.octets key ≡ Some place
  pub one : (to : ℕ) × (all ≡ (to == to_all)) × GoesToOne to unit

module _ (w : World) (are : AreFlights network w.flights) (spelled : All (IsSpelled network) w.flights) (differ : AllPairs HasAnotherNonce w.flights)
    (place : ℕ) (f : Flight) (there : slice_get w.flights place ≡ Some f) (key : Key) (keyed : f.key ≡ Some key)
    (was : WasFlown w.flights f.octets key) where
  here : was.place ≡ place
  here = one_place w.flights spelled differ key was.place place was.flight f was.there there was.key_is keyed was.octets_are

  same_flight : was.flight ≡ f
  same_flight = same_Some was.flight f (sym was.there ∙ ap (slice_get w.flights) here ∙ there)

  abbrev key_in_path : Path → Key → Key
  key_in_path (paths.Sealed from all k) other = k
  key_in_path (paths.Up from) other = other
  key_in_path (paths.Down from) other = other

  abbrev all_in_path : Path → Bool
  all_in_path (paths.Sealed from all k) = all
  all_in_path (paths.Up from) = false
  all_in_path (paths.Down from) = false

  pub reads : (x : Node) (got : Accepted) (from : ℕ) (all : Bool) → got.path ≡ paths.Sealed from all key → Taken x f.octets got key
      → Reads w place f key got from all
  reads x got from all path t =
      let s : SpellsSealedUnit network f key = (at_place (IsFlight network) w.flights place f there are).sealed key keyed in
      let keys : t.admitted.key ≡ s.sealed_unit.key = ap (λ (p : Path). key_in_path p key) (ap (λ (g : Accepted). g.path) (sym t.admitted.got_is) ∙ path)
      ∙ sym s.key_is in
      let l = accepts_sealed_unit network network_opens_again s.sealed_unit s.fits t.memory.station f.octets s.octets t.from t.counter got t.admitted keys in
      record {
        unit = s.sealed_unit.unit;
        carried = unit_back network network_opens_again f key keyed s;
        read = l.unit;
        fits = s.fits.unit;
        note = ap (note_by w f.octets) path ∙ was.note ∙ ap (λ (g : Flight). g.note) same_flight;
        first = was.at ∙ ap Some here;
        one = (s.sealed_unit.to, ap all_in_path (sym path ∙ l.path), s.fits.one);
      }
