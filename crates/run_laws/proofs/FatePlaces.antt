-- Fates at one place, by the places of octets where the open flights count.
use Rattle.std.proofs.Common.{zero-le, ◌≡◌, ℕ, zero, suc, ◌-◌, ◌<◌, Bool, true, false, List, [], ◌∷◌, ◌++◌, length, Option, Some, None, refl, sym, ap, subst}
use Rattle.std.proofs.Common.{append-nil, ◌∙◌, arith}
use Rattle.std.specs.Prelude.{All, IfSome, ◌==◌, if◌then◌else◌, slice_get}
use Rattle.std.proofs.lemmas.List.{append_assoc}
use Rattle.std.proofs.lemmas.List.Elements.{All-append, All-head, All-nil, All-push, All-tail}
use Rattle.std.proofs.lemmas.Option.{same_Some}
use Rattle.plc_base.specs.declared.key.Key.{Key}
use Rattle.node_rules.specs.Ciphers.{network}
use Rattle.line_events.specs.declared.event.Event.{Event}
use Rattle.line_events.specs.declared.happenings.Handed.{Handed}
use Rattle.line_rules.specs.Forgery.{AcceptsSealed}
use Rattle.line_rules.specs.Runs.{Entry, NoneForged, last_world, one_of, send_at, sends, ups}
use Rattle.line_rules.specs.SafeRuns.{IsNew, WasSent}
use Rattle.line_rules.specs.Worlds.{World, Flight, Sending, has_octets, start}
use Rattle.line_laws.specs.OpenFlights.{Opening, is_open, opening}
use Rattle.line_laws.specs.Ups.{UpsAreSentAfter}
use Rattle.line_laws.proofs.ForgeryRight.{flew_is}
use Rattle.line_laws.proofs.IssueRuns.{all_of_one}
use Rattle.line_laws.proofs.OpenCustody.{opens_in}
use Rattle.run_laws.specs.DatagramFates as fates
use Rattle.run_laws.specs.DatagramFates.{Fate, NoneAccepted}
use Rattle.run_laws.specs.FatePlaces.{FatesAreAtOnePlace, place_of}
use Rattle.run_laws.specs.OctetPlaces.{AreAtOnePlace, AtNode, Flies, InFlight, InPieces, IsAtPlace, IsGathered, Place, StayAtOnePlace, Up, Waits, WasHandedUp}
use Rattle.run_laws.proofs.FateLists.{among_all}
use Rattle.run_laws.proofs.OctetPlaces.{at_one_place}

-- # Open flights

-- what was opened along a run
abbrev opened_in : List Opening → World → List Entry → List Opening
opened_in opened w [] = opened
opened_in opened w (x ∷ xs) = opened_in (one_of (opening w x.event) ++ opened) x.after xs

open_one : (w : World) (event : Event) (opened : List Opening) (f : Flight)
    → ((key : Key) → f.key ≡ Some key → AcceptsSealed network w event f.octets key → ⊥) → is_open opened f ≡ true
    → is_open (one_of (opening w event) ++ opened) f ≡ true
open_one w event opened f none was = by_opening (opening w event) refl
  where
    by_has : (p : Opening) → opening w event ≡ Some p → (b : Bool) → has_octets p.octets p.key f ≡ b → (if b then false else is_open opened f) ≡ true
    by_has p is true has =
        let same = flew_is p.octets p.key f has in
        let o = opens_in w event p is in
        absurd (none p.key same.1 (subst (λ (octets : List ℕ). AcceptsSealed network w event octets p.key) (sym same.0)
        (record { number = o.number; comes = o.comes; node = o.node; there = o.there; got = o.got; is = o.is; from = o.from; to_all = false; path = o.path })))
    by_has p is false has = was

    by_opening : (o : Option Opening) → opening w event ≡ o → is_open (one_of o ++ opened) f ≡ true
    by_opening None is = was
    by_opening (Some p) is = by_has p is (has_octets p.octets p.key f) refl

still_open : (opened : List Opening) (w : World) (entries : List Entry) (f : Flight) → is_open opened f ≡ true → NoneAccepted w entries f
    → is_open (opened_in opened w entries) f ≡ true
still_open opened w [] f was none = was
still_open opened w (x ∷ xs) f was none = still_open (one_of (opening w x.event) ++ opened) x.after xs f (open_one w x.event opened f none.0 was) none.1

abbrev IsHonest : Entry → Type 0
IsHonest x = x.trace.happenings.forged ≡ false

last_one : (opened : List Opening) (before : List Entry) (w : World) (entries : List Entry) → NoneForged entries
    → AreAtOnePlace (λ _ f. is_open opened f) w (ups before) → StayAtOnePlace opened before w entries
    → AreAtOnePlace (λ _ f. is_open (opened_in opened w entries) f) (last_world w entries) (ups (before ++ entries))
last_one opened before w [] honest now stay = subst (λ (es : List Entry). AreAtOnePlace (λ _ f. is_open opened f) w (ups es)) (sym (append-nil before)) now
last_one opened before w (x ∷ xs) honest now stay =
    let h = stay (All-head IsHonest x xs honest) in
    let next = one_of (opening w x.event) ++ opened in
    subst (λ (es : List Entry). AreAtOnePlace (λ _ f. is_open (opened_in next x.after xs) f) (last_world x.after xs) (ups es))
    (append_assoc before (x ∷ []) xs)
    (last_one next (before ++ x ∷ []) x.after xs (All-tail IsHonest x xs honest) h.1 h.2)

-- # What was handed up

-- it was sent with these octets
abbrev Was : List Sending → Handed → Type 0
Was all u = (s : Sending) × (send_at all u.note ≡ Some s) × (s.datagram ≡ u.octets)

front : (xs ys : List Sending) (k : ℕ) (x : Sending) → slice_get xs k ≡ Some x → slice_get (xs ++ ys) k ≡ Some x
front [] ys k x e = absurd (cc)
front (y ∷ xs) ys zero x e = e
front (y ∷ xs) ys (suc k) x e = front xs ys k x e

front_send : (xs ys : List Sending) (n : ℕ) (s : Sending) → send_at xs n ≡ Some s → send_at (xs ++ ys) n ≡ Some s
front_send xs ys n s e = by_zero (n == 0) e
  where
    by_zero : (b : Bool) → (if b then None else slice_get xs (n - 1)) ≡ Some s → (if b then None else slice_get (xs ++ ys) (n - 1)) ≡ Some s
    by_zero true e = absurd (cc)
    by_zero false e = front xs ys (n - 1) s e

all_was : (all : List Sending) (before entries : List Entry) → all ≡ sends before ++ sends entries → NoneForged entries → UpsAreSentAfter before entries
    → All (Was all) (ups entries)
all_was all before [] same honest sent = All-nil (Was all)
all_was all before (x ∷ xs) same honest sent =
    let h = sent (All-head IsHonest x xs honest) in
    let longer = same ∙ sym (append_assoc (sends before) (one_of x.trace.sent) (sends xs))
    ∙ ap (λ (ss : List Sending). ss ++ sends xs) (sym (all_of_one (λ d. one_of d.sent) before x)) in
    All-append (Was all) (one_of x.trace.happenings.up) (ups xs) (by_up x.trace.happenings.up h.0)
    (all_was all (before ++ x ∷ []) xs longer (All-tail IsHonest x xs honest) h.1)
  where
    by_up : (o : Option Handed) → IfSome o (λ (up : Handed). WasSent up (sends before) × IsNew up (ups before)) → All (Was all) (one_of o)
    by_up None h = All-nil (Was all)
    by_up (Some u) h =
        All-push (Was all) [] u (All-nil (Was all)) (
          h.0.send,
          ap (λ (ss : List Sending). send_at ss u.note) same ∙ front_send (sends before) (sends (x ∷ xs)) u.note h.0.send h.0.is,
          h.0.octets,
        )

-- # Fates

positive : (all : List Sending) (n : ℕ) (s : Sending) → send_at all n ≡ Some s → 0 < n
positive all zero s e = absurd (cc)
positive all (suc n) s e = omega arith

module _ (entries : List Entry) (was : All (Was (sends entries)) (ups entries)) (n : ℕ) (s : Sending) (is : send_at (sends entries) n ≡ Some s) (i : ℕ)
    (short : i < length s.datagram) where
  abbrev w : World
  w = last_world start entries

  abbrev At : Place → Type 0
  At a = IsAtPlace (λ _ f. is_open (opened_in [] start entries) f) n i w (ups entries) a

  handed : (h : fates.IsHandedUp n entries) → At Up
  handed h =
      let u = among_all (Was (sends entries)) h.handed (ups entries) was h.is in
      let same : u.0 ≡ s = same_Some u.0 s (sym u.1 ∙ ap (send_at (sends entries)) h.note ∙ is) in
      let octets : s.datagram ≡ h.handed.octets = ap (λ (z : Sending). z.datagram) (sym same) ∙ u.2 in
      WasHandedUp h.handed h.is h.note (subst (λ (xs : List ℕ). i < length xs) octets short)

  flies : (number : ℕ) → fates.IsInFlight n i entries w number → At (InFlight number)
  flies number f =
      Flies number f.flight f.unit f.there (still_open [] start entries f.flight refl f.unaccepted) f.note f.carried f.octet

  placed : (f : Fate n i entries w) (a : Place) → place_of f ≡ Some a → At a
  placed (fates.HandedUp h) a e = subst At (same_Some Up a e) (handed h)
  placed (fates.Flies number f free) a e = subst At (same_Some (InFlight number) a e) (flies number f)
  placed (fates.Lost number f lost) a e = subst At (same_Some (InFlight number) a e) (flies number f)
  placed (fates.Waits node b) a e = subst At (same_Some (AtNode node) a e) (Waits node b.station b.body b.there b.waits b.note b.octet)
  placed (fates.Gathered node p) a e =
      subst At (same_Some (InPieces node) a e) (IsGathered node p.station p.reassembly p.piece p.there p.held p.note p.placed p.octet)
  placed (fates.Over event h) a e = absurd (cc)

pub fates_are_at_one : (entries : List Entry) → NoneForged entries → StayAtOnePlace [] [] start entries → UpsAreSentAfter [] entries
    → FatesAreAtOnePlace entries (last_world start entries)
fates_are_at_one entries honest stay sent n s is i short f g a b fa gb =
    let was = all_was (sends entries) [] entries refl honest sent in
    let now : AreAtOnePlace (λ _ f. is_open [] f) start [] = at_one_place (λ _ f. is_open [] f) start [] (record { at_most = λ n i some. zero-le }) in
    last_one [] [] start entries honest now stay n i (positive (sends entries) n s is) a b (placed entries was n s is i short f a fa)
    (placed entries was n s is i short g b gb)
