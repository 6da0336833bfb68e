-- What goes on in new flights: each unit that an event sends flies under its note, unaccepted.
use Rattle.std.proofs.Common.{◌≡◌, ℕ, ◌+◌, ◌<◌, List, [], ◌∷◌, ◌++◌, length, Option, Some, refl, sym, ◌∙◌, subst, arith}
use Rattle.std.specs.Prelude.{AllPairs, slice_get}
use Rattle.std.specs.Option.{option_map_or}
use Rattle.plc_base.specs.declared.key.Key.{Key}
use Rattle.plc_base.specs.Grant.{Granted}
use Rattle.mesh_header.specs.Grammar.{IsUnit}
use Rattle.fragment_buffers.specs.Loads.{Load, UnsealedUnit, all_go, units_of}
use Rattle.node_rules.specs.Ciphers.{network}
use Rattle.node_rules.specs.Drafts.{sealed_by, sealed_units, sealing_key}
use Rattle.node_rules.specs.Frames.{SealedUnit, Sent, Sealed, spelled}
use Rattle.line_rules.specs.Forgery.{AcceptsSealed}
use Rattle.line_rules.specs.Runs.{Entry, last_world}
use Rattle.line_rules.specs.Steps.{flight_by}
use Rattle.line_rules.specs.Worlds.{World, Flight, Sending, start}
use Rattle.line_laws.specs.Custody.{content_is, load_is}
use Rattle.line_laws.specs.Ranges.{HasRoomInFrames}
use Rattle.line_laws.specs.SealedUnits.{IsFit, IsFlight}
use Rattle.line_laws.specs.Tags.{TagRises}
use Rattle.line_laws.proofs.CustodyDeliver.{WasFlown}
use Rattle.line_laws.proofs.RangeUnits.{units_fit}
use Rattle.line_progress.specs.BodyFates.{IsFlown}
use Rattle.line_progress.specs.Lists.{Among, Here, Later}
use Rattle.line_progress.proofs.FlightsKept.{flights_kept}
use Rattle.line_laws.proofs.Worlds.{at_place}
use Rattle.line_progress.proofs.EventFates.{among_mapped}
use Rattle.run_laws.specs.DatagramFates.{Fate, Flies}
use Rattle.run_laws.proofs.FateEvents.{Known, flew}
use Rattle.run_laws.proofs.FateFlights.{Calm, Fresh, StillThere, calm_push, fresh_new, none_accepted, stay, there_flight}
use Rattle.run_laws.proofs.FateLists.{HasUnit, among_all, behind_all, covers_all, stands}
use Rattle.run_laws.proofs.FateUnits.{flown_unit}

-- What led to a world was a calm run.
pub record Ahead (before : List Entry) (w : World) : Type 0 where
  pub calm : Calm start before
  pub ends : last_world start before ≡ w

-- # What is sealed

-- A frame of them has the unit.
pub record IsSealedIn (o : UnsealedUnit) (frames : List Sent) : Type 0 where
  pub sealed : SealedUnit
  pub among : Among (Sealed sealed) frames
  pub unit : sealed.unit ≡ o.unit
  pub note : sealed.note ≡ o.note

sealed_in : (g : Granted) (key : Key) (o : UnsealedUnit) (first : ℕ) (us : List UnsealedUnit) → Among o us → IsSealedIn o (sealed_units g key first us)
sealed_in g key o first us (Here rest) = record {
  sealed = record { to = o.to; from = g.address; counter = first; index = g.active; key = key; unit = o.unit; note = o.note };
  among = Here (sealed_units g key (first + 1) rest);
  unit = refl;
  note = refl;
}
sealed_in g key o first us (Later y rest more) =
    let s = sealed_in g key o (first + 1) rest more in
    record {
      sealed = s.sealed;
      among = Later (Sealed (record { to = y.to; from = g.address; counter = first; index = g.active; key = key; unit = y.unit; note = y.note }))
          (sealed_units g key (first + 1) rest) s.among;
      unit = s.unit;
      note = s.note;
    }

pub sealed_by_in : (r : Option Granted) (g : Granted) (key : Key) (first : ℕ) (us : List UnsealedUnit) (o : UnsealedUnit) → r ≡ Some g
    → sealing_key g ≡ Some key → Among o us → IsSealedIn o (sealed_by r first us)
sealed_by_in r g key first us o ring keyed among =
    let is : sealed_by r first us ≡ sealed_units g key first us =
    (λ i. sealed_by (ring i) first us) ∙ (λ i. option_map_or (λ k. sealed_units g k first us) (keyed i) []) in
    subst (IsSealedIn o) (sym is) (sealed_in g key o first us among)

-- the units of a load in its ranges are units
pub unit_fits : (own to : ℕ) → own < 0xFFFE → to < 0xFFFE → (load : Load) → HasRoomInFrames load → (i : ℕ) (u : HasUnit i (units_of own to load))
    → IsUnit u.unit
unit_fits own to here there load room i u = (among_all IsFit u.unit (units_of own to load) (units_fit own to here there load room) u.among).fields

-- # What flies

module _ (home : ℕ → ℕ) (apart : (i j : ℕ) → home i ≡ home j → i ≡ j) (all : List Sending) (rises : AllPairs TagRises all)
    (before : List Entry) (w : World) (x : Entry) (k : Known home all before w x) (a : Ahead before w) where
  stays : StillThere w x.after
  stays = stay flights_kept w x.after x k.step

  pub calm_on : Calm start (before ++ x ∷ [])
  calm_on = calm_push start before x a.calm (subst (λ v. StillThere v x.after) (sym a.ends) stays)
      (subst (λ (v : World). (octets : List ℕ) (key : Key) → AcceptsSealed network v x.event octets key → WasFlown v.flights octets key) (sym a.ends)
      (flew home apart all rises before w x k))

  -- a unit that is in a new flight of this note flies
  pub flies_on : (n i number : ℕ) (s : SealedUnit) (new : List Flight) → x.after.flights ≡ w.flights ++ new
      → Among (flight_by number (spelled network (Sealed s))) new → IsUnit s.unit → s.note ≡ n → content_is i s.unit ≡ 1
      → Fate n i (before ++ x ∷ []) x.after
  unfolding spelled
  flies_on n i number s new flights among unit note octet =
      let f : Flight = flight_by number (spelled network (Sealed s)) in
      let at = stands f new among in
      let place : ℕ = length w.flights + at.place in
      let there : slice_get x.after.flights place ≡ Some f =
      subst (λ fs. slice_get fs place ≡ Some f) (sym flights) (behind_all w.flights new at.place f at.is) in
      let is : IsFlight network f = at_place (IsFlight network) x.after.flights place f there k.after.custody.flights in
      let fresh : Fresh f w = fresh_new w x.after s.key stays k.after.spelled k.differ_after place f there refl (omega arith) in
      Flies (place + 1) (record {
        flight = f;
        there = there_flight x.after place f there;
        note = note;
        unit = s.unit;
        carried = flown_unit number s is unit;
        octet = octet;
        unaccepted = none_accepted f start before x calm_on (subst (Fresh f) (sym a.ends) fresh);
      }) refl

  -- all units of a load that fly: one of them has the octet
  pub all_fly : (n i number own to hop note : ℕ) (load : Load) (new : List Flight) → x.after.flights ≡ w.flights ++ new → own < 0xFFFE → to < 0xFFFE
      → HasRoomInFrames load → load_is i load ≡ 1 → note ≡ n → (g : Granted) (key : Key)
      → ((o : UnsealedUnit) → Among o (all_go hop note (units_of own to load)) → IsFlown network number g key o new)
      → Fate n i (before ++ x ∷ []) x.after
  all_fly n i number own to hop note load new flights here there room octet same g key each =
      let u = covers_all own to i load octet in
      let o : UnsealedUnit = record { to = hop; unit = u.unit; note = note } in
      let flown = each o (among_mapped (λ unit. record { to = hop; unit = unit; note = note }) u.unit (units_of own to load) u.among) in
      flies_on n i number (record { to = hop; from = g.address; counter = flown.counter; index = g.active; key = key; unit = u.unit; note = note }) new
      flights flown.is (unit_fits own to here there load room i u) same u.octet
