-- Homes along a run of the network with further reach, and that no flight comes to life in it before it is forged.
use Rattle.std.proofs.Common.{◌≡◌, ℕ, ◌<◌, Bool, true, false, List, [], ◌∷◌, ◌++◌, length, None, refl, sym, ◌∙◌, subst, arith}
use Rattle.std.proofs.lemmas.List.Elements.{All-head, All-tail}
use Rattle.group_keys.specs.KeyBook as books
use Rattle.node_rules.specs.Ciphers.{network}
use Rattle.line_events.specs.Events.{AreEvents, IsEvent}
use Rattle.line_rules.specs.Further.{line_step}
use Rattle.line_rules.specs.Runs.{Entry, IsRun, events_of, issued}
use Rattle.line_rules.specs.Worlds.{World}
use Rattle.line_laws.specs.Live.{book_of, live}
use Rattle.line_laws.specs.Places.{LiveFalls}
use Rattle.line_laws.proofs.AddressBook.{Grows, one_book}
use Rattle.line_laws.proofs.CustodyHomes.{HomesFor, homed_back, homed_here, homes_at}
use Rattle.line_laws.proofs.CustodySteps.{HomedAt}
use Rattle.line_laws.proofs.FurtherForms.{AnyUnits}
use Rattle.line_laws.proofs.FurtherLoops.{book_grows, euis_stay, nodes_stay}
use Rattle.line_laws.proofs.FurtherSame.{AnyDiscovery}
use Rattle.line_laws.proofs.FurtherStates.{LeadsTo, Sound, Stands, sound_on}
use Rattle.line_laws.proofs.FurtherStepKinds.{any_speaks, line_follows, line_step_is}
use Rattle.line_laws.proofs.LiveRuns.{none_falls, some_book}
use Rattle.line_laws.proofs.MarkSteps.{FollowsIn}
use Rattle.line_laws.proofs.StorableGrants.{network_ranges}

-- # One event

module _ (w : World) (before : List Entry) (o : Sound w before) (x : Entry) (event : IsEvent x.event) (is : LeadsTo w x)
    (honest : x.trace.happenings.forged ≡ false) where
  abbrev h : Stands w
  h = o.stands

  next : Sound x.after (before ++ x ∷ [])
  next = sound_on w before o x event is honest

  grows : 0 < length w.nodes → Grows o.keyed.book next.keyed.book
  grows some = book_grows w before o x event is honest (issued (before ++ x ∷ [])) next.keyed some

  -- no flight comes to life
  pub falls : LiveFalls live w x.after None
  falls =
      let made = line_step_is AnyUnits AnyDiscovery network network_ranges w h.ok h.speaks.flights h.logs
      (any_speaks AnyDiscovery network w h.logs tt (λ number y m octets link frame there here e. tt)) x.event event in
      let follows = subst (FollowsIn network network_ranges w h.ok h.speaks.flights) is (line_follows AnyUnits AnyDiscovery network network_ranges w h.ok
      h.speaks.flights x.event (line_step network w x.event) made) in
      none_falls w x.after follows (λ some.
      let longer = nodes_stay w x is in
      subst (λ (b : books.Book). Grows b (book_of x.after)) (sym (some_book w (issued before) h.ok o.keyed some))
      (subst (Grows o.keyed.book) (sym (some_book x.after (issued (before ++ x ∷ [])) next.stands.ok next.keyed (omega arith))) (grows some)))

  -- homes of the world after it are homes of the world before it
  pub homed_before : (home : ℕ → ℕ) → HomedAt home x.after → HomedAt home w
  homed_before home at = homed_back network network_ranges home w x.after (issued before) (issued (before ++ x ∷ [])) o.keyed next.keyed (nodes_stay w x is)
      (λ some c there b kept. subst (Grows o.keyed.book) (one_book next.keyed.book b c.store.records (next.keyed.coordinator c there).book_kept kept)
      (grows some))
      (λ some. euis_stay w before o x event is honest some) at

-- # Runs

true_false : true ≡ false → ⊥
true_false e = cc

pub reach_homes : (w : World) (before : List Entry) → Sound w before → (entries : List Entry) → AreEvents (events_of entries) → IsRun network w entries
    → HomesFor w entries
reach_homes w before o [] says run = let here = homes_at w (issued before) o.keyed in
    record { home = here.home; apart = here.apart; first = here.first; along = here.at }
reach_homes w before o (x ∷ xs) says run =
    by_forged x.trace.happenings.forged refl (λ honest. reach_homes x.after (before ++ x ∷ []) (sound_on w before o x event run.2 honest) xs
    (All-tail IsEvent x.event (events_of xs) says) run.3)
  where
    event : IsEvent x.event
    event = All-head IsEvent x.event (events_of xs) says

    by_forged : (b : Bool) → x.trace.happenings.forged ≡ b → (x.trace.happenings.forged ≡ false → HomesFor x.after xs) → HomesFor w (x ∷ xs)
    by_forged true e more = let here = homes_at w (issued before) o.keyed in
        record { home = here.home; apart = here.apart; first = here.first; along = (here.at, λ honest. absurd (true_false (sym e ∙ honest))) }
    by_forged false e more =
        let rest = more e in
        record {
          home = rest.home;
          apart = rest.apart;
          first = rest.first;
          along = (homed_before w before o x event run.2 e rest.home (homed_here rest.home x.after xs rest.along), λ same. rest.along);
        }
