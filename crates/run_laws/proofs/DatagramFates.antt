-- The law of fates: by induction over a run.
use Rattle.std.proofs.Common.{◌≡◌, ◌⊎◌, ⊎_elim, inl, inr, ℕ, zero, suc, ◌+◌, ◌-◌, ◌<◌, false, List, [], ◌∷◌, ◌++◌, length, append-nil, Option, Some, None}
use Rattle.std.proofs.Common.{refl, sym, ap, ◌∙◌, subst, arith}
use Rattle.std.specs.Prelude.{All, AllPairs, slice_get}
use Rattle.std.proofs.lemmas.List.{append_assoc, length-append}
use Rattle.std.proofs.lemmas.List.Elements.{All-head, All-tail}
use Rattle.std.proofs.lemmas.Option.{none-some}
use Rattle.node_rules.specs.Ciphers.{network}
use Rattle.line_events.specs.Events.{AreEvents, IsEvent}
use Rattle.line_rules.specs.Forgery.{IsForgedRight}
use Rattle.line_rules.specs.Nonces.{HasAnotherNonce, NoncesDiffer}
use Rattle.line_rules.specs.Runs.{Entry, IsRun, NoneForged, events_of, issued, last_world, one_of, send_at, sends, takings, ups}
use Rattle.line_rules.specs.Traces.{CountsRight}
use Rattle.line_rules.specs.Worlds.{World, Sending, start}
use Rattle.line_laws.specs.Invariant.{HoldsAfterEach}
use Rattle.line_laws.specs.Later.{Holds}
use Rattle.line_laws.specs.Live.{FlightsAlwaysFall}
use Rattle.line_laws.specs.Tags.{TagRises}
use Rattle.line_laws.proofs.CustodyRuns.{at_number, number_at}
use Rattle.line_laws.proofs.IssueRuns.{all_of_one}
use Rattle.run_laws.specs.DatagramFates.{HaveFates}
use Rattle.run_laws.proofs.FateEvents.{Known}
use Rattle.run_laws.proofs.FateFlights.{last_push}
use Rattle.run_laws.proofs.FateFlown.{Ahead, calm_on}
use Rattle.run_laws.proofs.FateSends.{sent_now}
use Rattle.run_laws.proofs.FateSteps.{goes_on}

-- a send of a history with one event more is one from before, or that of the event
one_more : {A : Type 0} (xs : List A) (o : Option A) (k : ℕ) (x : A) → slice_get (xs ++ one_of o) k ≡ Some x
    → (slice_get xs k ≡ Some x) ⊎ ((k ≡ length xs) × (o ≡ Some x))
one_more [] None k x e = absurd (none-some x e)
one_more [] (Some y) zero x e = inr (refl, e)
one_more [] (Some y) (suc k) x e = absurd (none-some x e)
one_more (z ∷ xs) o zero x e = inl e
one_more {A = A} (z ∷ xs) o (suc k) x e =
    ⊎_elim (λ (h : slice_get xs k ≡ Some x). inl h) (λ (h : (k ≡ length xs) × (o ≡ Some x)). inr (ap suc h.0, h.1)) (one_more xs o k x e)

module _ (home : ℕ → ℕ) (apart : (i j : ℕ) → home i ≡ home j → i ≡ j) (all : List Sending) (rises : AllPairs TagRises all) where
  -- What holds of a world of the run, and of what led to it.
  pub record Reached (before : List Entry) (w : World) : Type 0 where
    pub holds : Holds (issued before) (sends before) (takings before) all home (ups before) w
    pub differ : AllPairs HasAnotherNonce w.flights
    pub ahead : Ahead before w
    pub count : w.sends ≡ length (sends before)
    pub have : HaveFates before w

  -- What is known of the events that follow.
  pub record Follow (before : List Entry) (w : World) (entries : List Entry) : Type 0 where
    pub says : AreEvents (events_of entries)
    pub run : IsRun network w entries
    pub honest : NoneForged entries
    pub holds : HoldsAfterEach all home before entries
    pub differ : NoncesDiffer entries
    pub right : IsForgedRight network w entries
    pub falls : FlightsAlwaysFall network w entries
    pub counts : CountsRight w entries

  module _ (before : List Entry) (w : World) (r : Reached before w) (x : Entry) (xs : List Entry) (f : Follow before w (x ∷ xs)) where
    honest : x.trace.happenings.forged ≡ false
    honest = All-head (λ (y : Entry). y.trace.happenings.forged ≡ false) x xs f.honest

    known : Known home all before w x
    known = record {
      holds = r.holds;
      differ = r.differ;
      says = All-head IsEvent x.event (events_of xs) f.says;
      step = f.run.2;
      honest = honest;
      right = f.right.0.1;
      falls = f.falls.0;
      after = (f.holds honest).0;
      differ_after = (f.differ honest).0;
    }

    sends_on : sends (before ++ x ∷ []) ≡ sends before ++ one_of x.trace.sent
    sends_on = all_of_one (λ d. one_of d.sent) before x

    have_on : HaveFates (before ++ x ∷ []) x.after
    have_on n s sent i lt =
        ⊎_elim
        (λ (e : slice_get (sends before) (n - 1) ≡ Some s).
        let was : send_at (sends before) n ≡ Some s = subst (λ m. send_at (sends before) m ≡ Some s) back (number_at (sends before) (n - 1) s e) in
        goes_on home apart all rises before w x known r.ahead n i some (r.have n s was i lt))
        (λ (e : (n - 1 ≡ length (sends before)) × (x.trace.sent ≡ Some s)).
        let number : w.sends + 1 ≡ n = let count = r.count in let first = e.0 in let low = some in omega arith in
        sent_now home apart all rises before w x known r.ahead n i s e.1 number lt)
        (one_more (sends before) x.trace.sent (n - 1) s (ap (λ ss. slice_get ss (n - 1)) (sym sends_on) ∙ at.1))
      where
        at : (0 < n) × (slice_get (sends (before ++ x ∷ [])) (n - 1) ≡ Some s)
        at = at_number (sends (before ++ x ∷ [])) n s sent

        some : 0 < n
        some = at.0

        back : n - 1 + 1 ≡ n
        back = let low = at.0 in omega arith

    reached_on : Reached (before ++ x ∷ []) x.after
    reached_on = record {
      holds = known.after;
      differ = known.differ_after;
      ahead = record { calm = calm_on home apart all rises before w x known r.ahead; ends = last_push start before x };
      count = f.counts.0.sends ∙ ap (λ m. m + length (one_of x.trace.sent)) r.count ∙ sym (length-append (sends before) (one_of x.trace.sent))
          ∙ ap length (sym sends_on);
      have = have_on;
    }

    follow_on : Follow (before ++ x ∷ []) x.after xs
    follow_on = record {
      says = All-tail IsEvent x.event (events_of xs) f.says;
      run = f.run.3;
      honest = All-tail (λ (y : Entry). y.trace.happenings.forged ≡ false) x xs f.honest;
      holds = (f.holds honest).1;
      differ = (f.differ honest).1;
      right = f.right.1;
      falls = f.falls.1 honest;
      counts = f.counts.1;
    }

  pub all_have : (before : List Entry) (w : World) → Reached before w → (entries : List Entry) → Follow before w entries
      → HaveFates (before ++ entries) (last_world w entries)
  all_have before w r [] f = subst (λ es. HaveFates es w) (sym (append-nil before)) r.have
  all_have before w r (x ∷ xs) f =
      subst (λ es. HaveFates es (last_world x.after xs)) (append_assoc before (x ∷ []) xs)
      (all_have (before ++ x ∷ []) x.after (reached_on before w r x xs f) xs (follow_on before w r x xs f))

-- nothing was sent before the first event
pub at_start : (home : ℕ → ℕ) (apart : (i j : ℕ) → home i ≡ home j → i ≡ j) (all : List Sending) (rises : AllPairs TagRises all)
    → Holds [] [] [] all home [] start → Reached home apart all rises [] start
at_start home apart all rises holds = record {
  holds = holds;
  differ = λ i j d lt within. absurd (omega arith);
  ahead = record { calm = tt; ends = refl };
  count = refl;
  have = λ n s sent i lt. absurd (none-some s (at_number [] n s sent).1);
}
