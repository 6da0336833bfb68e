-- What a run of the network with further reach hands up before it is forged was sent, and nothing is handed up twice, where its traces are right.
use Rattle.std.proofs.Common.{zero-le, ◌≡◌, ℕ, ◌+◌, ◌<◌, false, List, [], ◌∷◌, ◌++◌, length, Option, Some, None, append-nil, true, refl, sym, ap, ◌∙◌, subst}
use Rattle.std.proofs.Common.{arith}
use Rattle.std.specs.Prelude.{◌&&◌, not, All, AllPairs, IfSome, is_some, slice_get}
use Rattle.std.specs.Option.{option_to_list}
use Rattle.std.proofs.lemmas.List.{append_assoc, length-append}
use Rattle.std.proofs.lemmas.List.Elements.{All-head, All-nil, All-push, All-tail}
use Rattle.node_rules.specs.Ciphers.{network}
use Rattle.node_rules.proofs.NetworkOpens.{network_opens_again}
use Rattle.line_events.specs.declared.event.Event.{Event}
use Rattle.line_events.specs.declared.happenings.Handed.{Handed}
use Rattle.line_events.specs.Events.{AreEvents, IsEvent}
use Rattle.line_rules.specs.Runs.{Entry, IsRun, events_of, one_of, sends as sends_of, ups as ups_of}
use Rattle.line_rules.specs.SafeRuns.{IsNew, WasSent}
use Rattle.line_rules.specs.Traces.{AreTracedRight, ComesTo, CountsRight, is_broadcast, is_up}
use Rattle.line_rules.specs.Steps.{is_taken}
use Rattle.line_rules.specs.Worlds.{World, Issued, Sending, start}
use Rattle.pan_discovery.specs.Messages.{IsDiscovery}
use Rattle.line_laws.specs.InCustody.{Custody, FlightIsOf, SentUnder, sent_as}
use Rattle.line_laws.specs.SealedUnits.{IsFlight}
use Rattle.line_laws.specs.Keyed.{Keyed}
use Rattle.line_laws.specs.Lines.{WorldOk}
use Rattle.line_laws.specs.Live.{live}
use Rattle.line_laws.specs.Places.{LiveFalls}
use Rattle.line_laws.specs.Ranges.{NodeRanged}
use Rattle.line_laws.specs.Tags.{TagRises}
use Rattle.line_laws.specs.Ups.{EveryDatagramWasSent, UpsAreSentAfter}
use Rattle.line_laws.proofs.CustodyHomes.{HomedAlong, homed_here}
use Rattle.line_laws.proofs.CustodyRuns.{After, is_new, none_lists, noted, number_at, slice_middle, was_sent}
use Rattle.line_laws.proofs.FurtherAddresses.{moved_falls}
use Rattle.line_laws.proofs.FurtherCustody.{Done, entry_of, line_done}
use Rattle.line_laws.proofs.FurtherHomes.{falls, reach_homes}
use Rattle.line_laws.proofs.FurtherOctets.{every_flight}
use Rattle.line_laws.proofs.FurtherSeals.{IsOne}
use Rattle.line_laws.proofs.FurtherStepKinds.{Moves}
use Rattle.line_laws.proofs.FurtherStates.{Sound, sound_on, start_sound}
use Rattle.line_laws.proofs.IssueRuns.{all_of_one}
use Rattle.line_laws.proofs.LawRuns.{every_count, every_send, every_tag, every_trace}
use Rattle.line_laws.proofs.StorableGrants.{network_ranges}
use Rattle.line_laws.proofs.UpsSent.{owed_at}

none_some : {A : Type 0} (x : A) → None ≡ Some x → ⊥
none_some x e = cc

pub one_list : {A : Type 0} (o : Option A) → option_to_list o ≡ one_of o
one_list None = refl
one_list (Some a) = refl

-- where nodes only do things by themselves, no flight comes to life
moved_so : (v u : World) → Moves IsOne IsDiscovery network v u → WorldOk v → v.running ≡ true → (given : List Issued) → Keyed v given → Keyed u given
    → LiveFalls live v u None
moved_so v u moves fine runs given kv ku = moved_falls IsOne IsDiscovery network network_ranges v u moves fine runs given given kv ku

module _ (home : ℕ → ℕ) (apart : (i j : ℕ) → home i ≡ home j → i ≡ j) (first : home 0 ≡ 0) (sent : List Sending) (rises : AllPairs TagRises sent)
    (some : All (λ (s : Sending). 0 < length s.datagram) sent) where
  -- a datagram that was handed up has a note and octets
  abbrev IsNoted : Handed → Type 0
  IsNoted u = (0 < u.note) × (0 < length u.octets)

  abbrev AfterIt : World → Event → List Handed → World → Option Handed → Type 0
  AfterIt w event before v up = After network network_opens_again network_ranges live (λ w f e. e) home apart sent rises some w event before v up

  -- the send of an event, by its number
  pub sent_under : (w : World) (before : List Entry) (x : Entry) (xs : List Entry) → w.sends ≡ length (sends_of before)
      → sent ≡ sends_of before ++ sends_of (x ∷ xs) → (s : Sending) → x.trace.sent ≡ Some s → SentUnder home sent (w.sends + 1) (sent_as home s)
  sent_under w before x xs count same s e =
      let all_sends : sent ≡ sends_of before ++ s ∷ sends_of xs = same ∙ ap (λ (q : Option Sending). sends_of before ++ (one_of q ++ sends_of xs)) e in
      let there : slice_get sent (length (sends_of before)) ≡ Some s = ap (λ ss. slice_get ss (length (sends_of before))) all_sends
      ∙ slice_middle (sends_of before) (sends_of xs) s in
      record { sending = s; is = number_at sent w.sends s (ap (slice_get sent) count ∙ there); of = refl }

  -- What holds of custody before an event of a run that goes on.
  pub record Guarded (w : World) (before : List Entry) : Type 0 where
    pub count : w.sends ≡ length (sends_of before)
    pub custody : Custody network live (SentUnder home sent) home w (ups_of before)
    pub noted : All IsNoted (ups_of before)

  module _ (w : World) (before : List Entry) (o : Sound w before) (g : Guarded w before) (x : Entry) (xs : List Entry)
      (says : AreEvents (events_of (x ∷ xs))) (run : IsRun network w (x ∷ xs)) (same : sent ≡ sends_of before ++ sends_of (x ∷ xs))
      (homed : HomedAlong home w (x ∷ xs)) (counts : CountsRight w (x ∷ xs)) (traced : AreTracedRight w (x ∷ xs))
      (honest : x.trace.happenings.forged ≡ false) where
    -- what the event leaves
    left : AfterIt w x.event (ups_of before) x.after x.trace.happenings.up
    left =
        let event = All-head IsEvent x.event (events_of xs) says in
        let done = subst (Done live (λ w f e. e) home apart sent rises some w (ups_of before) g.custody o.stands.ok o.stands.speaks o.ranged before o.keyed
        first homed.0 moved_so (λ v f h. h) x.event)
        run.2
        (line_done live (λ w f e. e) home apart sent rises some w (ups_of before) g.custody o.stands.ok o.stands.speaks o.ranged before o.keyed first homed.0
        moved_so (λ v f h. h) o.stands.logs x.event event
        (λ q is. owed_at w before (record { ok = o.stands.ok; speaks = o.stands.speaks; ranged = o.ranged; keyed = o.keyed }) (entry_of x.event q) event is))
        in
        done (falls w before o x event run.2 honest) (homed_here home x.after xs (homed.1 honest)) traced.0.up_at (sent_under w before x xs g.count same) honest

    -- the sends and what was handed up after it
    pub sends_now : sends_of (before ++ x ∷ []) ≡ sends_of before ++ one_of x.trace.sent
    sends_now = all_of_one (λ d. one_of d.sent) before x

    pub all_sends : sent ≡ sends_of (before ++ x ∷ []) ++ sends_of xs
    all_sends = same ∙ sym (append_assoc (sends_of before) (one_of x.trace.sent) (sends_of xs)) ∙ ap (λ (ss : List Sending). ss ++ sends_of xs) (sym sends_now)

    pub guarded_on : Guarded x.after (before ++ x ∷ [])
    guarded_on =
        let longer = length-append (sends_of before) (one_of x.trace.sent) in
        let adds = counts.0.sends in
        let length_now : length (sends_of (before ++ x ∷ [])) ≡ length (sends_of before ++ one_of x.trace.sent) = ap length sends_now in
        let ups_now : ups_of before ++ option_to_list x.trace.happenings.up ≡ ups_of (before ++ x ∷ []) =
        ap (λ (us : List Handed). ups_of before ++ us) (one_list x.trace.happenings.up) ∙ sym (all_of_one (λ d. one_of d.happenings.up) before x) in
        let was = g.count in
        record {
          count = omega arith;
          custody = subst (Custody network live (SentUnder home sent) home x.after) ups_now left.custody;
          noted = subst (All IsNoted) ups_now (all_noted x.trace.happenings.up left);
        }
      where
        all_noted : (p : Option Handed) → AfterIt w x.event (ups_of before) x.after p → All IsNoted (ups_of before ++ option_to_list p)
        all_noted None h = subst (All IsNoted) (sym (append-nil (ups_of before))) g.noted
        all_noted (Some u) h =
            All-push IsNoted (ups_of before) u g.noted (noted network network_opens_again network_ranges live (λ w f e. e) home apart sent rises
            some w x.event u (h.handed u refl))

    -- what it hands up was sent, and not handed up before
    up_here : IfSome x.trace.happenings.up (λ (up : Handed). WasSent up (sends_of before) × IsNew up (ups_of before))
    up_here = by_up x.trace.happenings.up refl left traced.0.sent traced.0.up traced.0.up_at counts.0.sends
      where
        by_up : (p : Option Handed) → x.trace.happenings.up ≡ p → AfterIt w x.event (ups_of before) x.after p
            → is_some x.trace.sent ≡ (is_taken x.trace.happenings.answer && not (is_broadcast x.event)) → is_some p ≡ is_up x.trace.happenings.answer
            → IfSome p (λ (u : Handed). ComesTo x.event u.node)
            → x.after.sends ≡ w.sends + length (one_of x.trace.sent) → IfSome p (λ (up : Handed). WasSent up (sends_of before) × IsNew up (ups_of before))
        by_up None e h st ut at adds = tt
        by_up (Some u) e h st ut at adds =
            let none : x.trace.sent ≡ None = none_lists network network_opens_again network_ranges live (λ w f e. e) home apart sent rises some x.trace.sent
            (Some u) x.trace.happenings.answer (not (is_broadcast x.event)) st ut u refl in
            let zero_more : length (one_of x.trace.sent) ≡ 0 = ap (λ (q : Option Sending). length (one_of q)) none in
            let count = g.count in
            let up = h.handed u refl in (
              was_sent network network_opens_again network_ranges live (λ w f e. e) home apart sent rises some w x.after x.event u (ups_of before)
                  (sends_of before) (sends_of (x ∷ xs)) same (omega arith) up at h.custody,
              is_new network network_opens_again network_ranges live (λ w f e. e) home apart sent rises some x.after u (ups_of before) g.noted
                  (noted network network_opens_again network_ranges live (λ w f e. e) home apart sent rises some w x.event u up) h.custody,
            )

  ups_from : (w : World) (before : List Entry) → Sound w before → Guarded w before → (entries : List Entry) → AreEvents (events_of entries)
      → IsRun network w entries → sent ≡ sends_of before ++ sends_of entries → HomedAlong home w entries → CountsRight w entries → AreTracedRight w entries
      → UpsAreSentAfter before entries
  ups_from w before o g [] says run same homed counts traced = tt
  ups_from w before o g (x ∷ xs) says run same homed counts traced = λ honest. (
    up_here w before o g x xs says run same homed counts traced honest,
    ups_from x.after (before ++ x ∷ []) (sound_on w before o x (All-head IsEvent x.event (events_of xs) says) run.2 honest)
        (guarded_on w before o g x xs says run same homed counts traced honest) xs (All-tail IsEvent x.event (events_of xs) says) run.3
        (all_sends w before o g x xs says run same homed counts traced honest) (homed.1 honest) counts.1 traced.1,
  )

-- before the first event nothing was sent
pub start_guarded : (home : ℕ → ℕ) (apart : (i j : ℕ) → home i ≡ home j → i ≡ j) (first : home 0 ≡ 0) (sent : List Sending)
    (rises : AllPairs TagRises sent) (some : All (λ (s : Sending). 0 < length s.datagram) sent)
    → Guarded home apart first sent rises some start []
start_guarded home apart first sent rises some = record {
  count = refl;
  custody = record {
    flights = All-nil (IsFlight network);
    ranged = All-nil NodeRanged;
    sent = All-nil (FlightIsOf network (SentUnder home sent));
    nodes = λ number x e. absurd (none_some x e);
    places = record { at_most = λ n i some. zero-le };
  };
  noted = All-nil (λ (u : Handed). (0 < u.note) × (0 < length u.octets));
}

-- in every run of the network
pub every_up : EveryDatagramWasSent
every_up entries r =
    let fly = every_flight entries r in
    let rises = every_tag network network_ranges entries r fly in
    let some = every_send network entries r in
    let h = reach_homes start [] start_sound entries r.events r.run in
    ups_from h.home h.apart h.first (sends_of entries) rises some start [] start_sound
    (start_guarded h.home h.apart h.first (sends_of entries) rises some) entries r.events r.run refl h.along (every_count network entries r)
    (every_trace network entries r)
