-- The invariant along a run: what the accounts of routes, flights, senders, tags and custody keep, side by side.
use Rattle.std.proofs.Common.{◌≡◌, ℕ, ◌<◌, false, List, [], ◌∷◌, ◌++◌, length, Ok, refl, sym, subst, arith}
use Rattle.std.specs.Prelude.{All, AllPairs}
use Rattle.std.proofs.lemmas.List.Elements.{All-head, All-nil, All-tail}
use Rattle.node_rules.specs.Ciphers.{network}
use Rattle.line_events.specs.Events.{AreEvents, IsEvent}
use Rattle.line_rules.specs.Nonces.{IsSpelled}
use Rattle.line_rules.specs.Runs.{Entry, IsRun, events_of, issued, one_of, sends as sends_of, takings, ups as ups_of}
use Rattle.line_rules.specs.Traces.{AreTracedRight, CountsRight}
use Rattle.line_rules.specs.Worlds.{World, Sending, start}
use Rattle.line_laws.specs.FurtherLines.{FlightsSpelled}
use Rattle.line_laws.specs.Invariant.{EveryRunHoldsThroughout, HoldsAfterEach}
use Rattle.line_laws.specs.Later.{Holds}
use Rattle.line_laws.specs.LineAccounts.{TagsIn}
use Rattle.line_laws.specs.Tags.{TagRises, TagsOk}
use Rattle.line_laws.proofs.AddressBook.{Grows}
use Rattle.line_laws.proofs.CustodyHomes.{HomedAlong}
use Rattle.line_laws.proofs.FurtherHomes.{reach_homes}
use Rattle.line_laws.proofs.FurtherLoops.{Routed, routed_on}
use Rattle.line_laws.proofs.FurtherOctets.{every_flight}
use Rattle.line_laws.proofs.FurtherRanges.{line_steps_spell}
use Rattle.line_laws.proofs.FurtherStates.{start_sound}
use Rattle.line_laws.proofs.FurtherTags.{line_tags_rise}
use Rattle.line_laws.proofs.FurtherUps.{Guarded, all_sends, guarded_on, start_guarded}
use Rattle.line_laws.proofs.Homes.{at_length}
use Rattle.line_laws.proofs.IssueRuns.{all_of_one}
use Rattle.line_laws.proofs.LawRuns.{every_count, every_send, every_tag, every_trace}
use Rattle.line_laws.proofs.LineRuns.{AreLawful, Lawful, books_on, lawful, on, senders_at}
use Rattle.line_laws.proofs.LoopRuns.{start_routed}
use Rattle.line_laws.proofs.NonceRuns.{AtHome, later_homes}
use Rattle.line_laws.proofs.StorableGrants.{network_ranges}
use Rattle.line_laws.proofs.TagRuns.{start_tags}

-- What the accounts hold of a world that was reached with no event forged.
record Held (home : ℕ → ℕ) (apart : (i j : ℕ) → home i ≡ home j → i ≡ j) (first : home 0 ≡ 0) (sent : List Sending) (rises : AllPairs TagRises sent)
    (some : All (λ (s : Sending). 0 < length s.datagram) sent) (w : World) (before : List Entry) : Type 0 where
  routed : Routed w before
  spelled : All (IsSpelled network) w.flights
  senders : All (AtHome routed.sound.keyed.book w) w.flights
  tags : TagsOk w (sends_of before)
  guarded : Guarded home apart first sent rises some w before

module _ (home : ℕ → ℕ) (apart : (i j : ℕ) → home i ≡ home j → i ≡ j) (first : home 0 ≡ 0) (sent : List Sending) (rises : AllPairs TagRises sent)
    (some : All (λ (s : Sending). 0 < length s.datagram) sent) where
  abbrev HeldAt : World → List Entry → Type 0
  HeldAt w before = Held home apart first sent rises some w before

  holds_at : (w : World) (before : List Entry) → HeldAt w before → Holds (issued before) (sends_of before) (takings before) sent home (ups_of before) w
  holds_at w before h = record {
    line = h.routed.sound.stands.ok;
    octets = h.routed.sound.stands.speaks.flights;
    spelled = h.spelled;
    ranged = h.routed.sound.ranged;
    keyed = h.routed.sound.keyed;
    senders = h.senders;
    joinings = h.routed.sound.confirmed;
    routes = h.routed.routes;
    tags = h.tags;
    custody = h.guarded.custody;
  }

  module _ (w : World) (before : List Entry) (h : HeldAt w before) (x : Entry) (xs : List Entry) (says : AreEvents (events_of (x ∷ xs)))
      (run : IsRun network w (x ∷ xs)) (l : Lawful network w x) (same : sent ≡ sends_of before ++ sends_of (x ∷ xs))
      (homed : HomedAlong home w (x ∷ xs)) (counts : CountsRight w (x ∷ xs)) (traced : AreTracedRight w (x ∷ xs))
      (honest : x.trace.happenings.forged ≡ false) where
    routed_next : Routed x.after (before ++ x ∷ [])
    routed_next = routed_on w before h.routed x (All-head IsEvent x.event (events_of xs) says) run.2 honest

    spelled_next : All (IsSpelled network) x.after.flights
    spelled_next =
        let b = l.before in
        let is : FlightsSpelled network (Ok (x.after, x.trace)) =
        subst (FlightsSpelled network) l.step (line_steps_spell network network_ranges w b.ok b.flown b.logs h.spelled x.event l.says) in
        is

    senders_next : All (AtHome routed_next.sound.keyed.book x.after) x.after.flights
    senders_next =
        let k = h.routed.sound.keyed in
        let kv = routed_next.sound.keyed in
        let goes = on network network_ranges w x l in
        let later = books_on network network_ranges w x l (issued before) k in
        let book : 0 < length w.nodes → Grows k.book kv.book = λ some.
        let nodes = goes.nodes in
        let c = at_length x.after.nodes 0 (omega arith) in
        (later some).grows c.one c.is kv.book (kv.coordinator c.one c.is).book_kept in
        later_homes w x.after (issued before) (issued (before ++ x ∷ [])) k kv l.after.ok book (λ some. (later some).euis) goes.flights
        l.before.ok.rising.homes h.senders (senders_at network network_ranges w x l)

    tags_next : TagsOk x.after (sends_of (before ++ x ∷ []))
    tags_next =
        let b = l.before in
        let next : TagsOk x.after (sends_of before ++ one_of x.trace.sent) =
        subst (TagsIn (sends_of before)) l.step (line_tags_rise network network_ranges w b.ok b.flown b.logs (sends_of before) h.tags l.few x.event l.says) in
        subst (TagsOk x.after) (sym (all_of_one (λ d. one_of d.sent) before x)) next

    held_on : HeldAt x.after (before ++ x ∷ [])
    held_on = record {
      routed = routed_next;
      spelled = spelled_next;
      senders = senders_next;
      tags = tags_next;
      guarded = guarded_on home apart first sent rises some w before h.routed.sound h.guarded x xs says run same homed counts traced honest;
    }

    all_next : sent ≡ sends_of (before ++ x ∷ []) ++ sends_of xs
    all_next = all_sends home apart first sent rises some w before h.routed.sound h.guarded x xs says run same homed counts traced honest

  holds_from : (w : World) (before : List Entry) → HeldAt w before → (entries : List Entry) → AreEvents (events_of entries) → IsRun network w entries
      → AreLawful network w entries → sent ≡ sends_of before ++ sends_of entries → HomedAlong home w entries → CountsRight w entries
      → AreTracedRight w entries → HoldsAfterEach sent home before entries
  holds_from w before h [] says run l same homed counts traced = tt
  holds_from w before h (x ∷ xs) says run l same homed counts traced = λ honest.
      let next = held_on w before h x xs says run l.0 same homed counts traced honest in (
        holds_at x.after (before ++ x ∷ []) next,
        holds_from x.after (before ++ x ∷ []) next xs (All-tail IsEvent x.event (events_of xs) says) run.3 l.1
            (all_next w before h x xs says run l.0 same homed counts traced honest) (homed.1 honest) counts.1 traced.1,
      )

-- in every run of the network
pub every_run_throughout : EveryRunHoldsThroughout
every_run_throughout entries r =
    let fly = every_flight entries r in
    let rises = every_tag network network_ranges entries r fly in
    let some = every_send network entries r in
    let h = reach_homes start [] start_sound entries r.events r.run in
    record {
      home = h.home;
      apart = h.apart;
      first = h.first;
      holds = holds_from h.home h.apart h.first (sends_of entries) rises some start []
          (record {
            routed = record { sound = start_sound; routes = start_routed start_sound.keyed.book };
            spelled = All-nil (IsSpelled network);
            senders = All-nil (AtHome start_sound.keyed.book start);
            tags = start_tags;
            guarded = start_guarded h.home h.apart h.first (sends_of entries) rises some;
          })
          entries r.events r.run (lawful network network_ranges entries r fly) refl h.along (every_count network entries r) (every_trace network entries r);
    }
