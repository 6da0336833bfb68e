-- Why a counter was refused: which frame raised the mark.
use Rattle.std.specs.Prelude.{ℕ, ◌==◌, ◌||◌, Bool, nat_le, List, [], ◌∷◌, codes, Option, None, Some, if◌then◌else◌}
use Rattle.std.specs.List.{find}
use Rattle.node_rules.specs.declared.shown.ShownPeer.{ShownPeer}
use Rattle.sentence_parts.specs.declared.part.Part.TheVariants.{Words, Number, Node, Place}
use Rattle.sentence_parts.specs.Parts.{parts_text}
use Rattle.event_sentences.specs.declared.heard.Heard.{Heard}
use Rattle.event_sentences.specs.declared.watch.Coming.{Coming}
use Rattle.line_record.specs.Counters.{flight_with}
use Rattle.event_sentences.specs.Scenes.{Scene}
use Rattle.event_sentences.specs.Watches.{Watched, coming_of, never_came}

-- # What is known of the node

abbrev pub is_from : ℕ → ShownPeer → Bool
is_from from peer = peer.from == from

abbrev pub mark_by : Option ShownPeer → Option ℕ
mark_by None = None
mark_by (Some peer) = Some peer.mark

-- the greatest counter that was accepted from a sender, or the stored one after a restart
abbrev pub mark : ℕ → Scene → Option ℕ
mark from s = mark_by (find (is_from from) s.shown.peers)

abbrev pub coming_by : ℕ → Option Watched → Coming
coming_by flight None = never_came
coming_by flight (Some watched) = coming_of flight watched.comings

abbrev pub restart_by : Option Watched → ℕ
restart_by None = 0
restart_by (Some watched) = watched.restarted

-- the event at which a flight came first, 0 where it never did or has no number of 32 bits
abbrev pub first_coming : ℕ → Scene → ℕ
first_coming flight s = if (flight == 0) || nat_le 4294967296 flight then 0 else (coming_by flight s.watch).first

-- # Sentences

abbrev pub seen_text : ℕ → List ℕ
seen_text mark = parts_text (Words (codes ": its mark is ") ∷ Number mark ∷ [])

abbrev pub since_restart_text : ℕ → ℕ → List ℕ
since_restart_text restart mark =
    parts_text
    (Words (codes ": since its restart (event ") ∷ Number restart ∷ Words (codes ") it takes none up to ") ∷ Number mark ∷ [])

abbrev pub restart_text : ℕ → ℕ → List ℕ
restart_text restart mark = if restart == 0 then seen_text mark else since_restart_text restart mark

-- the mark of the store since the last restart
abbrev pub stored_text : ℕ → Scene → List ℕ
stored_text mark s = restart_text (restart_by s.watch) mark

-- the flight with this counter, where it came before
abbrev pub overtaken_by : ℕ → ℕ → ℕ → Scene → List ℕ
overtaken_by other came mark s =
    if came == 0 then stored_text mark s
    else parts_text
    (Words (codes ": its mark is ") ∷ Number mark ∷ Words (codes " (flight ") ∷ Number other ∷ Words (codes ", event ") ∷ Number came
    ∷ Words (codes ", overtook it)") ∷ [])

abbrev pub overtaken_text : ℕ → ℕ → Scene → List ℕ
overtaken_text from mark s = overtaken_by (flight_with from mark s.counters) (first_coming (flight_with from mark s.counters) s) mark s

-- the same flight, where it was taken before
abbrev pub came_already_text : ℕ → ℕ → List ℕ
came_already_text before mark =
    parts_text
    (Words (codes ": its mark is ") ∷ Number mark ∷ Words (codes " (this flight came at event ") ∷ Number before ∷ Words (codes " already)") ∷ [])

abbrev pub came_at : ℕ → Heard → ℕ → Scene → List ℕ
came_at before heard mark s = if before == 0 then overtaken_text heard.more.from mark s else came_already_text before mark

abbrev pub came_before_text : Heard → ℕ → Scene → List ℕ
came_before_text heard mark s = came_at (coming_by heard.flight s.watch).taken heard mark s

-- which frame raised the mark: of octets that no node sent nothing is known
abbrev pub who_raised_text : Heard → ℕ → Scene → List ℕ
who_raised_text heard mark s = if heard.flight == 0 then seen_text mark else came_before_text heard mark s

abbrev pub raised_by : Option ℕ → Heard → Scene → List ℕ
raised_by None heard s = parts_text []
raised_by (Some mark) heard s = who_raised_text heard mark s

abbrev pub why_replayed_text : Heard → Scene → List ℕ
why_replayed_text heard s = raised_by (mark heard.more.from s) heard s

abbrev pub replayed_text : Heard → Scene → List ℕ
replayed_text heard s =
    parts_text
    (Node s.node ∷ Words (codes " refuses counter ") ∷ Number heard.more.counter ∷ Words (codes " of ") ∷ Place heard.by
    ∷ Words (why_replayed_text heard s) ∷ [])
