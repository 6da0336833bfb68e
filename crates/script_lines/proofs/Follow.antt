-- How a run goes from line to line, and how it ends.
use Rattle.std.proofs.Common.{◌≡◌, inl, inr, ℕ, ◌<◌, ◌≤◌, Bool, true, false, List, [], ◌++◌, length, None, Some, Ok, Err, Result, IsTrue, refl, sym, ◌∙◌, ap}
use Rattle.std.proofs.Common.{subst}
use Rattle.std.proofs.Common.{append_assoc, length-append, arith, ◌+◌}
use Rattle.std.proofs.lemmas.List.{append-nil}
use Rattle.std.proofs.KnownBytes.{Appends-nil, Appends-trans}
use Rattle.std.specs.declared.option.Option.{Option}
use Rattle.std.specs.Io.KnownBytes.{Appends}
use Rattle.plc_base.specs.declared.streams.Failed.{Failed}
use Rattle.plc_base.specs.Causes.{Rose}
use Rattle.plc_base.specs.Streams.{SourceState, SinkState, Gives, SourceFaults, SinkFaults, PlansRoomFor, IsPrefixOf}
use Rattle.plc_base.proofs.SourceLemmas.{gives_none, gives_both, no_reads, both_reads}
use Rattle.plc_base.proofs.SinkLemmas.{wrote_nothing, wrote_both, spared}
use Rattle.script_lines.specs.declared.input.LineKind.{LineKind}
use Rattle.script_lines.specs.declared.input.LineKind.TheVariants as kinds
use Rattle.script_lines.specs.declared.machine.Exit.TheVariants as exits
use Rattle.script_lines.specs.declared.text_output.StopReason.{StopReason}
use Rattle.script_lines.specs.declared.text_output.StopReason.TheVariants as reasons
use Rattle.script_lines.specs.declared.window.TheConstants.{WINDOW}
use Rattle.script_lines.specs.Lines.{Content, TooMuch, Line, lines_from, lines}
use Rattle.script_lines.specs.Next.{content_found, MayFollow, Advances, NextLine}
use Rattle.script_lines.specs.Outcomes.{Turn, Skips, Takes, Stops, Ended, Open, Outcome, outcome_turn, outcome_from, outcome, StopsShortOf, BreaksOff}
use Rattle.script_lines.specs.Clauses.{IsWritten, IsWrittenBy, turn_text, GoesOn, IsStop, Turned, TurnedBy, exit_of, Comes, Drives}
use Rattle.script_lines.proofs.Turns.{line_outcome, no_lines, no_lines_yet, goes_text, goes_ending, goes_no_stop, stops_text, stops_ending, turn_front}
use Rattle.script_lines.proofs.Turns.{front_of_front, front_behind}
use Rattle.script_lines.proofs.BreakingOff.{BreaksFrom, breaks_here, breaks_later, breaks_off}

pub next_at : {source0 source1 : SourceState} {seen0 count0 : ℕ} {window0 : List ℕ} {ended0 : Bool} {seen1 count1 : ℕ} {window1 : List ℕ} {ended1 : Bool}
    {line : List ℕ} {r : Option LineKind} → NextLine source0 source1 seen0 count0 window0 ended0 seen1 count1 window1 ended1 line (Ok r) → (q : Option LineKind)
    → r ≡ q → NextLine source0 source1 seen0 count0 window0 ended0 seen1 count1 window1 ended1 line (Ok q)
next_at {source0} {source1} {seen0} {count0} {window0} {ended0} {seen1} {count1} {window1} {ended1} {line} n q is =
    subst (λ o. NextLine source0 source1 seen0 count0 window0 ended0 seen1 count1 window1 ended1 line (Ok o)) is n

-- a count that did not fall before it rose has risen
rose_then : {before middle after : ℕ} → before ≤ middle → Rose middle after → Rose before after
rose_then later rose = omega (arith, later, rose)

whole_of : (text : List ℕ) → IsPrefixOf text text
whole_of text = record { rest = []; whole = sym (append-nil text) }

-- where there was room for the whole, neither writing failed
none_failed : {sink0 sink1 sink2 : SinkState} (w text whole : List ℕ) → SinkFaults sink0 sink1 (length w) → SinkFaults sink1 sink2 (length text)
    → IsPrefixOf (w ++ text) whole → PlansRoomFor (length whole) sink0.plan → sink2.faults ≡ sink0.faults
none_failed w text whole f g p =
    spared (length whole) (length w + length text) (omega (arith, ap length p.whole, length-append (w ++ text) p.rest, length-append w text))
    (wrote_both (length w) (length text) f g)

module _ {M : Type 0} (turn : M → ℕ → Content → Turn M) (end_text : M → List ℕ) (first : M) where
  abbrev rest_of : M → ℕ → ℕ → List ℕ → Bool → Outcome M
  rest_of m seen count octets e = outcome_from turn end_text m (lines_from seen count [] octets e) e

  -- What was read and written so far: whatever comes, the outcome of all is what was written, and the outcome of the rest.
  pub record SoFar (source0 source1 : SourceState) (sink0 sink1 : SinkState) (m : M) (seen count : ℕ) (window : List ℕ) (ended : Bool) : Type 0 where
    pub b : List ℕ
    pub w : List ℕ
    pub gave : Gives source0 source1 b
    pub wrote : Appends sink0.taken sink1.taken w
    pub source : SourceFaults source0 source1
    pub sink : SinkFaults sink0 sink1 (length w)
    pub text : (more : List ℕ) (e : Bool) → MayFollow ended more e
        → (outcome turn end_text first (b ++ more) e).text ≡ w ++ (outcome_from turn end_text m (lines_from seen count [] (window ++ more) e) e).text
    pub ending : (more : List ℕ) (e : Bool) → MayFollow ended more e
        → (outcome turn end_text first (b ++ more) e).ending ≡ (outcome_from turn end_text m (lines_from seen count [] (window ++ more) e) e).ending
    -- where the report of the rest breaks off, there the report of all does
    pub breaks : (v more : List ℕ) (e : Bool) → MayFollow ended more e
        → BreaksFrom turn end_text WINDOW m (lines_from seen count [] (window ++ more) e) e v
        → BreaksFrom turn end_text WINDOW first (lines (b ++ more) e) e (w ++ v)

  pub so_far_none : (source : SourceState) (sink : SinkState) (seen count : ℕ) (window : List ℕ) (ended : Bool) → seen ≡ 0 → count ≡ 0 → window ≡ []
      → SoFar source source sink sink first seen count window ended
  so_far_none source sink seen count window ended seen_is count_is none = record {
    b = [];
    w = [];
    gave = gives_none source;
    wrote = Appends-nil sink.taken;
    source = no_reads source;
    sink = wrote_nothing sink;
    text = λ more e may. rw (seen_is, count_is, none) refl;
    ending = λ more e may. rw (seen_is, count_is, none) refl;
    breaks = λ v more e may b. rw (seen_is, count_is, none) at b;
  }

  module _ {source0 source1 source2 : SourceState} {sink0 sink1 : SinkState} {m0 : M} {seen0 count0 : ℕ} {window0 : List ℕ} {ended0 : Bool}
      (stops : (m : M) (number : ℕ) → IsStop (turn m number TooMuch)) (s : SoFar source0 source1 sink0 sink1 m0 seen0 count0 window0 ended0) {seen1 count1 : ℕ}
      {window1 : List ℕ} {ended1 : Bool} {line : List ℕ} where
    module _ {result : Result (Option LineKind) Failed} (n : NextLine source1 source2 seen0 count0 window0 ended0 seen1 count1 window1 ended1 line result) where
      gave_all : Gives source0 source2 (s.b ++ n.octets)
      gave_all = gives_both s.b n.octets s.gave n.gave

      -- what may come now may have come then
      may_before : (more : List ℕ) (e : Bool) → MayFollow ended1 more e → MayFollow ended0 (n.octets ++ more) e
      may_before more e may over = let was = n.still over in let is = may was.1 in (ap (λ (l : List ℕ). l ++ more) was.0 ∙ is.0, is.1)

      text_now : (more : List ℕ) (e : Bool) → MayFollow ended1 more e
          → (outcome turn end_text first ((s.b ++ n.octets) ++ more) e).text ≡ s.w ++ (rest_of m0 seen0 count0 (window0 ++ (n.octets ++ more)) e).text
      text_now more e may =
          ap (λ (l : List ℕ). (outcome turn end_text first l e).text) (append_assoc s.b n.octets more) ∙ s.text (n.octets ++ more) e (may_before more e may)

      ending_now : (more : List ℕ) (e : Bool) → MayFollow ended1 more e
          → (outcome turn end_text first ((s.b ++ n.octets) ++ more) e).ending ≡ (rest_of m0 seen0 count0 (window0 ++ (n.octets ++ more)) e).ending
      ending_now more e may = ap (λ (l : List ℕ). (outcome turn end_text first l e).ending) (append_assoc s.b n.octets more)
          ∙ s.ending (n.octets ++ more) e (may_before more e may)

      breaks_now : (v more : List ℕ) (e : Bool) → MayFollow ended1 more e
          → BreaksFrom turn end_text WINDOW m0 (lines_from seen0 count0 [] (window0 ++ (n.octets ++ more)) e) e v
          → BreaksFrom turn end_text WINDOW first (lines ((s.b ++ n.octets) ++ more) e) e (s.w ++ v)
      breaks_now v more e may b = subst (λ (l : List ℕ). BreaksFrom turn end_text WINDOW first (lines l e) e (s.w ++ v)) (sym (append_assoc s.b n.octets more))
          (s.breaks v (n.octets ++ more) e (may_before more e may) b)

    -- ---- a line was found
    module _ {kind : LineKind} (n : NextLine source1 source2 seen0 count0 window0 ended0 seen1 count1 window1 ended1 line (Ok (Some kind))) where
      found_line : List ℕ → Line
      found_line more = record { number = count1; content = content_found line kind; behind = window1 ++ more }

      -- the outcome of what was to come is that of the line's turn, and of what is to come from then on
      outcome_now : (more : List ℕ) (e : Bool) → MayFollow ended1 more e
          → rest_of m0 seen0 count0 (window0 ++ (n.octets ++ more)) e
          ≡ outcome_turn m0 (found_line more) (turn m0 count1 (content_found line kind)) (λ next. rest_of next seen1 count1 (window1 ++ more) e)
      unfolding found_line
      outcome_now more e may = ap (λ (ls : List Line). outcome_from turn end_text m0 ls e) (n.found.2 more e may)
          ∙ line_outcome turn end_text stops m0 count1 (content_found line kind) (window1 ++ more) (lines_from seen1 count1 [] (window1 ++ more) e) e

      -- what a line that goes on reported is its whole text
      reported : (sink2 : SinkState) (m1 : M) (w : List ℕ) (t : Turn M) → GoesOn w m0 m1 t → SinkFaults sink1 sink2 (length (turn_text t))
          → SinkFaults sink1 sink2 (length w)
      reported sink2 m1 w Skips on f = rw on.1 f
      reported sink2 m1 w (Takes next text) on f = rw on.1 f
      reported sink2 m1 w (Stops text) on f = absurd on

      pub so_far_more : {sink2 : SinkState} {m1 : M} {u : Unit {0}} → SourceFaults source1 source2
          → Turned sink1 sink2 m0 m1 (turn m0 count1 (content_found line kind)) (Ok u) → SoFar source0 source2 sink0 sink2 m1 seen1 count1 window1 ended1
      so_far_more {sink2} {m1} read t = record {
        b = s.b ++ n.octets;
        w = s.w ++ t.w;
        gave = gave_all n;
        wrote = Appends-trans sink0.taken sink1.taken sink2.taken s.w t.w s.wrote t.wrote;
        source = both_reads s.source read;
        sink = subst (SinkFaults sink0 sink2) (sym (length-append s.w t.w))
            (wrote_both (length s.w) (length t.w) s.sink (reported sink2 m1 t.w (turn m0 count1 (content_found line kind)) t.turned t.faults));
        text = λ more e may. text_now n more e may ∙ ap (λ (o : Outcome M). s.w ++ o.text) (outcome_now more e may)
            ∙ ap (λ (l : List ℕ). s.w ++ l) (goes_text m0 m1 (found_line more) t.w (turn m0 count1 (content_found line kind))
            (λ next. rest_of next seen1 count1 (window1 ++ more) e) t.turned) ∙ sym (append_assoc s.w t.w _);
        ending = λ more e may. ending_now n more e may ∙ ap (λ (o : Outcome M). o.ending) (outcome_now more e may)
            ∙ goes_ending m0 m1 (found_line more) t.w (turn m0 count1 (content_found line kind)) (λ next. rest_of next seen1 count1 (window1 ++ more) e)
            t.turned;
        breaks = λ v more e may b. subst (BreaksFrom turn end_text WINDOW first (lines ((s.b ++ n.octets) ++ more) e) e) (sym (append_assoc s.w t.w v))
            (breaks_now n (t.w ++ v) more e may (subst (λ (ls : List Line). BreaksFrom turn end_text WINDOW m0 ls e (t.w ++ v))
            (sym (n.found.2 more e may)) (breaks_later turn end_text WINDOW stops m0 m1 count1 (content_found line kind) (window1 ++ more)
            (lines_from seen1 count1 [] (window1 ++ more) e) e t.w v t.turned b)));
      }

      -- where the run goes on, octets were taken
      pub advanced : {sink2 : SinkState} {m1 : M} {u : Unit {0}} → Turned sink1 sink2 m0 m1 (turn m0 count1 (content_found line kind)) (Ok u)
          → (seen0 < seen1) × (seen1 ≤ 67108864)
      advanced {m1} t = by_kind kind n.found.0 t.turned
        where
          by_kind : (k : LineKind) → Advances seen0 seen1 k → GoesOn t.w m0 m1 (turn m0 count1 (content_found line k)) → (seen0 < seen1) × (seen1 ≤ 67108864)
          by_kind kinds.Text h on = h
          by_kind kinds.Long h on = h
          by_kind kinds.TooMuch h on = absurd (goes_no_stop t.w m0 m1 (turn m0 count1 TooMuch) (stops m0 count1) on)

      -- ---- the run ends at the line
      module _ (over : IsTrue ended1 → IsTrue source2.ended) where
        turn_end : Outcome M
        turn_end = outcome_turn m0 (found_line []) (turn m0 count1 (content_found line kind)) (λ next. rest_of next seen1 count1 (window1 ++ []) source2.ended)

        text_end : (outcome turn end_text first (s.b ++ n.octets) source2.ended).text ≡ s.w ++ turn_end.text
        unfolding turn_end
        text_end = ap (λ (l : List ℕ). (outcome turn end_text first l source2.ended).text) (sym (append-nil (s.b ++ n.octets)))
            ∙ text_now n [] source2.ended (λ seen. (refl, over seen))
            ∙ ap (λ (o : Outcome M). s.w ++ o.text) (outcome_now [] source2.ended (λ seen. (refl, over seen)))

        ending_end : (outcome turn end_text first (s.b ++ n.octets) source2.ended).ending ≡ turn_end.ending
        unfolding turn_end
        ending_end = ap (λ (l : List ℕ). (outcome turn end_text first l source2.ended).ending) (sym (append-nil (s.b ++ n.octets)))
            ∙ ending_now n [] source2.ended (λ seen. (refl, over seen))
            ∙ ap (λ (o : Outcome M). o.ending) (outcome_now [] source2.ended (λ seen. (refl, over seen)))

        front_end : (w : List ℕ) → IsPrefixOf w (turn_text (turn m0 count1 (content_found line kind)))
            → IsPrefixOf (s.w ++ w) ((outcome turn end_text first (s.b ++ n.octets) source2.ended).text)
        unfolding found_line turn_end
        front_end w p = front_behind s.w w turn_end.text _ (front_of_front w _ _ p
            (turn_front m0 (found_line []) (turn m0 count1 (content_found line kind)) (λ next. rest_of next seen1 count1 (window1 ++ []) source2.ended)))
            text_end

        -- the report breaks off in that of the line
        breaks_end : (w : List ℕ) → length window1 ≤ WINDOW → IsPrefixOf w (turn_text (turn m0 count1 (content_found line kind)))
            → BreaksOff WINDOW (λ octets ended. (outcome turn end_text first octets ended).text) (s.b ++ n.octets) (s.w ++ w) source2.ended
        breaks_end w short p = breaks_off turn end_text WINDOW stops (s.b ++ n.octets) first 0 0 [] (s.w ++ w) source2.ended
            (subst (λ (l : List ℕ). BreaksFrom turn end_text WINDOW first (lines l source2.ended) source2.ended (s.w ++ w)) (append-nil (s.b ++ n.octets))
            (breaks_now n w [] source2.ended (λ seen. (refl, over seen)) (subst (λ (ls : List Line). BreaksFrom turn end_text WINDOW m0 ls source2.ended w)
            (sym (n.found.2 [] source2.ended (λ seen. (refl, over seen)))) (breaks_here turn end_text WINDOW m0 count1 (content_found line kind) (window1 ++ [])
            (lines_from seen1 count1 [] (window1 ++ []) source2.ended) source2.ended w
            (subst (λ (l : List ℕ). length l ≤ WINDOW) (sym (append-nil window1)) short) p))))

        comes_at_line : (sink2 : SinkState) (m1 : M) (q : StopReason) (w : List ℕ) → length window1 ≤ WINDOW
            → TurnedBy w m0 m1 (turn m0 count1 (content_found line kind)) sink1 sink2 (Err q)
            → Comes (outcome turn end_text first) m1 source0 source2 sink0 sink2 (s.b ++ n.octets) (s.w ++ w) (exit_of q)
        unfolding found_line turn_end
        comes_at_line sink2 m1 reasons.BadLine w short t = (
          subst (StopsShortOf WINDOW) (sym ending_end) (stops_ending WINDOW m0 (found_line []) (turn m0 count1 (content_found line kind))
              (λ next. rest_of next seen1 count1 (window1 ++ []) source2.ended) t.0
              (subst (λ (l : List ℕ). length l ≤ WINDOW) (sym (append-nil window1)) short)),
          sym (text_end ∙ ap (λ (l : List ℕ). s.w
              ++ l) (stops_text m0 (found_line []) (turn m0 count1 (content_found line kind)) (λ next. rest_of next seen1 count1 (window1 ++ []) source2.ended)
              t.0 ∙ sym t.1)),
        )
        comes_at_line sink2 m1 reasons.Memory w short t = (front_end w t, inr (breaks_end w short t))
        comes_at_line sink2 m1 reasons.WriteFault w short t = (rose_then s.sink.later t.0, front_end w t.1, breaks_end w short t.1)

      pub ends_at_line : (over : IsTrue ended1 → IsTrue source2.ended) {sink2 : SinkState} {m1 : M} (q : StopReason) → length window1 ≤ WINDOW
          → SourceFaults source1 source2 → Turned sink1 sink2 m0 m1 (turn m0 count1 (content_found line kind)) (Err q)
          → Drives (outcome turn end_text first) m1 source0 source2 sink0 sink2 (exit_of q)
      ends_at_line over {sink2} {m1} q short read t = record {
        b = s.b ++ n.octets;
        w = s.w ++ t.w;
        gave = gave_all n;
        wrote = Appends-trans sink0.taken sink1.taken sink2.taken s.w t.w s.wrote t.wrote;
        comes = comes_at_line over sink2 m1 q t.w short t.turned;
        source = both_reads s.source read;
        sink_later = omega (arith, s.sink.later, t.faults.later);
        sink_none = none_failed s.w _ _ s.sink t.faults (front_end over _ (whole_of _));
      }

    -- ---- the end of input
    module _ (n : NextLine source1 source2 seen0 count0 window0 ended0 seen1 count1 window1 ended1 line (Ok None)) (over : IsTrue ended1 → IsTrue source2.ended)
        (read : SourceFaults source1 source2) where
      at_end : rest_of m0 seen0 count0 (window0 ++ (n.octets ++ [])) true ≡ record { text = end_text m0; ending = Ended m0 }
      at_end = ap (λ (l : List ℕ). rest_of m0 seen0 count0 (window0 ++ l) true) (append-nil n.octets)
          ∙ ap (λ (ls : List Line). outcome_from turn end_text m0 ls true) (n.found.1 true) ∙ no_lines turn end_text m0

      text_at_end : (outcome turn end_text first (s.b ++ n.octets) true).text ≡ s.w ++ end_text m0
      text_at_end = ap (λ (l : List ℕ). (outcome turn end_text first l true).text) (sym (append-nil (s.b ++ n.octets)))
          ∙ text_now n [] true (λ seen. (refl, refl)) ∙ ap (λ (o : Outcome M). s.w ++ o.text) at_end

      ending_at_end : (outcome turn end_text first (s.b ++ n.octets) true).ending ≡ Ended m0
      ending_at_end = ap (λ (l : List ℕ). (outcome turn end_text first l true).ending) (sym (append-nil (s.b ++ n.octets)))
          ∙ ending_now n [] true (λ seen. (refl, refl)) ∙ ap (λ (o : Outcome M). o.ending) at_end

      front_at_end : (w : List ℕ) → IsPrefixOf w (end_text m0) → IsPrefixOf (s.w ++ w) ((outcome turn end_text first (s.b ++ n.octets) source2.ended).text)
      front_at_end w p = subst (λ b. IsPrefixOf (s.w ++ w) ((outcome turn end_text first (s.b ++ n.octets) b).text)) (sym (over n.found.0))
          (front_behind s.w w _ _ p text_at_end)

      -- the report breaks off in the text at the end
      breaks_at_end : (w : List ℕ) → IsPrefixOf w (end_text m0)
          → BreaksOff WINDOW (λ octets ended. (outcome turn end_text first octets ended).text) (s.b ++ n.octets) (s.w ++ w) source2.ended
      breaks_at_end w p = breaks_off turn end_text WINDOW stops (s.b ++ n.octets) first 0 0 [] (s.w ++ w) source2.ended
          (subst (λ (l : List ℕ). BreaksFrom turn end_text WINDOW first (lines l source2.ended) source2.ended (s.w ++ w)) (append-nil (s.b ++ n.octets))
          (breaks_now n w [] source2.ended (λ seen. (refl, over seen)) (subst (λ (ls : List Line). BreaksFrom turn end_text WINDOW m0 ls source2.ended w)
          (sym (ap (λ (l : List ℕ). lines_from seen0 count0 [] (window0 ++ l) source2.ended) (append-nil n.octets) ∙ n.found.1 source2.ended))
          (over n.found.0, p))))

      comes_short : (sink2 : SinkState) (m1 : M) (q : StopReason) (w : List ℕ) → IsWrittenBy w (end_text m0) sink1 sink2 (Err q)
          → Comes (outcome turn end_text first) m1 source0 source2 sink0 sink2 (s.b ++ n.octets) (s.w ++ w) (exit_of q)
      comes_short sink2 m1 reasons.Memory w t = (front_at_end w t, inr (breaks_at_end w t))
      comes_short sink2 m1 reasons.WriteFault w t = (rose_then s.sink.later t.0, front_at_end w t.1, breaks_at_end w t.1)
      comes_short sink2 m1 reasons.BadLine w t = absurd t

      pub ends_fine : {sink2 : SinkState} {u : Unit {0}} → IsWritten sink1 sink2 (end_text m0) (Ok u)
          → Drives (outcome turn end_text first) m0 source0 source2 sink0 sink2 exits.Fine
      ends_fine {sink2} t = record {
        b = s.b ++ n.octets;
        w = s.w ++ t.w;
        gave = gave_all n;
        wrote = Appends-trans sink0.taken sink1.taken sink2.taken s.w t.w s.wrote t.wrote;
        comes = (over n.found.0, ending_at_end, ap (λ (l : List ℕ). s.w ++ l) t.is_written ∙ sym text_at_end);
        source = both_reads s.source read;
        sink_later = omega (arith, s.sink.later, t.faults.later);
        sink_none = none_failed s.w _ _ s.sink t.faults (front_at_end _ (whole_of _));
      }

      pub ends_short : {sink2 : SinkState} {m1 : M} (q : StopReason) → IsWritten sink1 sink2 (end_text m0) (Err q)
          → Drives (outcome turn end_text first) m1 source0 source2 sink0 sink2 (exit_of q)
      ends_short {sink2} {m1} q t = record {
        b = s.b ++ n.octets;
        w = s.w ++ t.w;
        gave = gave_all n;
        wrote = Appends-trans sink0.taken sink1.taken sink2.taken s.w t.w s.wrote t.wrote;
        comes = comes_short sink2 m1 q t.w t.is_written;
        source = both_reads s.source read;
        sink_later = omega (arith, s.sink.later, t.faults.later);
        sink_none = none_failed s.w _ _ s.sink t.faults (front_at_end _ (whole_of _));
      }

    -- ---- a failed read
    pub ends_unread : {f : Failed} {m1 : M} (n : NextLine source1 source2 seen0 count0 window0 ended0 seen1 count1 window1 ended1 line (Err f))
        → SourceFaults source1 source2 → Rose source1.faults source2.faults
        → Drives (outcome turn end_text first) m1 source0 source2 sink0 sink1 exits.ReadFault
    ends_unread n read rose = record {
      b = s.b ++ n.octets;
      w = s.w;
      gave = gave_all n;
      wrote = s.wrote;
      comes = (
        rose_then s.source.later rose,
        s.ending n.octets false (may false) ∙ ap (λ (o : Outcome M). o.ending) none,
        sym (s.text n.octets false (may false) ∙ ap (λ (o : Outcome M). s.w ++ o.text) none ∙ append-nil s.w),
      );
      source = both_reads s.source read;
      sink_later = s.sink.later;
      sink_none =
          let all = s.text n.octets source2.ended (may source2.ended) in
          spared _ (length s.w) (omega (arith, ap length all, length-append s.w (rest_of m0 seen0 count0 (window0 ++ n.octets) source2.ended).text)) s.sink;
    }
      where
        may : (e : Bool) → MayFollow ended0 n.octets e
        may e over = absurd (no (sym over ∙ n.failed.0))
          where
            no : true ≡ false → ⊥
            no e = cc

        none : rest_of m0 seen0 count0 (window0 ++ n.octets) false ≡ record { text = []; ending = Open }
        none = ap (λ (ls : List Line). outcome_from turn end_text m0 ls false) n.failed.1 ∙ no_lines_yet turn end_text m0

  -- memory ran out before anything was read
  pub ends_before : {m1 : M} (source : SourceState) (sink : SinkState) → Drives (outcome turn end_text first) m1 source source sink sink exits.Memory
  ends_before source sink = record {
    b = [];
    w = [];
    gave = gives_none source;
    wrote = Appends-nil sink.taken;
    comes = (record { rest = (outcome turn end_text first [] source.ended).text; whole = refl }, inl (refl, refl));
    source = no_reads source;
    sink_later = omega arith;
    sink_none = λ room. refl;
  }
