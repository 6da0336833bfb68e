-- A script with one line more.
use Rattle.std.proofs.Common.{◌≡◌, ℕ, ◌<◌, ◌≤◌, ◌^◌, Bool, true, false, List, [], ◌∷◌, ◌++◌, length, map, All, AllPairs, Option, None, Some}
use Rattle.std.proofs.Common.{refl, sym, ◌∙◌, ap, subst, append_assoc, append-nil, arith, Ok, Err, Result, OnOk, OnErr}
use Rattle.std.proofs.lemmas.Bool.{lt-ltb, le-leb}
use Rattle.std.proofs.lemmas.List.{map-append}
use Rattle.std.proofs.lemmas.List.Elements.{All-append, All-cons, All-nil}
use Rattle.script_lines.specs.Lines.{Content, Text, Line, content_of, lines, NoFeed, NoFeeds, script, rest_line}
use Rattle.line_events.specs.declared.event.Event.{Event}
use Rattle.line_events.specs.declared.event.TheConstants.{MAX_EVENTS}
use Rattle.line_events.specs.Events.{IsEvent}
use Rattle.node_rules.specs.Ciphers.{network}
use Rattle.line_rules.specs.Worlds.{World, Trace, start}
use Rattle.line_rules.specs.Further.{line_step}
use Rattle.line_script.specs.Laws.{LinesAreReadBack}
use Rattle.line_script.specs.Lines.{line_of}
use Rattle.line_script.specs.LineReader.{reading}
use Rattle.script_runs.specs.TakenLines.{Taking, Skipped, Taken, Refused, taking}
use Rattle.line_sim.specs.Arrivals.{arrival_at, arrival_by, arrivals, IsCausal, InOrder}
use Rattle.line_sim.specs.Recorders.{IsScriptOf, AppendsLine, AreOrdered, Follows, Grows}
use Rattle.line_sim.specs.Scripts.{world_by, world_after, contents_of, LeadsTo, is_injection, injects, InjectsNothing, said}
use Rattle.line_sim.specs.Times.{Remarked, time_at, time_by, times, remark_line, IsUpTo}
use Rattle.line_sim.specs.declared.order.Order.{Order}
use Rattle.line_sim.proofs.Orders.{no_order, order_grows, order_more}
use Rattle.line_sim.proofs.Remarks.{remark_says}

script-push : (whole : List (List ℕ)) (line : List ℕ) → script (whole ++ line ∷ []) [] ≡ script whole [] ++ (line ++ 10 ∷ [])
script-push [] line = refl
script-push (l ∷ ls) line =
    ap (λ (t : List ℕ). l ++ 10 ∷ t) (script-push ls line) ∙ sym (append_assoc l (10 ∷ script ls []) (line ++ 10 ∷ []))

feeds-push : (whole : List (List ℕ)) (line : List ℕ) → NoFeeds whole → NoFeed line → NoFeeds (whole ++ line ∷ [])
feeds-push [] line feeds none = (none, tt)
feeds-push (l ∷ ls) line feeds none = (feeds.0, feeds-push ls line feeds.1 none)

abbrev world_or : World → Option World → World
world_or w None = w
world_or w (Some v) = v

leads-by : (w v : World) (goal : Option World) (t : Taking) (led next : World → Option World) → world_by w t led ≡ Some v
    → ((n : World) → led n ≡ Some v → next n ≡ goal) → world_by w t next ≡ goal
leads-by w v goal Skipped led next is on = on w is
leads-by w v goal (Taken entry) led next is on = on entry.after is
leads-by w v goal (Refused reason) led next is on = absurd (cc)

-- lines that lead to a world, and one line more
leads-push : (w v : World) (goal : Option World) (cs : List Content) (c : Content) → world_after w cs ≡ Some v → world_by v (taking v c) (λ n. Some n) ≡ goal
    → world_after w (cs ++ c ∷ []) ≡ goal
leads-push w v goal [] c led next =
    subst (λ (x : World). world_by x (taking x c) (λ n. Some n) ≡ goal) (sym (ap (world_or w) led)) next
leads-push w v goal (d ∷ cs) c led next =
    leads-by w v goal (taking w d) (λ n. world_after n cs) (λ n. world_after n (cs ++ c ∷ [])) led (λ n is. leads-push n v goal cs c is next)

abbrev IsQuiet : Content → Type 0
IsQuiet content = injects content ≡ false

short_text : (line : List ℕ) → length line ≤ 4096 → content_of line ≡ Text line
short_text line short = rw (le-leb (length line) 4096 short) refl

-- the first world has a script without a line
pub no_script : (may : Bool) (o : Order) → IsScriptOf may [] start o
no_script may o =
    record { whole = []; feeds = tt; spelled = refl; fits = omega arith; leads = refl; quiet = λ _. All-nil IsQuiet; ordered = no_order o }

-- a script stays one where more may have come
pub script_grows : {may : Bool} {text new : List ℕ} {w : World} {o p : Order} → Grows o p → new ≡ text → IsScriptOf may text w o → IsScriptOf may new w p
script_grows {may} {text} {new} {w} {o} {p} g same s = record {
  whole = s.whole;
  feeds = s.feeds;
  spelled = same ∙ s.spelled;
  fits = subst (λ (t : List ℕ). length t ≤ 67108864) (sym same) s.fits;
  leads = s.leads;
  quiet = s.quiet;
  ordered = order_grows o p (map content_of s.whole) g s.ordered;
}

-- a line more, which leads from the world of the script to another
pub line_more : {may : Bool} {text line new : List ℕ} {w v : World} {o p : Order} → IsScriptOf may text w o → AppendsLine text line new
    → world_by w (taking w (Text line)) (λ n. Some n) ≡ Some v → (may ≡ false → injects (Text line) ≡ false) → Grows o p
    → Follows (arrival_at w (Text line)) (time_at w (Text line)) o p → IsScriptOf may new v p
line_more {may} {text} {line} {new} {w} {v} {o} {p} s a next quiet g f = record {
  whole = s.whole ++ line ∷ [];
  feeds = feeds-push s.whole line s.feeds a.feed;
  spelled = a.appended ∙ ap (λ (t : List ℕ). t ++ (line ++ 10 ∷ [])) s.spelled ∙ sym (script-push s.whole line);
  fits = a.fits;
  leads = ap (world_after start) (pushed_contents) ∙ leads-push start w (Some v) (map content_of s.whole) (Text line) s.leads next;
  quiet = λ not. subst (All (λ content. injects content ≡ false)) (sym pushed_contents)
      (All-append IsQuiet (map content_of s.whole) (Text line ∷ []) (s.quiet not) (All-cons IsQuiet (Text line) [] (quiet not) (All-nil IsQuiet)));
  ordered = subst (AreOrdered p) (sym pushed_contents) (order_more o p w (map content_of s.whole) (Text line) s.ordered s.leads g f);
}
  where
    pushed_contents : map content_of (s.whole ++ line ∷ []) ≡ map content_of s.whole ++ Text line ∷ []
    pushed_contents = map-append content_of s.whole (line ∷ []) ∙ ap (λ (c : Content). map content_of s.whole ++ c ∷ []) (short_text line a.short)

-- the line of an event that the world takes
pub event_leads : (w v : World) (event : Event) (trace : Trace) → LinesAreReadBack → IsEvent event → w.events < MAX_EVENTS
    → line_step network w event ≡ Ok (v, trace) → world_by w (taking w (Text (line_of event))) (λ n. Some n) ≡ Some v
unfolding taking
event_leads w v event trace law said room is = rw (law event said, lt-ltb w.events MAX_EVENTS room, is) refl

pub event_quiet : (event : Event) → LinesAreReadBack → IsEvent event → is_injection event ≡ false → injects (Text (line_of event)) ≡ false
event_quiet event law said not = rw (law event said) not

pub event_follows : (o p : Order) (w : World) (event : Event) → LinesAreReadBack → IsEvent event → Follows (arrival_by w event) (time_by w event) o p
    → Follows (arrival_at w (Text (line_of event))) (time_at w (Text (line_of event))) o p
event_follows o p w event law said f = rw (law event said) f

-- a remark says nothing but its time
pub remark_leads : (w : World) (at : ℕ) (text : List ℕ) → world_by w (taking w (Text (remark_line at text))) (λ n. Some n) ≡ Some w
unfolding taking reading
remark_leads w at text = refl

pub remark_quiet : (at : ℕ) (text : List ℕ) → injects (Text (remark_line at text)) ≡ false
unfolding reading
remark_quiet at text = refl

remark_comes_alone : (w : World) (at : ℕ) (text : List ℕ) → arrival_at w (Text (remark_line at text)) ≡ None
unfolding reading
remark_comes_alone w at text = refl

remark_time : (w : World) (at : ℕ) (text : List ℕ) → at < 2 ^ 64 → time_at w (Text (remark_line at text)) ≡ Some (Remarked at)
unfolding reading
remark_time w at text small = remark_says at text small

pub remark_follows : (o p : Order) (w : World) (at : ℕ) (text : List ℕ) → at < 2 ^ 64 → Follows None (Some (Remarked at)) o p
    → Follows (arrival_at w (Text (remark_line at text))) (time_at w (Text (remark_line at text))) o p
remark_follows o p w at text small f = rw (remark_comes_alone w at text, remark_time w at text small) f

-- a script to which a remark was appended, or which had no room for it
pub remark_more : {E : Type 0} {may : Bool} {text new : List ℕ} {w : World} {o p : Order} (at : ℕ) (remark : List ℕ) (r : Result (Unit {0}) E) → at < 2 ^ 64
    → OnOk r (AppendsLine text (remark_line at remark) new) → OnErr r (new ≡ text) → Grows o p → Follows None (Some (Remarked at)) o p
    → IsScriptOf may text w o → IsScriptOf may new w p
remark_more {E} {may} {text} {new} {w} {o} {p} at remark (Ok u) small more same g f s =
    line_more s more (remark_leads w at remark) (λ _. remark_quiet at remark) g (remark_follows o p w at remark small f)
remark_more {E} {may} {text} {new} {w} {o} {p} at remark (Err e) small more same g f s = script_grows g same s

-- a script to which the line of an event was appended that the world takes
pub event_more : {may : Bool} {text new : List ℕ} {w v : World} {o p : Order} (event : Event) (trace : Trace) → LinesAreReadBack → IsScriptOf may text w o
    → AppendsLine text (line_of event) new → IsEvent event → (may ≡ false → is_injection event ≡ false) → w.events < MAX_EVENTS
    → line_step network w event ≡ Ok (v, trace) → Grows o p → Follows (arrival_by w event) (time_by w event) o p → IsScriptOf may new v p
event_more {may} {text} {new} {w} {v} {o} {p} event trace law s more said not room is g f =
    line_more s more (event_leads w v event trace law said room is) (λ no. event_quiet event law said (not no)) g
    (event_follows o p w event law said f)

-- what `lines_of_a_script` promises
abbrev pub LinesAreThose : Type 0
LinesAreThose = (whole : List (List ℕ)) (rest : List ℕ) (ended : Bool) → NoFeeds whole → NoFeed rest → length (script whole rest) ≤ 67108864
    → map (λ (l : Line). l.content) (lines (script whole rest) ended) ≡ map content_of whole ++ rest_line rest ended

contents_are : {may : Bool} {text : List ℕ} {w : World} {o : Order} → LinesAreThose → (s : IsScriptOf may text w o) → contents_of text ≡ map content_of s.whole
contents_are {may} {text} {w} {o} law s =
    ap contents_of s.spelled
    ∙ law s.whole [] true s.feeds tt (subst (λ (t : List ℕ). length t ≤ 67108864) s.spelled s.fits)
    ∙ append-nil (map content_of s.whole)

-- what a recorder keeps is a run
pub script_leads : {may : Bool} {text : List ℕ} {w : World} {o : Order} → LinesAreThose → IsScriptOf may text w o → LeadsTo text w
script_leads law s = ap (world_after start) (contents_are law s) ∙ s.leads

-- no line injects octets where none may
pub script_is_quiet : {may : Bool} {text : List ℕ} {w : World} {o : Order} → LinesAreThose → IsScriptOf may text w o → may ≡ false → InjectsNothing text
script_is_quiet law s not = subst (All (λ content. injects content ≡ false)) (sym (contents_are law s)) (s.quiet not)

-- its lines are in their order
pub script_is_causal : {may : Bool} {text : List ℕ} {w : World} {o : Order} → LinesAreThose → IsScriptOf may text w o → All IsCausal (arrivals text)
script_is_causal law s = subst (λ (cs : List Content). All IsCausal (said arrival_at start cs)) (sym (contents_are law s)) s.ordered.causal

pub script_is_in_order : {may : Bool} {text : List ℕ} {w : World} {o : Order} → LinesAreThose → IsScriptOf may text w o → AllPairs InOrder (arrivals text)
script_is_in_order law s = subst (λ (cs : List Content). AllPairs InOrder (said arrival_at start cs)) (sym (contents_are law s)) s.ordered.in_order

pub script_is_timed : {may : Bool} {text : List ℕ} {w : World} {o : Order} → LinesAreThose → IsScriptOf may text w o → AllPairs IsUpTo (times text)
script_is_timed law s = subst (λ (cs : List Content). AllPairs IsUpTo (said time_at start cs)) (sym (contents_are law s)) s.ordered.up_to
