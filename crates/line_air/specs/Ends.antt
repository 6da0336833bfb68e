-- The end of a frame: whom it came to, and whether it is sent again.
use Rattle.std.specs.Prelude.{ℕ, ◌+◌, ◌-◌, ◌*◌, ◌/◌, min, leb, eqb, not, ◌&&◌, cond, Bool, true, false, List, [], ◌∷◌, ◌++◌, Option, Some, None}
use Rattle.std.specs.List.{find}
use Rattle.rand_pcg.specs.Lcg.{Lcg}
use Rattle.air_draws.specs.Draws.{happens, after}
use Rattle.line_place.specs.Rows.{hearers, loss_in}
use Rattle.line_air.specs.declared.air.Ended.{Ended}
use Rattle.line_air.specs.declared.air.Ended.TheVariants.{CutShort, ToAll, ToOne, GivenUp}
use Rattle.line_air.specs.declared.air.Hearing.{Hearing}
use Rattle.line_air.specs.declared.air.Hearing.TheVariants.{Came, Collision, Noise, Off, Withheld}
use Rattle.line_air.specs.declared.chances.End.{End}
use Rattle.line_air.specs.declared.ending.HeardAt.{HeardAt}
use Rattle.line_air.specs.declared.frame.Target.{Target}
use Rattle.line_air.specs.declared.frame.Target.TheVariants.{All, Node, Nobody}
use Rattle.line_air.specs.declared.frame.Waiting.{Waiting}
use Rattle.line_air.specs.declared.nodes.Heard.{Heard}
use Rattle.line_air.specs.declared.settings.Settings.{Settings}
use Rattle.line_air.specs.Chances.{come, after_draws, Drawing, drawn_for_all, drawn_beside}
use Rattle.line_air.specs.Counts.{breaks, counts_after, counts_without}
use Rattle.line_air.specs.Disturbances.{Disturbed, is_withheld, loss_at}
use Rattle.line_air.specs.Nodes.{NodeState, has_power, is_one, first_of, changed, with_sending, waiting_first, first_gone, silenced_by}
use Rattle.line_air.specs.Turns.{AirState}

-- # What the target of a frame to one node heard

pub record Answered : Type 0 where
  pub at : HeardAt
  pub loss : Lcg

abbrev pub hearing_of : ℕ → Bool → Hearing
hearing_of missing withheld = cond (eqb missing 0) (cond withheld Withheld Came) Noise

-- the segments that come are missing no more
unfoldable pub heard_some : Disturbed → End → Heard → ℕ → Lcg → Answered
heard_some disturbed end h left g =
    let missing = left - come (loss_at disturbed end.at end.node h.link.to h.link.loss) left g in
    record {
      at = record { hearing = hearing_of missing (is_withheld disturbed.withheld end.at h.link.to); left = missing };
      loss = after_draws left g;
    }

abbrev pub heard_by_one : Disturbed → List NodeState → End → ℕ → Lcg → Option Heard → Answered
heard_by_one disturbed nodes end left g None = record { at = record { hearing = Off; left = left }; loss = g }
heard_by_one disturbed nodes end left g (Some h) =
    cond (is_one has_power h.link.to nodes)
    (cond h.clear (heard_some disturbed end h left g) (record { at = record { hearing = Collision; left = left }; loss = g }))
    (record { at = record { hearing = Off; left = left }; loss = g })

unfoldable pub heard_at : Disturbed → List NodeState → End → ℕ → ℕ → List Heard → Lcg → Answered
heard_at disturbed nodes end to left hs g =
    heard_by_one disturbed nodes end left g (find (λ (h : Heard). eqb h.link.to to) hs)

-- # What becomes of a frame

-- what became of a frame, and the air after that
pub record Outcome : Type 0 where
  pub ended : Ended
  pub air : AirState

abbrev pub with_node : ℕ → (NodeState → NodeState) → AirState → AirState
with_node node f air = record air { nodes = changed node f air.nodes }

-- the same frame, sent in vain once more: it waits longer
unfoldable pub waiting_after_try : Settings → Waiting → Waiting
waiting_after_try settings w =
    record w { tries = w.tries + 1; busy = 0; be = min (settings.min_be + (w.tries + 1)) settings.max_be }

-- a frame that counts was given up: the counts after that, and whether the link counts as broken
unfoldable pub gives_up : ℕ → ℕ → Waiting → Hearing → AirState → Outcome
gives_up node to w hearing air =
    let less = with_node node first_gone air in
    cond w.frame.counts
    (record {
      ended = GivenUp w.frame hearing w.came (breaks air.settings.break_after air.given_up node to);
      air = record less { given_up = counts_after air.settings.break_after air.given_up node to };
    })
    (record { ended = GivenUp w.frame hearing w.came false; air = less })

unfoldable pub sent_again : ℕ → Waiting → Hearing → AirState → Outcome
sent_again node w hearing air =
    record {
      ended = ToOne w.frame hearing false;
      air = with_node node (waiting_first (waiting_after_try air.settings w)) air;
    }

-- a frame that was not acknowledged is sent again, or given up after the last repeat
unfoldable pub unacknowledged : ℕ → ℕ → Waiting → Hearing → AirState → Outcome
unacknowledged node to w hearing air =
    cond (leb air.settings.repeats w.tries) (gives_up node to w hearing air) (sent_again node w hearing air)

-- so is one to a node that is not on the line, and no link breaks
unfoldable pub at_nobody : ℕ → Waiting → AirState → Outcome
at_nobody node w air =
    cond (leb air.settings.repeats w.tries)
    (record { ended = GivenUp w.frame Off w.came false; air = with_node node first_gone air })
    (sent_again node w Off air)

-- a frame that was acknowledged is done, and the frames that were given up on its way count no more
unfoldable pub is_done : ℕ → ℕ → Waiting → AirState → Outcome
is_done node to w air =
    record {
      ended = ToOne w.frame Came true;
      air = record (with_node node first_gone air) { given_up = counts_without air.given_up node to };
    }

-- an acknowledgement meets its part of the loss of the way back
unfoldable pub is_acknowledged : AirState → ℕ → ℕ → Bool
is_acknowledged air node to =
    not (happens (min (loss_in (hearers air.rows to) node * air.settings.ack_loss / 100) 10000) air.loss)

-- # The end of a frame as a whole

-- what became of it, the nodes that it came to, and the air after that
pub record Ending : Type 0 where
  pub ended : Ended
  pub came : List ℕ
  pub air : AirState

abbrev pub with_came : List ℕ → Outcome → Ending
with_came came o = record { ended = o.ended; came = came; air = o.air }

-- who overhears a frame to one node
unfoldable pub overheard : AirState → End → ℕ → List Heard → Drawing → Drawing
overheard air end to hs d =
    cond air.settings.overhear (drawn_beside air.disturbances air.nodes end to hs d) d

-- the nodes that a frame came to which its target heard; what came before is handed on again only where modems do so
unfoldable pub came_to : AirState → End → ℕ → Bool → List Heard → Drawing → Drawing
came_to air end to before hs d =
    cond (before && not air.settings.duplicates) d (overheard air end to hs (record d { came = d.came ++ (to ∷ []) }))

-- a frame that its target heard: the acknowledgement is drawn first, then who overhears
unfoldable pub ending_where_heard : End → ℕ → Waiting → List Heard → List ℕ → AirState → Ending
ending_where_heard end to w hs came air =
    let later : AirState = record air { loss = after air.loss } in
    let d = came_to later end to w.came hs (record { came = came; loss = after air.loss }) in
    let left : AirState = record later { loss = d.loss } in
    with_came d.came (cond (is_acknowledged air end.node to) (is_done end.node to w left)
    (unacknowledged end.node to (record w { came = true }) Came left))

abbrev pub is_came : Hearing → Bool
is_came Came = true
is_came Collision = false
is_came Noise = false
is_came Off = false
is_came Withheld = false

unfoldable pub ending_at_one : End → ℕ → Waiting → List Heard → List ℕ → AirState → Ending
ending_at_one end to w hs came air =
    let answered = heard_at air.disturbances air.nodes end to w.left hs air.loss in
    let left : AirState = record air { loss = answered.loss } in
    let v : Waiting = record w { left = answered.at.left } in
    cond (is_came answered.at.hearing) (ending_where_heard end to v hs came left)
    (with_came came (unacknowledged end.node to v answered.at.hearing left))

unfoldable pub ending_at_all : End → Waiting → List Heard → List ℕ → AirState → Ending
ending_at_all end w hs came air =
    let less = with_node end.node first_gone air in
    let d = drawn_for_all less.disturbances less.nodes end hs (record { came = came; loss = less.loss }) in
    record { ended = ToAll w.frame; came = d.came; air = record less { loss = d.loss } }

unfoldable pub ending_by : End → Target → Waiting → List Heard → List ℕ → AirState → Ending
ending_by end All w hs came air = ending_at_all end w hs came air
ending_by end (Node to) w hs came air = ending_at_one end to w hs came air
ending_by end Nobody w hs came air = with_came came (at_nobody end.node w air)

abbrev pub cut_short : List ℕ → AirState → Ending
cut_short came air = record { ended = CutShort; came = came; air = air }

-- a sender that lost power meanwhile, or has another frame first by now, sent nothing that came to anybody
abbrev pub ending_of_first : End → Option Waiting → List Heard → List ℕ → AirState → Ending
ending_of_first end None hs came air = cut_short came air
ending_of_first end (Some w) hs came air =
    cond (is_one has_power end.node air.nodes)
    (cond (eqb w.frame.flight end.flight) (ending_by end w.frame.target w hs came air) (cut_short came air))
    (cut_short came air)

-- the sender falls silent, and the frame comes to whom it comes
unfoldable pub ending_of : End → AirState → Ending
ending_of end air =
    let quiet = changed end.node (with_sending false) air.nodes in
    let s = silenced_by end.node (hearers air.rows end.node) (record { nodes = quiet; heard = [] }) in
    ending_of_first end (first_of end.node s.nodes) s.heard [] (record air { nodes = s.nodes })
