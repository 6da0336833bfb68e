-- What senders do: they put frames into their queues, wait, sense, and send.
use Rattle.std.specs.Prelude.{ℕ, ◌+◌, ◌*◌, ◌/◌, ◌^◌, min, ltb, eqb, cond, true, false, List, [], Option, Some, None, replicate}
use Rattle.std.specs.Prelude.{length}
use Rattle.std.specs.List.{fold}
use Rattle.rand_pcg.specs.Lcg.{Lcg}
use Rattle.air_draws.specs.Draws.{below, after, first}
use Rattle.air_draws.specs.declared.draws.Purpose.TheVariants.{Loss, Backoff}
use Rattle.line_place.specs.declared.link.Link.{Link}
use Rattle.line_place.specs.Rows.{hearers}
use Rattle.line_air.specs.declared.air.Attempt.{Attempt}
use Rattle.line_air.specs.declared.air.Attempt.TheVariants.{Idle, Busy, Dropped, Sent}
use Rattle.line_air.specs.declared.calendar.Due.{Due}
use Rattle.line_air.specs.declared.calendar.Moment.TheVariants as moment
use Rattle.line_air.specs.declared.frame.Frame.{Frame}
use Rattle.line_air.specs.declared.frame.Target.{Target}
use Rattle.line_air.specs.declared.frame.Target.TheVariants.{All, Node, Nobody}
use Rattle.line_air.specs.declared.frame.Waiting.{Waiting}
use Rattle.line_air.specs.declared.settings.Settings.{Settings}
use Rattle.line_air.specs.declared.settings.Rate.{Rate}
use Rattle.line_air.specs.declared.settings.Rate.TheVariants.{Robo}
use Rattle.line_air.specs.declared.spans.Sending.{Sending}
use Rattle.line_air.specs.Airtime.{airtime}
use Rattle.line_air.specs.Calendars.{put}
use Rattle.line_air.specs.Disturbances.{Disturbed}
use Rattle.line_air.specs.Nodes.{NodeState, new_node, is_busy, may_arm, has_power, is_one, first_of, changed, with_armed, armed_with, with_sending}
use Rattle.line_air.specs.Nodes.{waiting_first, first_gone, with_frame, heard_by}

pub record AirState : Type 0 where
  pub rows : List (List Link)
  pub settings : Settings
  pub nodes : List NodeState
  pub loss : Lcg
  pub backoff : Lcg
  pub disturbances : Disturbed
  -- how many frames in a row from a node to another were given up, where some were
  pub given_up : List ((ℕ × ℕ) × ℕ)

-- the quiet air over a place
abbrev pub quiet_air : List (List Link) → Settings → ℕ → AirState
quiet_air rows settings seed =
    record {
      rows = rows;
      settings = settings;
      nodes = replicate (length rows) new_node;
      loss = first seed Loss;
      backoff = first seed Backoff;
      disturbances = record { noises = []; cuts = []; withheld = [] };
      given_up = [];
    }

-- the air and the calendar
pub record Sky : Type 0 where
  pub air : AirState
  pub due : List Due

-- the nodes are others
abbrev pub with_nodes : List NodeState → Sky → Sky
with_nodes nodes s = record s { air = record s.air { nodes = nodes } }

-- a time this much later; the clock ends after 584,000 years
abbrev pub time_after : ℕ → ℕ → ℕ
time_after now wait = min (now + wait) 18446744073709551615

-- # Waiting

-- how long a frame waits before its next attempt: eight symbols, random slots of two, and what it is held
unfoldable pub wait_for : Lcg → Waiting → ℕ
wait_for g w = 5560 + below (2 ^ min w.be 20) g * 1390 + w.held

-- what an attempt that becomes due changes
pub record Arming : Type 0 where
  pub nodes : List NodeState
  pub backoff : Lcg
  pub due : List Due

abbrev pub armed_for : ℕ → ℕ → Option Waiting → Arming → Arming
armed_for now node None a = a
armed_for now node (Some w) a =
    record {
      nodes = changed node (armed_with w) a.nodes;
      backoff = after a.backoff;
      due = put (time_after now (wait_for a.backoff w)) (moment.Attempt node) a.due;
    }

-- an attempt is due where a frame waits, and neither an attempt nor the end of a frame is
unfoldable pub armed_at : ℕ → ℕ → Arming → Arming
armed_at now node a = cond (is_one may_arm node a.nodes) (armed_for now node (first_of node a.nodes) a) a

-- so for a node, and then for those that it is heard by
unfoldable pub armed_around : ℕ → List Link → Arming → Arming
armed_around now links a = fold (λ (b : Arming) (l : Link). armed_at now l.to b) a links

abbrev pub arming_of : Sky → Arming
arming_of s = record { nodes = s.air.nodes; backoff = s.air.backoff; due = s.due }

abbrev pub sky_of : Arming → Sky → Sky
sky_of a s = record { air = record s.air { nodes = a.nodes; backoff = a.backoff }; due = a.due }

unfoldable pub sky_with_attempt : ℕ → ℕ → Sky → Sky
sky_with_attempt now node s = sky_of (armed_at now node (arming_of s)) s

-- so for those that a node is heard by
unfoldable pub sky_with_attempts : ℕ → ℕ → Sky → Sky
sky_with_attempts now node s = sky_of (armed_around now (hearers s.air.rows node) (arming_of s)) s

-- # A frame more

-- how long a frame to all is held, and the draws after that
unfoldable pub held_for : Settings → Target → Lcg → ℕ
held_for settings All g = below settings.jitter g
held_for settings (Node to) g = 0
held_for settings Nobody g = 0

unfoldable pub after_held : Settings → Target → Lcg → Lcg
after_held settings All g = cond (eqb settings.jitter 0) g (after g)
after_held settings (Node to) g = g
after_held settings Nobody g = g

unfoldable pub queued : Settings → Frame → Lcg → Waiting
queued settings frame g =
    record { frame = frame; tries = 0; be = settings.min_be; busy = 0; held = held_for settings frame.target g; came = false; left = 0 }

-- a node puts a frame at the end of its queue, unless it has no power
unfoldable pub air_with_frame : ℕ → Frame → AirState → AirState
air_with_frame node frame air =
    record air {
      nodes = changed node (with_frame (queued air.settings frame air.backoff)) air.nodes;
      backoff = after_held air.settings frame.target air.backoff;
    }

unfoldable pub sky_after_send : ℕ → ℕ → Frame → Sky → Sky
sky_after_send now node frame s = sky_with_attempt now node (record s { air = air_with_frame node frame s.air })

-- # An attempt

-- how many segments of a frame to one node are missing: all before it is sent
abbrev pub missing : ℕ → ℕ → ℕ
missing left segments = cond (eqb left 0) segments (min left segments)

-- of a frame to one node each missing segment is sent and acknowledged on its own, after a gap of ten symbols
unfoldable pub sending_to_one : Rate → Waiting → Sending
sending_to_one rate w =
    let whole = airtime rate w.frame.octets in
    let left = missing w.left whole.segments in
    record { micros = (whole.micros / whole.segments + 6950 + 15115) * left; segments = whole.segments; left = left }

-- how long the first frame of a queue is on the air
unfoldable pub sending_of : Rate → Waiting → Target → Sending
sending_of rate w All =
    let whole = airtime Robo w.frame.octets in
    record { micros = whole.micros; segments = whole.segments; left = whole.segments }
sending_of rate w (Node to) = sending_to_one rate w
sending_of rate w Nobody = sending_to_one rate w

-- the first frame of a node goes on the air
unfoldable pub sky_after_begin : ℕ → ℕ → Waiting → Sky → Sky
sky_after_begin now node w s =
    let air = s.air in
    let sending = sending_of air.settings.rate w w.frame.target in
    record {
      air = record air {
        nodes = heard_by air.settings.collisions node (hearers air.rows node)
            (changed node (with_sending true) (changed node (waiting_first (record w { left = sending.left })) air.nodes));
      };
      due = put (time_after now sending.micros) (moment.End node w.frame.flight sending.segments) s.due;
    }

-- a frame that found the line busy once more
unfoldable pub waiting_after_busy : Settings → Waiting → Waiting
waiting_after_busy settings w = record w { busy = min (w.busy + 1) 65535; be = min (w.be + 1) settings.max_be }

pub record Attempted : Type 0 where
  pub answer : Attempt
  pub sky : Sky

-- the line is busy: the frame waits longer, or is dropped
unfoldable pub waits_on : ℕ → ℕ → Waiting → Sky → Attempted
waits_on now node w s =
    let more = waiting_after_busy s.air.settings w in
    cond (ltb s.air.settings.backoffs more.busy)
    (record { answer = Dropped w.frame.flight; sky = sky_with_attempt now node (with_nodes (changed node first_gone s.air.nodes) s) })
    (record { answer = Busy; sky = sky_with_attempt now node (with_nodes (changed node (waiting_first more) s.air.nodes) s) })

abbrev pub attempt_first : ℕ → ℕ → Option Waiting → Sky → Attempted
attempt_first now node None s = record { answer = Idle; sky = s }
attempt_first now node (Some w) s =
    cond (is_one is_busy node s.air.nodes) (waits_on now node w s)
    (record { answer = Sent w.frame.flight; sky = sky_after_begin now node w s })

unfoldable pub attempt_at : ℕ → ℕ → Sky → Attempted
attempt_at now node s =
    cond (is_one has_power node s.air.nodes) (attempt_first now node (first_of node s.air.nodes) s)
    (record { answer = Idle; sky = s })

-- the attempt of a node is due
unfoldable pub attempt_by : ℕ → ℕ → Sky → Attempted
attempt_by now node s = attempt_at now node (with_nodes (changed node (with_armed false) s.air.nodes) s)

-- # Going on

-- a node and those that it is heard by go on, where they wait
unfoldable pub sky_after_end : ℕ → ℕ → Sky → Sky
sky_after_end now node s = sky_with_attempts now node (sky_with_attempt now node s)
