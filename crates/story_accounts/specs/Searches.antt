-- What a search for a route reached, up to an event.
use Rattle.std.specs.Prelude.{ℕ, ◌+◌, ◌==◌, ◌&&◌, Bool, true, false, nat_le, nat_lt, List, [], ◌∷◌, ◌++◌, length, replicate}
use Rattle.std.specs.Prelude.{Option, None, Some, if◌then◌else◌}
use Rattle.frame_facts.specs.declared.gist.Gist.{Gist}
use Rattle.frame_facts.specs.declared.gist.Gist.TheVariants as gists
use Rattle.line_events.specs.declared.event.Answer.{Answer}
use Rattle.line_events.specs.declared.event.Answer.TheVariants as answers
use Rattle.line_record.specs.declared.recorded.RecordedEvent.{RecordedEvent}
use Rattle.line_record.specs.declared.recorded.RecordedFlight.{RecordedFlight}
use Rattle.line_record.specs.declared.course.Course.{Course}
use Rattle.line_record.specs.declared.course.Fate.{Fate}
use Rattle.line_record.specs.declared.course.Fate.TheVariants as fates
use Rattle.line_record.specs.Kinds.{actor_of}
use Rattle.line_record.specs.Lists.{changed_at}
use Rattle.line_record.specs.RunRecords.{numbered}
use Rattle.line_record.specs.Verdicts.{first_nonzero}
use Rattle.story_accounts.specs.declared.searches.TheConstants.{REFUSED, TOOK}
use Rattle.story_accounts.specs.Indexes.{hearings_at, search_at}
use Rattle.story_accounts.specs.Accounts.{RunAccount}

pub record SearchReach : Type 0 where
  -- what each node made of the request, by its number from 0: 0 where it did not hear it, REFUSED or TOOK
  pub states : List ℕ
  -- the first three events at which a node refused it
  pub refusals : List ℕ
  -- the first event at which it was answered, 0 where it was not
  pub answered : ℕ
  -- the last reply that was not taken, 0 if there is none
  pub reply : ℕ

abbrev pub no_reach : ℕ → SearchReach
no_reach nodes = record { states = replicate nodes 0; refusals = []; answered = 0; reply = 0 }

-- # Hearings

-- a node takes a request that it sends on or answers
abbrev pub state_of : Answer → ℕ
state_of answers.Relayed = TOOK
state_of answers.Answered = TOOK
state_of _ = REFUSED

abbrev pub is_answered : Answer → Bool
is_answered answers.Answered = true
is_answered _ = false

abbrev pub greater : ℕ → ℕ → ℕ
greater state old = if nat_lt old state then state else old

abbrev pub refusals_with : Bool → ℕ → List ℕ → List ℕ
refusals_with refused n refusals = if refused && nat_lt (length refusals) 3 then refusals ++ (n ∷ []) else refusals

abbrev pub answered_at : Answer → ℕ → ℕ → ℕ
answered_at answer n before = if is_answered answer then first_nonzero before n else before

-- a node hears the request at an event of this number
abbrev pub heard : ℕ → RecordedEvent → SearchReach → SearchReach
heard n e r =
    record r {
      states = changed_at (actor_of e.act + 1) (greater (state_of e.answer)) r.states;
      refusals = refusals_with (state_of e.answer == REFUSED) n r.refusals;
      answered = answered_at e.answer n r.answered;
    }

abbrev pub heard_by : Option RecordedEvent → ℕ → ℕ → SearchReach → SearchReach
heard_by None n until r = r
heard_by (Some e) n until r = if nat_le n until then heard n e r else r

abbrev pub heard_at : RunAccount → ℕ → ℕ → SearchReach → SearchReach
heard_at a n until r = heard_by (numbered a.events n) n until r

abbrev pub heard_from : RunAccount → List ℕ → ℕ → SearchReach → SearchReach
heard_from a [] until r = r
heard_from a (n ∷ ns) until r = heard_from a ns until (heard_at a n until r)

-- # Replies

abbrev pub missed : ℕ → Bool → SearchReach → SearchReach
missed flight true r = record r { reply = flight }
missed flight false r = r

-- whether a flight is not taken up to an event
abbrev pub is_missing : Fate → ℕ → Bool
is_missing (fates.WentOn event) until = nat_lt until event
is_missing _ until = true

abbrev pub made_before : Option RecordedEvent → ℕ → Bool
made_before None flight = false
made_before (Some e) flight = nat_lt flight (e.first_flight + e.flights)

-- whether a flight is made up to an event
abbrev pub is_made_by : RunAccount → ℕ → ℕ → Bool
is_made_by a until flight = made_before (numbered a.events until) flight

abbrev pub reply_missing : Option Course → RunAccount → ℕ → ℕ → Bool
reply_missing None a flight until = false
reply_missing (Some course) a flight until = is_made_by a until flight && is_missing course.fate until

abbrev pub is_reply_missing : RunAccount → ℕ → ℕ → Bool
is_reply_missing a flight until = reply_missing (numbered a.courses flight) a flight until

-- # The flights of a search

abbrev pub followed_by : Gist → RunAccount → ℕ → ℕ → SearchReach → SearchReach
followed_by (gists.Seeks origin sought cost) a flight until r = heard_from a (hearings_at a.index flight) until r
followed_by (gists.Replies origin to) a flight until r = missed flight (is_reply_missing a flight until) r
followed_by _ a flight until r = r

abbrev pub followed_flight : Option RecordedFlight → RunAccount → ℕ → ℕ → SearchReach → SearchReach
followed_flight None a flight until r = r
followed_flight (Some recorded) a flight until r = followed_by recorded.gist a flight until r

abbrev pub followed : RunAccount → ℕ → ℕ → SearchReach → SearchReach
followed a flight until r = followed_flight (numbered a.flights flight) a flight until r

abbrev pub followed_from : RunAccount → List ℕ → ℕ → SearchReach → SearchReach
followed_from a [] until r = r
followed_from a (flight ∷ flights) until r = followed_from a flights until (followed a flight until r)

-- what a search reached up to an event, by the number of the request that began it
unfoldable pub reach_of : RunAccount → ℕ → ℕ → SearchReach
reach_of a search until = followed_from a (search_at a.index search) until (no_reach (length a.euis))
