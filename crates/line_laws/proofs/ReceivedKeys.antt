-- Which keys and which joinings the reception of a frame tells of: those of a grant that was sent, taken or done, and no others.
use Rattle.std.proofs.Common.{◌≡◌, None, Result, Ok, Err, refl}
use Rattle.line_rules.specs.Answers.{meter_reception, coordinator_reception}
use Rattle.node_rules.specs.declared.heard.Heard.{Heard}
use Rattle.node_rules.specs.declared.heard.Heard.TheVariants as station_heard
use Rattle.node_rules.specs.declared.heard.MeterHeard.{MeterHeard}
use Rattle.node_rules.specs.declared.heard.MeterHeard.TheVariants as meter_heard
use Rattle.node_rules.specs.declared.heard.CoordinatorHeard.{CoordinatorHeard}
use Rattle.node_rules.specs.declared.heard.CoordinatorHeard.TheVariants as coordinator_heard
use Rattle.node_rules.specs.declared.refusal.Dropped.{Dropped}
use Rattle.line_rules.specs.Answers.{station_reception}
use Rattle.line_laws.proofs.IssueMeters.{took_in}
use Rattle.line_laws.proofs.IssueCoordinator.{keyed_in, done_in}

pub station_took : (h : Heard) → ((station_reception h).took ≡ None) × ((station_reception h).keyed ≡ None) × ((station_reception h).done ≡ None)
station_took (station_heard.Up from note octets) = (refl, refl, refl)
station_took station_heard.Held = (refl, refl, refl)
station_took station_heard.Relayed = (refl, refl, refl)
station_took station_heard.Answered = (refl, refl, refl)
station_took station_heard.Learned = (refl, refl, refl)
station_took station_heard.Broken = (refl, refl, refl)
station_took station_heard.Reported = (refl, refl, refl)
station_took (station_heard.Joining way body) = (refl, refl, refl)
station_took (station_heard.Local from all code body) = (refl, refl, refl)

pub took_same : (a : MeterHeard) → (meter_reception (Ok a)).took ≡ took_in a
took_same (meter_heard.Station h) = (station_took h).0
took_same meter_heard.Carried = refl
took_same meter_heard.Replied = refl
took_same (meter_heard.Took agreed) = refl
took_same meter_heard.Noted = refl
took_same meter_heard.Declined = refl
took_same meter_heard.Left = refl
took_same meter_heard.Activated = refl

pub no_keys : (r : Result MeterHeard Dropped) → (meter_reception r).keyed ≡ None
no_keys (Ok (meter_heard.Station h)) = (station_took h).1
no_keys (Ok meter_heard.Carried) = refl
no_keys (Ok meter_heard.Replied) = refl
no_keys (Ok (meter_heard.Took agreed)) = refl
no_keys (Ok meter_heard.Noted) = refl
no_keys (Ok meter_heard.Declined) = refl
no_keys (Ok meter_heard.Left) = refl
no_keys (Ok meter_heard.Activated) = refl
no_keys (Err reason) = refl

pub keyed_same : (a : CoordinatorHeard) → ((coordinator_reception (Ok a)).keyed ≡ keyed_in a) × ((coordinator_reception (Ok a)).done ≡ done_in a)
keyed_same (coordinator_heard.Station h) = let t = station_took h in (t.1, t.2)
keyed_same coordinator_heard.Challenged = (refl, refl)
keyed_same (coordinator_heard.Keyed eui granted) = (refl, refl)
keyed_same (coordinator_heard.Done eui agreed) = (refl, refl)
keyed_same coordinator_heard.Declined = (refl, refl)
