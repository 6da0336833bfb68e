-- What was still owed of custody, for the network: so what is handed up was sent, and nothing is handed up twice.
use Rattle.std.proofs.Common.{◌≡◌, List, Ok}
use Rattle.node_rules.specs.Ciphers.{network}
use Rattle.line_events.specs.Events.{IsEvent}
use Rattle.line_rules.specs.Runs.{Entry, issued}
use Rattle.line_rules.specs.Steps.{note_by, step}
use Rattle.line_rules.specs.Worlds.{World}
use Rattle.line_laws.specs.Live.{FlightsFall, live}
use Rattle.line_laws.proofs.CustodyRuns.{Owed, came_by}
use Rattle.line_laws.proofs.FlightFolds.{came_octets}
use Rattle.line_laws.proofs.IssueWorlds.{Keyed}
use Rattle.line_laws.proofs.LiveRuns.{event_falls}
use Rattle.line_laws.proofs.OctetRuns.{WorldSpeaks}
use Rattle.line_laws.proofs.RangeRuns.{WorldRanged, ordered_well, short_at, joins}
use Rattle.line_laws.proofs.StorableGrants.{network_ranges}
use Rattle.line_laws.proofs.Worlds.{WorldOk}

-- What holds of a world of the network that was reached with no event forged.
pub record Sound (w : World) (before : List Entry) : Type 0 where
  pub ok : WorldOk w
  pub speaks : WorldSpeaks w
  pub ranged : WorldRanged w
  pub keyed : Keyed w (issued before)

pub owed_at : (w : World) (before : List Entry) → Sound w before → (x : Entry) → IsEvent x.event → step network w x.event ≡ Ok (x.after, x.trace)
    → Owed network live w x
owed_at w before o x says run =
    let fall : FlightsFall network w x = event_falls network network_ranges w o.ok o.speaks.flights (issued before) o.keyed x says run in
    record {
      quiet = λ none. fall.falls;
      falls = λ number y octets cost there by. fall.opened number octets y (came_by w x.event number octets cost by) there;
      says = record {
        short = λ number y there psk m role here. short_at w o.ok o.speaks o.ranged number y psk there m here;
        speaks = λ y there m here now. ordered_well w o.ok o.speaks o.ranged 0 y there m here now;
      };
      joins = λ number y octets cost there by got e.
          let are = came_octets network network_ranges w o.ok o.speaks.flights x.event number octets says (came_by w x.event number octets cost by) in
          let j = joins w o.ok o.speaks o.ranged number y octets cost got there are e (note_by w octets got.path) in
          record { short = λ psk m role here. j.short psk role m here; coordinator = j.coordinator };
    }
