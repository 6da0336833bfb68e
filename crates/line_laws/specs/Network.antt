-- What holds of every run of the network.
use Rattle.std.specs.Prelude.{All, List, []}
use Rattle.plc_base.specs.Fields.{AreOctets}
use Rattle.node_rules.specs.Ciphers.{Ciphers, network}
use Rattle.line_rules.specs.Agreement.{KeysAgree, KickedStaysOut}
use Rattle.line_rules.specs.Forgery.{IsForgedRight}
use Rattle.line_rules.specs.FurtherRuns.{AreBroadcastOnce, AreOfHistory, AreWalked, LogsAlwaysKept}
use Rattle.line_rules.specs.Nonces.{CountersRise, NoncesDiffer, AreSpelled, AreAddressed, AreApart}
use Rattle.line_rules.specs.Runs.{Entry, IsRun, IsLineRun, last_world}
use Rattle.line_rules.specs.SafeRuns.{IsAlwaysSized, IsSafe, RestartsAreAnswered}
use Rattle.line_rules.specs.Traces.{CountsRight, AreTracedRight}
use Rattle.line_rules.specs.Worlds.{Flight, start}
use Rattle.line_laws.specs.AdmittedRight.{AreAdmittedRight}
use Rattle.line_laws.specs.AgreedRight.{IsAgreedRight}
use Rattle.line_laws.specs.CheckHistories.{AreCheckedRight}
use Rattle.line_laws.specs.Live.{MarksAlwaysRise, FlightsAlwaysFall}
use Rattle.line_laws.specs.Once.{AcceptsOnce, AcceptedOnce}
use Rattle.line_laws.specs.Issued.{IsIssuedAfter}
use Rattle.line_laws.specs.IssuedRight.{AreIssuedRight}
use Rattle.line_laws.specs.Invariant.{HoldsThroughout}
use Rattle.line_laws.specs.Kicked.{ShutOutStaysOut}
use Rattle.line_laws.specs.Laws.{FlightsAreOctets, StoresAreReadable}
use Rattle.line_laws.specs.Loops.{AreLoopFree, RestartsEndRoutes}
use Rattle.line_laws.specs.OwnKeys.{AreUnderOwnKeys}
use Rattle.line_laws.specs.ReachTraces.{AreReachReported, ListsBroadcasts}
use Rattle.line_laws.specs.StepsTaken.{AreStepsTaken}
use Rattle.line_laws.specs.Tags.{SendsHaveOctets, TagsRise}
use Rattle.line_laws.specs.Ups.{UpsAreSentAfter}

-- no run of the network is unsafe before it is forged
abbrev pub EveryRunIsSafe : Type 0
EveryRunIsSafe = (entries : List Entry) → IsLineRun network entries → IsSafe entries

-- What the laws say of a run, one by one.
pub record IsRight (entries : List Entry) : Type 0 where
  pub octets : FlightsAreOctets entries
  pub sized : IsAlwaysSized entries
  pub readable : StoresAreReadable entries
  pub answered : RestartsAreAnswered entries
  pub ends : RestartsEndRoutes entries
  pub rises : CountersRise entries
  pub spelled : AreSpelled network entries
  pub senders : AreAddressed start entries
  pub own : AreUnderOwnKeys start entries
  pub apart : AreApart entries
  pub nonces : NoncesDiffer entries
  pub marks : MarksAlwaysRise start entries
  pub falls : FlightsAlwaysFall network start entries
  pub once : AcceptsOnce network start entries
  pub alone : AcceptedOnce network start entries
  pub agrees : KeysAgree entries
  pub said : All IsAgreedRight entries
  pub keys : IsIssuedAfter [] entries
  pub issued : AreIssuedRight start entries
  pub kicked : KickedStaysOut entries
  pub shut : ShutOutStaysOut entries
  pub routes : AreLoopFree start entries
  pub counted : CountsRight start entries
  pub traced : AreTracedRight start entries
  pub admitted : AreAdmittedRight start entries
  pub tags : TagsRise entries
  pub some : SendsHaveOctets entries
  pub ups : UpsAreSentAfter [] entries
  pub safe : IsSafe entries
  pub forged : IsForgedRight network start entries
  pub histories : AreOfHistory entries
  pub logs : LogsAlwaysKept entries
  pub broadcasts : AreBroadcastOnce entries
  pub walks : AreWalked entries
  pub reported : AreReachReported start entries
  pub listed : ListsBroadcasts entries
  pub checked : AreCheckedRight entries
  pub steps : AreStepsTaken start entries
  pub throughout : HoldsThroughout entries

-- so it is of every run of the network
abbrev pub EveryNetworkRunIsRight : Type 0
EveryNetworkRunIsRight = (entries : List Entry) → IsLineRun network entries → IsRight entries

-- # Flights stay

-- no flight is ever taken away, and each keeps its octets: where those of the last world are octets, all were
abbrev pub LastFlightsSayAll : Type 0
LastFlightsSayAll =
    (ciphers : Ciphers) (entries : List Entry) → IsRun ciphers start entries
    → All (λ (f : Flight). AreOctets f.octets) (last_world start entries).flights → FlightsAreOctets entries
