-- What the laws here say of every run.
use Rattle.std.specs.Prelude.{All, AllPairs, List, []}
use Rattle.node_rules.specs.Ciphers.{network}
use Rattle.line_rules.specs.Runs.{Entry, IsLineRun, NoneForged, last_world, takings}
use Rattle.line_rules.specs.Worlds.{start}
use Rattle.run_laws.specs.Agreements.{AgreeOnGrantsAfter}
use Rattle.run_laws.specs.BesideSizes.{IsBesideSized}
use Rattle.run_laws.specs.Choices.{AreChosenRightAfter}
use Rattle.run_laws.specs.DatagramFates.{HaveFates}
use Rattle.run_laws.specs.Datagrams.{MoveDatagrams}
use Rattle.run_laws.specs.FatePlaces.{FatesAreAtOnePlace}
use Rattle.run_laws.specs.JoiningsApart.{AreApart, RandomsDiffer, completions}
use Rattle.run_laws.specs.OctetPlaces.{StayAtOnePlace}

-- What they say of a run, one by one.
pub record IsLawful (entries : List Entry) : Type 0 where
  pub chosen : AreChosenRightAfter [] entries
  pub beside : All (λ (x : Entry). IsBesideSized x.after) entries
  pub datagrams : MoveDatagrams start entries
  pub places : StayAtOnePlace [] [] start entries
  pub fates : NoneForged entries → HaveFates entries (last_world start entries)
  pub grants : AgreeOnGrantsAfter [] entries
  pub own : RandomsDiffer entries → AllPairs (AreApart (takings entries)) (completions entries)
  pub one : NoneForged entries → FatesAreAtOnePlace entries (last_world start entries)

-- so it is of every run of the network
abbrev pub EveryRunIsLawful : Type 0
EveryRunIsLawful = (entries : List Entry) → IsLineRun network entries → IsLawful entries
