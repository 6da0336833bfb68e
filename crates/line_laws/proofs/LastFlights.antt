-- The flights of the last world of a run are octets only where those of each world are.
use Rattle.std.proofs.Common.{List, [], ◌∷◌, subst}
use Rattle.std.specs.Prelude.{All}
use Rattle.std.proofs.lemmas.List.Elements.{All-nil, All-cons, All-head, All-tail}
use Rattle.plc_base.specs.Fields.{AreOctets}
use Rattle.node_rules.specs.Ciphers.{Ciphers}
use Rattle.line_rules.specs.Laws.{KeepsFlights}
use Rattle.line_rules.specs.Runs.{Entry, IsRun, last_world}
use Rattle.line_rules.specs.Worlds.{World, Flight, start}
use Rattle.line_rules.proofs.StepsOn.{line_steps}
use Rattle.line_laws.specs.Laws.{FlightsAreOctets}
use Rattle.line_laws.specs.Network.{LastFlightsSayAll}

abbrev OfOctets : Flight → Type 0
OfOctets f = AreOctets f.octets

abbrev EntryFlies : Entry → Type 0
EntryFlies x = All OfOctets x.after.flights

-- what later flights are, the earlier ones were
were_octets : (fs gs : List Flight) → KeepsFlights fs gs → All OfOctets gs → All OfOctets fs
were_octets [] gs keeps all = All-nil OfOctets
were_octets (f ∷ fs) [] keeps all = absurd keeps
were_octets (f ∷ fs) (g ∷ gs) keeps all =
    All-cons OfOctets f fs (subst AreOctets keeps.0.octets (All-head OfOctets g gs all)) (were_octets fs gs keeps.1 (All-tail OfOctets g gs all))

all_octets : (ciphers : Ciphers) (w : World) (entries : List Entry) → IsRun ciphers w entries → All OfOctets (last_world w entries).flights
    → All OfOctets w.flights × FlightsAreOctets entries
all_octets ciphers w [] run all = (all, All-nil EntryFlies)
all_octets ciphers w (x ∷ xs) run all =
    let later = all_octets ciphers x.after xs run.3 all in
    let on = line_steps ciphers w x.after x.event x.trace run.2 in
    (were_octets w.flights x.after.flights on.flights later.0, All-cons EntryFlies x xs later.0 later.1)

pub last_say_all : LastFlightsSayAll
last_say_all ciphers entries run all = (all_octets ciphers start entries run all).1
