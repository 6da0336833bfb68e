use Rattle.std.proofs.Common.{◌≡◌, drop}
use Rattle.run_maps.specs.Links.{links_from}
use Rattle.run_maps.proofs.links.Links.add_all.Given as goal

-- the links so far, with those of the events to come
abbrev pub invariant-loop-recorded : goal.invariant-loop-recorded
invariant-loop-recorded l =
    links_from l.run_record.flights.items (drop l.recorded-index l.events) l.self ≡ links_from l.run_record.flights.items l.events l.fn.self
