-- What is kept beside the octets of a flight says by which key it was sealed.
use Rattle.std.proofs.Common.{◌≡◌, ◌-◌, ◌<◌, true, Some, sym, ap, ◌∙◌, arith, length}
use Rattle.std.specs.Prelude.{slice_get}
use Rattle.line_flights.specs.Flights.{Flight}
use Rattle.line_flights.specs.Flown.{Flown, is_under}
use Rattle.line_flights.proofs.Origins.{origin_by}
use Rattle.line_flights.proofs.FlightLists.{count_of, item_at, in_flights, beside}
use Rattle.line_flights.proofs.flights.Flights.earlier.Goals as goal

pub index-kept-requires : goal.index-kept-requires
index-kept-requires c =
    let within : c.args.number - 1 < length c.self.inside.items.items =
    omega (
      arith,
      c.requires.some,
      c.requires.within,
      count_of c.self.inside.log.strings c.self.inside.items.items c.self.invariant.each,
      ap (λ (f : Flown). length f.flights) c.self.view_is,
    ) in
    omega (arith, within, c.self.inside.items.ok)

pub returns-then-is_under : goal.returns-then-is_under
returns-then-is_under c = λ f e.
    let within : c.args.number - 1 < length c.self.inside.items.items =
    omega (
      arith,
      c.requires.some,
      c.requires.within,
      count_of c.self.inside.log.strings c.self.inside.items.items c.self.invariant.each,
      ap (λ (f : Flown). length f.flights) c.self.view_is,
    ) in
    let kept = c.index-kept.result.now in
    let item = item_at c.self.inside.items.items (c.args.number - 1) kept within c.index-kept.ensures in
    let there : slice_get c.args.self.now.flights (c.args.number - 1) ≡ Some f = sym (in_flights c.args.self.now.flights c.args.number c.requires.some) ∙ e in
    let is = beside c.self.inside.log.strings c.self.inside.items.items (c.args.number - 1) kept f item
    (ap (λ (f : Flown). slice_get f.flights (c.args.number - 1)) c.self.view_is ∙ there) in
    let under : is_under f.key c.args.key.now ≡ true = ap (λ (g : Flight). is_under g.key c.args.key.now) is ∙ sym c.is_under.ensures ∙ c.if-is_under.true in
    sym (ap (λ b. origin_by b f.note c.args.later) under ∙ ap (λ (g : Flight). origin_by true g.note c.args.later) is)

pub returns : goal.returns
returns c = λ f e.
    let within : c.args.number - 1 < length c.self.inside.items.items =
    omega (
      arith,
      c.requires.some,
      c.requires.within,
      count_of c.self.inside.log.strings c.self.inside.items.items c.self.invariant.each,
      ap (λ (f : Flown). length f.flights) c.self.view_is,
    ) in
    let kept = c.index-kept.result.now in
    let item = item_at c.self.inside.items.items (c.args.number - 1) kept within c.index-kept.ensures in
    let there : slice_get c.args.self.now.flights (c.args.number - 1) ≡ Some f = sym (in_flights c.args.self.now.flights c.args.number c.requires.some) ∙ e in
    let is = beside c.self.inside.log.strings c.self.inside.items.items (c.args.number - 1) kept f item
    (ap (λ (f : Flown). slice_get f.flights (c.args.number - 1)) c.self.view_is ∙ there) in
    let under = ap (λ (g : Flight). is_under g.key c.args.key.now) is ∙ sym c.is_under.ensures ∙ c.if-is_under.false in
    sym (ap (λ b. origin_by b f.note c.args.later) under)
