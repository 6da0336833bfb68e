-- The flights with some octets, from the newest to the first.
use Rattle.std.proofs.Common.{◌≡◌, ◌-◌, ◌≤◌, Some, take, drop, sym, ap, ◌∙◌, arith, length, length-take}
use Rattle.std.specs.Prelude.{slice_get}
use Rattle.octet_log.specs.Logs.{IsLast}
use Rattle.octet_log.proofs.Lasts.{got_take}
use Rattle.line_flights.specs.Flown.{Flown, is_under}
use Rattle.line_flights.proofs.FlightLists.{count_of, in_flights, flown_at}
use Rattle.line_flights.proofs.Origins.{origin_of, origin_by, from_last, from_before}
use Rattle.line_flights.proofs.flights.Flights.origin.Goals as goal

pub loop-number-init : goal.loop-number-init
loop-number-init c = record {
  is_origin =
      sym (ap (λ (f : Flown). origin_of (drop c.last-number.result f.flights) c.args.octets.now c.args.key.now) (sym c.self.view_is)
      ∙ from_last c.args.octets.now c.args.key.now c.self.inside.log.strings c.self.inside.items.items c.last-number.result c.self.invariant.each
      c.last-number.ensures);
  within = c.last-number.ensures.within;
  here = c.last-number.ensures.here;
}

pub earlier-origin-requires-clause-within : goal.earlier-origin-requires-clause-within
earlier-origin-requires-clause-within c =
    omega (
      arith,
      c.loop-number.invariant.within,
      c.self.invariant.each,
      count_of c.self.inside.log.strings c.self.inside.items.items c.self.invariant.each,
      ap (λ (f : Flown). length f.flights) c.self.view_is,
    )

pub loop-number-preserved : goal.loop-number-preserved
loop-number-preserved c =
    let strings = c.self.inside.log.strings in
    let items = c.self.inside.items.items in
    let octets = c.args.octets.now in
    let key = c.args.key.now in
    let n = c.loop-number.number in
    let p = c.before-number.result in
    let some = c.loop-number-test.true in
    let within = c.loop-number.invariant.within in
    let here = c.loop-number.invariant.here some in
    let flown = flown_at strings items (n - 1) octets c.self.invariant.each here in
    let f = flown.flight in
    let there : slice_get c.args.self.now.flights (n - 1) ≡ Some f = ap (λ (g : Flown). slice_get g.flights (n - 1)) (sym c.self.view_is) ∙ flown.there in
    let before : IsLast (take (n - 1) strings) octets p = c.before-number.ensures octets here in
    let cut : length (take (n - 1) strings) ≡ n - 1 = omega (arith, length-take (n - 1) strings, within) in
    let order : p ≤ n - 1 = omega (arith, before.within, cut) in
    let later : c.loop-number.origin ≡ origin_of (drop n c.args.self.now.flights) octets key = c.loop-number.invariant.is_origin in
    record {
      is_origin =
          c.earlier-origin.ensures f (in_flights c.args.self.now.flights n some ∙ there)
          ∙ ap (origin_by (is_under f.key key) f.note) later
          ∙ ap (λ (g : Flown). origin_by (is_under f.key key) f.note (origin_of (drop n g.flights) octets key)) (sym c.self.view_is)
          ∙ sym (from_before octets key strings items n p f some within flown.there flown.same before)
          ∙ ap (λ (g : Flown). origin_of (drop p g.flights) octets key) c.self.view_is;
      within = omega (arith, order, within);
      here = λ positive. sym (got_take (n - 1) strings (p - 1) (omega (arith, positive, order))) ∙ before.here positive;
    }
