use Rattle.std.proofs.Common.{◌∙◌, ℕ, List, Some, ap, sym, arith}
use Rattle.flash_keeper.specs.Records.{slot_at}
use Rattle.flash_keeper.specs.Front.{words_of}
use Rattle.flash_keeper.proofs.FrontLemmas.{at_head, at_record, place_after, first_place, front_found, front_passed, none_found, octets_here}
use Rattle.flash_keeper.proofs.front.find_in_front.Goals as goal

pub loop-i-init : goal.loop-i-init
loop-i-init g c =
    let words = (g.B.FlashBank.bank c.args.bank.now).words in
    record { place = sym (first_place words); none = none_found words c.args.slot; below = omega arith }

pub length_of-requires-clause-within : goal.length_of-requires-clause-within
length_of-requires-clause-within g c = (at_head (g.B.FlashBank.bank c.args.bank.now) c.args.front c.loop-i.i c.loop-i.at c.requires.front c.loop-i-test.true
    c.loop-i.invariant.place).0

pub slot_of-here-requires-clause-within : goal.slot_of-here-requires-clause-within
slot_of-here-requires-clause-within g c = (at_head (g.B.FlashBank.bank c.args.bank.now) c.args.front c.loop-i.i c.loop-i.at c.requires.front
    c.loop-i-test.true c.loop-i.invariant.place).0

pub slot_of-here-requires-clause-head : goal.slot_of-here-requires-clause-head
slot_of-here-requires-clause-head g c = (at_head (g.B.FlashBank.bank c.args.bank.now) c.args.front c.loop-i.i c.loop-i.at c.requires.front
    c.loop-i-test.true c.loop-i.invariant.place).1

pub record_of-requires : goal.record_of-requires
record_of-requires g c =
    let bank = g.B.FlashBank.bank c.args.bank.now in
    let head = at_head bank c.args.front c.loop-i.i c.loop-i.at c.requires.front c.loop-i-test.true c.loop-i.invariant.place in
    let here = at_record bank c.args.front c.loop-i.i c.loop-i.at c.words_of-words.result c.requires.front c.loop-i-test.true c.loop-i.invariant.place
    (c.words_of-words.ensures.value ∙ ap words_of (c.length_of.ensures.value head.1)) in
    record { within = here.within; few = here.few; firm = c.requires.firm; whole = here.whole; fits = here.fits }

pub returns-then-here-slot : goal.returns-then-here-slot
returns-then-here-slot g c =
    let bank = g.B.FlashBank.bank c.args.bank.now in
    let words = bank.words in
    let i = c.loop-i.i in
    let place = c.loop-i.invariant.place in
    let head = at_head bank c.args.front i c.loop-i.at c.requires.front c.loop-i-test.true place in
    let long = c.words_of-words.ensures.value ∙ ap words_of (c.length_of.ensures.value head.1) in
    ap (λ (o : List ℕ). Some o) (c.record_of.ensures.value ∙ octets_here words i c.loop-i.at c.words_of-words.result place long)
    ∙ sym (front_found c.args.front words i c.args.slot c.loop-i-test.true c.requires.front.records
    (ap (λ (p : ℕ). slot_at words p) (sym place) ∙ sym c.slot_of-here.ensures ∙ c.if-here-slot.true))

pub overflow_add-at-in-loop-i : goal.overflow_add-at-in-loop-i
overflow_add-at-in-loop-i g c =
    let bank = g.B.FlashBank.bank c.args.bank.now in
    let head = at_head bank c.args.front c.loop-i.i c.loop-i.at c.requires.front c.loop-i-test.true c.loop-i.invariant.place in
    let small = (g.met.B.FlashBank.fits c.args.bank.now).1 in
    omega (arith, head.0, small, c.words_of-words.ensures.few)

pub loop-i-preserved : goal.loop-i-preserved
loop-i-preserved g c =
    let bank = g.B.FlashBank.bank c.args.bank.now in
    let words = bank.words in
    let i = c.loop-i.i in
    let place = c.loop-i.invariant.place in
    let head = at_head bank c.args.front i c.loop-i.at c.requires.front c.loop-i-test.true place in
    let long = c.words_of-words.ensures.value ∙ ap words_of (c.length_of.ensures.value head.1) in
    record {
      place = place_after words i c.loop-i.at c.words_of-words.result place long;
      none = front_passed words i c.args.slot c.loop-i.invariant.none (λ e. c.if-here-slot.false
          (c.slot_of-here.ensures ∙ ap (λ (p : ℕ). slot_at words p) place ∙ e));
      below = omega (arith, c.loop-i-test.true);
    }
