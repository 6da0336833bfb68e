use Rattle.std.proofs.Common.{◌≡◌, ◌∙◌, ◌-◌, false, refl, ap, sym, arith, if◌then◌else◌}
use Rattle.std.specs.FinMap as map
use Rattle.std.specs.FinMap.{insert}
use Rattle.flash_keeper.specs.Records.{slot_at}
use Rattle.flash_keeper.specs.Front.{words_of, front_place, front_slot}
use Rattle.flash_keeper.specs.Log.{holds_later, front_kept}
use Rattle.flash_keeper.proofs.FrontLemmas.{at_head, at_record, place_after, first_place, no_records, octets_here}
use Rattle.flash_keeper.proofs.CopyLemmas.{front_kept-suc, front_kept_within, no_front_kept, less_none}
use Rattle.flash_keeper.proofs.copy.copy_front.Goals as goal

pub loop-i-init : goal.loop-i-init
loop-i-init g c =
    let words = (g.B.FlashBank.bank c.args.from.now).words in
    record {
      growing = c.requires.growing;
      records = no_records (g.B.FlashBank.bank c.args.to.now).words ∙ sym (no_front_kept c.args.front words c.args.cells);
      place = sym (first_place words);
      room = omega arith;
      heads = λ i le. refl;
      firm = c.requires.growing.firm;
      size = refl;
      below = omega arith;
    }

pub length_of-requires-clause-within : goal.length_of-requires-clause-within
length_of-requires-clause-within g c = (at_head (g.B.FlashBank.bank c.args.from.now) c.args.front c.loop-i.i c.loop-i.at c.requires.front c.loop-i-test.true
    c.loop-i.invariant.place).0

pub copy_unless_replaced-requires-clause-within : goal.copy_unless_replaced-requires-clause-within
copy_unless_replaced-requires-clause-within g c =
    let bank = g.B.FlashBank.bank c.args.from.now in
    let head = at_head bank c.args.front c.loop-i.i c.loop-i.at c.requires.front c.loop-i-test.true c.loop-i.invariant.place in
    (at_record bank c.args.front c.loop-i.i c.loop-i.at c.words_of-words.result c.requires.front c.loop-i-test.true c.loop-i.invariant.place
    (c.words_of-words.ensures.value ∙ ap words_of (c.length_of.ensures.value head.1))).within

pub copy_unless_replaced-requires-clause-whole : goal.copy_unless_replaced-requires-clause-whole
copy_unless_replaced-requires-clause-whole g c =
    let bank = g.B.FlashBank.bank c.args.from.now in
    let head = at_head bank c.args.front c.loop-i.i c.loop-i.at c.requires.front c.loop-i-test.true c.loop-i.invariant.place in
    (at_record bank c.args.front c.loop-i.i c.loop-i.at c.words_of-words.result c.requires.front c.loop-i-test.true c.loop-i.invariant.place
    (c.words_of-words.ensures.value ∙ ap words_of (c.length_of.ensures.value head.1))).whole

pub copy_unless_replaced-requires-clause-fits : goal.copy_unless_replaced-requires-clause-fits
copy_unless_replaced-requires-clause-fits g c =
    let bank = g.B.FlashBank.bank c.args.from.now in
    let head = at_head bank c.args.front c.loop-i.i c.loop-i.at c.requires.front c.loop-i-test.true c.loop-i.invariant.place in
    (at_record bank c.args.front c.loop-i.i c.loop-i.at c.words_of-words.result c.requires.front c.loop-i-test.true c.loop-i.invariant.place
    (c.words_of-words.ensures.value ∙ ap words_of (c.length_of.ensures.value head.1))).fits

pub copy_unless_replaced-requires-clause-apart : goal.copy_unless_replaced-requires-clause-apart
copy_unless_replaced-requires-clause-apart g c =
    let words = (g.B.FlashBank.bank c.args.from.now).words in
    let i = c.loop-i.i in
    let place = c.loop-i.invariant.place in
    let records = c.loop-i.invariant.records in
    λ later. (λ k. map.get (records k) (slot_at words (place k)))
    ∙ front_kept_within c.args.front words c.args.cells i (front_slot words i) (c.requires.front.records.each i c.loop-i-test.true).apart

pub overflow_add-at-in-loop-i : goal.overflow_add-at-in-loop-i
overflow_add-at-in-loop-i g c =
    let bank = g.B.FlashBank.bank c.args.from.now in
    let head = at_head bank c.args.front c.loop-i.i c.loop-i.at c.requires.front c.loop-i-test.true c.loop-i.invariant.place in
    let small = (g.met.B.FlashBank.fits c.args.from.now).1 in
    omega (arith, head.0, small, c.words_of-words.ensures.few)

pub loop-i-preserved : goal.loop-i-preserved
loop-i-preserved g c =
    let bank = g.B.FlashBank.bank c.args.from.now in
    let words = bank.words in
    let i = c.loop-i.i in
    let at = c.loop-i.at in
    let n = c.words_of-words.result in
    let inv = c.loop-i.invariant in
    let place = inv.place in
    let records = inv.records in
    let head = at_head bank c.args.front i at c.requires.front c.loop-i-test.true place in
    let long = c.words_of-words.ensures.value ∙ ap words_of (c.length_of.ensures.value head.1) in
    let octets = octets_here words i at n place long in
    let e = c.in_ok-next.ensures in
    record {
      growing = e.growing;
      records = e.records ∙ (λ k. if holds_later c.args.front words 0 (less_none c.args.cells k) (slot_at words (place k)) then records k
          else insert (records k) (slot_at words (place k)) (octets k)) ∙ sym (front_kept-suc c.args.front words c.args.cells i);
      place = place_after words i at n place long;
      room = omega (arith, inv.room, e.room);
      heads = λ k le. e.heads k le ∙ inv.heads k le;
      firm = e.firm;
      size = e.size ∙ inv.size;
      below = omega (arith, c.loop-i-test.true);
    }

pub returns-clause-records : goal.returns-clause-records
returns-clause-records g c =
    let words = (g.B.FlashBank.bank c.args.from.now).words in
    let all : c.loop-i.i ≡ c.args.front.count = omega (arith, c.loop-i-test.false, c.loop-i.invariant.below) in
    c.loop-i.invariant.records ∙ ap (front_kept c.args.front words c.args.cells) all

pub returns-clause-room : goal.returns-clause-room
returns-clause-room g c =
    let words = (g.B.FlashBank.bank c.args.from.now).words in
    let all : c.loop-i.i ≡ c.args.front.count = omega (arith, c.loop-i-test.false, c.loop-i.invariant.below) in
    let end = c.requires.front.records.end in
    let at = c.loop-i.invariant.place ∙ ap (front_place words) all in
    omega (arith, c.loop-i.invariant.room, at, end)
