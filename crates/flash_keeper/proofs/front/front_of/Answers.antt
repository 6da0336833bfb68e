use Rattle.std.proofs.Common.{◌≡◌, ◌∙◌, ◌<◌, ◌%◌, inl, inr, refl, ap, sym, arith}
use Rattle.flash_keeper.specs.Records.{length_at}
use Rattle.flash_keeper.specs.Front.{words_of, front_place}
use Rattle.flash_keeper.proofs.RecordLemmas.{less_or_same}
use Rattle.flash_keeper.proofs.FrontLemmas.{all_right, right_before, right_at, wrong_at, first_place, place_after, count_is, whole_front}
use Rattle.flash_keeper.proofs.FrontLemmas.{some_apart, both_some}
use Rattle.flash_keeper.proofs.front.front_of.Goals as goal

pub loop-i-init : goal.loop-i-init
loop-i-init g c =
    let words = (g.B.FlashBank.bank c.args.bank.now).words in
    let large = (g.met.B.FlashBank.fits c.args.bank.now).0 in
    record {
      place = λ n right le. sym (first_place words);
      low = λ n i d. omega arith;
      from = omega arith;
      within = omega (arith, large);
      below = omega arith;
    }

pub returns-in_default-clause-whole : goal.returns-in_default-clause-whole
returns-in_default-clause-whole g c = λ front h.
    let bank = g.B.FlashBank.bank c.args.bank.now in
    let is = c.read-word.ensures.firm c.requires.firm _ h.number in
    let count = count_is bank front c.read-word.result h is in
    let less : c.loop-i.i < front.count = omega (arith, c.loop-i-test.true, count) in
    let right = all_right bank front h in
    let at = c.loop-i.invariant.place front.count right (omega (arith, less)) in
    let here = right_at bank front.count c.loop-i.i c.loop-i.at right less at in
    absurd (some_apart c.in_default.is (c.right_words.ensures.right (words_of (length_at bank.words c.loop-i.at)) refl here.0 here.1 here.2))

pub loop-i-preserved : goal.loop-i-preserved
loop-i-preserved g c =
    let bank = g.B.FlashBank.bank c.args.bank.now in
    let i = c.loop-i.i in
    let inside = c.in-Some.ensures.within in
    record {
      place = λ n right le.
          let at = c.loop-i.invariant.place n right (omega (arith, le)) in
          let here = right_at bank n i c.loop-i.at right (omega (arith, le)) at in
          let long = both_some c.in-Some.is (c.right_words.ensures.right (words_of (length_at bank.words c.loop-i.at)) refl here.0 here.1 here.2) in
          place_after bank.words i c.loop-i.at c.in-Some.words at long;
      low = λ n k d. elim (less_or_same k i (c.loop-i.invariant.low n k d)) [
        | inl less ↦ omega (arith, less)
        | inr e ↦ (let at = c.loop-i.invariant.place k (right_before bank n k d) (omega (arith, e)) in
            let here = wrong_at bank n k c.loop-i.at d (at ∙ ap (front_place bank.words) e) in
            absurd (some_apart (c.right_words.ensures.wrong (words_of (length_at bank.words c.loop-i.at)) refl here.0 here.1 here.2) c.in-Some.is))
      ];
      from = omega (arith, c.loop-i.invariant.from);
      within = omega (arith, inside);
      below = omega (arith, c.loop-i-test.true);
    }

pub returns-clause-whole : goal.returns-clause-whole
returns-clause-whole g c = λ front h.
    let bank = g.B.FlashBank.bank c.args.bank.now in
    let is = c.read-word.ensures.firm c.requires.firm _ h.number in
    let count = count_is bank front c.read-word.result h is in
    let all : c.loop-i.i ≡ front.count = omega (arith, c.loop-i-test.false, c.loop-i.invariant.below, count) in
    whole_front bank front (c.read-word.result % 0x100000000) c.loop-i.at c.loop-i.i h count all
    (c.loop-i.invariant.place front.count (all_right bank front h) (omega (arith, all)))
