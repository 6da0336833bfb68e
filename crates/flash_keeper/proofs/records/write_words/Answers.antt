use Rattle.std.proofs.Common.{ℕ, ◌+◌, true, false, refl, ◌∙◌, arith}
use Rattle.flash_keeper.proofs.RecordLemmas.{octets_from-zero, one_more_word}
use Rattle.flash_keeper.proofs.WearLemmas.{no_counts, program_counts, then_counts, wider_counts}
use Rattle.flash_keeper.proofs.records.write_words.Goals as goal

pub loop-i-init : goal.loop-i-init
loop-i-init g c =
    let words = (g.B.FlashBank.bank c.args.bank.now).words in
    record {
      firm = c.requires.firm;
      size = refl;
      same = λ i h. refl;
      counts = no_counts (g.B.FlashBank.bank c.args.bank.now) (c.args.at + 1) (c.args.at + 1 + 0);
      octets = octets_from-zero words (c.args.at + 1);
      body = λ j le. absurd (omega (arith, le));
      below = omega arith;
    }

pub loop-i-preserved : goal.loop-i-preserved
loop-i-preserved g c =
    let init = g.B.FlashBank.bank c.args.bank.now in
    let old = g.B.FlashBank.bank c.loop-i.bank in
    let new = g.B.FlashBank.bank c.program_word.new.bank in
    let i = c.loop-i.i in
    let first : ℕ = c.args.at + 1 in
    let p = c.in_ok-program_word.ensures.programs in
    let more = one_more_word init old new (c.args.at + 1) i c.word_at.result c.args.octets.now p c.loop-i.invariant.same c.loop-i.invariant.octets
    c.loop-i.invariant.body c.word_at.ensures in
    record {
      firm = p.torn ∙ c.loop-i.invariant.firm;
      size = p.size ∙ c.loop-i.invariant.size;
      same = more.0;
      counts = then_counts init old new first (first + i) (first + (i + 1)) (omega arith) (omega arith) c.loop-i.invariant.counts
          (program_counts old new (first + i) c.word_at.result (first + i) (first + (i + 1)) true (omega arith) (omega arith) p);
      octets = more.1;
      body = more.2;
      below = omega (arith, c.loop-i-test.true);
    }

pub returns-in_err-program_word-clause-counts : goal.returns-in_err-program_word-clause-counts
returns-in_err-program_word-clause-counts g c =
    let init = g.B.FlashBank.bank c.args.bank.now in
    let old = g.B.FlashBank.bank c.loop-i.bank in
    let new = g.B.FlashBank.bank c.program_word.new.bank in
    let i = c.loop-i.i in
    let first : ℕ = c.args.at + 1 in
    let end : ℕ = first + c.args.words in
    then_counts init old new first (first + i) end (omega arith) (omega (arith, c.loop-i-test.true)) c.loop-i.invariant.counts
    (program_counts old new (first + i) c.word_at.result (first + i) end false (omega arith) (omega (arith, c.loop-i-test.true))
    c.in_err-program_word.ensures.programs)

pub returns-clause-counts : goal.returns-clause-counts
returns-clause-counts g c =
    let first : ℕ = c.args.at + 1 in
    wider_counts (g.B.FlashBank.bank c.args.bank.now) (g.B.FlashBank.bank c.loop-i.bank) first (first + c.loop-i.i) first (first + c.args.words) (omega arith)
    (omega (arith, c.loop-i.invariant.below)) c.loop-i.invariant.counts
