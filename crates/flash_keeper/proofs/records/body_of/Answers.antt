use Rattle.std.proofs.Common.{◌≡◌, ◌+◌, ◌++◌}
use Rattle.std.proofs.Common.{length, sym, ap, ◌∙◌, arith, length-append}
use Rattle.byteorder.specs.Endian.{big_bytes}
use Rattle.flash_keeper.specs.Records.{value, octets_from}
use Rattle.flash_keeper.proofs.RecordLemmas.{octets_from-suc, octets_from-zero}
use Rattle.flash_keeper.proofs.records.body_of.Goals as goal

pub loop-i-init : goal.loop-i-init
loop-i-init g c =
    let words = (g.B.FlashBank.bank c.args.bank.now).words in
    record {
      octets = λ readable. c.new-octets.ensures ∙ sym (octets_from-zero words (c.args.at + 1));
      length = ap length c.new-octets.ensures;
      below = omega arith;
    }

pub loop-i-preserved : goal.loop-i-preserved
loop-i-preserved g c =
    let words = (g.B.FlashBank.bank c.args.bank.now).words in
    let i = c.loop-i.i in
    let eight : length c.octets_of.result ≡ 8 = ap length c.octets_of.ensures in
    record {
      octets = λ readable.
          let number : c.read.result ≡ value (words (c.args.at + 1 + i)) = c.read.ensures.firm c.requires.firm _ (readable.body i c.loop-i-test.true) in
          let last = c.octets_of.ensures ∙ ap (big_bytes 8) number in
          let front = c.loop-i.invariant.octets readable in
          c.append.ensures ∙ (λ k. front k ++ last k) ∙ sym (octets_from-suc words (c.args.at + 1) i);
      length = ap length c.append.ensures ∙ length-append c.loop-i.octets c.octets_of.result ∙ omega (arith, c.loop-i.invariant.length, eight);
      below = omega (arith, c.loop-i-test.true);
    }

pub returns-clause-octets : goal.returns-clause-octets
returns-clause-octets g c =
    let words = (g.B.FlashBank.bank c.args.bank.now).words in
    let all : c.loop-i.i ≡ c.args.words = omega (arith, c.loop-i-test.false, c.loop-i.invariant.below) in
    λ readable. c.loop-i.invariant.octets readable ∙ ap (octets_from words (c.args.at + 1)) all
