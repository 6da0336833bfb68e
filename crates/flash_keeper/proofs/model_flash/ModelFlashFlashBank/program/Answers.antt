use Rattle.std.proofs.Common.{◌≡◌, ◌∙◌, ◌<◌, true, false, length, sym, ap, arith}
use Rattle.flash_keeper.specs.Model.{shown, counted, word_of}
use Rattle.flash_keeper.proofs.ModelLemmas.{shown_read, counted_read}
use Rattle.flash_keeper.proofs.model_flash.ModelFlashFlashBank.program.Goals as goal

never : false ≡ true → ⊥
never e = cc

pub returns-clause-programs : goal.returns-clause-programs
returns-clause-programs c =
    let words = c.power-power.ensures.words in
    let count : length c.power-power.new.self.words.items ≡ length c.args.self.now.words.items = ap (λ w. length w.items) words in
    let within : c.args.at < length c.power-power.new.self.words.items = omega (arith, c.requires.within, count) in
    record {
      done = λ e. absurd (never e);
      kept = λ is. c.put-2.ensures.here ∙ c.cut_short.ensures.word (ap word_of c.index.ensures
          ∙ sym (shown_read c.power-power.new.self.words.items c.args.at c.index.result.now within) ∙ ap (λ w. shown w.items c.args.at) words ∙ is);
      others = λ i apart. c.put-2.ensures.others i apart ∙ ap (λ w. shown w.items i) words;
      torn = c.put-2.ensures.torn ∙ c.power-power.ensures.torn;
      size = c.put-2.ensures.size ∙ count;
      once = let here = c.put-2.ensures.count in let least = c.cut_short.ensures.count in
          let was = ap (λ w. w.programs) c.index.ensures ∙ sym (counted_read c.power-power.new.self.words.items c.args.at c.index.result.now within) in
          let same = ap (λ w. counted w.items c.args.at) words in omega (arith, here, least, was, same);
      uncounted = λ i apart. c.put-2.ensures.counts i apart ∙ ap (λ w. counted w.items i) words;
    }

pub returns-in_default-clause-programs : goal.returns-in_default-clause-programs
returns-in_default-clause-programs c =
    let words = c.power-power.ensures.words in
    let count : length c.power-power.new.self.words.items ≡ length c.args.self.now.words.items = ap (λ w. length w.items) words in
    let within : c.args.at < length c.power-power.new.self.words.items = omega (arith, c.requires.within, count) in
    record {
      done = λ e. c.put.ensures.here ∙ c.whole-done.ensures.word;
      kept = λ is. c.put.ensures.here ∙ c.whole-done.ensures.word;
      others = λ i apart. c.put.ensures.others i apart ∙ ap (λ w. shown w.items i) words;
      torn = c.put.ensures.torn ∙ c.power-power.ensures.torn;
      size = c.put.ensures.size ∙ count;
      once = let here = c.put.ensures.count in let more = c.whole-done.ensures.count in
          let was = ap (λ w. w.programs) c.index.ensures ∙ sym (counted_read c.power-power.new.self.words.items c.args.at c.index.result.now within) in
          let same = ap (λ w. counted w.items c.args.at) words in omega (arith, here, more, was, same);
      uncounted = λ i apart. c.put.ensures.counts i apart ∙ ap (λ w. counted w.items i) words;
    }

pub returns-in_default-clause-counted : goal.returns-in_default-clause-counted
returns-in_default-clause-counted c =
    let words = c.power-power.ensures.words in
    let count : length c.power-power.new.self.words.items ≡ length c.args.self.now.words.items = ap (λ w. length w.items) words in
    let within : c.args.at < length c.power-power.new.self.words.items = omega (arith, c.requires.within, count) in
    let here = c.put.ensures.count in
    let more = c.whole-done.ensures.count in
    let was = ap (λ w. w.programs) c.index.ensures ∙ sym (counted_read c.power-power.new.self.words.items c.args.at c.index.result.now within) in
    let same = ap (λ w. counted w.items c.args.at) words in
    omega (arith, here, more, was, same)
