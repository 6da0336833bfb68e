use Rattle.std.proofs.Common.{◌∙◌, ◌≡◌, ◌+◌, inl, inr, refl, sym, ap, arith}
use Rattle.flash_keeper.specs.Records.{length_at}
use Rattle.flash_keeper.specs.Front.{words_of}
use Rattle.flash_keeper.specs.declared.front.Front.{Front}
use Rattle.flash_keeper.proofs.Outcomes.{on_err}
use Rattle.flash_keeper.proofs.FrontLemmas.{one_more_record, once_of_growing}
use Rattle.flash_keeper.proofs.front.write_to_front.Goals as goal

pub returns-clause-growing : goal.returns-clause-growing
returns-clause-growing g c =
    let old = g.B.FlashBank.bank c.args.bank.now in
    let new = g.B.FlashBank.bank c.write_record.new.bank in
    let f = c.args.front in
    let n = c.words_of-words.result in
    let next : Front = record { count = f.count + 1; words = f.words + 1 + n } in
    let e = c.in_ok-write_record.ensures in
    let same = c.write_record.ensures.same in
    let grows = c.requires.growing in
    let counts = c.write_record.ensures.counts in
    let long : n ≡ words_of (length_at new.words (4 + f.words)) = c.words_of-words.ensures.value ∙ ap words_of (c.len.ensures.value ∙ sym e.length) in
    let more = one_more_record f next old new c.args.slot c.args.octets.now n grows.records (λ i four le. same i (inl le)) refl refl long e.record
    c.requires.apart in
    record {
      firm = c.write_record.ensures.firm;
      records = more.0;
      few = omega (arith, grows.few);
      within = omega (arith, c.requires.room, c.write_record.ensures.size, c.words_of-words.ensures.value, c.len.ensures.value);
      number = same 3 (inl (omega arith)) ∙ grows.number;
      blank = λ i four. same i (inr (omega (arith, four))) ∙ grows.blank i (omega (arith, four));
      once = once_of_growing f old new (4 + f.words + 1 + n) grows counts;
      unmarked = counts.outside 2 (inl (omega arith)) ∙ grows.unmarked;
      unnumbered = counts.outside 3 (inl (omega arith)) ∙ grows.unnumbered;
      unused = λ i four. counts.outside i (inr (omega (arith, four))) ∙ grows.unused i (omega (arith, four));
    }

pub returns-in_err-write_record-clause-once : goal.returns-in_err-write_record-clause-once
returns-in_err-write_record-clause-once g c =
    let f = c.args.front in
    on_err c.from_residual.result (once_of_growing f (g.B.FlashBank.bank c.args.bank.now) (g.B.FlashBank.bank c.write_record.new.bank)
    (4 + f.words + 1 + c.words_of-words.result) c.requires.growing c.write_record.ensures.counts)

pub returns-clause-records : goal.returns-clause-records
returns-clause-records g c =
    let old = g.B.FlashBank.bank c.args.bank.now in
    let new = g.B.FlashBank.bank c.write_record.new.bank in
    let f = c.args.front in
    let n = c.words_of-words.result in
    let next : Front = record { count = f.count + 1; words = f.words + 1 + n } in
    let e = c.in_ok-write_record.ensures in
    let long : n ≡ words_of (length_at new.words (4 + f.words)) = c.words_of-words.ensures.value ∙ ap words_of (c.len.ensures.value ∙ sym e.length) in
    (one_more_record f next old new c.args.slot c.args.octets.now n c.requires.growing.records (λ i four le. c.write_record.ensures.same i (inl le)) refl refl
    long e.record c.requires.apart).1
