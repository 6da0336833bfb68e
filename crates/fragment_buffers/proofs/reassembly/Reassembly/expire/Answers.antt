use Rattle.std.proofs.Common.{◌+◌, ◌<◌, inl, inr, length, sym, ap, ◌∙◌, arith}
use Rattle.std.proofs.lemmas.Bool.{cases_lt, false≢true}
use Rattle.std.proofs.lemmas.List.Edits.{length-remove}
use Rattle.fragment_buffers.specs.Reassembly.{Reassembly}
use Rattle.fragment_buffers.specs.Answers.{nothing}
use Rattle.fragment_buffers.specs.Entries.{entry_at, reassemblies_in}
use Rattle.fragment_buffers.proofs.EntryNames.{length-gathered}
use Rattle.fragment_buffers.proofs.PoolEntries.{gathered_at, moves_both}
use Rattle.fragment_buffers.proofs.ExpiredEntries.{kept_so_far, expired_at, unexpired_at, all_kept}
use Rattle.fragment_buffers.proofs.reassembly.Reassembly.expire.Goals as goal
use Rattle.fragment_buffers.specs.declared.times.TheConstants.{REASSEMBLY_TIME}

pub has_expired-requires : goal.has_expired-requires
has_expired-requires c = omega (arith, c.len.ensures, c.loop-index-test.true)

pub loop-index-preserved-then-has_expired : goal.loop-index-preserved-then-has_expired
loop-index-preserved-then-has_expired c =
    let es = c.loop-index.self in
    let held = reassemblies_in c.loop-index.pool es in
    let long = length-gathered c.loop-index.pool es in
    let lt : c.loop-index.index < length es = omega (arith, ap length c.self.view_is, c.len.ensures, c.loop-index-test.true) in
    let since = ap (λ l. (entry_at l c.loop-index.index).since) c.self.view_is
    ∙ sym (ap (λ (r : Reassembly). r.since) (gathered_at c.loop-index.pool es c.loop-index.index nothing lt)) in
    record {
      keeps = c.end.ensures.keeps;
      moves = moves_both c.args.pool.now c.loop-index.pool c.end.new.pool c.args.self.now es c.end.new.self c.loop-index.invariant.moves c.end.ensures.moves;
      within = omega (arith, ap length c.end.ensures.entries, length-remove es c.loop-index.index lt, lt);
      gathered =
          c.loop-index.invariant.gathered
          ∙ expired_at held c.loop-index.index c.args.now (omega (arith, long, lt)) (omega (arith, since, c.if-has_expired.ensures))
          ∙ ap (λ rs. kept_so_far rs c.loop-index.index c.args.now) (sym c.end.ensures.gathered);
    }

pub loop-index-preserved : goal.loop-index-preserved
loop-index-preserved c =
    let es = c.loop-index.self in
    let held = reassemblies_in c.loop-index.pool es in
    let long = length-gathered c.loop-index.pool es in
    let lt : c.loop-index.index < length es = omega (arith, ap length c.self.view_is, c.len.ensures, c.loop-index-test.true) in
    let since = ap (λ l. (entry_at l c.loop-index.index).since) c.self.view_is
    ∙ sym (ap (λ (r : Reassembly). r.since) (gathered_at c.loop-index.pool es c.loop-index.index nothing lt)) in
    let young : c.args.now < (entry_at c.self.inside.buffers c.loop-index.index).since
    + REASSEMBLY_TIME = elim (cases_lt c.args.now ((entry_at c.self.inside.buffers c.loop-index.index).since + REASSEMBLY_TIME)) [
      | inl less ↦ less
      | inr more ↦ absurd (false≢true (c.if-has_expired.ensures.1 more))
    ] in
    record {
      keeps = c.loop-index.invariant.keeps;
      moves = c.loop-index.invariant.moves;
      within = omega (arith, lt);
      gathered = c.loop-index.invariant.gathered ∙ unexpired_at held c.loop-index.index c.args.now (omega (arith, long, lt)) (omega (arith, since, young));
    }

pub returns-clause-gathered : goal.returns-clause-gathered
returns-clause-gathered c =
    let long = length-gathered c.loop-index.pool c.loop-index.self in
    sym (c.loop-index.invariant.gathered ∙ all_kept (reassemblies_in c.loop-index.pool c.loop-index.self) c.loop-index.index c.args.now
    (omega (arith, long, ap length c.self.view_is, c.len.ensures, c.loop-index-test.false)))
