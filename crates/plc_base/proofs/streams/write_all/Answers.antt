use Rattle.std.proofs.Common.{arith, ◌+◌, ◌++◌, ◌≡◌, length, take, [], refl, subst, length-append, length-take-le}
use Rattle.std.proofs.KnownBytes.{Appends-trans, Appends-nil}
use Rattle.std.proofs.lemmas.Result.{err_from_is_err_and}
use Rattle.plc_base.specs.Streams.{SinkFaults}
use Rattle.plc_base.proofs.Fronts.{front_more}
use Rattle.plc_base.proofs.SinkLemmas.{wrote_nothing, wrote_some, wrote_short, wrote_both}
use Rattle.plc_base.proofs.streams.write_all.Goals as goal

pub loop-rest-init : goal.loop-rest-init
loop-rest-init g c = record {
  front = ([], refl, Appends-nil _, wrote_nothing _);
}

pub loop-rest-preserved : goal.loop-rest-preserved
loop-rest-preserved g c =
    let front = c.loop-rest.invariant.front in
    let count = c.in_ok-count.count in
    let written = c.in_ok-count.ensures.written in
    let bound = c.in_ok-count.ensures.bound in
    let long : length front.0 + count ≡ length (front.0 ++ take count c.loop-rest.rest.now) = omega
    (arith, length-append front.0 (take count c.loop-rest.rest.now), length-take-le count c.loop-rest.rest.now bound.1) in record {
      front = (
        _,
        front_more c.args.text.now front.0 c.loop-rest.rest.now count front.1,
        Appends-trans _ _ _ _ _ front.2 written.bytes,
        subst (SinkFaults _ _) long (wrote_both (length front.0) count front.3 (wrote_some count written)),
      );
    }

pub returns-in_err-count : goal.returns-in_err-count
returns-in_err-count g c =
    let p = err_from_is_err_and c.from_residual.result c.from_residual.ensures.1 in
    let front = c.loop-rest.invariant.front in
    rw p.1 (wrote_short c.args.text.now front.0 c.loop-rest.rest.now _ p.0 front.1 front.2 front.3 c.in_err-count.ensures.written)
