use Rattle.std.proofs.Common.{◌≡◌, ◌++◌, subst, sym, ap, ◌∙◌, arith}
use Rattle.std.proofs.lemmas.List.{take-append-drop}
use Rattle.plc_base.specs.Fields.{after}
use Rattle.mac_frames.specs.Grammar.{IsBody, header_then}
use Rattle.mac_frames.proofs.Headers.{header_is}
use Rattle.mac_frames.proofs.reading.frame_of.Goals as goal

pub returns-clause-found : goal.returns-clause-found
unfolding after
returns-clause-found c =
    let read = c.in_ok-head.ensures.1 in
    let head = c.in_ok-head.head in
    let back = sym c.split_at.ensures.back in
    record {
      fields = read.0;
      rest = subst (IsBody head) back read.3;
      size = omega arith;
      spelled = read.2 ∙ ap (header_then head) back;
    }

pub returns-clause-parts : goal.returns-clause-parts
unfolding after
returns-clause-parts c =
    let read = c.in_ok-head.ensures.1 in
    let head = c.in_ok-head.head in
    let octets = c.args.octets.now in
    let parts : octets ≡ c.split_at.result.0.now ++ c.split_at.result.1.now =
    sym (take-append-drop 15 octets) ∙ (λ i. sym c.split_at.ensures.front i ++ sym c.split_at.ensures.back i) in (
      header_is head octets c.split_at.result.0.now c.split_at.result.1.now read.0 (read.2 ∙ ap (header_then head) (sym c.split_at.ensures.back)) parts
          (omega arith),
      parts,
    )
