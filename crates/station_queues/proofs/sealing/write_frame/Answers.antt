use Rattle.std.proofs.Common.{◌≡◌, ◌++◌, Bool, ℕ, List, drop, length, ◌%◌, not, ap, sym, ◌∙◌}
use Rattle.std.specs.Prelude.{◌==◌}
use Rattle.std.proofs.Math.Seq.{drop-append_seam}
use Rattle.mac_frames.specs.declared.head.MacHead.TheVariants as heads
use Rattle.plc_base.specs.declared.address.TheConstants.{PAN}
use Rattle.mac_frames.specs.Sent.{to_all}
use Rattle.plc_base.specs.Grant.{Granted}
use Rattle.station_queues.proofs.Letters.{sealed_is}
use Rattle.station_queues.proofs.sealing.write_frame.Goals as goal

-- what stands after a header
behind : (front rest octets : List ℕ) → octets ≡ front ++ rest → length front ≡ 15 → drop 15 octets ≡ rest
behind front rest octets parts len =
    ap (drop 15) parts ∙ (λ i. drop (sym len i) (front ++ rest)) ∙ drop-append_seam front rest

pub returns : goal.returns
returns c =
    sealed_is c.args.grant.now c.args.key.now c.args.counter c.args.to c.args.note c.args.unit.now _ c.args.aes.now _ _
    (ap (λ (all : Bool). heads.Sealed (not all) (c.args.counter % 256) PAN c.args.to c.grant.inside.address c.args.counter c.grant.inside.active)
    c.is_all.ensures
    ∙ ap (λ (g : Granted). heads.Sealed (not (c.args.to == to_all)) (c.args.counter % 256) PAN c.args.to g.address c.args.counter g.active) c.grant.view_is)
    c.requires.aes (behind c.write_header.new.out _ _ c.append_unit.ensures.spelled c.write_header.ensures.longer) c.seal_written.ensures.frame.spelled
