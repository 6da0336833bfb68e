use borrow.Follows.Closed.{read_of}
use Rattle.std.proofs.Common.{◌<◌, ◌∙◌, take, sym, arith, rules}
use Rattle.std.proofs.lemmas.List.{places, get_or-take}
use Rattle.std.proofs.lemmas.Option.{IfSome_then}
use Rattle.std.specs.Option.{ghost_name_of}
use Rattle.plc_base.specs.declared.out_frame.OutFrame.{OutFrame}
use Rattle.plc_base.proofs.LentPlaces.{take-set_below}
use Rattle.plc_base.proofs.out_frame.OutFrames.place_mut.Goals as goal

pub returns : goal.returns
returns c =
    let inside = c.self.inside in
    let below : c.args.place < inside.used = search (rules, places) in
    rw (← c.self.view_is) (
      λ t. read_of (ghost_name_of c.get_mut.result)
          (λ (w : OutFrame). take-set_below inside.used inside.places.items c.args.place w below
          (omega (arith, c.self.invariant.0, c.self.invariant.1)) t)
          (take inside.used inside.places.items),
      record {
        lends = tt;
        variant = c.get_mut.ensures.variant.1 (omega (arith, below, c.self.invariant.0, c.self.invariant.1));
        value = IfSome_then c.get_mut.result c.get_mut.ensures.value
            (λ r is. is ∙ sym (get_or-take inside.used inside.places.items c.args.place r.now below));
      },
    )
