use borrow.Follows.Closed.{read_of}
use Rattle.std.proofs.Common.{◌≡◌, ◌++◌, ◌∷◌, [], get_or, set, ◌∙◌}
use Rattle.std.proofs.lemmas.Option.{IfSome_then}
use Rattle.std.specs.Option.{ghost_name_of}
use Rattle.plc_base.specs.declared.out_frame.OutFrame.{OutFrame}
use Rattle.plc_base.proofs.LentPlaces.{get_or-last, set-last}
use Rattle.plc_base.proofs.out_frame.OutFrames.push_blank.Goals as goal

pub returns : goal.returns
returns c =
    let written : (w : OutFrame) → set c.take_place.new.self c.len-place.result w ≡ c.args.self.now ++ w ∷ [] =
    λ w. (λ i. set (c.take_place.ensures i) (c.len-place.ensures.value i) w) ∙ set-last c.args.self.now _ w in (
      λ t. read_of (ghost_name_of c.place_mut.result) (λ (w : OutFrame). written w t) (c.take_place.ensures t),
      record {
        lends = tt;
        variant = c.place_mut.ensures.variant;
        value = IfSome_then c.place_mut.result c.place_mut.ensures.value
            (λ r is. is ∙ (λ i. get_or (c.take_place.ensures i) (c.len-place.ensures.value i) r.now)
            ∙ get_or-last c.args.self.now _ r.now);
      },
    )
