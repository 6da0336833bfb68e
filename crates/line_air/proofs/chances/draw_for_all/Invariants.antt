use Rattle.std.proofs.Common.{◌≡◌, take}
use Rattle.std.specs.List.{fold}
use Rattle.line_air.specs.Chances.{Drawing, drawn_for_one_of_all}
use Rattle.line_air.proofs.chances.draw_for_all.Given as goal

abbrev pub invariant-loop-hearer : goal.invariant-loop-hearer
invariant-loop-hearer l =
    let now : Drawing = record { came = l.came.items; loss = l.loss } in
    now ≡ fold (drawn_for_one_of_all l.disturbances l.nodes l.end) (record { came = l.initial.came.items; loss = l.initial.loss }) (take l.hearer-index l.heard)
