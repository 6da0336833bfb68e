use Rattle.std.proofs.Common.{◌≡◌, true, cond, Bool, Some, None, ap, sym, ◌∙◌, arith}
use Rattle.std.specs.Prelude.{◌==◌, length}
use Rattle.std.proofs.lemmas.Bool.Decides.{nat_tests}
use Rattle.routing_set.specs.RoutingSet.{floors_of, floors_in}
use Rattle.routing_set.proofs.FloorRecords.{floors_of-read}
use Rattle.routing_set.proofs.floors.floors_in.Goals as goal

pub returns : goal.returns
unfolding floors_in
returns c =
    let long : (length c.args.octets.now == 32) ≡ true = grind (arith, nat_tests) in
    ap Some (floors_of-read c.args.octets.now c.read_u16_into.new.dst (omega arith) c.read_u16_into.ensures)
    ∙ sym (ap (λ (b : Bool). cond b (Some (floors_of c.args.octets.now)) None) long)
