use Rattle.std.proofs.Common.{sym, ◌∙◌, arith}
use Rattle.plc_base.proofs.Places.{octets_all}
use Rattle.broadcast_log.proofs.Spellings.{broadcast_read, found_spelled, exactly, value_by, one_value}
use Rattle.broadcast_log.proofs.reading.read_broadcast.Goals as goal

pub returns-clause-found : goal.returns-clause-found
returns-clause-found c =
    let fits = octets_all c.args.octets.now (λ k. omega (arith, c.type_inv.octets k)) in
    found_spelled c.args.octets.now c.broadcast_of.result fits (value_by c.args.octets.now c.broadcast_of.result c.broadcast_of.ensures)

pub returns-clause-only : goal.returns-clause-only
returns-clause-only c = λ b spells. value_by c.args.octets.now c.broadcast_of.result c.broadcast_of.ensures ∙ broadcast_read b c.args.octets.now spells

pub returns-clause-exact : goal.returns-clause-exact
returns-clause-exact c = exactly c.args.octets.now c.broadcast_of.result (value_by c.args.octets.now c.broadcast_of.result c.broadcast_of.ensures)

pub returns-clause-one_value : goal.returns-clause-one_value
returns-clause-one_value c = λ a b left right. one_value a b c.args.octets.now left right

pub returns-clause-value : goal.returns-clause-value
returns-clause-value c = sym (value_by c.args.octets.now c.broadcast_of.result c.broadcast_of.ensures)
