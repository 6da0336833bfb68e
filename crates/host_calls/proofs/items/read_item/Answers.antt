use Rattle.host_calls.proofs.ReadLemmas.{torn, failed_within}
use Rattle.host_calls.proofs.items.read_item.Goals as goal

pub returns-then-not-whole-2-clause-read : goal.returns-then-not-whole-2-clause-read
returns-then-not-whole-2-clause-read g c =
    torn (g.S.Source.state c.args.source.now) (g.S.Source.state c.fill.new.source) (g.S.Source.state c.fill-2.new.source)
    c.fill.new.octets c.fill-2.new.octets _ c.in-Ok.whole c.in-Ok-fill.whole c.in-Ok.ensures.read c.if-not-whole.false c.in-Ok-fill.ensures.read
    c.if-not-whole-2.true

pub returns-in_default-fill-clause-read : goal.returns-in_default-fill-clause-read
returns-in_default-fill-clause-read g c =
    failed_within (g.S.Source.state c.args.source.now) (g.S.Source.state c.fill.new.source) (g.S.Source.state c.fill-2.new.source)
    c.fill.new.octets c.fill-2.new.octets _ c.in-Ok.whole c.in_default-fill.field-0 c.in-Ok.ensures.read c.if-not-whole.false c.in-Ok.ensures.faults
    c.in_default-fill.ensures.read
