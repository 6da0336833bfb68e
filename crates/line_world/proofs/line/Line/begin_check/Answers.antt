-- The reply that a node sent begins a check.
use Rattle.std.proofs.Common.{◌∙◌, Option, ap, sym}
use Rattle.node_rules.specs.declared.heard.Reply.{Reply}
use Rattle.line_world.specs.Arrivals.{with_check_of}
use Rattle.line_world.specs.Lines.{world_of}
use Rattle.line_world.proofs.ReplyChecks.{no_check, one_check}
use Rattle.line_world.proofs.FurtherCalls.{beside_found}
use Rattle.line_world.proofs.line.Line.begin_check.Goals as goal

pub returns-in_default-clause-world : goal.returns-in_default-clause-world
returns-in_default-clause-world c =
    let w = world_of c.args.self.now in
    no_check w c.args.node ∙ ap (λ (o : Option Reply). with_check_of w c.args.node o) (sym c.in_default.is)

pub returns-clause-world : goal.returns-clause-world
returns-clause-world c =
    let w = world_of c.args.self.now in
    let b = c.behind-self.inside in
    one_check w c.args.node c.in-Some.reply (record { checks = b.checks; log = b.log; scan = b.scan }) c.reply_sent.new.self
    (c.behind-self.view_is ∙ beside_found w.beside c.args.node c.index_mut.result.now c.requires.there c.index_mut.ensures.value) c.reply_sent.ensures.value
    ∙ ap (λ (o : Option Reply). with_check_of w c.args.node o) (sym c.in-Some.is)
