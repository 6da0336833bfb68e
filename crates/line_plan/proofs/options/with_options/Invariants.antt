use Rattle.std.proofs.Common.{◌≡◌}
use Rattle.toml.specs.View.{table_view}
use Rattle.line_plan.specs.Options.{with_options}
use Rattle.line_plan.proofs.Members.{rest_of}
use Rattle.line_plan.proofs.options.with_options.Given as goal

-- the rest of the options makes of the table now what all of them make of the table before
abbrev pub invariant-loop-nth : goal.invariant-loop-nth
invariant-loop-nth l = rest_of l.nth l.options (table_view l.table) ≡ with_options 0 l.options (table_view l.fn.table)
