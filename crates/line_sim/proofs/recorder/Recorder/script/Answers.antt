use Rattle.std.proofs.Common.{ℕ, ap, nat_lt}
use Rattle.line_sim.proofs.Scripts.{script_leads, script_is_quiet, script_is_causal, script_is_in_order, script_is_timed}
use Rattle.line_sim.proofs.recorder.Recorder.script.Goals as goal

pub returns-clause-leads : goal.returns-clause-leads
returns-clause-leads g c = rw (← c.self.view_is) (script_leads c.lines_of_a_script.ensures c.self.invariant)

pub returns-clause-quiet : goal.returns-clause-quiet
returns-clause-quiet g c = rw (← c.self.view_is) (λ none. script_is_quiet c.lines_of_a_script.ensures c.self.invariant (ap (λ (n : ℕ). nat_lt 0 n) none))

pub returns-clause-causal : goal.returns-clause-causal
returns-clause-causal g c = rw (← c.self.view_is) (script_is_causal c.lines_of_a_script.ensures c.self.invariant)

pub returns-clause-in_order : goal.returns-clause-in_order
returns-clause-in_order g c = rw (← c.self.view_is) (script_is_in_order c.lines_of_a_script.ensures c.self.invariant)

pub returns-clause-clock : goal.returns-clause-clock
returns-clause-clock g c = rw (← c.self.view_is) (script_is_timed c.lines_of_a_script.ensures c.self.invariant)
