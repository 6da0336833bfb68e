use Rattle.script_faults.proofs.bad_event.BadEvent.no_node_word.Goals as goal

pub returns : goal.returns
unfolding Rattle.script_faults.specs.EventFindings.no_node_word
returns c = rw (← c.self.view_is)
    (rw (c.words.ensures, c.number.ensures, c.words-2.ensures, c.number-2.ensures, c.words-3.ensures, c.last_of-last.ensures) at c.found.ensures)
