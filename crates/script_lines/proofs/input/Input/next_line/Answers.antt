use Rattle.std.proofs.Common.{◌+◌, ◌-◌, ◌≤◌, refl, ap, ◌∙◌, arith, drop, length, length-drop}
use Rattle.std.proofs.lemmas.List.{nil_from_length}
use Rattle.std.proofs.lemmas.Result.{err_from_is_err_and}
use Rattle.plc_base.proofs.SourceLemmas.{no_reads, both_reads}
use Rattle.script_lines.specs.Windows.{Window}
use Rattle.script_lines.proofs.TakenOctets.{taking_none, taking_shed, taking_more, shed_clear, clear_front, found_line, found_too_much, found_at_end}
use Rattle.script_lines.proofs.TakenOctets.{found_failure}
use Rattle.script_lines.proofs.input.Input.next_line.Goals as goal

pub loop-at-init : goal.loop-at-init
loop-at-init g c = record {
  taking = taking_none _ _ _ _ _;
  begin = omega arith;
  count = omega arith;
  later = omega arith;
  inside = omega arith;
  within = omega (arith, c.requires);
  none = tt;
  over = λ was. was;
  faults = no_reads _;
}

pub returns-in-Feed-clause-next : goal.returns-in-Feed-clause-next
returns-in-Feed-clause-next g c =
    let took = c.take_line.ensures in
    found_line
    c.loop-at.invariant.taking
    c.in-Feed.at
    _
    _
    _
    _
    _
    _
    c.in-Feed.ensures
    took.kind
    took.seen
    (omega (arith, took.count, c.loop-at.invariant.count))
    (ap (λ (w : Window). w.line) took.window)
    (ap (λ (w : Window). w.ahead) took.window)
    took.ended

pub returns-in-PastRoom-clause-next : goal.returns-in-PastRoom-clause-next
returns-in-PastRoom-clause-next g c =
    let took = c.take_too_much.ensures in
    found_too_much
    c.loop-at.invariant.taking
    _
    (67108864 - c.loop-at.self.seen)
    _
    _
    _
    _
    _
    refl
    (omega (arith, c.loop-at.invariant.within))
    c.in-PastRoom.ensures
    took.kind
    (omega (arith, took.count, c.loop-at.invariant.count))
    (ap (λ (w : Window). w.ahead) took.window)
    took.ended

pub returns-then-self-clause-next : goal.returns-then-self-clause-next
returns-then-self-clause-next g c =
    let took = c.take_last.ensures in
    let ahead = c.loop-at.self.window.ahead in
    let found = c.in-Neither.ensures in
    found_at_end
    c.loop-at.invariant.taking
    _
    _
    _
    _
    _
    _
    c.if-self.true
    found.1
    (omega (arith, found.0, c.loop-at.invariant.within))
    (omega (arith, c.loop-at.invariant.later, c.loop-at.invariant.begin))
    took.seen
    took.kind
    (took.count ∙ rw c.loop-at.invariant.count refl)
    (ap (λ (w : Window). w.line) took.window)
    (ap (λ (w : Window). w.ahead) took.window ∙ nil_from_length (drop (length ahead) ahead) (omega (arith, length-drop (length ahead) ahead)))
    took.ended

pub loop-at-preserved : goal.loop-at-preserved
loop-at-preserved g c =
    let found = c.in-Neither.ensures in
    let room : c.loop-at.self.seen + length c.loop-at.self.window.ahead ≤ 67108864 = omega (arith, found.0, c.loop-at.invariant.within) in
    let shed = c.shed-long.ensures.shed in
    let clear = shed_clear c.loop-at.self.seen c.shed-long.new.self.seen c.loop-at.self.window.ahead c.shed-long.new.self.window.ahead c.loop-at.long
    c.shed-long.result found.1 room shed in
    let given = c.in_ok-refill.ensures.refills.given in
    let front = clear_front c.shed-long.new.self.window.ahead c.refill.new.self.window.ahead given.octets given.grown clear.0 in
    let there = c.len-clear.ensures.len in record {
      taking = rw c.in_ok-refill.ensures.seen (taking_more (taking_shed c.loop-at.invariant.taking c.shed-long.new.self.seen c.shed-long.new.self.window.ahead
          c.shed-long.result found.1 room shed) c.if-self.false given);
      begin = c.loop-at.invariant.begin;
      count = c.in_ok-refill.ensures.count ∙ c.shed-long.ensures.count ∙ c.loop-at.invariant.count;
      later = omega (arith, c.in_ok-refill.ensures.seen, clear.2, c.loop-at.invariant.later);
      inside = rw there front.1;
      within = rw (there, c.in_ok-refill.ensures.seen) clear.1;
      none = rw there front.0;
      over = λ was. c.in_ok-refill.ensures.refills.over;
      faults = both_reads c.loop-at.invariant.faults c.in_ok-refill.ensures.refills.faults.faults;
    }

pub returns-in_err-refill-clause-next : goal.returns-in_err-refill-clause-next
returns-in_err-refill-clause-next g c =
    let found = c.in-Neither.ensures in
    let room : c.loop-at.self.seen + length c.loop-at.self.window.ahead ≤ 67108864 = omega (arith, found.0, c.loop-at.invariant.within) in
    let shed = c.shed-long.ensures.shed in
    let clear = shed_clear c.loop-at.self.seen c.shed-long.new.self.seen c.loop-at.self.window.ahead c.shed-long.new.self.window.ahead c.loop-at.long
    c.shed-long.result found.1 room shed in
    let p = err_from_is_err_and c.from_residual.result c.from_residual.ensures.1 in
    rw p.1 (found_failure (taking_shed c.loop-at.invariant.taking c.shed-long.new.self.seen c.shed-long.new.self.window.ahead c.shed-long.result found.1 room
    shed) p.0 _ _ _ _ _ c.if-self.false clear.0 clear.1 c.in_err-refill.ensures.refills.kept.2)
