use Rattle.std.proofs.Common.{ap, ◌∙◌}
use Rattle.line_air.specs.Calendars.{put}
use Rattle.line_air.specs.Numbered.{due_of}
use Rattle.line_air.proofs.CalendarPuts.{put_in, put_before}
use Rattle.line_air.proofs.calendar.Calendar.put.Goals as goal

pub invariant_of-self-2 : goal.invariant_of-self-2
invariant_of-self-2 c =
    rw c.in_ok-insert.ensures.entries
    (put_before c.self.inside.moments.entries c.args.at c.self.inside.next c.args.moment c.self.invariant)

pub returns : goal.returns
returns c =
    ap due_of c.in_ok-insert.ensures.entries
    ∙ put_in c.self.inside.moments.entries c.args.at c.self.inside.next c.args.moment c.self.invariant
    ∙ ap (put c.args.at c.args.moment) c.self.view_is
