use Rattle.script_lines.proofs.TakenOctets.{feed_found, no_feed_found}
use Rattle.script_lines.proofs.input.find_feed.Goals as goal

pub returns-in-Some : goal.returns-in-Some
returns-in-Some c = feed_found c.args.octets.now c.args.clear c.args.end c.in-Some.at c.requires.within c.requires.order c.requires.none c.in-Some.ensures

pub returns-in-None : goal.returns-in-None
returns-in-None c = no_feed_found c.args.octets.now c.args.clear c.args.end c.requires.within c.requires.order c.requires.none c.in-None.ensures
