-- What is reserved is room for a spelling at each place.
use Rattle.std.proofs.Common.{refl}
use Rattle.line_flights.proofs.TagSpellings.{spelled_reserve}
use Rattle.line_flights.proofs.made_tags.MadeTags.reserve.Goals as goal

pub invariant_of-self : goal.invariant_of-self
invariant_of-self c =
    spelled_reserve c.reserve.result c.self.inside.log c.reserve.new.self c.args.tags _ refl c.reserve.ensures.ok c.reserve.ensures.err c.self.invariant
