use Rattle.std.proofs.Common.{[], ◌∷◌, refl}
use Rattle.line_readings.proofs.Tabling.{one_link_more}
use Rattle.line_readings.proofs.links.push_link.Goals as goal

pub returns : goal.returns
returns c =
    one_link_more c.args.link.now.a (c.number.result ∷ c.number-2.result ∷ c.number-3.result ∷ c.number-4.result ∷ c.words.result ∷ []) _ _ refl
    c.in_ok-push_row.ensures
