-- A tag is forged where no string of the log is its spelling.
use Rattle.std.proofs.Common.{rules, ◌≡◌, ◌<◌, List, ℕ, ap, subst, ◌∙◌}
use Rattle.std.specs.Prelude.{slice_index}
use Rattle.octet_log.specs.Logs.{IsLast}
use Rattle.line_flights.specs.Flights.{is_forged_tag}
use Rattle.line_flights.specs.Flown.{Made}
use Rattle.plc_base.specs.Tags.{tag_octets}
use Rattle.line_flights.proofs.TagSpellings.{forged_by_last}
use Rattle.line_flights.proofs.made_tags.MadeTags.is_forged.Goals as goal

pub returns : goal.returns
returns c =
    let e : c.octets-octets.result.now ≡ tag_octets c.args.tag.now = c.octets-octets.ensures.value ∙ c.spelling-spelling.ensures.octets in
    let small : (k : ℕ) → slice_index c.octets-octets.result.now k < 256 = search rules in
    forged_by_last c.args.tag.now c.spelling-spelling.ensures.sound (subst (λ (l : List ℕ). (k : ℕ) → slice_index l k < 256) e small) c.self.inside.log.strings
    c.last.result c.self.invariant.each
    (subst (λ (l : List ℕ). IsLast c.self.inside.log.strings l c.last.result) e c.last.ensures)
    ∙ ap (λ (m : Made). is_forged_tag m.tags c.args.tag.now) c.self.view_is
