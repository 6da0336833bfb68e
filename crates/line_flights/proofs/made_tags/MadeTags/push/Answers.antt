-- The spelling of one more tag is one more spelling.
use Rattle.std.proofs.Common.{rules, ◌≡◌, ◌-◌, ◌<◌, [], ◌∷◌, ◌++◌, ℕ, ap, sym, subst, ◌∙◌, arith}
use Rattle.std.specs.Prelude.{slice_index}
use Rattle.std.proofs.lemmas.List.{map_push}
use Rattle.plc_base.specs.Tags.{tag_octets}
use Rattle.line_flights.specs.Flown.{Made}
use Rattle.line_flights.specs.SpelledTags.{tag_of, AreSpelled}
use Rattle.line_flights.proofs.TagSpellings.{spelling_of, spelled_push, tag_back}
use Rattle.line_flights.proofs.made_tags.MadeTags.push.Goals as goal

pub invariant_of-self : goal.invariant_of-self
invariant_of-self c =
    let e : c.octets-octets.result.now ≡ tag_octets c.args.tag.now = c.octets-octets.ensures.value ∙ c.spelling-spelling.ensures.octets in
    let small : (k : ℕ) → slice_index c.octets-octets.result.now k < 256 = search rules in
    let places : c.self.inside.log.places ≡ c.args.self.now.places = ap (λ (m : Made). m.places) c.self.view_is in
    subst AreSpelled (sym c.push.ensures)
    (spelled_push c.self.inside.log c.octets-octets.result.now c.self.invariant
    (spelling_of c.args.tag.now c.octets-octets.result.now e c.spelling-spelling.ensures.sound small) (omega (arith, c.requires.places, places))
    c.octets-octets.ensures.fits)

pub returns : goal.returns
returns c =
    let e : tag_of c.octets-octets.result.now ≡ c.args.tag.now =
    ap tag_of (c.octets-octets.ensures.value ∙ c.spelling-spelling.ensures.octets) ∙ tag_back c.args.tag.now c.spelling-spelling.ensures.sound in
    let places : c.self.inside.log.places ≡ c.args.self.now.places = ap (λ (m : Made). m.places) c.self.view_is in
    let tags = map_push tag_of c.self.inside.log.strings c.octets-octets.result.now ∙ (λ i. (c.self.view_is i).tags ++ e i ∷ []) in
    rw c.push.ensures (λ i. record { tags = tags i; places = places i - 1 })
