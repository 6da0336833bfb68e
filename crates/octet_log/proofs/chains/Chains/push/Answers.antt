use Rattle.std.proofs.Common.{◌≡◌, List, [], ◌∷◌, ◌++◌, length, length-append, arith, ap}
use Rattle.std.specs.Prelude.{slice_index}
use Rattle.std.proofs.lemmas.List.{get_or_read}
use Rattle.octet_log.specs.declared.chains.Link.{Link}
use Rattle.octet_log.specs.LogChains.{Chained}
use Rattle.octet_log.proofs.Lasts.{if_ok}
use Rattle.octet_log.proofs.Links.{linked_push}
use Rattle.octet_log.proofs.chains.Chains.push.Goals as goal

pub invariant_of-self : goal.invariant_of-self
invariant_of-self c =
    let heads = c.self.inside.heads.items in
    let links = c.self.inside.links.items in
    let places : c.self.inside.places ≡ c.args.self.now.places = ap (λ (l : Chained). l.places) c.self.view_is in
    let link : Link = record { chain = c.args.chain; before = c.index.result.now } in
    let size : length heads ≡ 16384 = c.self.invariant.made (omega (arith, c.requires.places, places)) in
    let head : c.index.result.now ≡ slice_index heads c.args.chain = get_or_read heads c.args.chain c.index.result.now (omega (arith, size, c.requires.chain))
    c.index.ensures 0 in
    let pushed : c.push.new.self.items ≡ links ++ link ∷ [] =
    if_ok c.push.result (links ++ link ∷ []) links c.push.new.self.items
    (c.push.ensures.succeeds (omega (arith, c.self.invariant.fit, c.requires.places, places))) c.push.ensures.items in
    rw pushed (linked_push heads links c.self.inside.places c.self.inside.links.cap c.self.invariant link c.requires.chain
    (omega (arith, c.requires.places, places)) head c.len.result c.push.new.self.cap
    (omega (arith, c.len.ensures, ap (λ (l : List Link). length l) pushed, length-append links (link ∷ []))) c.push.ensures.capacity)
