use Rattle.std.proofs.Common.{◌≡◌, ◌≤◌, ◌<◌, ◌∷◌, List, ℕ, Some, ap, sym, ◌∙◌, arith, length}
use Rattle.std.specs.Prelude.{slice_get, slice_index, slice_range}
use Rattle.std.proofs.lemmas.List.{get_or_read}
use Rattle.std.proofs.lemmas.Option.{slice_get_past}
use Rattle.octet_log.specs.Logs.{Log}
use Rattle.octet_log.proofs.Ends.{length_strings, end_within, string_at}
use Rattle.octet_log.proofs.strings.Strings.get.Goals as goal

pub returns-then-place-len : goal.returns-then-place-len
returns-then-place-len c =
    let count : length c.args.self.now.strings ≤ c.args.place =
    omega (
      arith,
      c.len.ensures,
      c.if-place-len.true,
      length_strings c.self.inside.octets.items 0 c.self.inside.ends.items,
      ap (λ (l : Log). length l.strings) c.self.view_is,
    ) in
    sym (slice_get_past c.args.self.now.strings c.args.place count)

pub part-requires : goal.part-requires
part-requires c =
    let ends = c.self.inside.ends.items in
    let inside : c.args.place < length ends = omega (arith, c.if-place-len.false, c.len.ensures) in
    let is = end_within 0 ends (length c.self.inside.octets.items) c.args.place c.self.invariant.placed inside in
    let start : c.start_of-start.result
    ≡ slice_index (0 ∷ ends) c.args.place = c.start_of-start.ensures ∙ ap (λ (l : List ℕ). slice_index (0 ∷ l) c.args.place) c.deref.ensures.value in
    let end : c.index.result.now ≡ slice_index ends c.args.place = get_or_read ends c.args.place c.index.result.now inside c.index.ensures 0 in
    record {
      order = omega (arith, is.0, start, end);
      within = omega (arith, is.1, end, ap (λ (l : List ℕ). length l) c.deref-2.ensures.value);
    }

pub returns : goal.returns
returns c =
    let octets = c.self.inside.octets.items in
    let ends = c.self.inside.ends.items in
    let inside : c.args.place < length ends = omega (arith, c.if-place-len.false, c.len.ensures) in
    let start : c.start_of-start.result
    ≡ slice_index (0 ∷ ends) c.args.place = c.start_of-start.ensures ∙ ap (λ (l : List ℕ). slice_index (0 ∷ l) c.args.place) c.deref.ensures.value in
    let end : c.index.result.now ≡ slice_index ends c.args.place = get_or_read ends c.args.place c.index.result.now inside c.index.ensures 0 in
    let value : c.deref-2.result.now ≡ octets = c.deref-2.ensures.value in
    ap Some (c.part.ensures ∙ (λ i. slice_range (value i) (start i) (end i)))
    ∙ sym (ap (λ (l : Log). slice_get l.strings c.args.place) (sym c.self.view_is) ∙ string_at octets 0 ends c.args.place inside)
