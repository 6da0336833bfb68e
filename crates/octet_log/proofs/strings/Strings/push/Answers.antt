use Rattle.std.proofs.Common.{◌≡◌, [], ◌∷◌, ◌++◌, List, ℕ, ap, ◌∙◌, ◌-◌, arith, length, length-append}
use Rattle.octet_log.specs.LogChains.{strings_of}
use Rattle.octet_log.specs.Logs.{Log}
use Rattle.octet_log.proofs.Ends.{ends_push, strings_push}
use Rattle.octet_log.proofs.Lasts.{if_ok}
use Rattle.octet_log.proofs.strings.Strings.push.Goals as goal

pub invariant_of-self : goal.invariant_of-self
invariant_of-self c =
    let xs = c.self.inside.octets.items in
    let ends = c.self.inside.ends.items in
    let more = c.args.octets.now in
    let places : c.self.inside.places ≡ c.args.self.now.places = ap (λ (l : Log). l.places) c.self.view_is in
    let room : c.self.inside.room ≡ c.args.self.now.room = ap (λ (l : Log). l.room) c.self.view_is in
    let grown : c.extend_from_slice.new.self.items ≡ xs ++ more =
    if_ok c.extend_from_slice.result (xs ++ more) xs c.extend_from_slice.new.self.items
    (c.extend_from_slice.ensures.succeeds (omega (arith, c.self.invariant.room_fits, c.requires.room, room))) c.extend_from_slice.ensures.items in
    let end : c.len.result ≡ length (xs ++ more) = omega (arith, c.len.ensures, ap (λ (l : List ℕ). length l) grown) in
    let pushed : c.push.new.self.items ≡ ends ++ length (xs ++ more) ∷ [] =
    if_ok c.push.result (ends ++ c.len.result ∷ []) ends c.push.new.self.items
    (c.push.ensures.succeeds (omega (arith, c.self.invariant.places_fit, c.requires.places, places))) c.push.ensures.items
    ∙ ap (λ (n : ℕ). ends ++ n ∷ []) end in
    rw (grown, pushed) (record {
      placed = ends_push 0 ends (length xs) (length (xs ++ more)) c.self.invariant.placed (omega (arith, length-append xs more));
      places_fit =
          omega (arith, c.self.invariant.places_fit, c.requires.places, places, c.push.ensures.capacity, length-append ends (length (xs ++ more) ∷ []));
      room_fits = omega (arith, c.self.invariant.room_fits, c.requires.room, room, c.extend_from_slice.ensures.capacity, length-append xs more);
    })

pub returns : goal.returns
returns c =
    let xs = c.self.inside.octets.items in
    let ends = c.self.inside.ends.items in
    let more = c.args.octets.now in
    let places : c.self.inside.places ≡ c.args.self.now.places = ap (λ (l : Log). l.places) c.self.view_is in
    let room : c.self.inside.room ≡ c.args.self.now.room = ap (λ (l : Log). l.room) c.self.view_is in
    let grown : c.extend_from_slice.new.self.items ≡ xs ++ more =
    if_ok c.extend_from_slice.result (xs ++ more) xs c.extend_from_slice.new.self.items
    (c.extend_from_slice.ensures.succeeds (omega (arith, c.self.invariant.room_fits, c.requires.room, room))) c.extend_from_slice.ensures.items in
    let end : c.len.result ≡ length (xs ++ more) = omega (arith, c.len.ensures, ap (λ (l : List ℕ). length l) grown) in
    let pushed : c.push.new.self.items ≡ ends ++ length (xs ++ more) ∷ [] =
    if_ok c.push.result (ends ++ c.len.result ∷ []) ends c.push.new.self.items
    (c.push.ensures.succeeds (omega (arith, c.self.invariant.places_fit, c.requires.places, places))) c.push.ensures.items
    ∙ ap (λ (n : ℕ). ends ++ n ∷ []) end in
    let strings : strings_of c.extend_from_slice.new.self.items 0 c.push.new.self.items ≡ c.args.self.now.strings ++ more ∷ [] =
    (λ i. strings_of (grown i) 0 (pushed i)) ∙ strings_push xs more 0 ends c.self.invariant.placed ∙ ap (λ (l : Log). l.strings ++ more ∷ []) c.self.view_is in
    λ i. record { strings = strings i; places = places i - 1; room = room i - length more }
