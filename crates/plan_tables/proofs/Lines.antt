-- The lines of a text, one octet on.
use Rattle.std.proofs.Common.{◌≡◌, ◌≢◌, ℕ, ◌+◌, ◌-◌, ◌<◌, ◌≤◌, List, [], ◌∷◌, ◌++◌, length, get_or, take, drop, refl, ap, ◌∙◌, arith}
use Rattle.std.proofs.Common.{Option, None, Some, option_map}
use Rattle.std.specs.Prelude.{is_some}
use Rattle.std.proofs.lemmas.Bool.{ne_eqb}
use Rattle.std.proofs.lemmas.List.{drop_more, take_more, get_or-drop, length-drop}
use Rattle.plan_tables.specs.declared.text_places.Finder.{Finder}
use Rattle.plan_tables.specs.declared.text_places.Step.TheVariants.{More}
use Rattle.plan_tables.specs.TextPlaces.{found, line_step, lines_from}

-- what there is, there is as another thing too
pub still_some : {A B : Type 0} (f : A → B) (o : Option A) → is_some o ≡ is_some (option_map f o)
still_some f None = refl
still_some f (Some x) = refl

-- a line feed ends a line
pub lines_feed : (part text : List ℕ) (at : ℕ) → at < length text → get_or text at 0 ≡ 10
    → lines_from part (drop at text) ≡ part ∷ lines_from [] (drop (at + 1) text)
lines_feed part text at here feed = rw (drop_more text at 0 here, feed) refl

pub found_feed : (name key text : List ℕ) (finder next : Finder) (start at : ℕ) → at < length text → get_or text at 0 ≡ 10
    → More next ≡ line_step name key finder (take (at - start) (drop start text))
    → found name key finder (lines_from (take (at - start) (drop start text)) (drop at text))
    ≡ found name key next (lines_from (take (at + 1 - (at + 1)) (drop (at + 1) text)) (drop (at + 1) text))
found_feed name key text finder next start at here feed made =
    let none : at + 1 - (at + 1) ≡ 0 = omega arith in
    rw (lines_feed (take (at - start) (drop start text)) text at here feed, ← made, none) refl

-- another octet is one more of the line
pub lines_more : (part text : List ℕ) (at : ℕ) → at < length text → get_or text at 0 ≢ 10
    → lines_from part (drop at text) ≡ lines_from (part ++ get_or text at 0 ∷ []) (drop (at + 1) text)
lines_more part text at here other = rw (drop_more text at 0 here, ne_eqb (get_or text at 0) 10 other) refl

pub part_more : (text : List ℕ) (start at : ℕ) → start ≤ at → at < length text
    → take (at + 1 - start) (drop start text) ≡ take (at - start) (drop start text) ++ get_or text at 0 ∷ []
part_more text start at low here =
    let long = length-drop start text in
    let more : at + 1 - start ≡ at - start + 1 = omega (arith, low) in
    let whole : start + (at - start) ≡ at = omega (arith, low) in
    let same : get_or (drop start text) (at - start) 0 ≡ get_or text at 0 = get_or-drop start text (at - start) 0 ∙ ap (λ i. get_or text i 0) whole in
    rw (more, take_more (drop start text) (at - start) 0 (omega (arith, long, low, here)), same) refl

pub found_more : (name key text : List ℕ) (finder : Finder) (start at : ℕ) → start ≤ at → at < length text → get_or text at 0 ≢ 10
    → found name key finder (lines_from (take (at - start) (drop start text)) (drop at text))
    ≡ found name key finder (lines_from (take (at + 1 - start) (drop start text)) (drop (at + 1) text))
found_more name key text finder start at low here other =
    rw (lines_more (take (at - start) (drop start text)) text at here other, part_more text start at low here) refl
