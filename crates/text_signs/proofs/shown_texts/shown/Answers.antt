use Rattle.std.proofs.Common.{◌++◌, ap, chars, flat_map, subst, sym, ◌∙◌}
use Rattle.text_signs.specs.Signs.{HidesNothing, sign_text}
use Rattle.text_signs.proofs.ShownSigns.{shown_plain}
use Rattle.text_signs.proofs.shown_texts.shown.Goals as goal

pub returns-clause-plain : goal.returns-clause-plain
returns-clause-plain c =
    let words = c.as_str.result.now in
    subst HidesNothing (sym (c.in_ok-push_shown.ensures ∙ ap (λ text. text ++ flat_map sign_text (chars words)) c.new-text.ensures.bytes))
    (shown_plain words c.as_str.utf8)
