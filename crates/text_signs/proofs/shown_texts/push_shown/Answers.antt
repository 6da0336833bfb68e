use Rattle.std.proofs.Common.{◌++◌, flat_map, sym, ap, ◌∙◌, map-id}
use Rattle.std.specs.Prelude.{string_bytes}
use Rattle.std.proofs.lemmas.Iterator.{YieldsList-from_chars}
use Rattle.std.proofs.lemmas.Iterator.Consumers.{YieldsList-end}
use Rattle.text_signs.specs.Signs.{sign_text}
use Rattle.text_signs.proofs.shown_texts.push_shown.Goals as goal

pub returns : goal.returns
returns c =
    let end = YieldsList-end (YieldsList-from_chars c.args.words.now c.utf8.words cc) c.loop-sign.yielded _ c.loop-sign.yielded_by _ _ c.in-None.is
    c.next.ensures.steps in
    c.loop-sign.invariant ∙ ap (λ cs. string_bytes c.args.text.now ++ flat_map sign_text cs) (sym (map-id c.loop-sign.yielded) ∙ end.0)
