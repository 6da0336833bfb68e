use Rattle.std.proofs.Common.{◌≡◌, sym, subst}
use Rattle.std.specs.Prelude.{IfOk, string_bytes}
use Rattle.frame_facts.specs.declared.gist.Gist.{Gist}
use Rattle.event_sentences.specs.Scenes.{scene_of}
use Rattle.event_sentences.specs.Taken.{reported_text}
use Rattle.event_sentences.proofs.moment.Moment.reported_by.Goals as goal

pub returns-in-Ends : goal.returns-in-Ends
returns-in-Ends c =
    subst (λ (g : Gist). IfOk c.reported_end.result (λ text. string_bytes text ≡ reported_text g (scene_of c.args.self.now)))
    (sym c.in-Ends.is) c.reported_end.ensures
