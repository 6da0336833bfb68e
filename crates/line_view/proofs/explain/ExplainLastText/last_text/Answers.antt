use Rattle.std.proofs.Common.{List, ℕ, ◌++◌, ◌∙◌, ap}
use Rattle.std.specs.Prelude.{string_bytes}
use Rattle.line_view.proofs.explain.ExplainLastText.last_text.Goals as goal

pub returns : goal.returns
returns c =
    record {
      line = string_bytes c.in_ok-line.line;
      first = c.in_ok-line.ensures;
      whole = c.in_ok-octets.ensures ∙ ap (λ (rest : List ℕ). string_bytes c.in_ok-line.line ++ rest) (c.as_str.ensures.value ∙ c.in_ok-rest.ensures);
    }
