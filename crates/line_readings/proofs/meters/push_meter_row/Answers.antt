use Rattle.std.proofs.Common.{[], ◌∷◌, ◌∙◌, ap, refl}
use Rattle.line_readings.specs.declared.csv.Cell.TheVariants as cell
use Rattle.line_readings.proofs.Counting.{came_and_missing}
use Rattle.line_readings.proofs.meters.push_meter_row.Goals as goal

pub returns : goal.returns
returns c =
    record {
      others = _;
      row = record {
        name = c.unwrap_or-name.result.now;
        more = c.number-first.result ∷ c.seconds_if-middle.result ∷ c.seconds_if-worst.result ∷ c.seconds-silence.result ∷ c.words-2.result ∷ [];
        cells = λ i.
            c.words.ensures i
            ∷ (c.number.ensures ∙ ap cell.Number c.counts_of-counts.ensures.due) i
            ∷ (c.number-2.ensures ∙ ap cell.Number c.counts_of-counts.ensures.came) i
            ∷ (c.number-3.ensures ∙ ap cell.Number c.counts_of-counts.ensures.missing) i
            ∷ c.number-first.result
            ∷ c.seconds_if-middle.result
            ∷ c.seconds_if-worst.result
            ∷ c.seconds-silence.result
            ∷ c.words-2.result
            ∷ [];
        width = refl;
        sum = came_and_missing c.args.node c.args.readings.now;
      };
      added = c.in_ok-push_row.ensures;
    }
