-- Lemmas of tables: one row more.
use Rattle.std.proofs.Common.{◌≡◌, ◌∙◌, ℕ, ◌+◌, ◌<◌, List, [], ◌∷◌, ◌++◌, take, map, length, All, ap, sym, refl}
use Rattle.std.specs.Prelude.{get_or}
use Rattle.std.proofs.lemmas.List.{append-nil, append_assoc, map-append, take_more}
use Rattle.std.proofs.lemmas.List.Elements.{All-nil, All-push}
use Rattle.line_readings.specs.declared.links.TheConstants.{LINKS_HEAD}
use Rattle.line_readings.specs.declared.meters.TheConstants.{METERS_HEAD}
use Rattle.line_readings.specs.declared.reading.Reading.{Reading}
use Rattle.line_readings.specs.declared.csv.Cell.{Cell}
use Rattle.line_readings.specs.Readings.{AddsMeter, HasRows, IsLinkRow, IsLinkTable, IsMeterRow}
use Rattle.line_readings.specs.Tables.{Row, row_text, rows_text}

rows_push : (rows : List Row) (row : Row) → rows_text (rows ++ row ∷ []) ≡ rows_text rows ++ row_text row.node row.others
rows_push [] row = append-nil (row_text row.node row.others)
rows_push (first ∷ rows) row =
    ap (λ (t : List ℕ). row_text first.node first.others ++ t) (rows_push rows row)
    ∙ sym (append_assoc (row_text first.node first.others) (rows_text rows) (row_text row.node row.others))

text_push : (head old new : List ℕ) (rows : List Row) (row : Row) → old ≡ head ++ rows_text rows → new ≡ old ++ row_text row.node row.others
    → new ≡ head ++ rows_text (rows ++ row ∷ [])
text_push head old new rows row was added =
    added
    ∙ ap (λ (t : List ℕ). t ++ row_text row.node row.others) was
    ∙ append_assoc head (rows_text rows) (row_text row.node row.others)
    ∙ ap (λ (t : List ℕ). head ++ t) (sym (rows_push rows row))

-- # Meters

pub no_meter : (readings : List Reading) (text : List ℕ) → text ≡ METERS_HEAD.now → HasRows readings [] text
no_meter readings text is = record { rows = []; whole = is ∙ sym (append-nil METERS_HEAD.now); nodes = refl; each = All-nil (IsMeterRow readings) }

-- the row of one meter more
pub one_meter_more : (readings : List Reading) (meters : List ℕ) (i d : ℕ) (old new : List ℕ) → i < length meters
    → HasRows readings (take i meters) old → AddsMeter readings (get_or meters i d) old new → HasRows readings (take (i + 1) meters) new
one_meter_more readings meters i d old new lt h add =
    let row : Row = record { node = get_or meters i d; others = add.others } in
    record {
      rows = h.rows ++ row ∷ [];
      whole = text_push METERS_HEAD.now old new h.rows row h.whole add.added;
      nodes = map-append (λ (r : Row). r.node) h.rows (row ∷ [])
          ∙ ap (λ (xs : List ℕ). xs ++ get_or meters i d ∷ []) h.nodes
          ∙ sym (take_more meters i d lt);
      each = All-push (IsMeterRow readings) h.rows row h.each add.row;
    }

-- # Links

pub no_link : (text : List ℕ) → text ≡ LINKS_HEAD.now → IsLinkTable text
no_link text is = record { rows = []; whole = is ∙ sym (append-nil LINKS_HEAD.now); each = All-nil IsLinkRow }

-- the row of one link more
pub one_link_more : (node : ℕ) (others : List Cell) (old new : List ℕ) → length others ≡ 5 → new ≡ old ++ row_text node others → IsLinkTable old
    → IsLinkTable new
one_link_more node others old new width added h =
    let row : Row = record { node = node; others = others } in
    record {
      rows = h.rows ++ row ∷ [];
      whole = text_push LINKS_HEAD.now old new h.rows row h.whole added;
      each = All-push IsLinkRow h.rows row h.each width;
    }
