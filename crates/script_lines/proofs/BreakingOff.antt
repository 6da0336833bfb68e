-- Where a report breaks off: by its lines, and then by the octets that they are made of.
use Rattle.std.proofs.Common.{◌≡◌, inl, inr, ◌⊎◌, ℕ, ◌+◌, ◌<◌, ◌≤◌, Bool, true, false, List, [], ◌∷◌, ◌++◌, length, IsTrue, refl, sym, ◌∙◌, ap, subst}
use Rattle.std.proofs.lemmas.Bool.{both_ways, cases_eq, cases_lt}
use Rattle.plc_base.specs.Streams.{IsPrefixOf}
use Rattle.script_lines.specs.Lines.{Content, Text, Long, TooMuch, Line, content_of, lines_from}
use Rattle.script_lines.specs.Next.{lines_with}
use Rattle.script_lines.specs.Outcomes.{Turn, Skips, Takes, Stops, Outcome, outcome_turn, outcome_from, BreaksOff}
use Rattle.script_lines.specs.Clauses.{turn_text, GoesOn, IsStop}
use Rattle.script_lines.proofs.TakenOctets.{line_of, fed, grown, too_much, open_end}
use Rattle.script_lines.proofs.Turns.{goes_no_stop, turn_front, no_lines_yet, front_of_front, front_behind}

front_of_nothing : (text : List ℕ) → IsPrefixOf [] text
front_of_nothing text = record { rest = text; whole = refl }

-- what one octet more puts before a report is before where it breaks off
moved : (ahead : ℕ) (c : ℕ) (text : List ℕ) (all rest : List ℕ → Bool → List ℕ)
    → ((octets : List ℕ) (e : Bool) → all (c ∷ octets) e ≡ text ++ rest octets e) → (cs v : List ℕ) (e : Bool) → BreaksOff ahead rest cs v e
    → BreaksOff ahead all (c ∷ cs) (text ++ v) e
moved ahead c text all rest is cs v e (inl b) = inl (record {
  before = c ∷ b.before;
  last = b.last;
  behind = b.behind;
  parts = ap (λ (l : List ℕ). c ∷ l) b.parts;
  few = b.few;
  whole = subst (λ (l : List ℕ). IsPrefixOf l (text ++ v)) (sym (is b.before false)) (front_behind text (rest b.before false) v (text ++ v) b.whole refl);
  cut = front_behind text v (rest (b.before ++ b.last ∷ []) false) (all (c ∷ (b.before ++ b.last ∷ [])) false) b.cut (is (b.before ++ b.last ∷ []) false);
})
moved ahead c text all rest is cs v e (inr b) = inr (record {
  over = b.over;
  whole = subst (λ (l : List ℕ). IsPrefixOf l (text ++ v)) (sym (is cs false)) (front_behind text (rest cs false) v (text ++ v) b.whole refl);
  cut = front_behind text v (rest cs true) (all (c ∷ cs) true) b.cut (is cs true);
})

module _ {M : Type 0} (turn : M → ℕ → Content → Turn M) (end_text : M → List ℕ) (ahead : ℕ) where
  -- what is said of what follows a line's turn, where the run goes on after it
  abbrev Behind : M → (M → List ℕ → Type 0) → List ℕ → Turn M → Type 0
  Behind m rest w Skips = rest m w
  Behind m rest w (Takes next text) = (v : List ℕ) × (w ≡ text ++ v) × rest next v
  Behind m rest w (Stops text) = ⊥

  -- w breaks off in the report of one of these lines, with few octets after it, or in what the end of input adds
  abbrev pub BreaksFrom : M → List Line → Bool → List ℕ → Type 0
  BreaksFrom m [] ended w = IsTrue ended × IsPrefixOf w (end_text m)
  BreaksFrom m (line ∷ ls) ended w =
      ((length line.behind ≤ ahead) × IsPrefixOf w (turn_text (turn m line.number line.content)))
      ⊎ Behind m (λ next v. BreaksFrom next ls ended v) w (turn m line.number line.content)

  -- ---- a line that was found

  pub breaks_here : (m : M) (number : ℕ) (what : Content) (behind : List ℕ) (rest : List Line) (e : Bool) (w : List ℕ) → length behind ≤ ahead
      → IsPrefixOf w (turn_text (turn m number what)) → BreaksFrom m (lines_with number what behind rest) e w
  breaks_here m number (Text octets) behind rest e w few front = inl (few, front)
  breaks_here m number Long behind rest e w few front = inl (few, front)
  breaks_here m number TooMuch behind rest e w few front = inl (few, front)

  behind_turn : (m0 m1 : M) (rest : M → List ℕ → Type 0) (w v : List ℕ) (t : Turn M) → GoesOn w m0 m1 t → rest m1 v → Behind m0 rest (w ++ v) t
  behind_turn m0 m1 rest w v Skips on b = rw on.1 (subst (λ m. rest m v) on.0 b)
  behind_turn m0 m1 rest w v (Takes next text) on b = (v, ap (λ (l : List ℕ). l ++ v) on.1, subst (λ m. rest m v) on.0 b)
  behind_turn m0 m1 rest w v (Stops text) on b = absurd on

  module _ (stops : (m : M) (number : ℕ) → IsStop (turn m number TooMuch)) where
    pub breaks_later : (m0 m1 : M) (number : ℕ) (what : Content) (behind : List ℕ) (rest : List Line) (e : Bool) (w v : List ℕ)
        → GoesOn w m0 m1 (turn m0 number what) → BreaksFrom m1 rest e v → BreaksFrom m0 (lines_with number what behind rest) e (w ++ v)
    breaks_later m0 m1 number (Text octets) behind rest e w v on b =
        inr (behind_turn m0 m1 (λ next u. BreaksFrom next rest e u) w v (turn m0 number (Text octets)) on b)
    breaks_later m0 m1 number Long behind rest e w v on b = inr (behind_turn m0 m1 (λ next u. BreaksFrom next rest e u) w v (turn m0 number Long) on b)
    breaks_later m0 m1 number TooMuch behind rest e w v on b = absurd (goes_no_stop w m0 m1 (turn m0 number TooMuch) (stops m0 number) on)

  -- ---- from lines to octets

  front_after : (m : M) (line : Line) (t : Turn M) (w : List ℕ) (rest : M → Outcome M) (breaks : M → List ℕ → Type 0)
      → ((next : M) (v : List ℕ) → breaks next v → IsPrefixOf v (rest next).text) → Behind m breaks w t → IsPrefixOf w (outcome_turn m line t rest).text
  front_after m line Skips w rest breaks all b = all m w b
  front_after m line (Takes next text) w rest breaks all (v, is, b) =
      rw is (front_behind text v (rest next).text (text ++ (rest next).text) (all next v b) refl)
  front_after m line (Stops text) w rest breaks all b = absurd b

  -- what breaks off is a prefix of the whole
  front_from : (ls : List Line) (m : M) (e : Bool) (w : List ℕ) → BreaksFrom m ls e w → IsPrefixOf w (outcome_from turn end_text m ls e).text
  unfolding outcome_from
  front_from [] m true w b = b.1
  front_from [] m false w b = absurd (both_ways false refl b.0)
  front_from (line ∷ ls) m e w (inl b) =
      front_of_front w (turn_text (turn m line.number line.content)) _ b.1
      (turn_front m line (turn m line.number line.content) (λ next. outcome_from turn end_text next ls e))
  front_from (line ∷ ls) m e w (inr b) =
      front_after m line (turn m line.number line.content) w (λ next. outcome_from turn end_text next ls e) (λ next v. BreaksFrom next ls e v)
      (λ next v. front_from ls next e v) b

  abbrev pub report_from : M → ℕ → ℕ → List ℕ → List ℕ → Bool → List ℕ
  report_from m seen count part octets e = (outcome_from turn end_text m (lines_from seen count part octets e) e).text

  -- what has no octet has no line yet
  nothing_yet : (m : M) (seen count : ℕ) (part w : List ℕ) → IsPrefixOf (report_from m seen count part [] false) w
  nothing_yet m seen count part w =
      subst (λ (l : List ℕ). IsPrefixOf l w) (sym (ap (λ (ls : List Line). (outcome_from turn end_text m ls false).text) (open_end seen count part)
      ∙ ap (λ (o : Outcome M). o.text) (no_lines_yet turn end_text m))) (front_of_nothing w)

  -- the first octet ends a line, in whose report w breaks off
  at_octet : (m : M) (seen count : ℕ) (part w : List ℕ) (c : ℕ) (cs : List ℕ) (e : Bool) (what : Content) (rest : List Line) → length cs ≤ ahead
      → lines_from seen count part (c ∷ []) false ≡ record { number = count + 1; content = what; behind = [] } ∷ rest
      → IsPrefixOf w (turn_text (turn m (count + 1) what)) → BreaksOff ahead (report_from m seen count part) (c ∷ cs) w e
  unfolding outcome_from
  at_octet m seen count part w c cs e what rest few is front = inl (record {
    before = [];
    last = c;
    behind = cs;
    parts = refl;
    few = few;
    whole = nothing_yet m seen count part w;
    cut = subst (λ (ls : List Line). IsPrefixOf w (outcome_from turn end_text m ls false).text) (sym is)
        (front_of_front w (turn_text (turn m (count + 1) what)) _ front
        (turn_front m (record { number = count + 1; content = what; behind = [] }) (turn m (count + 1) what)
        (λ next. outcome_from turn end_text next rest false)));
  })

  no_behind : (m : M) (rest : M → List ℕ → Type 0) (w : List ℕ) (t : Turn M) → IsStop t → Behind m rest w t → ⊥
  no_behind m rest w Skips stop b = stop
  no_behind m rest w (Takes next text) stop b = stop
  no_behind m rest w (Stops text) stop b = b

  -- the report with a line in front is that of the line's turn
  report_fed : (m : M) (seen count : ℕ) (part octets : List ℕ) (c : ℕ) (e : Bool) (t : Turn M) → seen < 67108864 → c ≡ 10
      → turn m (count + 1) (content_of part) ≡ t → report_from m seen count part (c ∷ octets) e
      ≡ (outcome_turn m (line_of count part octets) t (λ next. outcome_from turn end_text next (lines_from (seen + 1) (count + 1) [] octets e) e)).text
  unfolding outcome_from
  report_fed m seen count part octets c e t room feed is =
      ap (λ (ls : List Line). (outcome_from turn end_text m ls e).text) (fed seen count part octets c e room feed)
      ∙ ap (λ (u : Turn M). (outcome_turn m (line_of count part octets) u
      (λ next. outcome_from turn end_text next (lines_from (seen + 1) (count + 1) [] octets e) e)).text) is

  -- the first octet ends a line after which the run goes on
  after_octet : (m : M) (seen count : ℕ) (part w : List ℕ) (c : ℕ) (cs : List ℕ) (e : Bool) (t : Turn M) → seen < 67108864 → c ≡ 10
      → turn m (count + 1) (content_of part) ≡ t
      → ((next : M) (v : List ℕ) → BreaksFrom next (lines_from (seen + 1) (count + 1) [] cs e) e v
      → BreaksOff ahead (report_from next (seen + 1) (count + 1) []) cs v e)
      → Behind m (λ next v. BreaksFrom next (lines_from (seen + 1) (count + 1) [] cs e) e v) w t
      → BreaksOff ahead (report_from m seen count part) (c ∷ cs) w e
  after_octet m seen count part w c cs e Skips room feed is all b =
      moved ahead c [] (report_from m seen count part) (report_from m (seen + 1) (count + 1) [])
      (λ octets e'. report_fed m seen count part octets c e' Skips room feed is) cs w e (all m w b)
  after_octet m seen count part w c cs e (Takes next text) room feed is all (v, whole, b) = rw whole (
      moved ahead c text (report_from m seen count part) (report_from next (seen + 1) (count + 1) [])
      (λ octets e'. report_fed m seen count part octets c e' (Takes next text) room feed is) cs v e (all next v b)
      )
  after_octet m seen count part w c cs e (Stops text) room feed is all b = absurd b

  module _ (stops : (m : M) (number : ℕ) → IsStop (turn m number TooMuch)) where
    pub breaks_off : (octets : List ℕ) (m : M) (seen count : ℕ) (part w : List ℕ) (e : Bool) → BreaksFrom m (lines_from seen count part octets e) e w
        → BreaksOff ahead (report_from m seen count part) octets w e
    breaks_off [] m seen count part w true b =
        inr (record { over = refl; whole = nothing_yet m seen count part w; cut = front_from (lines_from seen count part [] true) m true w b })
    breaks_off [] m seen count part w false b =
        absurd (both_ways false refl (subst (λ (ls : List Line). BreaksFrom m ls false w) (open_end seen count part) b).0)
    breaks_off (c ∷ cs) m seen count part w e b = elim (cases_lt seen 67108864) [
      | inl room ↦ elim (cases_eq c 10) [
        | inl feed ↦ elim (subst (λ (ls : List Line). BreaksFrom m ls e w) (fed seen count part cs c e room feed) b) [
          | inl here ↦ at_octet m seen count part w c cs e (content_of part) (lines_from (seen + 1) (count + 1) [] [] false) here.0
              (fed seen count part [] c false room feed) here.1
          | inr later ↦ after_octet m seen count part w c cs e (turn m (count + 1) (content_of part)) room feed refl
              (λ next v. breaks_off cs next (seen + 1) (count + 1) [] v e) later
        ]
        | inr other ↦ moved ahead c [] (report_from m seen count part) (report_from m (seen + 1) count (part ++ c ∷ []))
            (λ octets e'. ap (λ (ls : List Line). (outcome_from turn end_text m ls e').text) (grown seen count part octets c e' room other)) cs w e
            (breaks_off cs m (seen + 1) count (part ++ c ∷ []) w e
            (subst (λ (ls : List Line). BreaksFrom m ls e w) (grown seen count part cs c e room other) b))
      ]
      | inr full ↦ elim (subst (λ (ls : List Line). BreaksFrom m ls e w) (too_much seen count part cs c e full) b) [
        | inl here ↦ at_octet m seen count part w c cs e TooMuch [] here.0 (too_much seen count part [] c false full) here.1
        | inr later ↦ absurd (no_behind m (λ next v. BreaksFrom next [] e v) w (turn m (count + 1) TooMuch) (stops m (count + 1)) later)
      ]
    ]
