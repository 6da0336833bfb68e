-- How the octets of a line are taken, a stretch without a line feed at a time.
use Rattle.std.proofs.Common.{◌≡◌, ◌≢◌, inl, inr, ℕ, suc, ◌+◌, ◌-◌, ◌<◌, ◌≤◌, Bool, true, false, List, [], ◌∷◌, ◌++◌, length, take, drop, get_or, if◌then◌else◌}
use Rattle.std.proofs.Common.{nat_lt, nat_le, min, slice_range, zero, length-take, length-drop, get_or-take, get_or-drop, take-append-drop, add-zero, add-one}
use Rattle.std.proofs.Common.{None, Some, Ok, Err, IsTrue, refl, sym, ◌∙◌, ap, subst, arith, append_assoc, length-append}
use Rattle.std.proofs.lemmas.Bool.{both_ways, cases_lt, lt-ltb, le-ltb, lt-leb, eq-eqb, ne_eqb, eqb-true}
use Rattle.std.proofs.lemmas.List.{append-nil, nil_from_length, take_all, take-append-le}
use Rattle.std.specs.declared.option.Option.{Option}
use Rattle.std.proofs.Math.Seq.{drop-cons}
use Rattle.memchr.specs.Find.{NoneBefore, Nowhere, Passes, is_byte}
use Rattle.plc_base.specs.declared.streams.Failed.{Failed}
use Rattle.plc_base.specs.Streams.{SourceState, Gives, GivesNone}
use Rattle.plc_base.proofs.SourceLemmas.{gives_none, gives_both, gives_kept}
use Rattle.script_lines.specs.declared.input.LineKind.{LineKind}
use Rattle.script_lines.specs.declared.input.LineKind.TheVariants as kinds
use Rattle.script_lines.specs.declared.input.Found.TheVariants.{Feed, PastRoom}
use Rattle.script_lines.specs.Lines.{Text, Long, TooMuch, Line, NoFeed, content_of, lines_from}
use Rattle.script_lines.specs.Next.{kind_by, content_found, lines_with, Advances, FeedIs, FoundIs, Shed, Refilled, NextLine}

-- ---- lines_from, octet by octet

abbrev pub line_of : ℕ → List ℕ → List ℕ → Line
line_of count part behind = record { number = count + 1; content = content_of part; behind = behind }

pub fed : (seen count : ℕ) (part cs : List ℕ) (c : ℕ) (e : Bool) → seen < 67108864 → c ≡ 10
    → lines_from seen count part (c ∷ cs) e ≡ line_of count part cs ∷ lines_from (seen + 1) (count + 1) [] cs e
unfolding lines_from
fed seen count part cs c e room feed = rw (lt-ltb seen 67108864 room, eq-eqb c 10 feed)

pub grown : (seen count : ℕ) (part cs : List ℕ) (c : ℕ) (e : Bool) → seen < 67108864 → c ≢ 10
    → lines_from seen count part (c ∷ cs) e ≡ lines_from (seen + 1) count (part ++ c ∷ []) cs e
unfolding lines_from
grown seen count part cs c e room other = rw (lt-ltb seen 67108864 room, ne_eqb c 10 other)

pub too_much : (seen count : ℕ) (part cs : List ℕ) (c : ℕ) (e : Bool) → 67108864 ≤ seen
    → lines_from seen count part (c ∷ cs) e ≡ record { number = count + 1; content = TooMuch; behind = cs } ∷ []
unfolding lines_from
too_much seen count part cs c e full = rw (le-ltb seen 67108864 full)

pub open_end : (seen count : ℕ) (part : List ℕ) → lines_from seen count part [] false ≡ []
unfolding lines_from
open_end seen count part = refl

pub no_rest : (seen count : ℕ) (e : Bool) → lines_from seen count [] [] e ≡ []
unfolding lines_from
no_rest seen count true = refl
no_rest seen count false = refl

pub last : (seen count : ℕ) (part : List ℕ) → 0 < length part → lines_from seen count part [] true ≡ line_of count part [] ∷ []
unfolding lines_from
last seen count part some = rw (lt-ltb 0 (length part) some)

-- octets with no line feed belong to the line
pub stretched : (seen count : ℕ) (part xs cs : List ℕ) (e : Bool) → NoFeed xs → seen + length xs ≤ 67108864
    → lines_from seen count part (xs ++ cs) e ≡ lines_from (seen + length xs) count (part ++ xs) cs e
stretched seen count part [] cs e none room = rw (add-zero, append-nil part) refl
stretched seen count part (x ∷ xs) cs e none room =
    grown seen count part (xs ++ cs) x e (omega (arith, room)) none.0 ∙ stretched (seen + 1) count (part ++ x ∷ []) xs cs e none.1 (omega (arith, room))
    ∙ ap (λ (l : List ℕ). lines_from (seen + 1 + length xs) count l cs e) (append_assoc part (x ∷ []) xs)
    ∙ ap (λ n. lines_from n count (part ++ x ∷ xs) cs e) (omega arith)

-- ---- octets that are no line feeds

clear_from : (xs : List ℕ) → ((k : ℕ) → k < length xs → get_or xs k 0 ≡ 10 → ⊥) → NoFeed xs
clear_from [] none = tt
clear_from (x ∷ xs) none = (none 0 (omega arith), clear_from xs (λ k h. none (suc k) (omega (arith, h))))

clear_at : (xs : List ℕ) (k : ℕ) → NoFeed xs → k < length xs → get_or xs k 0 ≡ 10 → ⊥
clear_at [] k none h e = omega (arith, h)
clear_at (x ∷ xs) zero none h e = none.0 e
clear_at (x ∷ xs) (suc k) none h e = clear_at xs k none.1 (omega (arith, h)) e

-- an octet of a part
in_part : (w : List ℕ) (clear stop k : ℕ) → k < stop - clear → get_or (slice_range w clear stop) k 0 ≡ get_or w (clear + k) 0
in_part w clear stop k h = get_or-take (stop - clear) (drop clear w) k 0 h ∙ get_or-drop clear w k 0

-- what is clear, and clear in the part after it
clear_to : (w : List ℕ) (clear stop n : ℕ) → clear ≤ n → n ≤ stop → stop ≤ length w → NoFeed (take clear w)
    → ((k : ℕ) → 0 ≤ k → k < n - clear → Passes (is_byte 10) (slice_range w clear stop) k → ⊥) → NoFeed (take n w)
clear_to w clear stop n low high within none never = clear_from (take n w) (λ k h e.
    let below : k < n = omega (arith, h, length-take n w) in
    let here : get_or w k 0 ≡ 10 = sym (get_or-take n w k 0 below) ∙ e in
    elim (cases_lt k clear) [
      | inl before ↦ clear_at (take clear w) k none (omega (arith, before, length-take clear w, low, high, within)) (get_or-take clear w k 0 before ∙ here)
      | inr behind ↦
          let place : clear + (k - clear) ≡ k = omega (arith, behind) in
          never (k - clear) (omega arith) (omega (arith, below, behind))
          (eq-eqb (get_or (slice_range w clear stop) (k - clear) 0) 10
          (in_part w clear stop (k - clear) (omega (arith, below, behind, high)) ∙ ap (λ m. get_or w m 0) place ∙ here))
    ])

part_length : (w : List ℕ) (clear stop : ℕ) → stop ≤ length w → length (slice_range w clear stop) ≡ stop - clear
part_length w clear stop within = omega (arith, length-take (stop - clear) (drop clear w), length-drop clear w, within)

pub feed_found : (w : List ℕ) (clear stop at : ℕ) → stop ≤ length w → clear ≤ stop → NoFeed (take clear w)
    → NoneBefore (Passes (is_byte 10) (slice_range w clear stop)) 0 (length (slice_range w clear stop)) at × Passes (is_byte 10) (slice_range w clear stop) at
    → FeedIs w stop (Some (clear + at))
feed_found w clear stop at within low none found =
    let inside : at < stop - clear = omega (arith, found.0.high, part_length w clear stop within) in (
      omega (arith, inside),
      sym (in_part w clear stop at inside) ∙ eqb-true (get_or (slice_range w clear stop) at 0) 10 found.1,
      clear_to w clear stop (clear + at) (omega arith) (omega (arith, inside)) within none (λ k low' h. found.0.before k low' (omega (arith, h))),
    )

pub no_feed_found : (w : List ℕ) (clear stop : ℕ) → stop ≤ length w → clear ≤ stop → NoFeed (take clear w)
    → Nowhere (Passes (is_byte 10) (slice_range w clear stop)) 0 (length (slice_range w clear stop)) → FeedIs w stop None
no_feed_found w clear stop within low none never =
    clear_to w clear stop stop low (omega arith) within none (λ k low' h. never k low' (omega (arith, h, part_length w clear stop within)))

-- a list at a place
pub parted : (w : List ℕ) (n : ℕ) → n < length w → w ≡ take n w ++ (get_or w n 0 ∷ drop (n + 1) w)
parted w n h = sym (take-append-drop n w) ∙ ap (λ (l : List ℕ). take n w ++ l) (rw add-one (drop-cons w n 0 h))

-- ---- the part of a line that was used already, and what its octets ahead make it

-- nothing, or more than a line may have
abbrev PartIs : List ℕ → Bool → Type 0
PartIs part true = 4096 < length part
PartIs part false = part ≡ []

chosen : (b : Bool) (xs : List ℕ) → (if b then Text xs else Long) ≡ content_found xs (if b then kinds.Text else kinds.Long)
chosen true xs = refl
chosen false xs = refl

content_is : (part xs : List ℕ) (long : Bool) → PartIs part long → content_of (part ++ xs) ≡ content_found xs (kind_by long (length xs))
content_is part xs true is = rw (lt-leb (length (part ++ xs)) 4096 (omega (arith, is, length-append part xs)))
content_is part xs false is = ap (λ (l : List ℕ). content_of (l ++ xs)) is ∙ chosen (nat_le (length xs) 4096) xs

-- of a line that is too long, a front is kept
kept_front : (xs : List ℕ) (long : Bool) (n : ℕ) → content_found (take (min n 4096) xs) (kind_by long n) ≡ content_found (take n xs) (kind_by long n)
kept_front xs true n = refl
kept_front xs false n = elim (cases_lt 4096 n) [
  | inl many ↦ rw (lt-leb n 4096 many) refl
  | inr few ↦ let all : min n 4096 ≡ n = omega (arith, few) in rw all refl
]

with_content : (b : Bool) (number : ℕ) (xs behind : List ℕ) (rest : List Line)
    → record { number = number; content = if b then Text xs else Long; behind = behind } ∷ rest ≡ lines_with number (if b then Text xs else Long) behind rest
with_content true number xs behind rest = refl
with_content false number xs behind rest = refl

advances_by : (b : Bool) (seen0 seen1 : ℕ) → seen0 < seen1 → seen1 ≤ 67108864 → Advances seen0 seen1 (if b then kinds.Text else kinds.Long)
advances_by true seen0 seen1 more within = (more, within)
advances_by false seen0 seen1 more within = (more, within)

advances : (long : Bool) (n seen0 seen1 : ℕ) → seen0 < seen1 → seen1 ≤ 67108864 → Advances seen0 seen1 (kind_by long n)
advances true n seen0 seen1 more within = (more, within)
advances false n seen0 seen1 more within = advances_by (nat_le n 4096) seen0 seen1 more within

-- a line that ends, as a line that was found
line_found : (count count2 : ℕ) (part xs behind : List ℕ) (long : Bool) (rest : List Line) → PartIs part long → count2 ≡ count + 1
    → line_of count (part ++ xs) behind ∷ rest ≡ lines_with count2 (content_found xs (kind_by long (length xs))) behind rest
line_found count count2 part xs behind long rest is number =
    with_content (nat_le (length (part ++ xs)) 4096) (count + 1) (part ++ xs) behind rest
    ∙ ap (λ n. lines_with n (content_of (part ++ xs)) behind rest) (sym number)
    ∙ ap (λ k. lines_with count2 k behind rest) (content_is part xs long is)

-- what is ahead after octets were shed or not
pub shed_clear : (seen0 seen1 : ℕ) (ahead0 ahead1 : List ℕ) (long0 long1 : Bool) → NoFeed ahead0 → seen0 + length ahead0 ≤ 67108864
    → Shed seen0 seen1 ahead0 ahead1 long0 long1
    → NoFeed ahead1 × (seen1 + length ahead1 ≤ 67108864) × (seen0 ≤ seen1)
shed_clear seen0 seen1 ahead0 ahead1 long0 long1 none room (inl (few, same, ahead, kept)) =
    (subst NoFeed (sym ahead) none, rw (same, ahead) room, omega (arith, same))
shed_clear seen0 seen1 ahead0 ahead1 long0 long1 none room (inr (many, more, ahead, is)) =
    (subst NoFeed (sym ahead) tt, omega (arith, more, ap (λ (l : List ℕ). length l) ahead, room), omega (arith, more))

-- and where more stands after it
pub clear_front : (ahead0 ahead1 octets : List ℕ) → ahead1 ≡ ahead0 ++ octets → NoFeed ahead0
    → NoFeed (take (length ahead0) ahead1) × (length ahead0 ≤ length ahead1)
clear_front ahead0 ahead1 octets is none = (
  subst NoFeed (sym (ap (take (length ahead0)) is ∙ take-append-le (length ahead0) ahead0 octets (omega arith) ∙ take_all (length ahead0) ahead0 (omega arith)))
      none,
  omega (arith, ap (λ (l : List ℕ). length l) is, length-append ahead0 octets),
)

-- What was used of a line, and what was given, since the octets ahead of it.
pub record Taking (source0 source1 : SourceState) (seen0 count0 : ℕ) (ahead0 : List ℕ) (ended0 : Bool) (seen1 : ℕ) (ahead1 : List ℕ) (ended1 : Bool)
    (long : Bool) : Type 0 where
  pub octets : List ℕ
  pub gave : Gives source0 source1 octets
  pub part : List ℕ
  pub is : PartIs part long
  pub used : seen1 ≡ seen0 + length part
  pub lines : (more : List ℕ) (e : Bool) → lines_from seen0 count0 [] (ahead0 ++ (octets ++ more)) e ≡ lines_from seen1 count0 part (ahead1 ++ more) e
  pub still : IsTrue ended0 → (octets ≡ []) × IsTrue ended1

pub taking_none : (source : SourceState) (seen count : ℕ) (ahead : List ℕ) (ended : Bool) → Taking source source seen count ahead ended seen ahead ended false
taking_none source seen count ahead ended = record {
  octets = [];
  gave = gives_none source;
  part = [];
  is = refl;
  used = omega arith;
  lines = λ more e. refl;
  still = λ over. (refl, over);
}

module _ {source0 source1 : SourceState} {seen0 count0 : ℕ} {ahead0 : List ℕ} {ended0 : Bool} {seen1 : ℕ} {ahead1 : List ℕ} {ended1 : Bool} {long : Bool}
    (t : Taking source0 source1 seen0 count0 ahead0 ended0 seen1 ahead1 ended1 long) where
  -- octets ahead are shed or not
  pub taking_shed : (seen2 : ℕ) (ahead2 : List ℕ) (long2 : Bool) → NoFeed ahead1 → seen1 + length ahead1 ≤ 67108864 → Shed seen1 seen2 ahead1 ahead2 long long2
      → Taking source0 source1 seen0 count0 ahead0 ended0 seen2 ahead2 ended1 long2
  taking_shed seen2 ahead2 long2 none room (inl (few, same, ahead, kept)) = rw (same, ahead, kept) t
  taking_shed seen2 ahead2 long2 none room (inr (many, more, ahead, is)) = rw (more, ahead, is) (record {
    octets = t.octets;
    gave = t.gave;
    part = t.part ++ ahead1;
    is = omega (arith, many, length-append t.part ahead1);
    used = omega (arith, t.used, length-append t.part ahead1);
    lines = λ more e. t.lines more e ∙ stretched seen1 count0 t.part ahead1 more e none room;
    still = t.still;
  })

  -- more octets are given
  pub taking_more : {source2 : SourceState} {ahead2 : List ℕ} {ended2 : Bool} → ended1 ≡ false → Refilled source1 source2 ahead1 ahead2 ended2
      → Taking source0 source2 seen0 count0 ahead0 ended0 seen1 ahead2 ended2 long
  taking_more {source2} {ahead2} {ended2} going r = record {
    octets = t.octets ++ r.octets;
    gave = gives_both t.octets r.octets t.gave r.gave;
    part = t.part;
    is = t.is;
    used = t.used;
    lines = λ more e.
        ap (λ (l : List ℕ). lines_from seen0 count0 [] (ahead0 ++ l) e) (append_assoc t.octets r.octets more) ∙ t.lines (r.octets ++ more) e
        ∙ ap (λ (l : List ℕ). lines_from seen1 count0 t.part l e) (sym (append_assoc ahead1 r.octets more) ∙ ap (λ (l : List ℕ). l ++ more) (sym r.grown));
    still = λ over. absurd (both_ways ended1 going (t.still over).1);
  }

  -- the line feed
  pub found_line : (at : ℕ) (kind : LineKind) (seen2 count2 : ℕ) (line ahead2 : List ℕ) (ended2 : Bool) → FoundIs ahead1 (67108864 - seen1) (Feed at)
      → kind ≡ kind_by long at → seen2 ≡ seen1 + at + 1 → count2 ≡ count0 + 1
      → line ≡ take (min at 4096) ahead1 → ahead2 ≡ drop (at + 1) ahead1 → ended2 ≡ ended1
      → NextLine source0 source1 seen0 count0 ahead0 ended0 seen2 count2 ahead2 ended2 line (Ok (Some kind))
  found_line at kind seen2 count2 line ahead2 ended2 found kind_is seen_is number line_is ahead_is ended_is =
      rw (kind_is, line_is, ahead_is, ended_is) (record {
        octets = t.octets;
        gave = t.gave;
        found = (
          advances long at seen0 seen2 (omega (arith, seen_is, t.used)) (omega (arith, seen_is, found.0)),
          number,
          λ more e may. t.lines more e ∙ there more e,
        );
        failed = tt;
        still = t.still;
      })
    where
      long_is : length (take at ahead1) ≡ at
      long_is = omega (arith, length-take at ahead1, found.1)

      there : (more : List ℕ) (e : Bool) → lines_from seen1 count0 t.part (ahead1 ++ more) e
          ≡ lines_with count2 (content_found (take (min at 4096) ahead1) (kind_by long at)) (drop (at + 1) ahead1 ++ more)
          (lines_from seen2 count2 [] (drop (at + 1) ahead1 ++ more) e)
      there more e =
          ap (λ (l : List ℕ). lines_from seen1 count0 t.part (l ++ more) e) (parted ahead1 at found.1)
          ∙ ap (λ (l : List ℕ). lines_from seen1 count0 t.part l e) (append_assoc (take at ahead1) (get_or ahead1 at 0 ∷ drop (at + 1) ahead1) more)
          ∙ stretched seen1 count0 t.part (take at ahead1) (get_or ahead1 at 0 ∷ (drop (at + 1) ahead1 ++ more)) e found.3 (omega (arith, long_is, found.0))
          ∙ fed (seen1 + length (take at ahead1)) count0 (t.part ++ take at ahead1) (drop (at + 1) ahead1 ++ more) (get_or ahead1 at 0) e
          (omega (arith, long_is, found.0)) found.2
          ∙ line_found count0 count2 t.part (take at ahead1) (drop (at + 1) ahead1 ++ more) long
          (lines_from (seen1 + length (take at ahead1) + 1) (count0 + 1) [] (drop (at + 1) ahead1 ++ more) e) t.is number
          ∙ ap (λ n. lines_with count2 (content_found (take at ahead1) (kind_by long n)) (drop (at + 1) ahead1 ++ more)
          (lines_from (seen1 + n + 1) (count0 + 1) [] (drop (at + 1) ahead1 ++ more) e)) long_is
          ∙ ap (λ n. lines_with count2 (content_found (take at ahead1) (kind_by long at)) (drop (at + 1) ahead1 ++ more)
          (lines_from n (count0 + 1) [] (drop (at + 1) ahead1 ++ more) e)) (sym seen_is)
          ∙ ap (λ n. lines_with count2 (content_found (take at ahead1) (kind_by long at)) (drop (at + 1) ahead1 ++ more)
          (lines_from seen2 n [] (drop (at + 1) ahead1 ++ more) e)) (sym number)
          ∙ ap (λ k. lines_with count2 k (drop (at + 1) ahead1 ++ more) (lines_from seen2 count2 [] (drop (at + 1) ahead1 ++ more) e))
          (sym (kept_front ahead1 long at))

  -- the octet that is too much
  pub found_too_much : (kind : LineKind) (room seen2 count2 : ℕ) (line ahead2 : List ℕ) (ended2 : Bool) → room ≡ 67108864 - seen1 → seen1 ≤ 67108864
      → FoundIs ahead1 (67108864 - seen1) PastRoom → kind ≡ kinds.TooMuch → count2 ≡ count0 + 1
      → ahead2 ≡ drop (room + 1) ahead1 → ended2 ≡ ended1 → NextLine source0 source1 seen0 count0 ahead0 ended0 seen2 count2 ahead2 ended2 line (Ok (Some kind))
  found_too_much kind room seen2 count2 line ahead2 ended2 room_is within found kind_is number ahead_is ended_is =
      rw (kind_is, ahead_is, ended_is, room_is) (record {
        octets = t.octets;
        gave = t.gave;
        found = (tt, number, λ more e may. t.lines more e ∙ there more e);
        failed = tt;
        still = t.still;
      })
    where
      long_is : length (take (67108864 - seen1) ahead1) ≡ 67108864 - seen1
      long_is = omega (arith, length-take (67108864 - seen1) ahead1, found.0)

      there : (more : List ℕ) (e : Bool) → lines_from seen1 count0 t.part (ahead1 ++ more) e
          ≡ record { number = count2; content = TooMuch; behind = drop (67108864 - seen1 + 1) ahead1 ++ more } ∷ []
      there more e =
          ap (λ (l : List ℕ). lines_from seen1 count0 t.part (l ++ more) e) (parted ahead1 (67108864 - seen1) found.0)
          ∙ ap (λ (l : List ℕ). lines_from seen1 count0 t.part l e)
          (append_assoc (take (67108864 - seen1) ahead1) (get_or ahead1 (67108864 - seen1) 0 ∷ drop (67108864 - seen1 + 1) ahead1) more)
          ∙ stretched seen1 count0 t.part (take (67108864 - seen1) ahead1) (get_or ahead1 (67108864 - seen1) 0 ∷ (drop (67108864 - seen1 + 1) ahead1 ++ more)) e
          found.1 (omega (arith, long_is, within))
          ∙ too_much (seen1 + length (take (67108864 - seen1) ahead1)) count0 (t.part ++ take (67108864 - seen1) ahead1)
          (drop (67108864 - seen1 + 1) ahead1 ++ more) (get_or ahead1 (67108864 - seen1) 0) e (omega (arith, long_is, within))
          ∙ ap (λ n. record { number = n; content = TooMuch; behind = drop (67108864 - seen1 + 1) ahead1 ++ more } ∷ []) (sym number)

  -- the end of input, whether it ends a line or not
  pub found_at_end : (r : Option LineKind) (seen2 count2 : ℕ) (line ahead2 : List ℕ) (ended2 : Bool) → IsTrue ended1 → NoFeed ahead1
      → seen1 + length ahead1 ≤ 67108864 → seen0 ≤ seen1 → seen2 ≡ seen1 + length ahead1
      → r ≡ (if nat_lt seen0 (seen1 + length ahead1) then Some (kind_by long (length ahead1)) else None)
      → count2 ≡ (if nat_lt seen0 (seen1 + length ahead1) then count0 + 1 else count0)
      → line ≡ take (min (length ahead1) 4096) ahead1 → ahead2 ≡ [] → ended2 ≡ ended1
      → NextLine source0 source1 seen0 count0 ahead0 ended0 seen2 count2 ahead2 ended2 line (Ok r)
  found_at_end r seen2 count2 line ahead2 ended2 over none room order seen_is r_is count_is line_is ahead_is ended_is =
      rw (line_is, ahead_is, ended_is) (elim (cases_lt seen0 (seen1 + length ahead1)) [
        | inl some ↦ subst (λ q. NextLine source0 source1 seen0 count0 ahead0 ended0 seen2 count2 [] ended1 (take (min (length ahead1) 4096) ahead1) (Ok q))
            (sym (r_is ∙ rw (lt-ltb seen0 (seen1 + length ahead1) some))) (ends some (count_is ∙ rw (lt-ltb seen0 (seen1 + length ahead1) some)))
        | inr few ↦ subst (λ q. NextLine source0 source1 seen0 count0 ahead0 ended0 seen2 count2 [] ended1 (take (min (length ahead1) 4096) ahead1) (Ok q))
            (sym (r_is ∙ rw (le-ltb seen0 (seen1 + length ahead1) few))) (nothing few)
      ])
    where
      -- the lines of what is ahead, and nothing more
      rest : (e : Bool) → lines_from seen0 count0 [] (ahead0 ++ t.octets) e ≡ lines_from (seen1 + length ahead1) count0 (t.part ++ ahead1) [] e
      rest e = ap (λ (l : List ℕ). lines_from seen0 count0 [] (ahead0 ++ l) e) (sym (append-nil t.octets)) ∙ t.lines [] e
          ∙ stretched seen1 count0 t.part ahead1 [] e none room

      nothing : seen1 + length ahead1 ≤ seen0
          → NextLine source0 source1 seen0 count0 ahead0 ended0 seen2 count2 [] ended1 (take (min (length ahead1) 4096) ahead1) (Ok None)
      nothing few = record {
        octets = t.octets;
        gave = t.gave;
        found = (
          over,
          λ e. rest e ∙ ap (λ (l : List ℕ). lines_from (seen1 + length ahead1) count0 l [] e)
              (nil_from_length (t.part ++ ahead1) (omega (arith, few, order, t.used, length-append t.part ahead1))) ∙ no_rest (seen1 + length ahead1) count0 e,
        );
        failed = tt;
        still = t.still;
      }

      ended_line : (more : List ℕ) (e : Bool) → more ≡ [] → IsTrue e → seen0 < seen1 + length ahead1 → count2 ≡ count0 + 1
          → lines_from seen0 count0 [] (ahead0 ++ (t.octets ++ more)) e
          ≡ lines_with count2 (content_found (take (min (length ahead1) 4096) ahead1) (kind_by long (length ahead1))) ([] ++ more)
          (lines_from seen2 count2 [] ([] ++ more) e)
      ended_line more e nothing_more ends some number = rw (nothing_more, ends) (
          t.lines [] true ∙ stretched seen1 count0 t.part ahead1 [] true none room
          ∙ last (seen1 + length ahead1) count0 (t.part ++ ahead1) (omega (arith, some, t.used, length-append t.part ahead1))
          ∙ line_found count0 count2 t.part ahead1 [] long [] t.is number
          ∙ ap (λ l. lines_with count2 (content_found ahead1 (kind_by long (length ahead1))) [] l) (sym (no_rest seen2 count2 true))
          ∙ ap (λ k. lines_with count2 k [] (lines_from seen2 count2 [] [] true))
          (sym (kept_front ahead1 long (length ahead1)
          ∙ ap (λ (l : List ℕ). content_found l (kind_by long (length ahead1))) (take_all (length ahead1) ahead1 (omega arith))))
          )

      ends : seen0 < seen1 + length ahead1 → count2 ≡ count0 + 1
          → NextLine source0 source1 seen0 count0 ahead0 ended0 seen2 count2 [] ended1 (take (min (length ahead1) 4096) ahead1)
          (Ok (Some (kind_by long (length ahead1))))
      ends some number = record {
        octets = t.octets;
        gave = t.gave;
        found = (
          advances long (length ahead1) seen0 seen2 (omega (arith, seen_is, some)) (omega (arith, seen_is, room)),
          number,
          λ more e may. ended_line more e (may over).0 (may over).1 some number,
        );
        failed = tt;
        still = t.still;
      }

  -- a failure, with no whole line
  pub found_failure : (f : Failed) {source2 : SourceState} (seen2 count2 : ℕ) (line ahead2 : List ℕ) (ended2 : Bool) → ended1 ≡ false → NoFeed ahead1
      → seen1 + length ahead1 ≤ 67108864 → GivesNone source1 source2
      → NextLine source0 source2 seen0 count0 ahead0 ended0 seen2 count2 ahead2 ended2 line (Err f)
  found_failure f {source2} seen2 count2 line ahead2 ended2 going none room kept = record {
    octets = t.octets;
    gave = gives_kept t.octets t.gave kept;
    found = tt;
    failed = (
      began ended0 t.still,
      ap (λ (l : List ℕ). lines_from seen0 count0 [] (ahead0 ++ l) false) (sym (append-nil t.octets)) ∙ t.lines [] false
          ∙ stretched seen1 count0 t.part ahead1 [] false none room ∙ open_end (seen1 + length ahead1) count0 (t.part ++ ahead1),
    );
    still = λ over. absurd (both_ways ended1 going (t.still over).1);
  }
    where
      began : (b : Bool) → (IsTrue b → (t.octets ≡ []) × IsTrue ended1) → b ≡ false
      began true h = sym (h refl).1 ∙ going
      began false h = refl
