-- Each line is read back from its words.
use Rattle.std.proofs.Common.{◌≡◌, ℕ, ◌==◌, Bool, true, false, List, [], ◌∷◌, map, drop, length, get_or, refl}
use Rattle.std.specs.Prelude.{codes, nat_lt, if◌then◌else◌}
use Rattle.std.specs.Str.{bytes_eq}
use Rattle.text_laws.specs.ReportLines.{ReportLine, Verdict, Forged, Up, Bup, Agent, Path, Grant, Took, Done, Halted, Head, Key, Route, Floor, Peer, Fly, Bad}
use Rattle.text_laws.specs.ReportLines.{End}
use Rattle.text_laws.specs.ReportLines.{IsReportLine, line_words}
use Rattle.text_laws.proofs.WordLists.{ArePlain, end_of}
use Rattle.text_laws.proofs.AnswersRead.{answer_in, answer_back, reason_in, reason_back}
use Rattle.text_laws.proofs.FieldsRead.{number_in, number_back, decimal_plain, decimal_first, octets_in, octets_back, hex_plain, short_in, short_back}
use Rattle.text_laws.proofs.FieldsRead.{short_plain}
use Rattle.text_laws.proofs.FieldsRead.{walk_back, walk_plain, address_in, address_back, address_plain, index_in, index_back, index_plain, next_back}
use Rattle.text_laws.proofs.FieldsRead.{next_plain}

-- # Readers

abbrev at : ℕ → List (List ℕ) → List ℕ
at i words = get_or words i []

-- the line of a kind that a first word names, with the words after it
abbrev named : List ℕ → List (List ℕ) → ReportLine
named first words =
    if bytes_eq first (codes "forged") then Forged (number_in (at 0 words))
    else if bytes_eq first (codes "up") then Up (number_in (at 0 words)) (number_in (at 1 words)) (octets_in (at 2 words))
    else if bytes_eq first (codes "bup") then Bup (number_in (at 0 words)) (short_in (at 1 words)) (number_in (at 2 words)) (octets_in (at 3 words))
    else if bytes_eq first (codes "agent") then Agent (number_in (at 0 words)) (short_in (at 1 words)) (number_in (at 2 words))
    else if bytes_eq first (codes "path") then Path (number_in (at 0 words)) (map short_in (drop 1 words))
    else if bytes_eq first (codes "grant") then Grant (number_in (at 0 words)) (short_in (at 1 words))
    else if bytes_eq first (codes "took") then Took (number_in (at 0 words))
    else if bytes_eq first (codes "done") then Done (number_in (at 0 words))
    else if bytes_eq first (codes "node") then
    (if length words == 2 then Halted (number_in (at 0 words))
    else Head (number_in (at 0 words)) (address_in (at 1 words)) (index_in (at 2 words)) (number_in (at 3 words)) (number_in (at 4 words)))
    else if bytes_eq first (codes "key") then Key (number_in (at 0 words)) (octets_in (at 1 words))
    else if bytes_eq first (codes "route") then
    Route (short_in (at 0 words)) (number_in (at 1 words)) (number_in (at 2 words)) (address_in (at 3 words))
    else if bytes_eq first (codes "floor") then Floor (number_in (at 0 words)) (number_in (at 1 words))
    else if bytes_eq first (codes "peer") then Peer (short_in (at 0 words)) (number_in (at 1 words))
    else if bytes_eq first (codes "fly") then Fly (number_in (at 0 words)) (number_in (at 1 words)) (octets_in (at 2 words))
    else if bytes_eq first (codes "bad") then Bad (number_in (at 0 words)) (reason_in (at 1 words))
    else End (number_in (at 0 words)) (number_in (at 1 words)) (number_in (at 2 words)) (number_in (at 3 words)) (number_in (at 4 words))

-- the line of words: one of another kind begins with a letter
abbrev line_by : Bool → List ℕ → List (List ℕ) → ReportLine
line_by true first words = Verdict (number_in first) (answer_in (at 1 words))
line_by false first words = named first words

unfoldable pub line_in : List (List ℕ) → ReportLine
line_in [] = Took 0
line_in (first ∷ words) = line_by (nat_lt (get_or first 0 0) 58) first words

-- # Lines

-- there are words, none of which has a space or a line feed, and the line is read from them
pub record IsReadBack (line : ReportLine) : Type 0 where
  pub some : end_of (line_words line) ≡ 32
  pub plain : ArePlain (line_words line)
  pub back : line_in (line_words line) ≡ line

pub read_back : (line : ReportLine) → IsReportLine line → IsReadBack line
unfolding line_in
read_back (Verdict number answer) is = record {
  some = refl;
  plain = (decimal_plain number is, ((answer_back answer).0, ((answer_back answer).1, tt)));
  back = rw (decimal_first number is) (λ i. Verdict (number_back number is i) ((answer_back answer).2 i));
}
read_back (Forged number) is = record {
  some = refl;
  plain = (refl, (decimal_plain number is, tt));
  back = λ i. Forged (number_back number is i);
}
read_back (Up node send octets) is = record {
  some = refl;
  plain = (refl, (decimal_plain node is.0, (decimal_plain send is.1, (hex_plain octets, tt))));
  back = λ i. Up (number_back node is.0 i) (number_back send is.1 i) (octets_back octets is.2 i);
}
read_back (Bup node origin number octets) is = record {
  some = refl;
  plain = (refl, (decimal_plain node is.0, (short_plain origin, (decimal_plain number is.2, (hex_plain octets, tt)))));
  back = λ i. Bup (number_back node is.0 i) (short_back origin is.1 i) (number_back number is.2 i) (octets_back octets is.3 i);
}
read_back (Agent node address total) is = record {
  some = refl;
  plain = (refl, (decimal_plain node is.0, (short_plain address, (decimal_plain total is.2, tt))));
  back = λ i. Agent (number_back node is.0 i) (short_back address is.1 i) (number_back total is.2 i);
}
read_back (Path node walk) is = record {
  some = refl;
  plain = (refl, (decimal_plain node is.0, walk_plain walk));
  back = λ i. Path (number_back node is.0 i) (walk_back walk is.1 i);
}
read_back (Grant node address) is = record {
  some = refl;
  plain = (refl, (decimal_plain node is.0, (short_plain address, tt)));
  back = λ i. Grant (number_back node is.0 i) (short_back address is.1 i);
}
read_back (Took node) is = record {
  some = refl;
  plain = (refl, (decimal_plain node is, tt));
  back = λ i. Took (number_back node is i);
}
read_back (Done node) is = record {
  some = refl;
  plain = (refl, (decimal_plain node is, tt));
  back = λ i. Done (number_back node is i);
}
read_back (Halted node) is = record {
  some = refl;
  plain = (refl, (decimal_plain node is, (refl, tt)));
  back = λ i. Halted (number_back node is i);
}
read_back (Head node address active next_counter last_number) is = record {
  some = refl;
  plain = (
    refl,
    (
      decimal_plain node is.0,
      (address_plain address, (index_plain active is.2, (decimal_plain next_counter is.3, (decimal_plain last_number is.4, tt)))),
    ),
  );
  back = λ i. Head (number_back node is.0 i) (address_back address is.1 i) (index_back active is.2 i) (number_back next_counter is.3 i)
      (number_back last_number is.4 i);
}
read_back (Key index octets) is = record {
  some = refl;
  plain = (refl, (decimal_plain index is.0, (hex_plain octets, tt)));
  back = λ i. Key (number_back index is.0 i) (octets_back octets is.1 i);
}
read_back (Route dest number cost next) is = record {
  some = refl;
  plain = (refl, (short_plain dest, (decimal_plain number is.1, (decimal_plain cost is.2, (next_plain next, tt)))));
  back = λ i. Route (short_back dest is.0 i) (number_back number is.1 i) (number_back cost is.2 i)
      (next_back next is.3 i);
}
read_back (Floor class floor) is = record {
  some = refl;
  plain = (refl, (decimal_plain class is.0, (decimal_plain floor is.1, tt)));
  back = λ i. Floor (number_back class is.0 i) (number_back floor is.1 i);
}
read_back (Peer from mark) is = record {
  some = refl;
  plain = (refl, (short_plain from, (decimal_plain mark is.1, tt)));
  back = λ i. Peer (short_back from is.0 i) (number_back mark is.1 i);
}
read_back (Fly flight node octets) is = record {
  some = refl;
  plain = (refl, (decimal_plain flight is.0, (decimal_plain node is.1, (hex_plain octets, tt))));
  back = λ i. Fly (number_back flight is.0 i) (number_back node is.1 i) (octets_back octets is.2 i);
}
read_back (Bad number reason) is = record {
  some = refl;
  plain = (refl, (decimal_plain number is, ((reason_back reason).0, tt)));
  back = λ i. Bad (number_back number is i) ((reason_back reason).1 i);
}
read_back (End events flights sends ups forged) is = record {
  some = refl;
  plain =
      (refl, (decimal_plain events is.0, (decimal_plain flights is.1, (decimal_plain sends is.2, (decimal_plain ups is.3, (decimal_plain forged is.4, tt))))));
  back = λ i. End (number_back events is.0 i) (number_back flights is.1 i) (number_back sends is.2 i) (number_back ups is.3 i) (number_back forged is.4 i);
}
