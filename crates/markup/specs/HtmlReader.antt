-- A page, octet by octet: what a reader of HTML is in the middle of, and which elements are open. It is stricter than HTML: every
-- element is closed, each attribute has a value in double quotes, and a sign that has a meaning stands nowhere else.
use Rattle.std.specs.Prelude.{◌≡◌, ℕ, ◌==◌, ◌&&◌, ◌||◌, nat_le, Bool, List, [], ◌∷◌, ◌++◌, codes, if◌then◌else◌}
use Rattle.std.specs.Str.{bytes_eq}

-- # Where a reader is

pub data Mode : Type 0 where
  Content : Mode
  -- in a style or a script, and there after a <
  Raw : Mode
  RawBegun : Mode
  -- in the name of a character, after its &: in content, or in a value of an attribute of this element
  Named : Mode
  NamedIn : List ℕ → Mode
  -- after a <
  Begun : Mode
  -- in the name of a start tag, and in that of an end tag
  Opening : List ℕ → Mode
  Closing : List ℕ → Mode
  -- in a start tag of this element: in the name of an attribute, after its =, in its value, after its value, and after a /
  Naming : List ℕ → Mode
  Valued : List ℕ → Mode
  Quoted : List ℕ → Mode
  Spaced : List ℕ → Mode
  Ending : List ℕ → Mode
  -- no page goes on so
  Broken : Mode

pub record Place : Type 0 where
  pub mode : Mode
  -- the elements that are open, the innermost first
  pub opened : List (List ℕ)

-- # Octets

abbrev pub is_lower : ℕ → Bool
is_lower c = nat_le 97 c && nat_le c 122

abbrev pub is_digit : ℕ → Bool
is_digit c = nat_le 48 c && nat_le c 57

-- an octet of the name of an element
abbrev pub is_word : ℕ → Bool
is_word c = is_lower c || is_digit c

-- an octet of the name of an attribute
abbrev pub is_attribute : ℕ → Bool
is_attribute c = is_word c || (nat_le 65 c && nat_le c 90) || (c == 45)

-- an octet of the name of a character: letters and digits, and the # of a number
abbrev pub is_named : ℕ → Bool
is_named c = is_word c || (c == 35)

-- whether an element of this name may be closed where it is opened
abbrev pub is_leaf_word : List ℕ → Bool
is_leaf_word name = bytes_eq name (codes "meta") || bytes_eq name (codes "input") || bytes_eq name (codes "path")
    || bytes_eq name (codes "line") || bytes_eq name (codes "rect") || bytes_eq name (codes "circle")

-- whether the content of an element of this name is no markup
abbrev pub is_raw_word : List ℕ → Bool
is_raw_word name = bytes_eq name (codes "style") || bytes_eq name (codes "script")

-- # One octet more

abbrev pub at_mode : Mode → List (List ℕ) → Place
at_mode mode os = record { mode = mode; opened = os }

-- what the content of an element of this name is
abbrev pub inside : List ℕ → Mode
inside name = if is_raw_word name then Raw else Content

-- an end tag closes the innermost element, which has its name
abbrev pub closed : List ℕ → List (List ℕ) → Place
closed name [] = at_mode Broken []
closed name (o ∷ os) = at_mode (if bytes_eq name o then Content else Broken) os

-- after the name of a start tag, or after an attribute
abbrev pub tag_goes_on : List ℕ → ℕ → List (List ℕ) → Place
tag_goes_on name c os =
    if c == 32 then at_mode (Naming name) os
    else (if c == 62 then at_mode (inside name) (name ∷ os)
    else at_mode (if c == 47 then Ending name else Broken) os)

abbrev pub stepped : Mode → ℕ → List (List ℕ) → Place
stepped Content c os = at_mode (if c == 60 then Begun else (if c == 38 then Named else (if c == 62 then Broken else Content))) os
stepped Raw c os = at_mode (if c == 60 then RawBegun else Raw) os
stepped RawBegun c os = at_mode (if c == 47 then Closing [] else (if c == 33 then Broken else (if c == 60 then RawBegun else Raw))) os
stepped Named c os = at_mode (if c == 59 then Content else (if is_named c then Named else Broken)) os
stepped Begun c os = at_mode (if c == 47 then Closing [] else (if is_lower c then Opening (c ∷ []) else Broken)) os
stepped (Opening name) c os = if is_word c then at_mode (Opening (name ++ c ∷ [])) os else tag_goes_on name c os
stepped (Closing name) c os =
    if is_word c then at_mode (Closing (name ++ c ∷ [])) os else (if c == 62 then closed name os else at_mode Broken os)
stepped (Naming name) c os = at_mode (if is_attribute c then Naming name else (if c == 61 then Valued name else Broken)) os
stepped (Valued name) c os = at_mode (if c == 34 then Quoted name else Broken) os
stepped (Quoted name) c os =
    at_mode (if c == 34 then Spaced name else (if c == 38 then NamedIn name else (if c == 60 then Broken else (if c == 62 then Broken else Quoted name)))) os
stepped (NamedIn name) c os = at_mode (if c == 59 then Quoted name else (if is_named c then NamedIn name else Broken)) os
stepped (Spaced name) c os = tag_goes_on name c os
stepped (Ending name) c os = at_mode (if c == 62 && is_leaf_word name then Content else Broken) os
stepped Broken c os = at_mode Broken os

-- # All octets

unfoldable pub reached : Place → List ℕ → Place
reached place [] = place
reached place (c ∷ cs) = reached (stepped place.mode c place.opened) cs

abbrev pub content : List (List ℕ) → Place
content os = at_mode Content os

abbrev pub raw : List (List ℕ) → Place
raw os = at_mode Raw os

-- octets that stand between tags, and close all that they open
unfoldable pub IsContent : List ℕ → Type 0
IsContent octets = (os : List (List ℕ)) → reached (content os) octets ≡ content os

-- octets that stand in a style or a script, and do not end it
unfoldable pub IsRaw : List ℕ → Type 0
IsRaw octets = (os : List (List ℕ)) → reached (raw os) octets ≡ raw os
