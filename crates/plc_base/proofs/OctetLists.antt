-- Octets, put together and taken apart: a number in fixed width always is octets.
use Rattle.std.proofs.Common.{ℕ, zero, suc, ◌/◌, ◌%◌, ◌<◌, ◌^◌, List, [], ◌∷◌, ◌++◌, reverse, drop, sym, subst, arith}
use Rattle.std.specs.Int.{byte_at, bytes_high_first, bytes_low_first}
use Rattle.std.proofs.lemmas.List.{reverse-append}
use Rattle.std.proofs.lemmas.List.Elements.{All-nil, All-cons, All-head, All-tail, All-append, All-take, All-drop}
use Rattle.byteorder.specs.Endian.{big_bytes, little_bytes}
use Rattle.plc_base.specs.Fields.{AreOctets, after, part}
use Rattle.plc_base.specs.OctetLaws.{BigNumbersAreOctets, LittleNumbersAreOctets, RestsAreOctets, PartsAreOctets}

abbrev IsOctet : ℕ → Type 0
IsOctet x = x < 256

-- # Lists

pub front : (x : ℕ) (xs : List ℕ) → x < 256 → AreOctets xs → AreOctets (x ∷ xs)
front x xs low all = All-cons IsOctet x xs low all

pub both : (xs ys : List ℕ) → AreOctets xs → AreOctets ys → AreOctets (xs ++ ys)
both xs ys a b = All-append IsOctet xs ys a b

pub none : AreOctets []
none = All-nil IsOctet

pub turned : (xs : List ℕ) → AreOctets xs → AreOctets (reverse xs)
turned [] all = all
turned (x ∷ xs) all =
    subst AreOctets (sym (reverse-append (x ∷ []) xs))
    (both (reverse xs) (x ∷ []) (turned xs (All-tail IsOctet x xs all)) (front x [] (All-head IsOctet x xs all) none))

pub after_octets : RestsAreOctets
unfolding after
after_octets at octets all = All-drop IsOctet at octets all

pub part_octets : PartsAreOctets
unfolding part
part_octets at n octets all = All-take IsOctet n (drop at octets) (All-drop IsOctet at octets all)

-- # Numbers in fixed width

pub remainder : (x : ℕ) → x % 256 < 256
remainder x = omega arith

byte_low : (i x : ℕ) → byte_at i x < 256
byte_low zero x = remainder x
byte_low (suc i) x = remainder (x / 256 ^ suc i)

pub big_octets : BigNumbersAreOctets
big_octets zero x = none
big_octets (suc n) x = front (byte_at n x) (bytes_high_first n x) (byte_low n x) (big_octets n x)

low_octets : (i n x : ℕ) → AreOctets (bytes_low_first i n x)
low_octets i zero x = none
low_octets i (suc n) x = front (byte_at i x) (bytes_low_first (suc i) n x) (byte_low i x) (low_octets (suc i) n x)

pub little_octets : LittleNumbersAreOctets
little_octets n x = low_octets 0 n x

-- Octets, piece by piece: a list that the parts determine.
pub record Spelt (xs : List ℕ) : Type 0 where
  pub are : AreOctets xs

pub puts : {x : ℕ} {xs : List ℕ} → x < 256 → Spelt xs → Spelt (x ∷ xs)
puts {x} {xs} low rest = record { are = front x xs low rest.are }

pub joins : {xs ys : List ℕ} → Spelt xs → Spelt ys → Spelt (xs ++ ys)
joins {xs} {ys} a b = record { are = both xs ys a.are b.are }

pub big_spelt : (n x : ℕ) → Spelt (big_bytes n x)
big_spelt n x = record { are = big_octets n x }

pub little_spelt : (n x : ℕ) → Spelt (little_bytes n x)
little_spelt n x = record { are = little_octets n x }
