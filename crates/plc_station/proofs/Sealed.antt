-- Units that are sealed are the letters of the rules, spelled.
use Rattle.std.proofs.Common.{◌≡◌, ℕ, ◌+◌, List, [], ◌∷◌, ◌++◌, length, map, Option, Some, refl, sym, ap, ◌∙◌}
use Rattle.std.specs.Option.{option_map_or}
use Rattle.plc_base.specs.Grant.{Granted}
use Rattle.plc_base.specs.declared.key.Key.{Key}
use Rattle.plc_base.specs.declared.out_frame.OutFrame.{OutFrame}
use Rattle.fragment_buffers.specs.Loads.{UnsealedUnit}
use Rattle.station_queues.specs.Frames.{unit_frame, frames_of}
use Rattle.station_queues.proofs.Letters.{frames-append}
use Rattle.node_rules.specs.Ciphers.{network}
use Rattle.node_rules.specs.Frames.{Sent, Sealed, spelled}
use Rattle.node_rules.specs.Drafts.{sealed_units, sealing_key, sealed_by}

sealed_unit : Granted → Key → ℕ → UnsealedUnit → Sent
sealed_unit g key counter o = Sealed (record { to = o.to; from = g.address; counter = counter; index = g.active; key = key; unit = o.unit; note = o.note })

frame_is : (g : Granted) (key : Key) (counter : ℕ) (o : UnsealedUnit) → unit_frame g key counter o ≡ spelled network (sealed_unit g key counter o)
unfolding unit_frame spelled sealed_unit
frame_is g key counter o = refl

pub frames_are : (g : Granted) (key : Key) (first : ℕ) (us : List UnsealedUnit) → frames_of g key first us ≡ map (spelled network) (sealed_units g key first us)
unfolding sealed_unit
frames_are g key first [] = refl
frames_are g key first (u ∷ us) = λ i. frame_is g key first u i ∷ frames_are g key (first + 1) us i

-- units alone, under the key that seals
pub sealed_alone : (g : Granted) (key : Key) (first : ℕ) (xs : List UnsealedUnit) → sealing_key g ≡ Some key
    → frames_of g key first xs ≡ map (spelled network) (sealed_by (Some g) first xs)
sealed_alone g key first xs e =
    frames_are g key first xs ∙ ap (λ (k : Option Key). map (spelled network) (option_map_or (λ q. sealed_units g q first xs) k [])) (sym e)

-- and others after them
pub sealed_then : (g : Granted) (key : Key) (first : ℕ) (xs ys : List UnsealedUnit) → sealing_key g ≡ Some key
    → frames_of g key first xs ++ map (spelled network) (sealed_by (Some g) (first + length xs) ys)
    ≡ map (spelled network) (sealed_by (Some g) first (xs ++ ys))
sealed_then g key first xs ys e =
    ap (λ (fs : List OutFrame). frames_of g key first xs ++ fs) (sym (sealed_alone g key (first + length xs) ys e))
    ∙ sym (frames-append g key first xs ys)
    ∙ sealed_alone g key first (xs ++ ys) e

-- one unit
pub one_sent : (g : Granted) (key : Key) (first : ℕ) (o : UnsealedUnit) → sealing_key g ≡ Some key
    → unit_frame g key first o ∷ [] ≡ map (spelled network) (sealed_by (Some g) first (o ∷ []))
one_sent g key first o e = sealed_alone g key first (o ∷ []) e
