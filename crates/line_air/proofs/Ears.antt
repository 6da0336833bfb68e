-- The first frame of a sender among those that a node hears.
use Rattle.std.proofs.Common.{◌≡◌, ℕ, ◌<◌, Bool, false, List, Option, Some, None, length, get_or, refl, ap}
use Rattle.std.proofs.lemmas.List.Quantifiers.{position-Some}
use Rattle.std.proofs.lemmas.Option.{slice_get_read}
use Rattle.line_air.specs.declared.node.Ear.{Ear}
use Rattle.line_air.specs.Nodes.{is_clean_at}

pub clean_at : (ears : List Ear) (i : ℕ) (e : Ear) → i < length ears → e ≡ get_or ears i e → is_clean_at ears (Some i) ≡ e.clean
clean_at ears i e h is =
    ap (λ (o : Option Ear). elim o as (λ (_ : Option Ear). Bool) [ None ↦ false | Some f ↦ f.clean ]) (slice_get_read ears (length ears) i e refl h is)

pub ruleset ears = (position-Some, clean_at)
