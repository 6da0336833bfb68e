-- A plan that is carried out in a step that has given out something before.
use Rattle.std.proofs.Common.{◌≡◌, ◌++◌, List, [], Option, Some, Result, Err, refl, sym, ap, subst, ◌∙◌, append-nil}
use Rattle.std.specs.Prelude.{is_some, if◌then◌else◌}
use Rattle.plc_base.specs.declared.out_frame.Out.{Out}
use Rattle.plc_base.specs.declared.out_frame.OutFrame.{OutFrame}
use Rattle.node_rules.specs.Memory.{StationMemory}
use Rattle.node_rules.specs.Plans.{Plan}
use Rattle.node_rules.specs.Drafts.{Ends, refused}
use Rattle.node_rules.specs.States.{State}
use Rattle.node_rules.specs.CarriedPlans.{nothing}
use Rattle.node_rules.specs.Neighbours.{CarriesAfter, followed}
use Rattle.plc_station.proofs.EndedSteps.{refusal}

pub after_by : {A : Type 0} (s t : State StationMemory) (p q : Plan StationMemory A) (answer : A) (before out : Out) → p ≡ q
    → CarriesAfter s p answer before out t → CarriesAfter s q answer before out t
after_by {A} s t p q answer before out e h = subst (λ (k : Plan StationMemory A). CarriesAfter s k answer before out t) e h

-- frames after others, and no tag
pub followed_by : (before : Out) (frames : List OutFrame)
    → record before { frames = before.frames ++ frames } ≡ followed before (record { frames = frames; tags = record { made = []; opened = [] } })
followed_by before frames =
    λ i. record {
      frames = before.frames ++ frames;
      tags = record { made = sym (append-nil before.tags.made) i; opened = sym (append-nil before.tags.opened) i };
    }

-- nothing after what was given out before
pub followed_none : (before : Out) → before ≡ followed before nothing
followed_none before =
    λ i. record {
      frames = sym (append-nil before.frames) i;
      tags = record { made = sym (append-nil before.tags.made) i; opened = sym (append-nil before.tags.opened) i };
    }

-- refused, for this reason
pub refusal_after : {H E : Type 0} (ends : Ends E) (s : State StationMemory) (l : StationMemory) (reason : E) (p : Plan StationMemory (Result H E))
    (before : Out) → s.memory ≡ Some l → refused {H = H} ends l reason ≡ p
    → CarriesAfter s p (Err reason) before before s
refusal_after {H} {E} ends s l reason p before m e = record {
  added = nothing;
  carries = refusal ends s l reason p nothing m e refl;
  out_is = followed_none before ∙ ap (λ (o : Option StationMemory). if is_some o then followed before nothing else nothing) (sym m);
}
