use Rattle.std.proofs.Common.{◌∙◌, inl, inr, ap}
use Rattle.std.specs.FinMap.{insert}
use Rattle.plc_base.specs.Keeper.{Records}
use Rattle.flash_keeper.proofs.Outcomes.{on_err, one_ok, one_err}
use Rattle.flash_keeper.proofs.pair.Pair.put.Goals as goal

pub returns-in_err-make_room-clause-found : goal.returns-in_err-make_room-clause-found
returns-in_err-make_room-clause-found g c = on_err c.from_residual.result (inl c.in_err-make_room.ensures.found)

pub returns-in_err-make_room-clause-same : goal.returns-in_err-make_room-clause-same
returns-in_err-make_room-clause-same g c = on_err c.from_residual.result c.make_room.ensures.records

pub returns-clause-records : goal.returns-clause-records
returns-clause-records g c =
    one_ok c.append.result (λ e. e ∙ ap (λ (r : Records). insert r c.args.slot c.args.octets.now) c.make_room.ensures.records) c.append.ensures.records

pub returns-clause-found : goal.returns-clause-found
returns-clause-found g c = one_err c.append.result (λ f. elim f [
  | inl e ↦ inl (e ∙ c.make_room.ensures.records)
  | inr e ↦ inr (e ∙ ap (λ (r : Records). insert r c.args.slot c.args.octets.now) c.make_room.ensures.records)
]) c.append.ensures.found

pub returns-clause-same : goal.returns-clause-same
returns-clause-same g c = one_err c.append.result (λ e. e ∙ c.make_room.ensures.records) c.append.ensures.same

pub returns-in_err-make_room-clause-cut : goal.returns-in_err-make_room-clause-cut
returns-in_err-make_room-clause-cut g c = on_err c.from_residual.result c.in_err-make_room.ensures.cut

pub returns-clause-worn : goal.returns-clause-worn
returns-clause-worn g c = one_ok c.append.result (λ worn f is. worn f (c.in_ok-make_room.ensures.worn f is)) c.append.ensures.worn

pub returns-clause-cut : goal.returns-clause-cut
returns-clause-cut g c = one_err c.append.result (λ cut f is. cut f (c.in_ok-make_room.ensures.worn f is)) c.append.ensures.cut
