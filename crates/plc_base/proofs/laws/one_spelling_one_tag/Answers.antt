use Rattle.plc_base.proofs.TagSpellings.{one_tag}
use Rattle.plc_base.proofs.laws.one_spelling_one_tag.Goals as goal

pub returns : goal.returns
returns c = one_tag
