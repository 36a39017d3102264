use Rattle.std.proofs.Common.{refl}
use Rattle.wot_regex.proofs.Knowns.{no_masks}
use Rattle.wot_regex.proofs.masks.Masks.new.Goals as goal

pub returns : goal.returns
returns c = λ nodes. no_masks nodes _ refl
