use Rattle.std.proofs.Common.{refl}
use Rattle.std.specs.Fmt.{digits}
use Rattle.hex.specs.Hex.{encode_with}
use Rattle.wot_types.specs.Sample.{draw, mix}
use Rattle.wot_examples.proofs.samples.samples_are_made_from_their_seed.Goals as goal

pub returns-clause-key_id : goal.returns-clause-key_id
unfolding encode_with
returns-clause-key_id c = refl

pub returns-clause-text : goal.returns-clause-text
unfolding digits
returns-clause-text c = refl

pub returns-clause-issuers : goal.returns-clause-issuers
unfolding mix draw
returns-clause-issuers c = refl

pub returns-clause-depths : goal.returns-clause-depths
unfolding mix draw
returns-clause-depths c = refl
