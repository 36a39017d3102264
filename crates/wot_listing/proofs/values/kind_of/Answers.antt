use Rattle.std.proofs.Common.{ap, ◌∙◌}
use Rattle.wot_types.specs.Records.{kind_of, kind_of_name}
use Rattle.wot_listing.proofs.values.kind_of.Goals as goal

pub returns : goal.returns
unfolding kind_of
returns c = c.kind_of_name.ensures ∙ ap kind_of_name c.first_field.ensures
