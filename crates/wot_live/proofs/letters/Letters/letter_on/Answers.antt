use Rattle.std.proofs.Common.{◌∙◌}
use Rattle.wot_types.specs.Levels.{rows_of}
use Rattle.wot_live.proofs.letters.Letters.letter_on.Goals as goal

pub returns : goal.returns
returns c = λ k spot told key head at.
    c.letter_by.ensures (rows_of c.args.self.now.state) k.0 k.1 spot told.row key head (c.count_on.ensures ∙ told.counts c.args.user spot at)
