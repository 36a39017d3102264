use Rattle.std.proofs.Common.{refl, sym, ap, ◌∙◌}
use Rattle.std.specs.Result.{result_err}
use Rattle.wot_answer.proofs.begun.refused.Goals as goal

pub returns-then-has_block : goal.returns-then-has_block
returns-then-has_block c = record {
  begins = record {
    read = record { words = c.args.words.now; given = refl; opens = sym c.has_block.ensures ∙ c.if-has_block.true; had = ap result_err c.requires.refused };
    to_end = refl;
  };
}

pub returns-else-has_block : goal.returns-else-has_block
returns-else-has_block c = record {
  begins = record { some = c.requires.some; blockless = sym c.has_block.ensures ∙ c.if-has_block.false; head = c.requires.refused; proper = tt };
}
