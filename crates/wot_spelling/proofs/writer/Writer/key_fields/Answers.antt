use Rattle.std.proofs.Common.{append_assoc}
use Rattle.wot_types.specs.Spelling.{key_bytes}
use Rattle.wot_spelling.proofs.writer.Writer.key_fields.Goals as goal

pub returns-clause-ok : goal.returns-clause-ok
unfolding key_bytes
returns-clause-ok c = λ users.
    rw (c.in_ok-text.ensures, c.as_bytes.ensures, c.in_ok-bytes.ensures, c.key_numbers.ensures.spelled, c.in_ok-fpr.ensures.ok) (simp append_assoc)
