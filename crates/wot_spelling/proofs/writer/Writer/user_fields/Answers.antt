use Rattle.std.proofs.Common.{append_assoc}
use Rattle.wot_types.specs.Spelling.{user_bytes}
use Rattle.wot_spelling.proofs.writer.Writer.user_fields.Goals as goal

pub returns-clause-ok : goal.returns-clause-ok
unfolding user_bytes
returns-clause-ok c = λ certs.
    rw (c.in_ok-bytes.ensures, c.user_numbers.ensures.spelled, c.in_ok-text-2.ensures, c.as_bytes-2.ensures, c.in_ok-text.ensures, c.as_bytes.ensures, c.in_ok-user_kind.ensures) (simp append_assoc)
