use Rattle.wot.proofs.session.Goals as goal

pub returns-clause-run : goal.returns-clause-run
returns-clause-run g c = (
  c.run.result,
  c.end_with.ensures.line,
  c.end_with.ensures.code,
  record {
    causes = c.run.ensures.causes;
    usage = c.run.ensures.usage;
    unread = c.run.ensures.unread;
    ran = c.run.ensures.ran;
  },
)
