use Rattle.std.proofs.Common.{sym, ap, subst, ◌∙◌}
use Rattle.std.proofs.lemmas.Result.{IfOk-weaker}
use Rattle.wot_types.specs.declared.head.Head.TheVariants.{Import, Ownertrust}
use Rattle.wot_types.specs.Outcome.{outcome}
use Rattle.wot_answer.specs.Answer.{Ends}
use Rattle.wot_answer.specs.Block.{HasHad}
use Rattle.wot_types.specs.Grammar.{command_of}
use Rattle.wot_answer.proofs.Outcomes.{read_is, refused_is, unended_entries, unended_listing}
use Rattle.wot_answer.proofs.answer.answer_end.Goals as goal

pub answer_body-requires : goal.answer_body-requires
answer_body-requires c = record { known = (c.requires.known.0, c.requires.known.1.read) }

pub returns-then-to_end : goal.returns-then-to_end
returns-then-to_end c = record {
  ends =
      IfOk-weaker c.answer_body.result _ _
      (λ answered ends s command same at of.
      subst (Ends answered s) (ap (λ b. outcome s (record command { ended = b })) (sym (of.to_end ∙ c.if-to_end.true))) (ends s command same at of.read))
      c.answer_body.ensures.ends;
}

pub returns-in-Refused : goal.returns-in-Refused
returns-in-Refused c = record {
  ends =
      IfOk-weaker c.refuse.result _ _
      (λ answered reply s command same at of.
      subst (Ends answered s) (sym (refused_is s command of.read.words of.read.given of.read.opens c.in-Refused.refusal
      (subst (λ body. HasHad body (command_of of.read.words) command.block) c.in-Refused.is of.read.had))) (reply s same))
      c.refuse.ensures.reply;
}

pub returns-in-Listing : goal.returns-in-Listing
returns-in-Listing c = record {
  ends =
      IfOk-weaker c.refuse-in-Listing.result _ _
      (λ answered reply s command same at of.
      let had = subst (λ body. HasHad body (command_of of.read.words) command.block) c.in-Listing.is of.read.had in
      subst (Ends answered s) (sym (read_is s command of.read.words of.read.given of.read.opens Import had.0 had.1 ∙ unended_listing s command (of.to_end ∙ c.if-to_end.false))) (reply s same))
      c.refuse-in-Listing.ensures.reply;
}

pub returns-in-Ownertrust : goal.returns-in-Ownertrust
returns-in-Ownertrust c = record {
  ends =
      IfOk-weaker c.refuse-in-Ownertrust.result _ _
      (λ answered reply s command same at of.
      let had = subst (λ body. HasHad body (command_of of.read.words) command.block) c.in-Ownertrust.is of.read.had in
      subst (Ends answered s) (sym (read_is s command of.read.words of.read.given of.read.opens Ownertrust had.0 had.1 ∙ unended_entries s command (of.to_end ∙ c.if-to_end.false))) (reply s same))
      c.refuse-in-Ownertrust.ensures.reply;
}
