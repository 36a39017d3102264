use Rattle.std.proofs.Common.{refl, sym, subst, ◌∙◌}
use Rattle.std.proofs.lemmas.Result.{IfOk-weaker}
use Rattle.wot_types.specs.declared.head.Head.TheVariants.{Import, Ownertrust}
use Rattle.wot_types.specs.Commands.{block_texts, closed_command}
use Rattle.wot_types.specs.Grammar.{command_of}
use Rattle.wot_answer.specs.Answer.{Ends}
use Rattle.wot_answer.specs.Block.{HasHad}
use Rattle.wot_answer.proofs.Outcomes.{entries_are, listing_is, read_is, refused_is}
use Rattle.wot_answer.proofs.answer.answer_body.Goals as goal

pub import_listing-requires : goal.import_listing-requires
import_listing-requires c = record {
  known =
      let command = c.requires.known.0 in
      let read = c.requires.known.1 in
      (block_texts command.block, (subst (λ body. HasHad body (command_of read.words) command.block) c.in-Listing.is read.had).2);
}

pub set_entries-requires : goal.set_entries-requires
set_entries-requires c = record {
  known =
      let command = c.requires.known.0 in
      let read = c.requires.known.1 in
      (block_texts command.block, (subst (λ body. HasHad body (command_of read.words) command.block) c.in-Ownertrust.is read.had).2);
}

pub returns-in-Refused : goal.returns-in-Refused
returns-in-Refused c = record {
  ends =
      IfOk-weaker c.refuse.result _ _
      (λ answered reply s command same at read.
      subst (Ends answered s) (sym (refused_is s (closed_command command) read.words read.given read.opens c.in-Refused.refusal
      (subst (λ body. HasHad body (command_of read.words) command.block) c.in-Refused.is read.had))) (reply s same))
      c.refuse.ensures.reply;
}

pub returns-in-Listing : goal.returns-in-Listing
returns-in-Listing c = record {
  ends =
      IfOk-weaker c.import_listing.result _ _
      (λ answered ends s command same at read.
      let had = subst (λ body. HasHad body (command_of read.words) command.block) c.in-Listing.is read.had in
      subst (Ends answered s) (sym (read_is s (closed_command command) read.words read.given read.opens Import had.0 had.1 ∙ listing_is s (closed_command command) refl)) (ends s (block_texts command.block) same at had.2))
      c.import_listing.ensures.ends;
}

pub returns-in-Ownertrust : goal.returns-in-Ownertrust
returns-in-Ownertrust c = record {
  ends =
      IfOk-weaker c.set_entries.result _ _
      (λ answered ends s command same at read.
      let had = subst (λ body. HasHad body (command_of read.words) command.block) c.in-Ownertrust.is read.had in
      subst (Ends answered s) (sym (read_is s (closed_command command) read.words read.given read.opens Ownertrust had.0 had.1 ∙ entries_are s (closed_command command) refl)) (ends s (block_texts command.block) same at had.2))
      c.set_entries.ensures.ends;
}
