use Rattle.std.specs.Prelude.{IfErr}
use Rattle.std.proofs.Common.{◌≡◌, [], IfOk, true, sym, subst}
use Rattle.std.proofs.lemmas.Result.{IfOk-weaker}
use Rattle.wot_answer.specs.Begun.{Begins}
use Rattle.wot_site.specs.Seen.{Honestly}
use Rattle.wot_types.specs.Store.{Store}
use Rattle.wot_session.specs.SessionState.{Holds, IsOpened}
use Rattle.wot_session.specs.Words.{WordsEnded, WordsStopped}
use Rattle.wot_session.proofs.Openings.{words_nothing}
use Rattle.wot_session.proofs.Outcomes.{if_err_weaker}
use Rattle.wot_session.proofs.opened.run_opened.Goals as goal

pub returns-in-Ok-Nothing-clause-ended : goal.returns-in-Ok-Nothing-clause-ended
returns-in-Ok-Nothing-clause-ended g c =
    let none : c.args.words.now ≡ [] = subst (λ begun. Begins begun c.args.words.now true) c.in-Ok-Nothing.field-0-is c.in-Ok-Nothing.ensures.begins in
    subst (λ words. IfOk c.run_lines.result (λ refused. (store : Store) → IsOpened c.args.opened store → Holds c.args.opened.place (g.S.Site.seen c.args.site.now) store
    → Honestly (g.S.Site.seen c.args.site.now) (g.S.Site.seen c.run_lines.new.site) (WordsEnded store words c.args.most refused))) (sym none) c.run_lines.ensures.ended

pub returns-in-Ok-Nothing-clause-stopped : goal.returns-in-Ok-Nothing-clause-stopped
returns-in-Ok-Nothing-clause-stopped g c =
    let none : c.args.words.now ≡ [] = subst (λ begun. Begins begun c.args.words.now true) c.in-Ok-Nothing.field-0-is c.in-Ok-Nothing.ensures.begins in
    subst (λ words. IfErr c.run_lines.result (λ stop. (store : Store) → IsOpened c.args.opened store → Holds c.args.opened.place (g.S.Site.seen c.args.site.now) store
    → Honestly (g.S.Site.seen c.args.site.now) (g.S.Site.seen c.run_lines.new.site) (WordsStopped store words c.args.most stop))) (sym none) c.run_lines.ensures.stopped

pub run_block-requires-clause-block : goal.run_block-requires-clause-block
run_block-requires-clause-block g c κs within = (c.args.words.now, subst (λ begun. Begins begun c.args.words.now true) c.in-Ok-Block.field-0-is c.in-Ok-Block.ensures.begins)

pub returns-in-Ok-Block-clause-ended : goal.returns-in-Ok-Block-clause-ended
returns-in-Ok-Block-clause-ended g c =
    let of = subst (λ begun. Begins begun c.args.words.now true) c.in-Ok-Block.field-0-is c.in-Ok-Block.ensures.begins in
    IfOk-weaker c.run_block.result _ _ (λ refused all store opened holds. all store opened holds c.args.words.now of) c.run_block.ensures.ended

pub returns-in-Ok-Block-clause-stopped : goal.returns-in-Ok-Block-clause-stopped
returns-in-Ok-Block-clause-stopped g c =
    let of = subst (λ begun. Begins begun c.args.words.now true) c.in-Ok-Block.field-0-is c.in-Ok-Block.ensures.begins in
    if_err_weaker _ _ c.run_block.result c.run_block.ensures.stopped (λ stop all store opened holds. all store opened holds c.args.words.now of)

pub run_command-requires-clause-command : goal.run_command-requires-clause-command
run_command-requires-clause-command g c κs within = (c.args.words.now, subst (λ begun. Begins begun c.args.words.now true) c.in-Ok-Single.field-0-is c.in-Ok-Single.ensures.begins)

pub returns-in-Ok-Single-clause-ended : goal.returns-in-Ok-Single-clause-ended
returns-in-Ok-Single-clause-ended g c =
    let of = subst (λ begun. Begins begun c.args.words.now true) c.in-Ok-Single.field-0-is c.in-Ok-Single.ensures.begins in
    IfOk-weaker c.run_command.result _ _ (λ refused all store opened holds. all store opened holds c.args.words.now of c.args.most) c.run_command.ensures.ended

pub returns-in-Ok-Single-clause-stopped : goal.returns-in-Ok-Single-clause-stopped
returns-in-Ok-Single-clause-stopped g c =
    let of = subst (λ begun. Begins begun c.args.words.now true) c.in-Ok-Single.field-0-is c.in-Ok-Single.ensures.begins in
    if_err_weaker _ _ c.run_command.result c.run_command.ensures.stopped (λ stop all store opened holds. all store opened holds c.args.words.now of c.args.most)

pub returns-in-Err-Memory-clause-stopped : goal.returns-in-Err-Memory-clause-stopped
returns-in-Err-Memory-clause-stopped g c store opened holds = words_nothing _ store c.args.words.now c.args.most _ holds
