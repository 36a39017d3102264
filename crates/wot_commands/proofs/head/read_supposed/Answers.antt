use Rattle.std.proofs.Common.{◌∷◌, [], IfErr, sym, subst, arith}
use Rattle.wot_types.specs.Dates as dates
use Rattle.wot_types.specs.Grammar.{completes, depth, is_read, level, marginals, model}
use Rattle.wot_commands.specs.Heads.{IsEarly}
use Rattle.wot_commands.proofs.BadArguments.{early}
use Rattle.wot_commands.proofs.head.read_supposed.Goals as goal

pub supposed-requires-then-eq-2-clause-early : goal.supposed-requires-then-eq-2-clause-early
supposed-requires-then-eq-2-clause-early c =
    subst (λ head. IfErr head IsEarly) (sym c.read_date.ensures.head) (early (is_read dates.date ∷ []) c.args.arguments.now _ (omega arith))

pub supposed-requires-then-eq-3-clause-early : goal.supposed-requires-then-eq-3-clause-early
supposed-requires-then-eq-3-clause-early c =
    subst (λ head. IfErr head IsEarly) (sym c.read_options.ensures.head)
    (early (is_read model ∷ is_read completes ∷ is_read marginals ∷ is_read depth ∷ is_read level ∷ []) c.args.arguments.now _ (omega arith))
