use Rattle.std.proofs.Common.{◌≡◌, ◌+◌, ◌≤◌, ◌==◌, ◌∷◌, [], ◌⊎◌, inl, inr, true, get_or, take, sym, ap, subst, ◌∙◌, arith}
use Rattle.std.proofs.lemmas.Bool.{or_cases}
use Rattle.std.proofs.lemmas.List.{take_more}
use Rattle.wot_types.proofs.Tests.{is_key}
use Rattle.wot_live.specs.Agenda.{is_due}
use Rattle.wot_live.specs.Recounting.{among}
use Rattle.wot_live.proofs.Lists.{among_pushed}
use Rattle.wot_live.proofs.agenda.Agenda.add_behind.Goals as goal

pub loop-level-preserved : goal.loop-level-preserved
loop-level-preserved c =
    let levels = c.args.levels.now in
    let first = c.args.first in
    let id = c.args.id in
    let i = c.loop-level.level-index in
    let level = get_or levels i 0 in
    let old = c.args.self in
    let new = c.in_ok-agenda.agenda in
    let sofar = c.loop-level.invariant in
    let step = c.in_ok-agenda.ensures in
    let next = take_more levels i 0 (omega (arith, c.loop-level-test.true)) in
    record {
      there = λ n its later. elim (or_cases (among (take i levels) n) (level == n) (sym (among_pushed (take i levels) level n) ∙ ap (λ xs. among xs n) (sym next) ∙ its)) as (λ _. is_due new (n + 1) id ≡ true) [
        | inl before ↦ step.more.kept (n + 1) id (sofar.there n before later)
        | inr here ↦ subst (λ l. first ≤ l + 1 → is_due new (l + 1) id ≡ true) (is_key level n here) step.there later
      ];
      more = record {
        kept = λ m x its. step.more.kept m x (sofar.more.kept m x its);
        only = λ m x its. elim (step.more.only m x its) as (λ _. (is_due old m x ≡ true) ⊎ (among (id ∷ []) x ≡ true)) [
          | inl before ↦ sofar.more.only m x before
          | inr it ↦ inr it
        ];
      };
    }
