use Rattle.std.proofs.Common.{◌&&◌, not, true, Option, sym, ap, ◌∙◌}
use Rattle.std.specs.Option.{option_copied, option_map_or}
use Rattle.wot_types.specs.declared.row.Row.{Row}
use Rattle.wot_types.specs.Candidates.{chain_admits, delegator}
use Rattle.wot_types.specs.Scope.{admits}
use Rattle.wot_types.proofs.Chains.{admits_each, admits_step}
use Rattle.wot_levels.proofs.chains.chain_admits.Goals as goal

pub returns-then-not-may_have_scopes : goal.returns-then-not-may_have_scopes
returns-then-not-may_have_scopes c =
    let rows = c.args.introducers.now in
    let own = c.is_none.ensures ∙ ap not c.if-is_none.true in
    sym (admits_each rows (c.may_have_scopes.ensures c.if-not-may_have_scopes.true) c.args.row.now own c.args.text.now)

pub returns-then-not-is_in_scope_behind : goal.returns-then-not-is_in_scope_behind
returns-then-not-is_in_scope_behind c =
    let rows = c.args.introducers.now in
    let text = c.args.text.now in
    let link = c.in-Some.link.now in
    let above = option_map_or (λ (row : Row). chain_admits rows row text) (delegator rows link) true in
    let out = sym c.is_in_scope_behind.ensures ∙ c.if-not-is_in_scope_behind.true in
    sym (ap (λ b. b && above) out) ∙ sym (admits_step rows link text)
    ∙ sym (ap (λ next. option_map_or (λ (row : Row). chain_admits rows row text) (option_copied next) true) c.in-Some.is) ∙ c.loop-next.invariant.1

pub loop-next-preserved : goal.loop-next-preserved
loop-next-preserved c =
    let rows = c.args.introducers.now in
    let text = c.args.text.now in
    let link = c.in-Some.link.now in
    let above = λ (next : Option Row). option_map_or (λ (row : Row). chain_admits rows row text) next true in
    let within = sym c.is_in_scope_behind.ensures ∙ c.if-not-is_in_scope_behind.false in (
      ap (λ scope. admits scope text) c.as_ref-before.ensures.value ∙ within,
      ap above c.delegator-next.ensures ∙ sym (ap (λ b. b && above (delegator rows link)) within) ∙ sym (admits_step rows link text)
          ∙ sym (ap (λ next. above (option_copied next)) c.in-Some.is) ∙ c.loop-next.invariant.1,
    )
