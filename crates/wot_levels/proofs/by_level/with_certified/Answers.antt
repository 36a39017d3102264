use Rattle.std.proofs.Common.{◌≡◌, ◌⊎◌, inl, inr, true, ◌∷◌, [], sym, subst}
use Rattle.std.specs.List.{Contains}
use Rattle.std.proofs.lemmas.Bool.{false≢true}
use Rattle.std.proofs.lemmas.List.Elements.{Contains-append_left, Contains-push_cases}
use Rattle.wot_types.specs.Indexes.{has_cert_by}
use Rattle.wot_levels.proofs.Frontiers.{found_all, found_more}
use Rattle.wot_levels.proofs.by_level.with_certified.Goals as goal

pub loop-id-init : goal.loop-id-init
loop-id-init c = record {
  all = λ x its none. absurd (false≢true none);
  kept = λ x there. there;
  only = λ x there. inl there;
}

pub loop-id-preserved : goal.loop-id-preserved
loop-id-preserved c =
    let ids = c.loop-id.ids.items in
    let id = c.in-Some.id in
    let more = sym c.in_ok-push.ensures.items in
    record {
      all = λ x its done. subst (λ ids. Contains ids x) more (found_more (has_cert_by c.args.table.now c.args.issuer) c.loop-id.after ids id c.in-Some.ensures c.loop-id.invariant.all x its done);
      only = λ x there. elim (Contains-push_cases ids id x (subst (λ ids. Contains ids x) (sym more) there)) as (λ _. Contains c.args.ids.items x ⊎ (has_cert_by c.args.table.now c.args.issuer x ≡ true)) [
        | inl before ↦ c.loop-id.invariant.only x before
        | inr same ↦ inr (subst (λ y. has_cert_by c.args.table.now c.args.issuer y ≡ true) same c.in-Some.ensures.0)
      ];
      kept = λ x there. subst (λ ids. Contains ids x) more (Contains-append_left ids (id ∷ []) x (c.loop-id.invariant.kept x there));
    }

pub returns-clause-all : goal.returns-clause-all
returns-clause-all c = found_all (has_cert_by c.args.table.now c.args.issuer) c.loop-id.after c.loop-id.ids.items c.in_default.ensures c.loop-id.invariant.all
