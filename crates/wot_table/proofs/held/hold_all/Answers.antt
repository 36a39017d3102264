use Rattle.std.proofs.Common.{◌++◌, ap, ap₂, reverse, ◌∙◌, arith}
use Rattle.std.proofs.lemmas.List.{reverse-reverse}
use Rattle.wot_types.specs.Keyring.{user_certs}
use Rattle.wot_types.specs.Selection.{spots_from}
use Rattle.wot_table.proofs.PutLemmas.{next_certs, next_spots}
use Rattle.wot_table.proofs.held.hold_all.Goals as goal

pub loop-user-init : goal.loop-user-init
loop-user-init c =
    let all = ap reverse (c.reverse.ensures.items ∙ ap reverse c.into_vec-left.ensures) ∙ reverse-reverse c.args.users in
    record {
      whole = ap₂ (λ held left. held ++ spots_from 0 left) c.in_ok-held.ensures.items all;
      few = omega (arith, c.requires.few, ap user_certs all);
    }

pub hold-requires : goal.hold-requires
hold-requires c = record {
  few = omega (arith, c.loop-user.invariant.few, next_certs _ _ c.in-Some.user c.in-Some.ensures.items);
}

pub overflow_add-first : goal.overflow_add-first
overflow_add-first c = omega (arith, c.loop-user.invariant.few, next_certs _ _ c.in-Some.user c.in-Some.ensures.items, c.len-count.ensures)

pub loop-user-preserved : goal.loop-user-preserved
loop-user-preserved c = record {
  whole = next_spots _ _ _ _ c.loop-user.first c.len-count.result c.in-Some.user c.in_ok-hold.field-0 c.len-count.ensures c.in_ok-hold.ensures c.in_ok-push.ensures.items c.in-Some.ensures.items ∙ c.loop-user.invariant.whole;
  few = omega (arith, c.loop-user.invariant.few, next_certs _ _ c.in-Some.user c.in-Some.ensures.items, c.len-count.ensures);
}
