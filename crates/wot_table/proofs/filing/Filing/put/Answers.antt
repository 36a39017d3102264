use Rattle.std.proofs.Common.{◌<◌, ◌==◌, ◌^◌, sym, ap, ap₂, subst, ◌∙◌, arith}
use Rattle.std.specs.FinMap as map
use Rattle.std.specs.FinMap.{nat_cmp-IsAntisymmetric}
use Rattle.std.specs.Cmp.{nat_cmp_total}
use Rattle.wot_types.specs.Keyring.{id_of}
use Rattle.wot_types.proofs.Maps.{get_entries, inserted}
use Rattle.wot_table.specs.declared.heading.Heading.TheVariants.{Issuer, Expiry}
use Rattle.wot_table.specs.Headings.{is_under}
use Rattle.wot_index.specs.Indexed.{drafts}
use Rattle.wot_table.specs.Weights.{HasRoom, IsSummed, minus, plus, sums_of, weight_of, weight_or_none}
use Rattle.wot_table.proofs.Filed.{date_after_put, filed_put, given_way, kept_at, kept_none, kept_some, number_in_range}
use Rattle.wot_table.proofs.Summing.{len_seen, room, summed_with_key}
use Rattle.wot_table.proofs.filing.Filing.put.Goals.{in-Some+in_ok-filed-in-Some, in-None}
use Rattle.wot_table.proofs.filing.Filing.put.Goals as goal

pub filed-requires : goal.filed-requires
filed-requires c =
    let keys = map.from_entries c.self.inside.keys.entries in
    record {
      former = λ n.
          kept_at drafts keys c.self.inside.signed c.in-Some.draft c.in-Some.is c.self.invariant.signed n c.key_id-id.result
          ∙ ap (is_under Issuer n) (get_entries nat_cmp_total c.self.inside.keys.entries c.key_id-id.result ∙ sym c.in_ok-former.ensures.old);
    }

pub filed-requires-2 : goal.filed-requires-2
filed-requires-2 c = record {
  former = λ n. c.self.invariant.dated n c.key_id-id.result ∙ ap (is_under Expiry n) (get_entries nat_cmp_total c.self.inside.keys.entries c.key_id-id.result ∙ sym c.in_ok-former.ensures.old);
}

pub plus-more-requires : goal.plus-more-requires
plus-more-requires c =
    let summed = subst (λ m. IsSummed m c.self.inside.sums) c.self.view_is c.self.invariant.summed in
    let few : map.len c.args.self < 2 ^ 64 = omega (arith, len_seen c.self.inside.keys.entries c.args.self c.self.view_is c.len-fewer_than_2_63.ensures.ordered, c.len-fewer_than_2_63.ensures.len, c.len-fewer_than_2_63.ensures.small) in
    let w = c.weight-weight.ensures ∙ ap weight_of c.in_ok-held.ensures in
    subst (HasRoom c.self.inside.sums) (sym w) (subst (λ s. HasRoom s (weight_of c.args.key)) (sym summed.counted) (room c.args.self c.args.key summed.kept c.requires.well_formed few))

pub returns : goal.returns
returns c =
    inserted nat_cmp_total nat_cmp-IsAntisymmetric c.self.inside.keys.entries c.insert.new.self.entries c.key_id-id.result c.in_ok-held.held c.in_ok-former.ensures.updates.0
    ∙ ap (λ m. map.insert m c.key_id-id.result c.in_ok-held.held) c.self.view_is
    ∙ ap₂ (λ id k. map.insert c.args.self id k) c.key_id-id.ensures c.in_ok-held.ensures

pub invariant_of-result : goal.invariant_of-result
invariant_of-result c =
    let summed = subst (λ m. IsSummed m c.self.inside.sums) c.self.view_is c.self.invariant.summed in
    let w = c.weight-weight.ensures ∙ ap weight_of c.in_ok-held.ensures in
    let more = c.plus-more.ensures ∙ ap₂ plus summed.counted w in
    let former = c.weight_or_none.ensures ∙ ap weight_or_none (c.in_ok-former.ensures.old ∙ sym (get_entries nat_cmp_total c.self.inside.keys.entries c.key_id-id.result) ∙ ap₂ map.get c.self.view_is c.key_id-id.ensures) in
    let less = c.minus-sums.ensures ∙ ap₂ minus more former in
    let keys =
    inserted nat_cmp_total nat_cmp-IsAntisymmetric c.self.inside.keys.entries c.insert.new.self.entries c.key_id-id.result c.in_ok-held.held c.in_ok-former.ensures.updates.0
    ∙ ap (λ m. map.insert m c.key_id-id.result c.in_ok-held.held) c.self.view_is
    ∙ ap₂ (λ id k. map.insert c.args.self id k) c.key_id-id.ensures c.in_ok-held.ensures in
    let filed = c.self.inside.keys.entries in
    let put = sym (inserted nat_cmp_total nat_cmp-IsAntisymmetric filed c.insert.new.self.entries c.key_id-id.result c.in_ok-held.held c.in_ok-former.ensures.updates.0) in
    record {
      summed =
          subst (λ s. IsSummed (map.from_entries c.insert.new.self.entries) s) (sym less)
          (subst (λ m. IsSummed m (minus (plus (sums_of c.args.self) (weight_of c.args.key)) (weight_or_none (map.get c.args.self (id_of c.args.key))))) (sym keys)
          (summed_with_key c.args.self c.args.key summed.kept c.requires.well_formed));
      signed = elim c.match-signed-5.branch [
        | in-Some+in_ok-filed-in-Some w ↦
            kept_some drafts (map.from_entries c.insert.new.self.entries) c.match-signed-5.signed _ w.signed-is (λ n k.
            w.in_ok-filed-in-Some.ensures n k
            ∙ given_way (k == c.key_id-id.result) _ _ _ (c.in_ok-issuers.ensures.exact n k)
            ∙ filed_put Issuer (map.from_entries filed) c.key_id-id.result c.in_ok-held.held n k _ (kept_at drafts (map.from_entries filed) c.self.inside.signed w.in-Some.draft w.in-Some.is c.self.invariant.signed n k)
            ∙ ap (λ m. is_under Issuer n (map.get m k)) put)
        | in-None w ↦ kept_none drafts (map.from_entries c.insert.new.self.entries) c.match-signed-5.signed w.signed-is
      ];
      dated = λ n k.
          c.in_ok-dated.ensures n k
          ∙ given_way (k == c.key_id-id.result) _ _ _ (c.in_ok-expiries.ensures.exact n k)
          ∙ filed_put Expiry (map.from_entries filed) c.key_id-id.result c.in_ok-held.held n k _ (c.self.invariant.dated n k)
          ∙ ap (λ m. is_under Expiry n (map.get m k)) put;
      dates = λ n k there.
          date_after_put n _ _ _ (c.self.invariant.dates n k) (number_in_range Expiry n k c.in_ok-expiries.expiries.items c.in_ok-expiries.ensures.in_range) (sym (c.in_ok-dated.ensures n k) ∙ there);
    }
