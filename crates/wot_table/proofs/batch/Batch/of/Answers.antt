use Rattle.std.proofs.Common.{All, ap, ap₂, map, nat_cmp, reverse, sym, subst, ◌∙◌}
use Rattle.std.specs.List.{AllByRecursion}
use Rattle.std.specs.List.Sorted.{IsStrictlySortedBy}
use Rattle.std.proofs.lemmas.List.{reverse-reverse}
use Rattle.std.proofs.lemmas.Map.Keys.{sorted_from_strictly_increasing}
use Rattle.wot_types.specs.Keyring.{id_of, with_keys}
use Rattle.wot_types.specs.WellFormed.{IsWellFormed}
use Rattle.wot_table.proofs.Batches.{Lacks, next_above, none_yet, others_sorted, still_lacks}
use Rattle.wot_table.proofs.PutLemmas.{keys_left, next_has, next_of, others_have}
use Rattle.wot_table.proofs.batch.Batch.of.Goals as goal

pub put-requires : goal.put-requires
put-requires c = record {
  well_formed = next_has IsWellFormed _ _ c.in-Some.key c.in-Some.ensures.items c.loop-key.invariant.each;
  absent = (subst (AllByRecursion (Lacks c.loop-key.batch)) (next_of _ _ c.in-Some.key c.in-Some.ensures.items) c.loop-key.invariant.lack).0;
}

pub loop-key-init : goal.loop-key-init
loop-key-init c =
    let all = ap reverse (c.reverse.ensures.items ∙ ap reverse c.into_vec-left.ensures) ∙ reverse-reverse c.args.keys in
    record {
      whole = ap₂ with_keys c.in_ok-batch.ensures all;
      each = subst (All IsWellFormed) (sym all) c.requires.well_formed;
      rising = subst (λ keys. IsStrictlySortedBy nat_cmp (map id_of keys)) (sym all) (sorted_from_strictly_increasing (map id_of c.args.keys) c.requires.rising);
      lack = subst (λ keys. AllByRecursion (Lacks keys) (reverse c.reverse.new.self.items)) (sym c.in_ok-batch.ensures) (none_yet (reverse c.reverse.new.self.items));
    }

pub loop-key-preserved : goal.loop-key-preserved
loop-key-preserved c =
    let more = reverse c.pop.new.self.items in
    let front = next_of _ _ c.in-Some.key c.in-Some.ensures.items in
    let sorted = subst (λ keys. IsStrictlySortedBy nat_cmp (map id_of keys)) front c.loop-key.invariant.rising in
    let lack = subst (AllByRecursion (Lacks c.loop-key.batch)) front c.loop-key.invariant.lack in
    record {
      whole = keys_left c.loop-key.batch _ _ _ _ c.in-Some.key c.in-Some.ensures.items c.in_ok-batch-2.ensures c.loop-key.invariant.whole;
      each = others_have IsWellFormed _ _ c.in-Some.key c.in-Some.ensures.items c.loop-key.invariant.each;
      rising = others_sorted c.in-Some.key more sorted;
      lack = subst (λ keys. AllByRecursion (Lacks keys) more) (sym c.in_ok-batch-2.ensures) (still_lacks c.loop-key.batch c.in-Some.key more (next_above c.in-Some.key more sorted) lack.1);
    }

pub loop-key-preserved-then-len-capacity : goal.loop-key-preserved-then-len-capacity
loop-key-preserved-then-len-capacity c =
    let more = reverse c.pop.new.self.items in
    let front = next_of _ _ c.in-Some.key c.in-Some.ensures.items in
    let sorted = subst (λ keys. IsStrictlySortedBy nat_cmp (map id_of keys)) front c.loop-key.invariant.rising in
    let lack = subst (AllByRecursion (Lacks c.loop-key.batch)) front c.loop-key.invariant.lack in
    let same = ap reverse (sym c.shrink_to_fit.ensures.items) in
    record {
      whole = ap (with_keys c.in_ok-batch-2.batch) (sym same)
          ∙ keys_left c.loop-key.batch _ _ _ _ c.in-Some.key c.in-Some.ensures.items c.in_ok-batch-2.ensures c.loop-key.invariant.whole;
      each = subst (All IsWellFormed) same (others_have IsWellFormed _ _ c.in-Some.key c.in-Some.ensures.items c.loop-key.invariant.each);
      rising = subst (λ keys. IsStrictlySortedBy nat_cmp (map id_of keys)) same (others_sorted c.in-Some.key more sorted);
      lack = subst (AllByRecursion (Lacks c.in_ok-batch-2.batch)) same
          (subst (λ keys. AllByRecursion (Lacks keys) more) (sym c.in_ok-batch-2.ensures) (still_lacks c.loop-key.batch c.in-Some.key more (next_above c.in-Some.key more sorted) lack.1));
    }
