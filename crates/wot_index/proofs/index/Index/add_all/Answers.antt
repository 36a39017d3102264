use Rattle.std.proofs.Common.{◌||◌, ◌&&◌, ◌==◌, sym, ap, ◌∙◌}
use Rattle.std.proofs.lemmas.List.Sorted.{list_any-IsPermutation}
use Rattle.std.proofs.lemmas.List.{nil_from_length}
use Rattle.std.proofs.lemmas.Result.{on_ok_weaker}
use Rattle.std.specs.BTreeMap.{is_at}
use Rattle.std.specs.List.{list_any}
use Rattle.wot_index.specs.Indexed.{has, has_pair, pair_cmp}
use Rattle.wot_index.proofs.index.Index.add_all.Goals as goal

pub loop-self-init : goal.loop-self-init
loop-self-init c = λ n id. ap (λ b. has c.args.self.now n id || b) (sym (list_any-IsPermutation (λ pair. (pair.0 == n) && (pair.1 == id)) _ _ c.sort_unstable.ensures.permutation))

pub returns-then-is_empty : goal.returns-then-is_empty
returns-then-is_empty c = on_ok_weaker c.build.result (λ all n id.
    all n id
    ∙ sym (list_any-IsPermutation (λ pair. (pair.0 == n) && (pair.1 == id)) _ _ c.sort_unstable.ensures.permutation)
    ∙ ap (λ keys. list_any (is_at (pair_cmp (n, id))) keys || has_pair n id c.args.pairs.items) (sym (nil_from_length c.args.self.now.pairs.keys (c.is_empty.ensures.0 c.if-is_empty.true)))) c.build.ensures
