use Rattle.std.proofs.Common.{◌==◌, ◌∷◌, [], refl}
use Rattle.wot_index.specs.Indexed.{has_pair}
use Rattle.wot_table.specs.Headings.{certs_under, is_filed_by}
use Rattle.wot_table.proofs.Filed.{filed_append, none_left, not_filed, one_filed}
use Rattle.wot_table.proofs.held.push_pairs_of.Goals as goal

pub loop-placed-init : goal.loop-placed-init
loop-placed-init c = record {
  added = λ n k. refl;
  in_range = λ before. before;
}

pub loop-placed-preserved : goal.loop-placed-preserved
loop-placed-preserved c = record {
  added = λ n k.
      one_filed (certs_under c.args.heading n) c.args.certs.now c.loop-placed.placed-index _ (k == c.args.id) _ c.placed-item.result (is_filed_by c.args.heading n (c.placed-item.result.cert.issuer ∷ []) (c.placed-item.result.cert.expires ∷ [])) _ c.loop-placed-test.true c.placed-item.is
      (filed_append c.args.heading n (c.placed-item.result.cert.issuer ∷ []) (c.placed-item.result.cert.expires ∷ []) _ _) (c.in_ok-push_cert.ensures.added n k) (c.loop-placed.invariant.added n k);
  in_range = λ before. c.in_ok-push_cert.ensures.in_range (c.loop-placed.invariant.in_range before);
}

pub returns-clause-added : goal.returns-clause-added
returns-clause-added c = λ n k.
    none_left (certs_under c.args.heading n) c.args.certs.now c.loop-placed.placed-index (has_pair n k c.loop-placed.to.items) (k == c.args.id) _ c.loop-placed-test.false (not_filed c.args.heading n) (c.loop-placed.invariant.added n k)

pub returns-clause-in_range : goal.returns-clause-in_range
returns-clause-in_range c = c.loop-placed.invariant.in_range
