use Rattle.std.proofs.Common.{◌≡◌, ◌≤◌, map, take, vec_capacity}
use Rattle.wot_table.proofs.order.BlockOrder.arrange.Given as goal

abbrev pub invariant-loop-cert : goal.invariant-loop-cert
invariant-loop-cert l = record {
  taken : map (λ p. p.now) l.self.certs.items ≡ take l.cert-index l.certs;
  room : l.self.most ≤ vec_capacity l.self.certs;
  most : l.self.most ≡ l.fn.self.most;
}
