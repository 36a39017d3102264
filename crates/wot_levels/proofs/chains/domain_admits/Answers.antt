use Rattle.std.proofs.Common.{◌≤◌, length, ap, arith}
use Rattle.wot_levels.proofs.ScopeLemmas.{tested_by_domain}
use Rattle.wot_levels.proofs.chains.domain_admits.Goals as goal

pub returns-then-as_bytes-le-MOST_SCOPE : goal.returns-then-as_bytes-le-MOST_SCOPE
returns-then-as_bytes-le-MOST_SCOPE c =
    let scope = c.args.scope.now in
    let short : length scope ≤ 255 = omega (arith, ap length c.as_bytes.ensures) in
    tested_by_domain scope c.args.text.now c.by_domain.result c.by_domain.ensures.form c.by_domain.ensures.means short
