use Rattle.std.proofs.Common.{ap, ◌∙◌, arith, rules}
use Rattle.wot_types.specs.Fingerprint.{key_id_of}
use Rattle.wot_types.proofs.KeyIds.{key_id_of-sample_fpr}
use Rattle.wot_gen.proofs.names.fpr.Goals as goal

pub returns-clause-made : goal.returns-clause-made
returns-clause-made c = search rules

pub returns-clause-ends_in_key_id : goal.returns-clause-ends_in_key_id
returns-clause-ends_in_key_id c = ap key_id_of (returns-clause-made c) ∙ key_id_of-sample_fpr c.args.seed c.args.i (omega arith)
