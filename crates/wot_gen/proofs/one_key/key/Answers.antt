use Rattle.std.proofs.Common.{arith}
use Rattle.wot_types.proofs.SoundKeys.{sound_made}
use Rattle.wot_gen.proofs.one_key.key.Goals as goal

pub returns-clause-made : goal.returns-clause-made
returns-clause-made c = cc (c.in_ok-from_bytes.ensures, c.in_ok-users.ensures)

pub returns-clause-well_formed : goal.returns-clause-well_formed
returns-clause-well_formed c = sound_made _ c.args.seed c.args.i (returns-clause-made c) (omega arith)
