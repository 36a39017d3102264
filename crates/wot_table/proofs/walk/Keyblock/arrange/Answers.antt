use Rattle.wot_types.specs.Arrangement.{spot_of}
use Rattle.wot_table.proofs.Placement.{room_for_moved}
use Rattle.wot_table.proofs.walk.Keyblock.arrange.Goals as goal

pub arrange-requires : goal.arrange-requires
arrange-requires g c = record {
  room = room_for_moved (spot_of c.args.self.now.1 c.args.user) c.certs.result.now c.args.order.now.most c.requires.there c.requires.room c.certs.ensures.same;
}
