use Rattle.std.proofs.Common.{◌∙◌}
use Rattle.wot_spelling.proofs.Rooms.{key_room}
use Rattle.wot_spelling.proofs.values.KeyPart.write.Goals as goal

pub key_fields-requires : goal.key_fields-requires
key_fields-requires c = (key_room c.args.self.now c.requires).caps

pub list-requires-clause-few : goal.list-requires-clause-few
list-requires-clause-few c = (key_room c.args.self.now c.requires).few

pub list-requires-clause-room : goal.list-requires-clause-room
list-requires-clause-room c = (key_room c.args.self.now c.requires).users

pub returns-clause-ok : goal.returns-clause-ok
returns-clause-ok c = c.in_ok-list.ensures.ok ∙ c.in_ok-key_fields.ensures.ok c.args.self.now.users

pub returns-clause-fits : goal.returns-clause-fits
returns-clause-fits c = c.in_ok-key_fields.ensures.fits c.args.self.now.users c.in_ok-list.ensures.fits
