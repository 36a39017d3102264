use Rattle.wot_regex.proofs.followers.followers_of.Goals as goal

pub returns : goal.returns
returns c = record {
  rows = record { none = c.blank_row-first.ensures; each = c.note_rows.ensures; steps = c.steps_of-steps.ensures };
  each_mask = c.note_masks.ensures;
}
