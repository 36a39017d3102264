-- What one note more tells.
use Rattle.std.proofs.Common.{◌≡◌, List, [], ◌∷◌, ◌++◌, refl}
use Rattle.wot_site.specs.Notes.{Past, past_after, past_at_run, replay}
use Rattle.wot_site.specs.declared.memory.notes.Noted.{Noted}

pub replay_push : (p : Past) (notes : List Noted) (noted : Noted) → replay p (notes ++ noted ∷ []) ≡ past_after (past_at_run noted.first (replay p notes)) noted.note
replay_push p [] noted = refl
replay_push p (first ∷ notes) noted = replay_push (past_after (past_at_run first.first p) first.note) notes noted
