use Rattle.std.proofs.Common.{◌+◌, [], ◌∷◌}
use Rattle.wot_site.specs.Disk.{disk_of}
use Rattle.wot_site.specs.Work.{Works}
use Rattle.wot_site.proofs.Honest.{honest_with, honest_with_then}
use Rattle.wot_journal.specs.Record.{behind_gate, open_gate}
use Rattle.wot_journal.specs.Commit.{Puts, PutsNot, IsEnd, IsCommitting}
use Rattle.wot_journal.proofs.Commits.{first_not, second_put, second_not}
use Rattle.wot_journal.proofs.committing.commit.Goals as goal

pub returns-in-Err-clause-any_moment : goal.returns-in-Err-clause-any_moment
returns-in-Err-clause-any_moment g c =
    let built = c.args.built.now in
    let side = c.args.side in
    honest_with (λ s. IsEnd built.end (disk_of side s.disks)) (PutsNot side (built.end + 1) (behind_gate built.payload)) (λ old new. Works (IsCommitting side built old.disks) old new)
    _ _ c.requires.at_end (rw (c.end-end.ensures, c.body-body.ensures.body) at c.in-Err.ensures.err) (λ x y h p. first_not side built x h y p)

pub returns-in-Ok-put-clause-any_moment : goal.returns-in-Ok-put-clause-any_moment
returns-in-Ok-put-clause-any_moment g c =
    let built = c.args.built.now in
    let side = c.args.side in
    honest_with_then (λ s. IsEnd built.end (disk_of side s.disks)) (Puts side (built.end + 1) (behind_gate built.payload)) (Puts side built.end (open_gate ∷ [])) (λ old new. Works (IsCommitting side built old.disks) old new)
    _ _ _ c.requires.at_end (rw (c.end-end.ensures, c.body-body.ensures.body) at c.in-Ok.ensures.ok) (rw c.end-end.ensures at c.in-Ok-put.ensures.ok) (λ x y z h p q. second_put side built x h y p z q)

pub returns-in-Err-put-clause-any_moment : goal.returns-in-Err-put-clause-any_moment
returns-in-Err-put-clause-any_moment g c =
    let built = c.args.built.now in
    let side = c.args.side in
    honest_with_then (λ s. IsEnd built.end (disk_of side s.disks)) (Puts side (built.end + 1) (behind_gate built.payload)) (PutsNot side built.end (open_gate ∷ [])) (λ old new. Works (IsCommitting side built old.disks) old new)
    _ _ _ c.requires.at_end (rw (c.end-end.ensures, c.body-body.ensures.body) at c.in-Ok.ensures.ok) (rw c.end-end.ensures at c.in-Err-put.ensures.err) (λ x y z h p q. second_not side built x h y p z q)
