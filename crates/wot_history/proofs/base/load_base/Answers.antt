use Rattle.std.proofs.Common.{◌≡◌, Err, ap, length, sym, ◌∙◌}
use Rattle.wot_site.specs.Disk.{disk_of}
use Rattle.wot_site.specs.Seen.{Seen}
use Rattle.wot_site.proofs.Honest.{honest_with}
use Rattle.wot_pages.specs.Reading.{ReadsPages}
use Rattle.wot_store.proofs.Openings.{started}
use Rattle.wot_history.specs.Reading.{FindsBase, LacksBase}
use Rattle.wot_history.proofs.Bases.{finds_base, lacks_room, lacks_taken, not_started, pages_lacked}
use Rattle.wot_history.proofs.base.load_base.Goals as goal

pub returns-in-None-clause-lacks : goal.returns-in-None-clause-lacks
returns-in-None-clause-lacks g c = lacks_room c.args.side c.args.epoch c.args.pages c.args.size _ c.requires.size (not_started c.args.pages c.args.size (sym c.in-None.is ∙ c.journal_start.ensures))

pub returns-in-Err-clause-lacks : goal.returns-in-Err-clause-lacks
returns-in-Err-clause-lacks g c =
    let e = c.in-Err.e in
    rw c.unread_pages.ensures
    (pages_lacked c.args.side c.args.epoch c.args.pages c.args.size e _ _ c.requires.size (started c.args.pages c.args.size c.in-Some.start (sym c.in-Some.is ∙ c.journal_start.ensures))
    c.in-Err.ensures.stays (λ k is. c.in-Err.ensures.seal k (ap (λ e. Err e) is)))

pub returns-in-Ok-take_base-clause-base : goal.returns-in-Ok-take_base-clause-base
returns-in-Ok-take_base-clause-base g c =
    let side = c.args.side in
    let epoch = c.args.epoch in
    let pages = c.args.pages in
    let contents = c.in-Ok.contents.items in
    let base = c.in-Ok-take_base.draft in
    honest_with (λ (s : Seen). c.args.size ≡ length (disk_of side s.disks).reads) (ReadsPages side epoch pages contents) (FindsBase side epoch pages base) _ _ c.requires.size c.in-Ok.ensures.read
    (λ x y long read. finds_base side epoch pages c.args.size x y long (started pages c.args.size c.in-Some.start (sym c.in-Some.is ∙ c.journal_start.ensures)) contents base read c.in-Ok-take_base.ensures.base)

pub returns-in-Err-take_base-clause-lacks : goal.returns-in-Err-take_base-clause-lacks
returns-in-Err-take_base-clause-lacks g c =
    let side = c.args.side in
    let epoch = c.args.epoch in
    let pages = c.args.pages in
    let contents = c.in-Ok.contents.items in
    let e = c.in-Err-take_base.e in
    honest_with (λ (s : Seen). c.args.size ≡ length (disk_of side s.disks).reads) (ReadsPages side epoch pages contents) (LacksBase side epoch pages e) _ _ c.requires.size c.in-Ok.ensures.read
    (λ x y long read. lacks_taken side epoch pages c.args.size x y long (started pages c.args.size c.in-Some.start (sym c.in-Some.is ∙ c.journal_start.ensures)) contents e read c.in-Err-take_base.ensures.none)
