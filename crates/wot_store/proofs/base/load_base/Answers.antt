use Rattle.std.proofs.Common.{◌≡◌, length, sym, ◌∙◌, ap, subst, Err}
use Rattle.wot_site.specs.Disk.{disk_of}
use Rattle.wot_site.specs.Seen.{Seen}
use Rattle.wot_site.proofs.Honest.{honest_with}
use Rattle.wot_pages.specs.Reading.{FindsFault, ReadsPages}
use Rattle.wot_store.specs.declared.error.BadStore.{BadStore}
use Rattle.wot_store.specs.Opening.{LacksBase, ReadsBase}
use Rattle.wot_store.specs.declared.error.StoreError.TheVariants as StoreError
use Rattle.wot_store.specs.declared.error.StoreError.TheVariants.{Bad}
use Rattle.wot_store.specs.Faults.{unread_pages}
use Rattle.wot_store.proofs.Errors.{err_of, seal_wrong}
use Rattle.wot_store.proofs.Openings.{lacks_seal, reads_base, reads_none, started}
use Rattle.wot_store.proofs.base.load_base.Goals as goal

pub returns-in-Err-clause-bad : goal.returns-in-Err-clause-bad
returns-in-Err-clause-bad g c b is =
    let side = c.args.side in
    let header = c.args.header in
    let which : unread_pages c.in-Err.e ≡ Bad b = sym c.unread_pages.ensures ∙ cc is in
    let seal = seal_wrong c.in-Err.e b which in
    honest_with (λ (s : Seen). c.args.size ≡ length (disk_of side s.disks).reads) (FindsFault side header.epoch header.pages seal.0) (LacksBase side header b) _ _ c.requires.size (c.in-Err.ensures.seal seal.0 (ap (λ e. Err e) seal.1))
    (λ x y long found. subst (λ (d : BadStore). LacksBase side header d x y) seal.2 (lacks_seal side header c.args.size seal.0 x y long (started header.pages c.args.size c.in-Some.start (sym c.in-Some.is ∙ c.journal_start.ensures)) found))

pub returns-in-Ok-take_base-clause-base : goal.returns-in-Ok-take_base-clause-base
returns-in-Ok-take_base-clause-base g c =
    let side = c.args.side in
    let header = c.args.header in
    let contents = c.in-Ok.contents.items in
    let base = c.in-Ok-take_base.draft in
    honest_with (λ (s : Seen). c.args.size ≡ length (disk_of side s.disks).reads) (ReadsPages side header.epoch header.pages contents) (ReadsBase side header base) _ _ c.requires.size c.in-Ok.ensures.read
    (λ x y long read. reads_base side header c.args.size contents x y long (started header.pages c.args.size c.in-Some.start (sym c.in-Some.is ∙ c.journal_start.ensures)) read base c.in-Ok-take_base.ensures.base)

pub returns-in-Err-take_base-clause-bad : goal.returns-in-Err-take_base-clause-bad
returns-in-Err-take_base-clause-bad g c b is =
    let side = c.args.side in
    let header = c.args.header in
    let contents = c.in-Ok.contents.items in
    honest_with (λ (s : Seen). c.args.size ≡ length (disk_of side s.disks).reads) (ReadsPages side header.epoch header.pages contents) (LacksBase side header b) _ _ c.requires.size c.in-Ok.ensures.read
    (λ x y long read. reads_none side header c.args.size contents x y long (started header.pages c.args.size c.in-Some.start (sym c.in-Some.is ∙ c.journal_start.ensures)) read
    b (c.in-Err-take_base.ensures.bad b (err_of c.in-Err-take_base.e (StoreError.Bad b) is)))
