use Rattle.std.proofs.Common.{◌≡◌, ◌∙◌, ◌≤◌, Some, None, length, sym, arith}
use Rattle.wot_site.specs.Disk.{disk_of}
use Rattle.wot_site.specs.Seen.{Seen}
use Rattle.wot_site.proofs.Honest.{honest_with}
use Rattle.wot_types.specs.PagePlaces.{page_place}
use Rattle.wot_pages.specs.Checking.{first_wrong}
use Rattle.wot_pages.specs.Reading.{ReadsSealed, ReadsPages, FindsFault}
use Rattle.wot_pages.proofs.Checks.{wrong_within}
use Rattle.wot_pages.proofs.Readings.{finds_wrong, reads_whole}
use Rattle.wot_pages.proofs.reading.read_pages.Goals as goal

pub returns-in-Ok-Some-clause-there : goal.returns-in-Ok-Some-clause-there
returns-in-Ok-Some-clause-there g c q is =
    let same : c.in-Ok-Some.k ≡ q = cc is in
    let told : Some c.in-Ok-Some.k ≡ first_wrong c.args.epoch 0 c.in-Ok.read.contents.items c.in-Ok.read.seals.items =
    sym c.in-Ok-Some.field-0-is ∙ c.in-Ok-Some.ensures ∙ (λ i. first_wrong c.args.epoch 0 (c.deref.ensures.value i) (c.deref-2.ensures.value i)) in
    omega (arith, same, c.in-Ok.ensures.few, wrong_within c.args.epoch c.in-Ok.read.contents.items c.in-Ok-Some.k c.in-Ok.read.seals.items (sym told))

pub returns-in-Ok-Some-clause-seal : goal.returns-in-Ok-Some-clause-seal
returns-in-Ok-Some-clause-seal g c q is =
    let side = c.args.side in
    let pages = c.args.pages in
    let contents = c.in-Ok.read.contents.items in
    let seals = c.in-Ok.read.seals.items in
    let same : c.in-Ok-Some.k ≡ q = cc is in
    let told : Some c.in-Ok-Some.k ≡ first_wrong c.args.epoch 0 contents seals =
    sym c.in-Ok-Some.field-0-is ∙ c.in-Ok-Some.ensures ∙ (λ i. first_wrong c.args.epoch 0 (c.deref.ensures.value i) (c.deref-2.ensures.value i)) in
    rw (sym same) (honest_with (λ (s : Seen). page_place pages ≤ length (disk_of side s.disks).reads) (ReadsSealed side pages contents seals) (FindsFault side c.args.epoch pages c.in-Ok-Some.k) _ _
    c.requires.within c.in-Ok.ensures.read
    (λ x y within read. finds_wrong side c.args.epoch pages contents seals x y within c.in-Ok.ensures.few read c.in-Ok-Some.k told))

pub returns-else-count-pages-clause-read : goal.returns-else-count-pages-clause-read
returns-else-count-pages-clause-read g c =
    let side = c.args.side in
    let pages = c.args.pages in
    let contents = c.in-Ok.read.contents.items in
    let seals = c.in-Ok.read.seals.items in
    let all : length seals ≡ pages = omega (arith, c.in-Ok.ensures.few) in
    let told : None ≡ first_wrong c.args.epoch 0 contents seals =
    sym c.in-Ok-None.field-0-is ∙ c.in-Ok-None.ensures ∙ (λ i. first_wrong c.args.epoch 0 (c.deref.ensures.value i) (c.deref-2.ensures.value i)) in
    honest_with (λ (s : Seen). page_place pages ≤ length (disk_of side s.disks).reads) (ReadsSealed side pages contents seals) (ReadsPages side c.args.epoch pages contents) _ _
    c.requires.within c.in-Ok.ensures.read
    (λ x y within read. reads_whole side c.args.epoch pages contents seals x y within c.in-Ok.ensures.few read all told)
