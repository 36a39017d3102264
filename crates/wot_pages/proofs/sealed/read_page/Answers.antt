use Rattle.std.proofs.Common.{◌≡◌, ◌∙◌, ◌+◌, ◌-◌, ◌≤◌, ◌++◌, length, take, drop, arith}
use Rattle.std.proofs.lemmas.List.{length-drop, length-take-le}
use Rattle.wot_site.specs.Reading.{IsRange}
use Rattle.wot_site.specs.Site.{Reads}
use Rattle.wot_site.proofs.Honest.{honest_then}
use Rattle.wot_site.proofs.Ranges.{range_more}
use Rattle.wot_pages.proofs.Parts.{length_part, take_part}
use Rattle.wot_pages.proofs.sealed.read_page.Goals as goal

pub loop-filled-preserved : goal.loop-filled-preserved
loop-filled-preserved g c =
    let side = c.args.side in
    let at = c.args.at in
    let page = c.loop-filled.page in
    let filled = c.loop-filled.filled in
    let buf = c.read.new.buf in
    let n = c.in-Ok.n in
    let inv = c.loop-filled.invariant in
    let long = inv.long in
    let within : filled ≤ length page = omega (arith, inv.within, long) in
    let front : length (take filled page) ≡ filled = length-take-le filled page within in
    let whole : length buf ≡ 4096 - filled = c.read.auto.buf ∙ length-take-le (4096 - filled) (drop filled page) (omega (arith, length-drop filled page, long)) in
    let few : n ≤ length buf = omega (arith, c.in-Ok.ensures.fits, whole) in
    let grown = take_part filled (4096 - filled) page buf within n few in
    rw grown record {
      long = length_part filled (4096 - filled) page buf within whole (omega (arith, inv.within, long)) ∙ long;
      within = omega (arith, c.in-Ok.ensures.fits, inv.within);
      range = honest_then (IsRange side at (length (take filled page)) (take filled page)) (Reads side (at + length (take filled page)) n buf) (IsRange side at (length (take filled page ++ take n buf)) (take filled page ++ take n buf)) _ _ _
          inv.range (rw front c.in-Ok.ensures.ok) (λ x y z before reads. range_more side at (take filled page) buf n n x y z before reads (omega arith) few);
      quiet = (rw c.in-Ok.is at c.read.ensures.cause.quiet) ∙ inv.quiet;
    }
