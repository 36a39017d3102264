use Rattle.std.proofs.Common.{◌≡◌, ◌∙◌, ◌+◌, [], ◌++◌, arith, refl, rules, length, take, ◌≤◌}
use Rattle.std.proofs.lemmas.List.{length-append, length-take-le}
use Rattle.wot_site.specs.Site.{Reads}
use Rattle.wot_site.proofs.Honest.{honest_start, honest_then}
use Rattle.wot_site.specs.Reading.{IsRange}
use Rattle.wot_site.proofs.Ranges.{range_start, range_more}
use Rattle.wot_site.proofs.reading.read_range.Goals as goal

pub loop-side-init : goal.loop-side-init
loop-side-init g c = rw c.new-bytes.ensures.items record {
  within = omega arith;
  range = honest_start (IsRange c.args.side c.args.at 0 []) (g.S.Site.seen c.args.site.now) (λ x. range_start c.args.side c.args.at x);
  quiet = refl;
}

pub loop-side-preserved : goal.loop-side-preserved
loop-side-preserved g c =
    let side = c.args.side in
    let at = c.args.at in
    let xs = c.loop-side.bytes.items in
    let buf = c.read.new.buf in
    let fits = c.min-fits.result in
    let n = c.in-Ok.n in
    let few : fits ≤ n = omega arith in
    let within : n ≤ length buf = omega (arith, c.in-Ok.ensures.fits) in
    let room : length xs + fits ≤ c.args.len = omega arith in
    let here : c.len-in-loop-side.result ≡ length xs = search rules in
    let long : length (take fits buf) ≡ fits = length-take-le fits buf (omega (arith, few, within)) in
    let grown : c.extend_from_slice.new.self.items ≡ xs ++ take fits buf = search rules in
    rw grown record {
      within = simp length-append (omega (arith, room, long));
      range = honest_then (IsRange side at (length xs) xs) (Reads side (at + length xs) n buf) (IsRange side at (length (xs ++ take fits buf)) (xs ++ take fits buf)) _ _ _
          c.loop-side.invariant.range (rw here at c.in-Ok.ensures.ok) (λ x y z before reads. range_more side at xs buf n fits x y z before reads few within);
      quiet = (rw c.in-Ok.is at c.read.ensures.cause.quiet) ∙ c.loop-side.invariant.quiet;
    }
