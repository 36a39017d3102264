use Rattle.std.proofs.Common.{◌≡◌, ℕ, List, map, refl, ap, subst, ◌∙◌}
use Rattle.std.proofs.lemmas.List.Elements.{All-nil}
use Rattle.wot_types.specs.declared.placed.Placed.{Placed}
use Rattle.wot_types.specs.Arrangement.{spot_of}
use Rattle.wot_types.specs.Printing.{cert_line}
use Rattle.wot_types.specs.Selection.{Spot}
use Rattle.wot_levels.proofs.HeadLemmas.{if_there}
use Rattle.wot_print_laws.specs.Fits.{FitsCert}
use Rattle.wot_print.proofs.Loops.{all_more, all_seen, lines_seen, one_more}
use Rattle.wot_print.proofs.listing.push_certs.Goals as goal

pub loop-placed-init : goal.loop-placed-init
loop-placed-init g c = record {
  same = refl;
  lines = g.met.W.Sink.none c.args.text.now;
  fits = All-nil (λ placed. FitsCert placed.now.cert);
}

pub loop-placed-preserved : goal.loop-placed-preserved
loop-placed-preserved g c =
    let items = c.deref-placed-items.result.now in
    let i = c.loop-placed.placed-index in
    let item = c.placed-item.result in
    record {
      same = c.push_cert.ensures.same ∙ c.loop-placed.invariant.same;
      lines = subst (λ (l : List ℕ). g.W.Sink.adds c.args.text.now l c.push_cert.new.text) (one_more (λ placed. cert_line placed.now.cert) items i item c.loop-placed-test.true c.placed-item.is)
          (g.met.W.Sink.both c.args.text.now c.loop-placed.text c.push_cert.new.text _ (cert_line item.now.cert) c.loop-placed.invariant.lines c.in_ok-push_cert.ensures.adds);
      fits = all_more (λ placed. FitsCert placed.now.cert) items i item c.loop-placed-test.true c.placed-item.is c.loop-placed.invariant.fits c.cert_fits.ensures;
    }

pub returns-clause-lines : goal.returns-clause-lines
returns-clause-lines g c = λ spot is.
    let items = c.deref-placed-items.result.now in
    let block : map (λ p. p.now) items ≡ spot.certs =
    ap (map (λ p. p.now)) c.deref-placed-items.ensures.value
    ∙ if_there (λ (spot : Spot). map (λ p. p.now) c.arrange.new.order.certs.items ≡ spot.certs) (spot_of c.args.keyblock.now.1 c.args.user) c.arrange.ensures.block spot is in
    subst (λ (l : List ℕ). g.W.Sink.adds c.args.text.now l c.loop-placed.text) (lines_seen (λ p. p.now) (λ (p : Placed). cert_line p.cert) items c.loop-placed.placed-index spot.certs c.loop-placed-test.false block)
    c.loop-placed.invariant.lines

pub returns-clause-fits : goal.returns-clause-fits
returns-clause-fits g c = λ spot is.
    let items = c.deref-placed-items.result.now in
    let block : map (λ p. p.now) items ≡ spot.certs =
    ap (map (λ p. p.now)) c.deref-placed-items.ensures.value
    ∙ if_there (λ (spot : Spot). map (λ p. p.now) c.arrange.new.order.certs.items ≡ spot.certs) (spot_of c.args.keyblock.now.1 c.args.user) c.arrange.ensures.block spot is in
    all_seen (λ p. p.now) (λ (p : Placed). FitsCert p.cert) items c.loop-placed.placed-index spot.certs c.loop-placed-test.false c.loop-placed.invariant.fits block
