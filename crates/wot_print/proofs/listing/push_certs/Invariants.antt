use Rattle.std.proofs.Common.{◌≡◌, All, take}
use Rattle.std.specs.List.{flat_map}
use Rattle.wot_types.specs.Printing.{cert_line}
use Rattle.wot_print_laws.specs.Fits.{FitsCert}
use Rattle.wot_print.proofs.listing.push_certs.Given as goal

-- the lines so far were added
abbrev pub invariant-loop-placed : goal.invariant-loop-placed
invariant-loop-placed g l = record {
  same : g.W.Sink.name l.text ≡ g.W.Sink.name l.initial.text;
  lines : g.W.Sink.adds l.initial.text (flat_map (λ placed. cert_line placed.now.cert) (take l.placed-index l.placed-items)) l.text;
  fits : All (λ placed. FitsCert placed.now.cert) (take l.placed-index l.placed-items);
}
