use Rattle.std.proofs.Common.{◌≡◌, ◌∙◌, ◌+◌, ◌*◌, [], ◌∷◌, ◌++◌, length, take, drop, ap, refl, arith, rules}
use Rattle.std.proofs.lemmas.List.{length-append, length-take-le}
use Rattle.wot_site.proofs.Honest.{honest_start, honest_then}
use Rattle.wot_site.specs.Reading.{IsRange}
use Rattle.wot_pages.specs.Reading.{ReadsSealed}
use Rattle.wot_pages.proofs.Readings.{sealed_start, sealed_more}
use Rattle.wot_pages.proofs.sealed.read_sealed.Goals as goal

pub loop-k-init : goal.loop-k-init
loop-k-init g c =
    let side = c.args.side in
    rw (c.in-Ok.ensures.contents, c.in-Ok.ensures.seals) record {
      long = refl;
      count = refl;
      read = honest_start (ReadsSealed side 0 [] []) _ (λ x. sealed_start side x);
      quiet = refl;
    }

pub loop-k-preserved : goal.loop-k-preserved
loop-k-preserved g c =
    let side = c.args.side in
    let k = c.loop-k.k in
    let part = c.read_page.new.page in
    let contents = c.loop-k.sealed.contents.items in
    let seals = c.loop-k.sealed.seals.items in
    let count = c.loop-k.invariant.count in
    let x = c.push.ensures in
    let long : length (take 4064 part) ≡ 4064 = length-take-le 4064 part (omega (arith, c.read_page.ensures.long)) in
    let more : c.push.new.self.contents.items ≡ contents ++ take 4064 part = search rules in
    let sealed : c.push.new.self.seals.items ≡ seals ++ drop 4064 part ∷ [] = search rules in
    rw (more, sealed) record {
      long = length-append contents (take 4064 part) ∙ omega (arith, long, c.loop-k.invariant.long);
      count = length-append seals (drop 4064 part ∷ []) ∙ ap (λ (n : _). n + 1) count;
      read = honest_then (ReadsSealed side k contents seals) (IsRange side (24 + 4096 * k) 4096 part) (ReadsSealed side (k + 1) (contents ++ take 4064 part) (seals ++ drop 4064 part ∷ [])) _ _ _
          c.loop-k.invariant.read c.in-Ok-read_page.ensures.range (λ x y z before range. sealed_more side k contents seals x y z before count part range);
      quiet = search rules;
    }
