use Rattle.std.proofs.Common.{Err, ap, refl, sym, ◌∙◌, subst, ◌++◌, ◌∷◌, []}
use Rattle.wot_listing.specs.declared.error.ListingError.{ListingError}
use Rattle.wot_listing.specs.Reading.{HasRead, stop_of}
use Rattle.wot_listing.proofs.ReaderLemmas.{open_view, read_line, stopped_line, stopped_view, stopping_line}
use Rattle.wot_listing.proofs.listing.Listing.feed_line.Goals as goal

pub returns-in-Some-clause-read : goal.returns-in-Some-clause-read
returns-in-Some-clause-read c = λ lines read.
    stopped_line c.args.self.now c.in-Some.stop lines c.args.line.now (stopped_view _ _ _ _ c.self.view_is c.in-Some.is) read

pub returns-in-Ok-clause-read : goal.returns-in-Ok-clause-read
returns-in-Ok-clause-read c = λ lines read.
    let after = open_view _ c.self.inside.stop c.add_line.new.self refl c.in-None.is in
    let before = open_view _ _ _ c.self.view_is c.in-None.is in
    subst (λ r. HasRead r (lines ++ c.args.line.now ∷ [])) (sym after)
    (read_line c.args.self.now c.self.inside.progress c.add_line.new.self lines c.args.line.now before c.in-Ok.ensures.0 c.in-Ok.ensures.1 read)

pub returns-in-Err-clause-read : goal.returns-in-Err-clause-read
returns-in-Err-clause-read c = λ lines read.
    let stop = c.stop_at-stop.ensures ∙ ap (λ n. stop_of n c.in-Err.e) c.saturating_add-number.ensures in
    let before = open_view _ _ _ c.self.view_is c.in-None.is in
    subst (λ (e : ListingError). HasRead (Err e) (lines ++ c.args.line.now ∷ [])) (sym stop)
    (stopping_line c.args.self.now c.self.inside.progress c.in-Err.e _ lines c.args.line.now before c.in-Err.ensures read)
