use Rattle.std.proofs.Common.{Err, ap, sym, ◌∙◌, subst}
use Rattle.wot_listing.specs.declared.error.ListingError.{ListingError}
use Rattle.wot_listing.specs.Reading.{Finishes, stop_of}
use Rattle.wot_listing.proofs.ReaderLemmas.{end_fails, end_keys, end_spells, end_stopped, open_view, stopped_view}
use Rattle.wot_listing.proofs.listing.Listing.finish.Goals as goal

pub returns-in-Some-clause-finishes : goal.returns-in-Some-clause-finishes
returns-in-Some-clause-finishes c = λ lines read.
    end_stopped c.args.self c.in-Some.stop lines (stopped_view _ _ _ _ c.self.view_is c.in-Some.is) read

pub returns-in-Ok-clause-finishes : goal.returns-in-Ok-clause-finishes
returns-in-Ok-clause-finishes c = λ lines read.
    let done = c.in-Ok.ensures in
    end_spells c.args.self _ c.in-Ok.blocks lines (open_view _ _ _ c.self.view_is c.in-None.is) done.0 done.1.0 done.1.1 done.1.2 read

pub returns-in-Err-clause-finishes : goal.returns-in-Err-clause-finishes
returns-in-Err-clause-finishes c = λ lines read.
    let stop = c.stop_at.ensures ∙ ap (λ n. stop_of n c.in-Err.e) c.saturating_add-number.ensures in
    subst (λ (e : ListingError). Finishes lines (Err e)) (sym stop)
    (end_fails c.args.self c.self.inside.progress c.in-Err.e _ lines (open_view _ _ _ c.self.view_is c.in-None.is) c.in-Err.ensures read)

pub returns-in-Ok-clause-listed : goal.returns-in-Ok-clause-listed
returns-in-Ok-clause-listed c = λ lines read.
    let done = c.in-Ok.ensures in
    end_keys c.args.self _ c.in-Ok.blocks lines (open_view _ _ _ c.self.view_is c.in-None.is) done.0 done.1.0 done.1.1 done.1.2 read
