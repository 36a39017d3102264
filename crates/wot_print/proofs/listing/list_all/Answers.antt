use Rattle.std.proofs.Common.{◌≡◌, ℕ, true, List, ◌++◌, All, None, subst, sym, ◌∙◌}
use Rattle.std.specs.FinMap as map
use Rattle.std.proofs.lemmas.Result.{IfOk-weaker}
use Rattle.wot_types.specs.Keyring.{cert_total}
use Rattle.wot_types.specs.Listing.{Spells}
use Rattle.wot_types.specs.Numbers.{capped}
use Rattle.wot_types.specs.Accepted.{IsFiled}
use Rattle.wot_types.specs.Printing.{list_text}
use Rattle.wot_print_laws.specs.ListingLines.{listing_lines}
use Rattle.wot_print.proofs.listing.list_all.Goals as goal

pub returns-clause-reads_back : goal.returns-clause-reads_back
returns-clause-reads_back c = λ sigs.
    let s = c.args.engine.now in
    let kept = subst (λ keys. All IsFiled (map.entries keys)) c.table.ensures c.totals-totals.ensures.kept in
    let told : c.push_all.new.text ≡ list_text s None true = c.in_ok-push_all.ensures.text ∙ (λ i. c.new-text.ensures i ++ list_text s None (sigs i)) in
    let ReadsBack = λ (text : List ℕ). Spells (listing_lines text) (map.values s.keys) (capped (cert_total s.keys)) 0 in
    let law = c.printed_reads_back.ensures.spells s (c.in_ok-push_all.ensures.fits sigs) kept in
    IfOk-weaker c.into_vec.result (λ text. text.items ≡ c.push_all.new.text) (λ text. ReadsBack text.items) (λ text is. subst ReadsBack (sym (is ∙ told)) law) c.into_vec.ensures
