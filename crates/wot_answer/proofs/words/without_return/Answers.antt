use Rattle.std.proofs.Common.{refl}
use Rattle.std.proofs.lemmas.Bool.Decides.{Decides-eqb}
use Rattle.std.proofs.lemmas.Slice.Eq.{strip_suffix_is}
use Rattle.wot_answer.proofs.LineLemmas.{without_return_is}
use Rattle.wot_answer.proofs.words.without_return.Goals as goal

pub returns : goal.returns
returns c =
    let stripped = strip_suffix_is Decides-eqb c.args.line.now _ c.strip_suffix.result c.strip_suffix.ensures.cases in
    without_return_is (λ x. x.now) c.args.line.now c.strip_suffix.result c.args.line c.unwrap_or.result refl c.unwrap_or.ensures stripped
