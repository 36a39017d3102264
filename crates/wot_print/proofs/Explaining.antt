-- The lines of an explanation are those of its parts.
use Rattle.std.proofs.Common.{◌≡◌, ℕ, ◌++◌, sym, ap, ◌∙◌}
use Rattle.std.specs.FinMap as finmap
use Rattle.std.specs.List.{flat_map}
use Rattle.std.specs.Option.{unwrap_or}
use Rattle.std.proofs.lemmas.List.Folds.{flat_map-map}
use Rattle.wot_types.specs.declared.letter.Letter.{Letter}
use Rattle.wot_types.specs.declared.letter.Letter.TheVariants.{Dash}
use Rattle.wot_types.specs.State.{State}
use Rattle.wot_types.specs.CutState.{cut}
use Rattle.wot_types.specs.Explanation.{direct, explained_rows, explanation}
use Rattle.wot_types.specs.WhyText.{by_line, cut_line, letter_of, row_line, why_line, why_text}
use Rattle.wot_explain.specs.Explained.{Explains, counted_row}
use Rattle.wot_explain.specs.declared.why.Why.{Why}
use Rattle.wot_print.specs.ToldText.{shown_counted, told_text}

pub why_is : (s : State) (id user : ℕ) (why : Why) (recounted : Letter) → Explains s id user why → recounted ≡ letter_of (cut s (explanation s id user) id) id user
    → told_text id user why recounted ≡ why_text s id user
why_is s id user why recounted explains cut_is =
    λ i. why_line id user (letter i) (explains.count i) ++ flat_map row_line (explains.rows i) ++ by i ++ cut_line (cut_is i)
  where
    letter : why.letter ≡ letter_of s id user
    letter = sym (ap (λ l. unwrap_or l Dash) explains.letter)

    by : flat_map (λ c. by_line (shown_counted c)) why.counted ≡ flat_map by_line (finmap.values (explained_rows s (direct s id user)))
    by =
        ap (flat_map (λ c. by_line (shown_counted c))) explains.counted
        ∙ flat_map-map (λ c. by_line (shown_counted c)) counted_row (finmap.values (explained_rows s (direct s id user)))
