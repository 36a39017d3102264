-- A block that has one more line.
use Rattle.std.proofs.Common.{◌≡◌, ℕ, true, ◌||◌, List, [], ◌∷◌, ◌++◌, if◌then◌else◌, Some, None, Result, refl, ap, ◌∙◌}
use Rattle.std.proofs.Math.Bool.{or-true}
use Rattle.std.specs.Prelude.{is_none, unwrap_or}
use Rattle.std.specs.Result.{result_err}
use Rattle.wot_types.specs.declared.head.Head.{Head}
use Rattle.wot_types.specs.declared.refusal.Refusal.{Refusal}
use Rattle.wot_types.specs.declared.refusal.Refusal.TheVariants.{LineTooLong}
use Rattle.wot_types.specs.Commands.{ReadLine, block_texts}
use Rattle.wot_types.specs.Lines.{without_return}
use Rattle.wot_answer.specs.Block.{has_long, refused_for}

-- a line that isn't too long
long_more : (lines : List ReadLine) (line : List ℕ) → has_long (lines ++ Some line ∷ []) ≡ has_long lines
long_more [] line = refl
long_more (x ∷ xs) line = ap (λ b. is_none x || b) (long_more xs line)

pub refused_more : (head : Result Head Refusal) (lines : List ReadLine) (line : List ℕ) → refused_for head (lines ++ Some line ∷ []) ≡ refused_for head lines
refused_more head lines line = ap (λ b. if b then Some LineTooLong else result_err head) (long_more lines line)

pub texts_more : (lines : List ReadLine) (line : List ℕ) → block_texts (lines ++ Some line ∷ []) ≡ block_texts lines ++ without_return line ∷ []
texts_more [] line = refl
texts_more (x ∷ xs) line = ap (λ ts. without_return (unwrap_or x []) ∷ ts) (texts_more xs line)

-- and one that is
too_long : (lines : List ReadLine) → has_long (lines ++ None ∷ []) ≡ true
too_long [] = refl
too_long (x ∷ xs) = ap (λ b. is_none x || b) (too_long xs) ∙ or-true (is_none x)

pub refused_long : (head : Result Head Refusal) (lines : List ReadLine) → refused_for head (lines ++ None ∷ []) ≡ Some LineTooLong
refused_long head lines = ap (λ b. if b then Some LineTooLong else result_err head) (too_long lines)
