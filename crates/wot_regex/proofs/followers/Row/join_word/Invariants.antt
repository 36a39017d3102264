use Rattle.std.proofs.Common.{◌≡◌, ◌*◌, ℕ, false, List, length, get_or}
use Rattle.wot_regex.specs.Following.{Holds, IsRow, IsRows, front}
use Rattle.wot_regex.specs.declared.node.Node.{Node}
use Rattle.wot_regex.specs.declared.reach.Reach.{Reach}
use Rattle.wot_regex.specs.declared.steps.Common.{Common}
use Rattle.wot_regex.proofs.WordWalks.{Walked}
use Rattle.wot_regex.proofs.followers.Row.join_word.Given as goal

-- the marks that are not left are gone through
abbrev pub invariant-loop-left : goal.invariant-loop-left
invariant-loop-left l =
    (nodes : List Node) (common : Common) (words : List ℕ) (cells : List Reach) (i : ℕ) → length nodes ≡ length l.rows → IsRows nodes common l.rows → length cells ≡ length nodes → Holds words cells → l.from ≡ 64 * i → l.word ≡ get_or words i 0
    → IsRow nodes false (front l.from cells) l.fn.self → Walked nodes cells l.from l.word l.left l.self

abbrev pub decreases-loop-left : goal.decreases-loop-left
decreases-loop-left l = l.left
