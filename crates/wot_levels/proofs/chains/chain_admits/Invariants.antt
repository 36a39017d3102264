use Rattle.std.proofs.Common.{◌≡◌, ◌+◌, true}
use Rattle.std.specs.Option.{option_copied, option_map_or}
use Rattle.wot_types.specs.declared.row.Row.{Row}
use Rattle.wot_types.specs.Candidates.{chain_admits}
use Rattle.wot_types.specs.Scope.{admits}
use Rattle.wot_levels.proofs.chains.chain_admits.Given as goal

-- the links so far admit the text, the last of them too: it is left to the rest
abbrev pub invariant-loop-next : goal.invariant-loop-next
invariant-loop-next l = (admits (option_copied l.before) l.text ≡ true) × (option_map_or (λ (link : Row). chain_admits l.introducers link l.text) (option_copied l.next) true ≡ chain_admits l.introducers l.row l.text)

-- levels fall
abbrev pub decreases-loop-next : goal.decreases-loop-next
decreases-loop-next l = option_map_or (λ (link : Row). link.level + 1) (option_copied l.next) 0
