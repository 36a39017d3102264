-- Seals that were read, held against contents that were read.
use Rattle.std.specs.Prelude.{ℕ, ◌-◌, not, List, [], length, get_or, find, Option, nat_eq}
use Rattle.std.specs.List.{range_with_len}
use Rattle.std.specs.Cmp.Lexicographic.{pointwise}
use Rattle.wot_pages.specs.Page.{seal}
use Rattle.wot_pages.specs.Pages.{content_in}

-- the first page whose seal isn't that of its content, where these are the seals of the pages from the one with that number on
abbrev pub first_wrong : ℕ → ℕ → List ℕ → List (List ℕ) → Option ℕ
first_wrong epoch from contents seals =
    find (λ k. not (pointwise nat_eq (get_or seals (k - from) []) (seal epoch k (content_in contents k)))) (range_with_len from (length seals))
