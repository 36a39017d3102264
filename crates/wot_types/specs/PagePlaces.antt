-- How long a side may be, where its pages stand, and how many pages an image needs.
use Rattle.std.specs.Prelude.{ℕ, ◌+◌, ◌*◌, ◌-◌, ◌^◌}
use Rattle.std.specs.Int.{div_ceil}

-- the most bytes of a side
abbrev pub most_side : ℕ
most_side = 2 ^ 32 - 1

-- how many bytes of content a page has
abbrev pub content_size : ℕ
content_size = 4064

-- how many bytes it has with its seal
abbrev pub page_size : ℕ
page_size = 4096

-- where the pages of a side begin: behind its header
abbrev pub first_page : ℕ
first_page = 24

-- where a page begins, by its number from 0
abbrev pub page_place : ℕ → ℕ
page_place k = first_page + page_size * k

-- the least number of pages that holds so many bytes
abbrev pub pages_needed : ℕ → ℕ
pages_needed n = div_ceil n content_size
