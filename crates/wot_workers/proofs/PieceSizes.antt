-- The least size that makes few enough pieces.
use Rattle.std.proofs.Common.{◌≡◌, ◌≤◌, ◌<◌, ◌*◌, ◌+◌, ℕ, suc, arith}
use Rattle.std.specs.Int.{div_ceil}
use Rattle.std.proofs.lemmas.Grind.{div_ceil_times}
use Rattle.std.proofs.Math.Nat.{lt_of_mul-lt-mul_right, mul-le-mul_right, mul_comm}

-- so many pieces of a size cover a list
covered : (len size count : ℕ) → 1 ≤ size → div_ceil len size ≤ count → len ≤ count * size
covered len size count positive few =
    let all = (div_ceil_times len size positive).0 in
    let more : div_ceil len size * size ≤ count * size = mul-le-mul_right size few in
    omega (arith, all, more)

pub few_pieces : (len workers size : ℕ) → 1 ≤ workers → 1 ≤ size → div_ceil len workers ≤ size → div_ceil len size ≤ workers
few_pieces len workers size some positive enough =
    let all : len ≤ size * workers = covered len workers size some enough in
    let last = (div_ceil_times len size positive).1 in
    let turned : size * workers ≡ workers * size = mul_comm size workers in
    let one : suc workers * size ≡ workers * size + size = omega arith in
    let less : div_ceil len size * size < suc workers * size = omega (arith, all, last, turned, one) in
    let below : div_ceil len size < suc workers = lt_of_mul-lt-mul_right size less in
    omega (arith, below)

pub least_size : (len workers size : ℕ) → 1 ≤ workers → 1 ≤ size → div_ceil len size ≤ workers → div_ceil len workers ≤ size
least_size len workers size some positive few = few_pieces len size workers positive some few
