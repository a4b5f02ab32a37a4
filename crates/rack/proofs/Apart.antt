-- No two parts share a rank: exchanging the digits twice gives the part again.
use Rattle.std.proofs.Common.{◌≡◌, ℕ, ◌<◌, sym, ap, ◌∙◌, arith}
use Rattle.rack.specs.Rank.{rank_of, Apart}

again : (p : ℕ) → p < 256 → rank_of (rank_of p) ≡ p
again p l = omega arith

pub apart : Apart rank_of
apart p q l k e = sym (again p l) ∙ ap rank_of e ∙ again q k
