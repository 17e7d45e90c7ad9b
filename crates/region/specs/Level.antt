-- Level j holds nodes 2^(j−1) to 2^j − 1: a node's level is the number of its binary digits.
use Rattle.std.specs.Prelude.{ℕ, zero, suc, ◌-◌, ◌/◌, ◌^◌}

-- the binary digits of n, at most k of them
unfoldable pub digits : ℕ → ℕ → ℕ
digits zero n = 0
digits (suc k) zero = 0
digits (suc k) (suc n) = suc (digits k (suc n / 2))

-- the level of node n; 0 for node 0
unfoldable pub level : ℕ → ℕ
unfolding digits
level n = digits 32 n

-- the ancestor of node n at level j: node n has children 2n and 2n + 1
unfoldable pub ancestor : ℕ → ℕ → ℕ
unfolding level
ancestor n j = n / 2 ^ (level n - j)

-- waiting levels are marked by bits, bit j−1 for level j: the mark of level j is that bit; the deepest waiting level is `level` of all marks together
abbrev pub mark : ℕ → ℕ
mark j = 2 ^ (j - 1)
