-- Bits put into a buffer: for the contracts of those who put them there.
use Rattle.std.specs.Prelude.{Bool, false, List, [], ◌∷◌, ◌++◌, ℕ, zero, suc, ◌+◌, ◌-◌, ◌*◌, length, take, drop, replicate}
use Rattle.bits.specs.Bits.{byte_count}

-- A list of bits with new bits after its first n, then zeros up to bit e, then what stood there
unfoldable pub put_to : ℕ → List Bool → ℕ → List Bool → List Bool
put_to n new e old = take n old ++ (new ++ (replicate (e - (n + length new)) false ++ drop e old))

-- The same with zeros to the end of the last byte that the new bits reach
unfoldable pub put_at : ℕ → List Bool → List Bool → List Bool
put_at n new old = put_to n new (8 * byte_count (n + length new)) old

-- The first n bits of a list, and zeros where it ends before
unfoldable pub fit : ℕ → List Bool → List Bool
fit zero b = []
fit (suc n) [] = false ∷ fit n []
fit (suc n) (a ∷ b) = a ∷ fit n b
