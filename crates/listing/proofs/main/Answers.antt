use native.Mathlib.Omega.{arith}
use Rattle.listing.proofs.main.Goals as goal

-- the program's buffer has room for every text
pub print-size-requires : goal.print-size-requires
print-size-requires c = omega arith
