-- What is known of the next codeword of a string of bits, or of what is left where there is none.
use Rattle.std.specs.Prelude.{◌≡◌, Bool, List, ◌++◌, ℕ, ◌+◌, ◌*◌, ◌≤◌, ◌<◌, length, drop}
use Rattle.fibonacci.specs.Code.{ones, runs, Codeword, value, first}
use Rattle.calls.specs.Limits.{max_number}
use Rattle.bit_decoder.specs.declared.Next.{Next}
use Rattle.bit_decoder.specs.declared.Next.TheVariants as next

-- From bit `from` of b up to bit `bit` stand the bits `body` and then ones; the value of the body is known as far as a number of its length can be legal
pub record Pending (m : ℕ) (b : List Bool) (from bit len val run : ℕ) : Type 0 where
  pub body : List Bool
  pub bits : drop from b ≡ (body ++ ones run) ++ drop bit b
  pub at : bit ≡ from + (len + run)
  pub within : bit ≤ length b
  pub long : length body ≡ len
  pub value_is : first m len ≤ max_number → val ≡ value m 1 body
  pub small : val ≤ max_number * bit

-- With m ones they are a codeword; with fewer they are all that is left, without m ones in a row
abbrev pub Sought : ℕ → List Bool → ℕ → Next → Type 0
Sought m b from (next.Codeword bit len val) = (p : Pending m b from bit len val m) × Codeword m (p.body ++ ones m)
Sought m b from (next.Rest len val run) = (p : Pending m b from (length b) len val run) × (run < m) × (runs m (p.body ++ ones run) ≡ 0)
