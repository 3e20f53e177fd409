-- What the moving of bits promises.
use Rattle.std.specs.Prelude.{◌≡◌, Bool, List, ◌++◌, ℕ, ◌+◌, ◌≤◌, length, take, drop}
use Rattle.bits.specs.Bits.{word_bits, unpack}
use Rattle.bit_moves.specs.declared.Shift.{Shift}
use Rattle.bit_moves.specs.declared.Progress.{Progress}

-- What bytes make once all is moved: those before byte i, the c low bits of a word, and, of the first `used`, those from byte i + gap on
unfoldable pub stream : ℕ → ℕ → ℕ → List ℕ → ℕ → ℕ → List Bool
stream used gap c s i w = unpack (take i s) ++ (word_bits c w ++ unpack (drop (i + gap) (take used s)))

-- Bytes moved up to byte i, with the c low bits of a word left over: they still make the same, and from there on are as they were
abbrev pub Moved : ℕ → ℕ → ℕ → List Bool → List ℕ → List ℕ → ℕ → ℕ → Type 0
Moved used gap c all before s i w = (stream used gap c s i w ≡ all) × (drop i s ≡ drop i before) × (length s ≡ length before)

-- What bytes make once all that is to come is moved
abbrev pub all_moved : Shift → List ℕ → Progress → List Bool
all_moved m s x = stream m.used m.gap m.held s x.next x.word

-- Bytes moved so far still make the same, and from there on are as they were; all that is written is in use
abbrev pub MovedTo : Shift → List Bool → List ℕ → List ℕ → Progress → Type 0
MovedTo m all before s x = Moved m.used m.gap m.held all before s x.next x.word × (x.next ≤ m.used)
