-- Building an index and asking it (paper 01, "When a call says no": Build index, the three questions). The checks stand in the paper's order.
use Rattle.std.specs.Prelude.{◌≡◌, Bool, true, not, List, map, ℕ, ◌-◌, leb, ltb, eqb, length, get_or, take, Ok}
use Rattle.bits.specs.Bits.{count, select_bit}
use Rattle.calls.specs.declared.Refusal.TheVariants.{BadOrder, TooManyNumbers, NoRoom, BadPlace, BadUse, BadAlphabet, OutsideAlphabet, NotAnIndex, TooFewUses}
use Rattle.calls.specs.Calls.{Outcome, check, buffer}
use Rattle.calls.specs.Limits.{is_order, is_number, is_outside, max_count, check_each}
use Rattle.wavelet.specs.Nodes.{visits}
use Rattle.wavelet.specs.Bitmaps.{bitmaps, index, is_index, row_of_index}

-- The largest alphabet (paper 01: top)
abbrev pub max_alphabet : ℕ
max_alphabet = 4096

-- 1 order not 2 to 6; 9 alphabet not 1 to 4,096; 4 more than 4,096 numbers
abbrev pub check_tree : {A : Type 0} → ℕ → ℕ → ℕ → Outcome A → Outcome A
check_tree m N k next =
    check BadOrder (not (is_order m))
    (check BadAlphabet (not (is_number max_alphabet N))
    (check TooManyNumbers (ltb max_count k) next))

-- Build: 1, 9, 4; 10 a number is 0 or above the alphabet; 5 the output is shorter than the index; else how many bits the bitmaps have
unfoldable pub build : ℕ → ℕ → List ℕ → ℕ → Outcome ℕ
build m N row room =
    check_tree m N (length row)
    (check_each OutsideAlphabet N 0 row
    (check NoRoom (ltb room (length (index m N row)))
    (Ok (length (bitmaps m N row)))))

-- The output after building
unfoldable pub build_into : ℕ → ℕ → List ℕ → List ℕ → List ℕ
build_into m N row before = buffer (build m N row (length before)) (index m N row) before

-- What is promised of the answer, and of the output before and after
abbrev pub BuildPromise : ℕ → ℕ → List ℕ → List ℕ → Outcome ℕ → List ℕ → Type 0
BuildPromise m N row before a after = (a ≡ build m N row (length before)) × (after ≡ build_into m N row before)

-- ## What a row itself answers

-- Where n stands in a row
abbrev pub uses : ℕ → List ℕ → List Bool
uses n row = map (eqb n) row

-- How often n stands among the first i, and at which place for the j-th time, j from 1
unfoldable pub rank_in : List ℕ → ℕ → ℕ → ℕ
rank_in row n i = count true (uses n (take i row))

unfoldable pub select_in : List ℕ → ℕ → ℕ → ℕ
select_in row n j = select_bit true (j - 1) (uses n row)

-- ## The three questions: what the row answers, and the visits of the number concerned

-- 1, 9, 4; 11 the bytes are not exactly as many as the bitmaps need, or the padding holds a one
abbrev pub ask : {A : Type 0} → ℕ → ℕ → ℕ → List ℕ → Outcome A → Outcome A
ask m N k s next = check_tree m N k (check NotAnIndex (not (is_index m N k s)) next)

-- Extract the number at place i: 8 place not below the length
unfoldable pub extract : ℕ → ℕ → ℕ → List ℕ → ℕ → Outcome (ℕ × ℕ)
extract m N k s i =
    ask m N k s
    (check BadPlace (leb k i)
    (Ok (get_or (row_of_index m N k s) i 0, visits m N (get_or (row_of_index m N k s) i 0))))

-- Rank of n among the first i places: 10 the number is 0 or above the alphabet; 8 i above the length
unfoldable pub rank : ℕ → ℕ → ℕ → List ℕ → ℕ → ℕ → Outcome (ℕ × ℕ)
rank m N k s n i =
    ask m N k s
    (check (OutsideAlphabet 0) (is_outside N n)
    (check BadPlace (ltb k i)
    (Ok (rank_in (row_of_index m N k s) n i, visits m N n))))

-- Select the j-th use of n: 10; 8 j is 0; 12 fewer than j uses
unfoldable pub select : ℕ → ℕ → ℕ → List ℕ → ℕ → ℕ → Outcome (ℕ × ℕ)
select m N k s n j =
    ask m N k s
    (check (OutsideAlphabet 0) (is_outside N n)
    (check BadUse (eqb j 0)
    (check TooFewUses (ltb (rank_in (row_of_index m N k s) n k) j)
    (Ok (select_in (row_of_index m N k s) n j, visits m N n)))))
