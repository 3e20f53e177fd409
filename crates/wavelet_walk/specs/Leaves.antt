-- What the functions that walk an index promise.
use Rattle.std.specs.Prelude.{◌≡◌, Bool, true, false, List, ℕ, ◌+◌, ◌-◌, ◌≤◌, ◌<◌, min, length, get_or, take, drop, Option, Some, None, Ok, Err}
use Rattle.bits.specs.Bits.{bit_of, unpack, count, select_bit}
use Rattle.calls.specs.Calls.{Outcome}
use Rattle.calls.specs.Limits.{is_number}
use Rattle.fibonacci.specs.Code.{codeword}
use Rattle.wavelet.specs.Nodes.{is_prefix, Tree, prune, visits}
use Rattle.wavelet.specs.Bitmaps.{row_of_bitmaps, row_of_index}
use Rattle.wavelet.specs.Questions.{uses, rank_in, ask}
use Rattle.wavelet.specs.Leaves.{CursorAt, Ends, visits_in, Aligned}
use Rattle.wavelet.specs.declared.Cursor.{Cursor}
use Rattle.wavelet_walk.specs.declared.Question.{Question}
use Rattle.wavelet_walk.specs.declared.Question.TheVariants.{Extract, Rank, Select}
use Rattle.wavelet_walk.specs.declared.Walked.{Walked}

-- ## What a question asks, with place or use i in view

-- Of a row, about the number n: n itself; how often it stands before place i; the place of its use that has i others before it
abbrev pub answer_of : Question → ℕ → ℕ → List ℕ → ℕ
answer_of Extract n i row = n
answer_of Rank n i row = rank_in row n i
answer_of Select n i row = select_bit true i (uses n row)

-- .. where the row is k times n
abbrev pub at_leaf : Question → ℕ → ℕ → ℕ → ℕ
at_leaf Extract n k i = n
at_leaf Rank n k i = i
at_leaf Select n k i = min i k

-- The number concerned: the one at place i, or n
abbrev pub concerned : Question → ℕ → ℕ → List ℕ → ℕ
concerned Extract n i row = get_or row i 0
concerned Rank n i row = n
concerned Select n i row = n

-- A place is at most the end; a use may be any
abbrev pub InView : Question → ℕ → ℕ → Type 0
InView Extract i k = i ≤ k
InView Rank i k = i ≤ k
InView Select i k = Unit {0}

-- ## A node with a bitmap

-- The side that a walk takes: by the bit at place i, or by the next bit of the codeword x
abbrev pub turn : Question → ℕ → List ℕ → ℕ → ℕ → ℕ → Bool
turn Extract x s at i depth = get_or (unpack s) (at + i) false
turn Rank x s at i depth = bit_of x (31 - depth)
turn Select x s at i depth = bit_of x (31 - depth)

-- What is in view on the side of a bit
abbrev pub onward : Question → Bool → List Bool → ℕ → ℕ
onward Extract a b i = count a (take i b)
onward Rank a b i = count a (take i b)
onward Select a b i = i

-- What was found on the side of a bit, back at the node
abbrev pub back : Question → Bool → List Bool → ℕ → ℕ
back Extract a b r = r
back Rank a b r = r
back Select a b r = select_bit a r b

-- ## A walk

-- Whether the walk goes by a codeword of the alphabet that begins with q, that of n
abbrev pub Goes : Question → ℕ → ℕ → List Bool → ℕ → ℕ → Type 0
Goes Extract m N q x n = ⊥
Goes Rank m N q x n = Aligned m n x × (1 ≤ n) × (n ≤ N) × (is_prefix q (codeword m n) ≡ true)
Goes Select m N q x n = Aligned m n x × (1 ≤ n) × (n ≤ N) × (is_prefix q (codeword m n) ≡ true)

-- What a walk below the string q finds in the tree t there, of the row of k numbers that the bits b hold
pub record Arrived (m N : ℕ) (q : List Bool) (t : Tree) (b : List Bool) (k : ℕ) (question : Question) (x i depth : ℕ) (r : Walked) : Type 0 where
  -- it comes to a number of the alphabet below q
  pub number : ℕ
  pub some : 1 ≤ number
  pub most : number ≤ N
  pub below : is_prefix q (codeword m number) ≡ true
  -- and finds what is asked of it, and how many nodes begin its codeword, those above q among them
  pub found : r.result ≡ answer_of question number i (row_of_bitmaps t k b)
  pub visited : r.visits ≡ depth + visits_in m t number
  -- it is the number at place i, or that of the codeword
  pub at_place : question ≡ Extract → i < k → number ≡ get_or (row_of_bitmaps t k b) i 0
  pub at_codeword : (n : ℕ) → Goes question m N q x n → number ≡ n

-- So below a string of the tree, if the bitmaps do not run past the bytes
abbrev pub Finds : ℕ → ℕ → Cursor → ℕ → List ℕ → ℕ → Question → ℕ → ℕ → Option Walked → Type 0
Finds m N v k s at question x i None = Ends m N v k s at None
Finds m N v k s at question x i (Some r) = Ends m N v k s at (Some r.end)
    × ((f : ℕ) (q : List Bool) → CursorAt m N f q v → Arrived m N q (prune m N f q) (drop at (unpack s)) k question x i v.depth r)

-- ## A walk of the whole index

-- The number and the place asked for are legal
abbrev pub Askable : Question → ℕ → ℕ → ℕ → ℕ → Type 0
Askable Extract N k n i = i < k
Askable Rank N k n i = (is_number N n ≡ true) × (i ≤ k)
Askable Select N k n i = is_number N n ≡ true

-- What the row answers, and the visits of the number concerned
abbrev pub Tells : ℕ → ℕ → List ℕ → Question → ℕ → ℕ → ℕ × ℕ → Type 0
Tells m N row question n i found =
    let c = concerned question n i row in
    found ≡ (answer_of question c i row, visits m N c)

-- It refuses what the questions refuse before they look at what they are asked for. Else they go on, and the walk has their answer for what is legal
abbrev pub Walks : ℕ → ℕ → ℕ → List ℕ → Question → ℕ → ℕ → Outcome (ℕ × ℕ) → Type 0
Walks m N k s question n i (Err r) = (next : Outcome (ℕ × ℕ)) → ask m N k s next ≡ Err r
Walks m N k s question n i (Ok found) =
    ((next : Outcome (ℕ × ℕ)) → ask m N k s next ≡ next)
    × (length (row_of_index m N k s) ≡ k)
    × (Askable question N k n i → Tells m N (row_of_index m N k s) question n i found)
