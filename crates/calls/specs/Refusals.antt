-- The refusals' numbers and places (paper 01, "When a call says no"; paper 02, "Checks"). The place is 0 where the papers name none.
use Rattle.std.specs.Prelude.{ℕ}
use Rattle.calls.specs.declared.Refusal.{Refusal}
use Rattle.calls.specs.declared.Refusal.TheVariants.{BadOrder, TooManyBytes, PastBuffer, BadNumber, TooManyNumbers, TooManyCodewords, FullRow, TooMuchInput, NoRoom, BadRest, TooLarge, BadSpan, BadPlace, BadUse, BadAlphabet, OutsideAlphabet, NotAnIndex, TooFewUses, BadLine, BadRepeats, TooMuchShared, BadStoppers, Unfinished, BadHeader}

abbrev pub reason : Refusal → ℕ × ℕ
reason BadOrder = (1, 0)
reason TooManyBytes = (2, 0)
reason PastBuffer = (2, 0)
reason (BadNumber place) = (3, place)
reason TooManyNumbers = (4, 0)
reason TooManyCodewords = (4, 0)
reason FullRow = (4, 0)
reason TooMuchInput = (4, 0)
reason NoRoom = (5, 0)
reason BadRest = (6, 0)
reason (TooLarge place) = (7, place)
reason BadSpan = (8, 0)
reason BadPlace = (8, 0)
reason BadUse = (8, 0)
reason BadAlphabet = (9, 0)
reason (OutsideAlphabet place) = (10, place)
reason NotAnIndex = (11, 0)
reason TooFewUses = (12, 0)
reason BadLine = (13, 0)
reason BadRepeats = (14, 0)
reason TooMuchShared = (15, 0)
reason BadStoppers = (16, 0)
reason Unfinished = (17, 0)
reason BadHeader = (18, 0)
