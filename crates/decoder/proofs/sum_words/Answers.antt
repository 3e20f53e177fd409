use Rattle.word_decoder.proofs.Told.{spanned-none}
use Rattle.decoder.proofs.sum_words.Goals as goal

pub returns-then-encoding-lt-WORDS_FROM : goal.returns-then-encoding-lt-WORDS_FROM
returns-then-encoding-lt-WORDS_FROM c = spanned-none _ _ _ _ _ _ (c.empty.ensures _ _ _)
