use mathlib.Core.Path.{refl}
use Rattle.word_decoder.proofs.Taking.{decoded-none}
use Rattle.decoder.proofs.store_words.Goals as goal

pub returns-then-encoding-lt-WORDS_FROM : goal.returns-then-encoding-lt-WORDS_FROM
returns-then-encoding-lt-WORDS_FROM c = (decoded-none _ _ _, refl)
